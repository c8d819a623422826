use Rattle.std.proofs.Common.{◌≡◌, ◌≤◌, ◌++◌, ◌+◌, ◌*◌, drop, codes}
use Rattle.circ_term.specs.Tree.{trees_of, depth_of, depths_of}
use Rattle.circ_mixfix.specs.Printing.{further, filled, texts_of_terms}
use Rattle.circ_mixfix.proofs.printing.+print.Given as goal

abbrev pub decreases-put_term : goal.decreases-put_term
decreases-put_term l = 5 * depth_of l.term.now

abbrev pub decreases-put_application : goal.decreases-put_application
decreases-put_application l = 5 * depths_of (trees_of l.args.now) + 4

abbrev pub decreases-put_pieces : goal.decreases-put_pieces
decreases-put_pieces l = 5 * depths_of (trees_of l.args.now) + 3

abbrev pub decreases-put_further_pieces : goal.decreases-put_further_pieces
decreases-put_further_pieces l = 5 * depths_of (trees_of l.args.now) + 2

abbrev pub decreases-put_piece : goal.decreases-put_piece
decreases-put_piece l = 5 * depths_of (trees_of l.args.now) + 1

abbrev pub decreases-put_arguments : goal.decreases-put_arguments
decreases-put_arguments l = 5 * depths_of (trees_of l.args.now) + 2

abbrev pub decreases-put_further_arguments : goal.decreases-put_further_arguments
decreases-put_further_arguments l = 5 * depths_of (trees_of l.args.now) + 1

abbrev pub invariant-put_further_pieces-loop-piece : goal.invariant-put_further_pieces-loop-piece
invariant-put_further_pieces-loop-piece l = record {
  text : l.out.items ++ further (codes " ") (filled (drop l.piece-index l.pieces) (texts_of_terms l.theory.signature l.hole (trees_of l.rest)))
      ≡ l.fn.out.items ++ further (codes " ") (filled l.pieces (texts_of_terms l.theory.signature l.hole (trees_of l.args)));
  shallow : depths_of (trees_of l.rest) ≤ depths_of (trees_of l.args);
}

abbrev pub invariant-put_further_arguments-loop-arg : goal.invariant-put_further_arguments-loop-arg
invariant-put_further_arguments-loop-arg l = record {
  text : l.out.items ++ further (codes ", ") (texts_of_terms l.theory.signature l.hole (trees_of (drop l.arg-index l.args)))
      ≡ l.fn.out.items ++ further (codes ", ") (texts_of_terms l.theory.signature l.hole (trees_of l.args));
}
