use Rattle.std.proofs.Common.{get_or, ap, sym, ◌∙◌}
use Rattle.circ_theory.specs.Theory.{pair_with}
use Rattle.circ_theory.specs.Pairs.{PairOfTerms as Pair}
use Rattle.circ_nodes.specs.Named.{tree_at}
use Rattle.circ_nodes.proofs.Located.{named_tree}
use Rattle.circ_entering.proofs.Entered.{pairs_made, read_at}
use Rattle.circ_entering.proofs.building.build_pairs.Goals as goal

pub loop-pair-preserved : goal.loop-pair-preserved
loop-pair-preserved c =
    let nodes = c.args.nodes.now in
    let pairs = c.args.pairs.now in
    let i = c.loop-pair.pair-index in
    let s = get_or pairs i (record { left = 0; right = 0 }) in
    let left = named_tree nodes s.left c.in_ok-left.left c.in_ok-left.ensures.named in
    let right = named_tree nodes s.right c.in_ok-right.right c.in_ok-right.ensures.named in
    let p : Pair = record { left = c.in_ok-left.left; right = c.in_ok-right.right } in
    let same = ap (λ t. pair_with t c.in_ok-right.right) (sym left) ∙ ap (pair_with (tree_at nodes s.left)) (sym right) in
    record {
      built = c.term-in-loop-pair.ensures.built;
      made = pairs_made nodes pairs i s c.loop-pair.made.items c.push.new.self.items p c.loop-pair-test.true (read_at pairs i (record { left = 0; right = 0 }) c.loop-pair-test.true) same c.in_ok-push.ensures.items
          c.loop-pair.invariant.made;
    }
