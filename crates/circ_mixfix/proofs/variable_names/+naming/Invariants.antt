use Rattle.std.proofs.Common.{◌≡◌, ◌+◌, ◌*◌, ◌++◌, List, drop, map}
use Rattle.circ_term.specs.Tree.{depth_of, depths_of, trees_of}
use Rattle.circ_mixfix.specs.Named.{NamedVariable, seen_in_all}
use Rattle.circ_mixfix.specs.Coding.{all_named_by}
use Rattle.circ_mixfix.specs.NamesSeen.{named_of, numbered_by}
use Rattle.circ_mixfix.proofs.variable_names.+naming.Given as goal

abbrev pub invariant-push_numbered-loop-term : goal.invariant-push_numbered-loop-term
invariant-push_numbered-loop-term l = record {
  seen : seen_in_all (all_named_by l.words (trees_of (drop l.term-index l.terms))) (map named_of l.seen.keys) ≡ seen_in_all (all_named_by l.words (trees_of l.terms)) (map named_of l.initial.seen.keys);
  terms : (more : List NamedVariable) → l.out.items ++ numbered_by l.words (map named_of l.seen.keys ++ more) (drop l.term-index l.terms)
      ≡ l.initial.out.items ++ numbered_by l.words (map named_of l.seen.keys ++ more) l.terms;
}

abbrev pub decreases-numbered : goal.decreases-numbered
decreases-numbered l = 2 * depth_of l.term.now

abbrev pub decreases-push_numbered : goal.decreases-push_numbered
decreases-push_numbered l = 2 * depths_of (trees_of l.terms.now) + 1
