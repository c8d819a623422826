use Rattle.std.proofs.Common.{◌≡◌}
use Rattle.circ_auto.specs.Search.{IsAt}
use Rattle.circ_auto.specs.Knows.{graph_of, Knows}
use Rattle.circ_auto.proofs.visits.Walk.expand.Given as goal

abbrev pub invariant-loop-letter : goal.invariant-loop-letter
invariant-loop-letter l = record {
  knows : Knows l.self l.head l.letter;
  visit : IsAt l.self.visits.items l.head l.visit;
  kept : graph_of l.self ≡ graph_of l.fn.self;
}
