use Rattle.std.proofs.Common.{◌≡◌, ◌-◌}
use Rattle.circ_auto.specs.Knows.{graph_of, Knows}
use Rattle.circ_auto.proofs.visits.Walk.search.Given as goal

abbrev pub invariant-loop-head : goal.invariant-loop-head
invariant-loop-head l = record {
  knows : Knows l.self l.head 0;
  kept : graph_of l.self ≡ graph_of l.fn.self;
}

abbrev pub decreases-loop-head : goal.decreases-loop-head
decreases-loop-head l = (graph_of l.self).points - l.head
