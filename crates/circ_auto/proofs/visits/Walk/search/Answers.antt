use Rattle.std.proofs.Common.{◌≤◌, length, arith}
use Rattle.circ_auto.proofs.Shortest.{nowhere}
use Rattle.circ_auto.specs.Knows.{graph_of}
use Rattle.circ_auto.proofs.visits.Walk.search.Goals as goal

pub returns-clause-searched : goal.returns-clause-searched
returns-clause-searched c =
    let s = c.loop-head.self in
    let all : length s.visits.items ≤ c.loop-head.head = omega (arith, c.loop-head-test.false, c.len.ensures) in
    nowhere (graph_of s) s.visits.items s.seen.items c.loop-head.head c.loop-head.invariant.knows all
