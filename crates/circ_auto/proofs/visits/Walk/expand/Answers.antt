use Rattle.std.proofs.Common.{◌≡◌, arith, ap, subst}
use Rattle.circ_auto.specs.Graph.{Graph}
use Rattle.circ_auto.specs.Search.{Searched}
use Rattle.circ_auto.proofs.Keeping.{next_head}
use Rattle.circ_auto.proofs.Ending.{ends_from}
use Rattle.circ_auto.specs.Knows.{graph_of}
use Rattle.circ_auto.proofs.visits.Walk.expand.Goals as goal

pub returns-in-Some-clause-expanded : goal.returns-in-Some-clause-expanded
returns-in-Some-clause-expanded c =
    let s = c.take_step.new.self in
    let taken = rw c.in-Some.is at c.in_ok-goal.ensures.taken in
    ends_from (graph_of s) s.visits.items s.seen.items c.args.head c.loop-letter.letter c.in-Some.goal taken.0 taken.1

pub returns-clause-expanded : goal.returns-clause-expanded
returns-clause-expanded c =
    let s = c.loop-letter.self in
    let g : Graph = graph_of s in
    let letters : g.letters ≡ (graph_of c.args.self.now).letters = ap (λ (h : Graph). h.letters) c.loop-letter.invariant.kept in
    let all : c.loop-letter.letter ≡ g.letters = omega (arith, letters, c.letter_count-count.ensures.count, c.loop-letter-test.false, c.loop-letter.auto.letter-end) in
    next_head g s.visits.items s.seen.items c.args.head c.index-visit.result.now
    (subst (λ x. Searched g s.visits.items s.seen.items c.args.head x) all c.loop-letter.invariant.knows) c.loop-letter.invariant.visit
