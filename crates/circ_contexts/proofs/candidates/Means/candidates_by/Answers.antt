use Rattle.std.proofs.Common.{refl, ◌∙◌, arith}
use Rattle.circ_contexts.proofs.Gathering.{gather_start, gather_one, gather_none, gather_last}
use Rattle.circ_contexts.proofs.candidates.Means.candidates_by.Goals as goal
use Rattle.circ_contexts.proofs.candidates.Means.candidates_by.Goals.{in-Some+in_ok-push-in-Some, in-None}

pub loop-place-init : goal.loop-place-init
loop-place-init c =
    record { reducer = refl; gathered = rw c.new-found.ensures.items (gather_start c.args.self.now.theory.now c.args.self.now.budget c.args.places.now) }

pub loop-place-preserved : goal.loop-place-preserved
loop-place-preserved c =
    let th = c.args.self.now.theory.now in
    let b = c.args.self.now.budget in
    let gs = c.args.places.now in
    let i = c.loop-place.place-index in
    let cs = c.loop-place.found.items in
    record {
      reducer = c.candidate.ensures.same ∙ c.loop-place.invariant.reducer;
      gathered = elim c.match-branch-2.branch [
        | in-Some+in_ok-push-in-Some w ↦
            rw (w.found-is, w.in_ok-push-in-Some.ensures.items)
            (gather_one th b gs i cs c.loop-place-test.true c.loop-place.invariant.gathered w.in-Some.candidate
            (rw w.in-Some.is at c.in_ok-candidate.ensures.exact))
        | in-None w ↦
            rw w.found-is
            (gather_none th b gs i cs c.loop-place-test.true c.loop-place.invariant.gathered (rw w.in-None.is at c.in_ok-candidate.ensures.exact))
      ];
    }

pub returns-clause-exact : goal.returns-clause-exact
returns-clause-exact c =
    gather_last c.args.self.now.theory.now c.args.self.now.budget c.args.places.now c.loop-place.place-index c.loop-place.found.items
    (omega (arith, c.loop-place-test.false)) c.loop-place.invariant.gathered
