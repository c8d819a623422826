use Rattle.std.specs.List.{slice_get}
use Rattle.circ_contexts.proofs.Needing.{adds_needs}
use Rattle.circ_contexts.proofs.candidates.Means.add_needs.Goals as goal

pub returns-clause-taken : goal.returns-clause-taken
returns-clause-taken c = λ e.
    let th = c.args.self.now.theory.now in
    let s = c.args.start.now in
    adds_needs th c.args.self.now.budget s.place s.sort c.args.needs.now c.add.new.self c.in-Some.normal (slice_get th.derivatives c.args.derivative)
    (rw c.in-Some.is at c.in_ok-normal.ensures.exact) (rw c.requires.observers at c.in_ok-add.ensures.added)
