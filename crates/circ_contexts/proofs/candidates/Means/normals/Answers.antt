use Rattle.std.proofs.Common.{◌<◌, ◌≤◌, length, arith, sym, ◌∙◌}
use Rattle.circ_contexts.proofs.Starting.{normals_taken, normals_passed, normals_missing, normals_last}
use Rattle.circ_contexts.proofs.candidates.Means.normals.Goals as goal
use Rattle.circ_contexts.proofs.candidates.Means.normals.Goals.{then-takes+in_ok-normal+in-Some+in_ok-push-in-Some, else-takes}

pub returns-in-None-clause-exact : goal.returns-in-None-clause-exact
returns-in-None-clause-exact c =
    let th = c.args.self.now.theory.now in
    let i = c.loop-derivative.derivative in
    let within : i < length th.derivatives = omega (arith, c.loop-derivative-test.true, c.derivative_count-derivative-end.ensures.count) in
    normals_missing th c.args.self.now.budget c.args.start.now.place c.args.start.now.decl.now.result i c.loop-derivative.normals.items within
    c.loop-derivative.invariant.normals (sym c.takes.ensures ∙ c.if-takes.true) (rw c.in-None.is at c.in_ok-normal.ensures.exact)

pub loop-derivative-preserved : goal.loop-derivative-preserved
loop-derivative-preserved c =
    let th = c.args.self.now.theory.now in
    let g = c.args.start.now.place in
    let k = c.args.start.now.decl.now.result in
    let i = c.loop-derivative.derivative in
    let ns = c.loop-derivative.normals.items in
    let within : i < length th.derivatives = omega (arith, c.loop-derivative-test.true, c.derivative_count-derivative-end.ensures.count) in
    elim c.if-takes.branch [
      | then-takes+in_ok-normal+in-Some+in_ok-push-in-Some w ↦
          record {
            reducer = w.reducer-is ∙ w.normal.ensures.same ∙ c.loop-derivative.invariant.reducer;
            normals = rw (w.normals-is, w.in_ok-push-in-Some.ensures.items)
                (normals_taken th c.args.self.now.budget g k i ns within c.loop-derivative.invariant.normals (sym c.takes.ensures ∙ w.if-takes.true) w.in-Some.normal
                (rw w.in-Some.is at w.in_ok-normal.ensures.exact));
          }
      | else-takes w ↦
          record {
            reducer = w.reducer-is ∙ c.loop-derivative.invariant.reducer;
            normals = rw w.normals-is
                (normals_passed th c.args.self.now.budget g k i ns within c.loop-derivative.invariant.normals (sym c.takes.ensures ∙ w.if-takes.false));
          }
    ]

pub returns-clause-exact : goal.returns-clause-exact
returns-clause-exact c =
    let th = c.args.self.now.theory.now in
    let i = c.loop-derivative.derivative in
    let past : length th.derivatives ≤ i = omega (arith, c.loop-derivative-test.false, c.derivative_count-derivative-end.ensures.count) in
    normals_last th c.args.self.now.budget c.args.start.now.place c.args.start.now.decl.now.result i c.loop-derivative.normals.items past
    c.loop-derivative.invariant.normals
