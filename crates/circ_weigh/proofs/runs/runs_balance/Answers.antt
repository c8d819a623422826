use Rattle.std.proofs.Common.{◌+◌, subst, drop, refl}
use Rattle.std.proofs.lemmas.List.{drop_more}
use Rattle.circ_weigh.specs.declared.weighing.Part.{Part}
use Rattle.circ_weigh.proofs.Leaves.{SumsUp, run_grows, run_turns, run_stops}
use Rattle.circ_weigh.proofs.runs.runs_balance.Goals.{then-leaf-run+in_ok-run+in_ok-run-2, else-leaf-run+then-run}
use Rattle.circ_weigh.proofs.runs.runs_balance.Goals as goal

pub returns-else-run-clause-tilts : goal.returns-else-run-clause-tilts
returns-else-run-clause-tilts c =
    let all = c.args.leaves.now in
    let at = c.loop-leaf in
    run_stops all (drop (at.leaf-index + 1) all) at.run _ (subst (λ ps. SumsUp all ps at.run) (drop_more all at.leaf-index _ c.loop-leaf-test.true) at.invariant)
    c.if-leaf-run.false c.if-run.false

pub loop-leaf-preserved : goal.loop-leaf-preserved
loop-leaf-preserved c =
    let all = c.args.leaves.now in
    let at = c.loop-leaf in
    let rest = drop (at.leaf-index + 1) all in
    let none : Part = record { size = 0; number = 0; left = 0; right = 0 } in
    let is = subst (λ ps. SumsUp all ps at.run) (drop_more all at.leaf-index none c.loop-leaf-test.true) at.invariant in
    elim c.if-leaf-run.branch [
      | then-leaf-run+in_ok-run+in_ok-run-2 w ↦ rw w.run-is
          (run_grows all rest at.run _ _ is w.if-leaf-run.true refl w.in_ok-run.ensures w.in_ok-run-2.ensures)
      | else-leaf-run+then-run w ↦ rw w.run-is (run_turns all rest at.run _ is w.if-run.true)
    ]
