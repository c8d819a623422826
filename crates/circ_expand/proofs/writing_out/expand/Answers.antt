use Rattle.std.proofs.Common.{subst}
use Rattle.circ_proof.specs.PlainProof.{plain_proof}
use Rattle.circ_term.specs.Tree.{sort_of}
use Rattle.circ_entry.specs.Plain.{plain_entries}
use Rattle.circ_expansion.specs.Machine.{worked_off}
use Rattle.circ_written.specs.Rows.{unit_limit}
use Rattle.circ_expansion.specs.Expand.{expansion}
use Rattle.circ_tasks.specs.Tasks.{Halts}
use Rattle.circ_tasks.specs.declared.tasks.Halt.{Halt}
use Rattle.circ_tasks.proofs.Stepping.{halts_same}
use Rattle.circ_expansion.proofs.Working.{worked_right}
use Rattle.circ_expand.proofs.Writings.{fits_few, never_halts, rows_lead, exact_rows}
use Rattle.circ_expand.proofs.writing_out.expand.Goals as goal

pub written-requires-clause-few : goal.written-requires-clause-few
written-requires-clause-few c =
    fits_few c.args.theory.now c.known.ensures c.args.entries.now (sort_of c.requires.fits.0.left) c.requires.fits.2

pub returns-in-Ok-clause-exact : goal.returns-in-Ok-clause-exact
returns-in-Ok-clause-exact c =
    exact_rows c.args.theory.now (plain_proof c.args.proof.now) c.args.goal (plain_entries c.args.entries.now) unit_limit c.in-Ok.rows c.in-Ok.ensures

pub returns-in-Ok-clause-leads : goal.returns-in-Ok-clause-leads
returns-in-Ok-clause-leads c = λ g e.
    let q = c.requires in
    rows_lead c.args.theory.now c.known.ensures (plain_proof c.args.proof.now) q.for_theory q.plain q.accepted c.args.goal (plain_entries c.args.entries.now) q.fits
    unit_limit c.in-Ok.rows c.in-Ok.ensures g e

pub fault_of-requires : goal.fault_of-requires
fault_of-requires c = λ e.
    let q = c.requires in
    let o = worked_off unit_limit c.args.theory.now (plain_proof c.args.proof.now) c.args.goal (plain_entries c.args.entries.now) in
    let P : Halt → Type 0 = λ h. Halts o h in
    never_halts c.args.theory.now c.known.ensures (plain_proof c.args.proof.now) q.for_theory q.plain q.accepted c.args.goal (plain_entries c.args.entries.now) q.fits
    unit_limit (subst P e c.in-Err.ensures)

pub returns-in-Err-clause-exact : goal.returns-in-Err-clause-exact
returns-in-Err-clause-exact c =
    let p = plain_proof c.args.proof.now in
    let ws = plain_entries c.args.entries.now in
    let th = c.args.theory.now in
    c.fault_of.ensures (expansion unit_limit th p c.args.goal ws)
    (halts_same (expansion unit_limit th p c.args.goal ws) (worked_off unit_limit th p c.args.goal ws) c.in-Err.halt (worked_right unit_limit th p c.args.goal ws) c.in-Err.ensures)
