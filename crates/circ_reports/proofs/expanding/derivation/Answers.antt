use Rattle.std.proofs.Common.{◌≡◌, ◌∙◌, ap, map, sym, subst}
use Rattle.std.proofs.lemmas.Option.{same_Some}
use Rattle.circ_term.specs.Tree.{sort_of}
use Rattle.circ_theory.specs.Goal.{Goal}
use Rattle.circ_proof.specs.PlainProof.{plain_proof}
use Rattle.circ_entry.specs.Entries.{FitsWritten}
use Rattle.circ_entry.specs.Plain.{plain_entries}
use Rattle.circ_expand.specs.Answers.{LeadsOnGoal}
use Rattle.circ_expand.specs.Expand.{Spending, expansion}
use Rattle.circ_expand.specs.Pieces.{Pieces}
use Rattle.circ_expand.specs.Rows.{plain_row}
use Rattle.circ_status.specs.declared.status.Status.{Status}
use Rattle.circ_status.specs.declared.status.Status.TheVariants as status
use Rattle.circ_files.proofs.FileFaults.{if_ok, if_err}
use Rattle.circ_reports.specs.Expand.{by_units, Writes, WritesNone, rows_text, expanded_text}
use Rattle.circ_reports.proofs.GoalSorts.{goal_sorts}
use Rattle.circ_reports.proofs.ExpandEnds.{fault_none, none_by_memory}
use Rattle.circ_reports.proofs.expanding.derivation.Goals as goal

pub text_of-requires-clause-right : goal.text_of-requires-clause-right
text_of-requires-clause-right c =
    let th = c.args.theory.now in
    let ws = plain_entries c.args.entries.now in
    let g = c.args.goal.now in
    let f = c.requires.experiment in
    let L : Goal → Type 0 = λ x. FitsWritten th ws (sort_of x.left) in
    let left = subst L (same_Some f.0 g (sym f.1 ∙ c.requires.goal)) f.2 in
    rw (goal_sorts th (plain_proof c.args.proof.now) c.requires.fits c.args.number g c.requires.goal) left

pub returns-in-Ok-clause-writes : goal.returns-in-Ok-clause-writes
returns-in-Ok-clause-writes c =
    let th = c.args.theory.now in
    let ws = plain_entries c.args.entries.now in
    let g = c.args.goal.now in
    let o = expansion 100000 th (plain_proof c.args.proof.now) c.args.number ws in
    let e = c.in-Ok.ensures.exact in
    if_ok (λ v. v.items ≡ rows_text th ws g (map plain_row c.as_slice.result.now)) (λ v. Writes th (by_units ws g o) v.items) c.text_of.result c.text_of.ensures.text
    (λ v t.
    let P : Spending Pieces → Type 0 = λ y. Writes th (by_units ws g y) v.items in
    subst P (sym e.2) (t ∙ ap (λ rs. rows_text th ws g (map plain_row rs)) c.as_slice.ensures.value ∙ ap (rows_text th ws g) e.3))

pub returns-in-Ok-clause-shows : goal.returns-in-Ok-clause-shows
returns-in-Ok-clause-shows c =
    let th = c.args.theory.now in
    let ws = plain_entries c.args.entries.now in
    let g = c.args.goal.now in
    let l = c.in-Ok.ensures.leads g c.requires.goal in
    if_ok (λ v. v.items ≡ rows_text th ws g (map plain_row c.as_slice.result.now))
    (λ v. (xs : Pieces) × LeadsOnGoal th xs ws g × (v.items ≡ expanded_text th ws g xs)) c.text_of.result c.text_of.ensures.text
    (λ v t. (l.0, l.2, t ∙ ap (λ rs. rows_text th ws g (map plain_row rs)) c.as_slice.ensures.value ∙ ap (rows_text th ws g) l.1))

pub returns-in-Ok-clause-none : goal.returns-in-Ok-clause-none
returns-in-Ok-clause-none c =
    let ws = plain_entries c.args.entries.now in
    let e = by_units ws c.args.goal.now (expansion 100000 c.args.theory.now (plain_proof c.args.proof.now) c.args.number ws) in
    if_err (λ s. s ≡ status.Memory) (WritesNone e) c.text_of.result c.text_of.ensures.memory (none_by_memory e)

pub returns-in-Err-clause-none : goal.returns-in-Err-clause-none
returns-in-Err-clause-none c =
    let ws = plain_entries c.args.entries.now in
    let g = c.args.goal.now in
    let o = expansion 100000 c.args.theory.now (plain_proof c.args.proof.now) c.args.number ws in
    let P : Status → Type 0 = WritesNone (by_units ws g o) in
    subst P (sym c.none_written.ensures) (fault_none ws g o c.in-Err.fault c.in-Err.ensures.exact)
