use Rattle.std.proofs.Common.{◌≡◌, ◌+◌, ◌-◌, List, ℕ, map, refl, ap, sym, ◌∙◌, subst, arith}
use Rattle.std.specs.List.{slice_get}
use Rattle.circ_proof.specs.PlainProof.{plain_proof}
use Rattle.circ_entry.specs.Entries.{Written, HaveParameters}
use Rattle.circ_entry.specs.Plain.{plain_entries}
use Rattle.circ_expand.specs.Answers.{LeadsOnGoal}
use Rattle.circ_expand.specs.Expand.{expansion}
use Rattle.circ_expand.specs.Goals.{all_goals}
use Rattle.circ_expand.specs.Pieces.{Pieces}
use Rattle.circ_entry.specs.declared.entries.Entry.{Entry}
use Rattle.circ_files.proofs.FileFaults.{if_ok, if_err}
use Rattle.circ_reports.specs.Expand.{Expanded, by_units, by_goal, fresh_experiment, free_numbers, parameter_count, Writes, WritesNone, ShowsDerivation, expanded_text}
use Rattle.circ_reports.proofs.ExpandEnds.{goal_done, fits_there}
use Rattle.circ_reports.proofs.FreshNumbers.{entries_derivatives}
use Rattle.circ_reports.proofs.expanding.expand_goal.Goals as goal

pub returns-clause-writes : goal.returns-clause-writes
returns-clause-writes c =
    let th = c.args.theory.now in
    let p = plain_proof c.args.proof.now in
    let n = c.args.number in
    let ks = c.args.derivatives.now in
    let g = c.in-Some.goal.now in
    let ws = plain_entries c.as_slice-entries.result.now in
    let es : ws ≡ fresh_experiment th g ks = ap plain_entries c.as_slice-entries.ensures.value ∙ c.in-Ok.ensures.entries in
    let o = slice_get (all_goals p.blocks) n in
    let d = goal_done th p n ks g ws o (sym c.in-Some.ensures) es (sym c.in_default-goal_misfit.ensures.exact) in
    if_ok (λ v. Writes th (by_units ws g (expansion 100000 th p n ws)) v.items) (λ v. Writes th (by_goal th p n ks o) v.items)
    c.derivation.result c.derivation.ensures.writes
    (λ v x. let P : Expanded → Type 0 = λ y. Writes th y v.items in subst P d x)

pub returns-clause-none : goal.returns-clause-none
returns-clause-none c =
    let th = c.args.theory.now in
    let p = plain_proof c.args.proof.now in
    let n = c.args.number in
    let ks = c.args.derivatives.now in
    let g = c.in-Some.goal.now in
    let ws = plain_entries c.as_slice-entries.result.now in
    let es : ws ≡ fresh_experiment th g ks = ap plain_entries c.as_slice-entries.ensures.value ∙ c.in-Ok.ensures.entries in
    let o = slice_get (all_goals p.blocks) n in
    let d = goal_done th p n ks g ws o (sym c.in-Some.ensures) es (sym c.in_default-goal_misfit.ensures.exact) in
    if_err (WritesNone (by_units ws g (expansion 100000 th p n ws))) (WritesNone (by_goal th p n ks o)) c.derivation.result c.derivation.ensures.none
    (λ s x. let P : Expanded → Type 0 = λ y. WritesNone y s in subst P d x)

pub returns-clause-shows : goal.returns-clause-shows
returns-clause-shows c =
    let th = c.args.theory.now in
    let p = plain_proof c.args.proof.now in
    let n = c.args.number in
    let ks = c.args.derivatives.now in
    let g = c.in-Some.goal.now in
    let ws = plain_entries c.as_slice-entries.result.now in
    let es : ws ≡ fresh_experiment th g ks = ap plain_entries c.as_slice-entries.ensures.value ∙ c.in-Ok.ensures.entries in
    let there = sym c.in-Some.ensures in
    let back : (n + 1) - 1 ≡ n = omega arith in
    let H : List Entry → Type 0 = λ x. HaveParameters th (plain_entries x) in
    let have = subst H (sym c.as_slice-entries.ensures.value) c.in-Ok.ensures.parameters in
    if_ok (λ v. (xs : Pieces) × LeadsOnGoal th xs ws g × (v.items ≡ expanded_text th ws g xs)) (λ v. ShowsDerivation th p (n + 1) ks v.items)
    c.derivation.result c.derivation.ensures.shows
    (λ v x. record {
      counted = omega arith;
      on_goal = g;
      goal_is = ap (slice_get (all_goals p.blocks)) back ∙ there;
      experiment = ws;
      derivatives_are = ap (map (λ w. w.derivative)) es ∙ entries_derivatives th (free_numbers g (parameter_count th ks)) ks;
      fits = fits_there th p n ws g (c.in_default-goal_misfit.ensures.fits have refl) there;
      pieces = x.0;
      leads = x.1;
      text_is = x.2;
    })
