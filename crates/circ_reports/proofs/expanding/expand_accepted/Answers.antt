use Rattle.std.proofs.Common.{◌≡◌, ◌+◌, ℕ, Option, subst}
use Rattle.std.specs.List.{slice_get}
use Rattle.circ_proof.specs.PlainProof.{plain_proof}
use Rattle.circ_expand.specs.Goals.{all_goals}
use Rattle.circ_files.proofs.FileFaults.{if_ok, if_err}
use Rattle.circ_reports.specs.Expand.{by_goal, by_number, expanded, Writes, WritesNone, ShowsDerivation}
use Rattle.circ_reports.proofs.ExpandEnds.{before_is}
use Rattle.circ_reports.proofs.expanding.expand_accepted.Goals as goal

pub returns-clause-writes : goal.returns-clause-writes
returns-clause-writes c =
    let th = c.args.theory.now in
    let p = plain_proof c.args.proof.now in
    let ks = c.args.derivatives.now in
    let n = c.in-Some.number in
    if_ok (λ v. Writes th (by_goal th p n ks (slice_get (all_goals p.blocks) n)) v.items) (λ v. Writes th (expanded th p c.args.goal ks) v.items)
    c.expand_goal.result c.expand_goal.ensures.writes
    (λ v x. let P : Option ℕ → Type 0 = λ o. Writes th (by_number th p ks o) v.items in subst P c.in-Some.ensures x)

pub returns-clause-shows : goal.returns-clause-shows
returns-clause-shows c =
    let th = c.args.theory.now in
    let p = plain_proof c.args.proof.now in
    let ks = c.args.derivatives.now in
    if_ok (λ v. ShowsDerivation th p (c.in-Some.number + 1) ks v.items) (λ v. ShowsDerivation th p c.args.goal ks v.items)
    c.expand_goal.result c.expand_goal.ensures.shows
    (λ v x. let P : ℕ → Type 0 = λ k. ShowsDerivation th p k ks v.items in subst P (before_is c.args.goal c.in-Some.number c.in-Some.ensures) x)

pub returns-clause-none : goal.returns-clause-none
returns-clause-none c =
    let th = c.args.theory.now in
    let p = plain_proof c.args.proof.now in
    let ks = c.args.derivatives.now in
    let n = c.in-Some.number in
    if_err (WritesNone (by_goal th p n ks (slice_get (all_goals p.blocks) n))) (WritesNone (expanded th p c.args.goal ks))
    c.expand_goal.result c.expand_goal.ensures.none
    (λ s x. let P : Option ℕ → Type 0 = λ o. WritesNone (by_number th p ks o) s in subst P c.in-Some.ensures x)
