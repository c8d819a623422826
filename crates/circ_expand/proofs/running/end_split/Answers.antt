use Rattle.std.proofs.Common.{Bool, true, false, refl, ap, subst}
use Rattle.circ_expansion.specs.Machine.{all_uses, end_split}
use Rattle.circ_written.specs.Values.{values_of, Makes}
use Rattle.circ_tasks.specs.Tasks.{background_in, jobs_of}
use Rattle.circ_expansion.specs.Expand.{Spending, Yields, continued}
use Rattle.circ_expansion.specs.Machine.{pending}
use Rattle.circ_tasks.specs.declared.tasks.Work.{Work}
use Rattle.circ_tasks.proofs.Stepping.{values_put}
use Rattle.circ_expand.proofs.running.end_split.Goals as goal

pub returns-then-branch : goal.returns-then-branch
returns-then-branch c = λ fr.
    let w = c.args.work.now in
    let new : Work = record w { values = c.end_split.new.self } in
    let P : Bool → Type 0 = λ b. Makes b (values_of new.values) (end_split (all_uses (background_in fr)) (background_in fr) c.args.term (values_of w.values) w.left) w.left in
    values_put fr w new (end_split (all_uses (background_in fr)) (background_in fr) c.args.term (values_of w.values) w.left)
    (subst P c.if-branch.true (c.in_ok-end_split.ensures (all_uses (background_in fr)) (background_in fr) w.left)) refl

pub returns : goal.returns
returns c = λ fr.
    let w = c.args.work.now in
    let P : Bool → Type 0 = λ b. Makes b (values_of c.end_split.new.self) (end_split (all_uses (background_in fr)) (background_in fr) c.args.term (values_of w.values) w.left) w.left in
    ap (λ o. continued o (λ vs n. Yields (pending (jobs_of fr w) vs) n))
    (subst P c.if-branch.false (c.in_ok-end_split.ensures (all_uses (background_in fr)) (background_in fr) w.left))
