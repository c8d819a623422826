use Rattle.std.proofs.Common.{◌≡◌, ◌∷◌, sym, subst}
use Rattle.circ_term.specs.Substitution.{instance}
use Rattle.circ_expansion.specs.Machine.{Task as Job, Begin_use, Enter_use, Empty_row, Put_behind, Put_between, Add_part, Begin_split, End_split, all_uses, task_step}
use Rattle.circ_tasks.specs.Tasks.{Steps, StepsAlike, next_stepped, stepped, call_of, background_in, jobs_of, links_job, reason_job, reasons_job, changes_job, simpler_use}
use Rattle.circ_tasks.specs.Tasks.{split_term}
use Rattle.circ_written.specs.Values.{values_of}
use Rattle.circ_uses.specs.Valuations.{by_of}
use Rattle.circ_uses.specs.declared.by.By.{By}
use Rattle.circ_tasks.specs.declared.tasks.Task.{Task}
use Rattle.circ_tasks.proofs.Leaving.{steps_alike}
use Rattle.circ_expand.proofs.running.step.Goals as goal

pub returns-in-Links : goal.returns-in-Links
returns-in-Links c =
    let fr = c.args.frame.now in
    let w = c.args.work.now in
    let P : Task → Type 0 = λ t. StepsAlike fr (next_stepped fr t w) c.links_step.new.work c.links_step.result in
    subst P (sym c.in-Links.is) (steps_alike fr (stepped fr (links_job fr c.in-Links.links) w) c.links_step.new.work c.links_step.result c.links_step.ensures)

pub returns-in-GiveReason : goal.returns-in-GiveReason
returns-in-GiveReason c =
    let fr = c.args.frame.now in
    let w = c.args.work.now in
    let P : Task → Type 0 = λ t. StepsAlike fr (next_stepped fr t w) c.reason_step.new.work c.reason_step.result in
    subst P (sym c.in-GiveReason.is) (steps_alike fr (stepped fr (reason_job fr c.in-GiveReason.reason) w) c.reason_step.new.work c.reason_step.result c.reason_step.ensures)

pub returns-in-GiveReasons : goal.returns-in-GiveReasons
returns-in-GiveReasons c =
    let fr = c.args.frame.now in
    let w = c.args.work.now in
    let P : Task → Type 0 = λ t. StepsAlike fr (next_stepped fr t w) c.reasons_step.new.work c.reasons_step.result in
    subst P (sym c.in-GiveReasons.is) c.reasons_step.ensures

pub returns-in-BeginUse : goal.returns-in-BeginUse
returns-in-BeginUse c =
    let fr = c.args.frame.now in
    let w = c.args.work.now in
    let P : Task → Type 0 = λ t. StepsAlike fr (next_stepped fr t w) c.begin_use.new.work c.begin_use.result in
    subst P (sym c.in-BeginUse.is) (steps_alike fr (stepped fr (Begin_use (call_of fr c.in-BeginUse.call.value)) w) c.begin_use.new.work c.begin_use.result (c.begin_use.ensures fr))

pub returns-in-EnterUse : goal.returns-in-EnterUse
returns-in-EnterUse c =
    let fr = c.args.frame.now in
    let w = c.args.work.now in
    let P : Task → Type 0 = λ t. StepsAlike fr (next_stepped fr t w) c.use_step.new.work c.use_step.result in
    subst P (sym c.in-EnterUse.is) (steps_alike fr (stepped fr (Enter_use (call_of fr c.in-EnterUse.call.value)) w) c.use_step.new.work c.use_step.result c.use_step.ensures)

pub returns-in-BeginSimpler : goal.returns-in-BeginSimpler
returns-in-BeginSimpler c =
    let fr = c.args.frame.now in
    let w = c.args.work.now in
    let P : Task → Type 0 = λ t. StepsAlike fr (next_stepped fr t w) c.begin_simpler.new.work c.begin_simpler.result in
    subst P (sym c.in-BeginSimpler.is) (steps_alike fr (stepped fr (Begin_use (simpler_use fr c.in-BeginSimpler.simpler)) w) c.begin_simpler.new.work c.begin_simpler.result (c.begin_simpler.ensures fr))

pub returns-in-EnterSimpler : goal.returns-in-EnterSimpler
returns-in-EnterSimpler c =
    let fr = c.args.frame.now in
    let w = c.args.work.now in
    let P : Task → Type 0 = λ t. StepsAlike fr (next_stepped fr t w) c.enter_simpler.new.work c.enter_simpler.result in
    subst P (sym c.in-EnterSimpler.is) (steps_alike fr (stepped fr (Enter_use (simpler_use fr c.in-EnterSimpler.simpler)) w) c.enter_simpler.new.work c.enter_simpler.result c.enter_simpler.ensures)

pub returns-in-FirstChange : goal.returns-in-FirstChange
returns-in-FirstChange c =
    let fr = c.args.frame.now in
    let w = c.args.work.now in
    let x = c.in-FirstChange.changes in
    let new = c.first_step.new.work in
    let r = c.first_step.result in
    let J : By → Job = λ b. changes_job fr x (instance (by_of b) x.last) in
    let Q : By → Type 0 = λ b. Steps fr (stepped fr (J b) w) new r in
    let P : Task → Type 0 = λ t. StepsAlike fr (next_stepped fr t w) new r in
    subst P (sym c.in-FirstChange.is)
    (steps_alike fr (stepped fr (J c.in-FirstChange.by.value) w) new r (subst Q c.deref.ensures c.first_step.ensures))

pub returns-in-NextChange : goal.returns-in-NextChange
returns-in-NextChange c =
    let fr = c.args.frame.now in
    let w = c.args.work.now in
    let P : Task → Type 0 = λ t. StepsAlike fr (next_stepped fr t w) c.changes_step.new.work c.changes_step.result in
    subst P (sym c.in-NextChange.is) (steps_alike fr (stepped fr (changes_job fr c.in-NextChange.changes c.in-NextChange.here) w) c.changes_step.new.work c.changes_step.result c.changes_step.ensures)

pub returns-in-EmptyRow : goal.returns-in-EmptyRow
returns-in-EmptyRow c =
    let fr = c.args.frame.now in
    let w = c.args.work.now in
    let P : Task → Type 0 = λ t. StepsAlike fr (next_stepped fr t w) c.add_empty.new.work c.add_empty.result in
    subst P (sym c.in-EmptyRow.is) (steps_alike fr (stepped fr (Empty_row) w) c.add_empty.new.work c.add_empty.result (c.add_empty.ensures fr))

pub returns-in-PutBehind : goal.returns-in-PutBehind
returns-in-PutBehind c =
    let fr = c.args.frame.now in
    let w = c.args.work.now in
    let P : Task → Type 0 = λ t. StepsAlike fr (next_stepped fr t w) c.put_behind.new.work c.put_behind.result in
    subst P (sym c.in-PutBehind.is) (steps_alike fr (stepped fr (Put_behind c.in-PutBehind.way) w) c.put_behind.new.work c.put_behind.result (c.put_behind.ensures fr))

pub returns-in-PutBetween : goal.returns-in-PutBetween
returns-in-PutBetween c =
    let fr = c.args.frame.now in
    let w = c.args.work.now in
    let P : Task → Type 0 = λ t. StepsAlike fr (next_stepped fr t w) c.put_between.new.work c.put_between.result in
    subst P (sym c.in-PutBetween.is) (steps_alike fr (stepped fr (Put_between) w) c.put_between.new.work c.put_between.result (c.put_between.ensures fr))

pub returns-in-AddPart : goal.returns-in-AddPart
returns-in-AddPart c =
    let fr = c.args.frame.now in
    let w = c.args.work.now in
    let P : Task → Type 0 = λ t. StepsAlike fr (next_stepped fr t w) c.add_part.new.work c.add_part.result in
    subst P (sym c.in-AddPart.is) (steps_alike fr (stepped fr (Add_part) w) c.add_part.new.work c.add_part.result (c.add_part.ensures fr))

pub returns-in-Split : goal.returns-in-Split
returns-in-Split c =
    let fr = c.args.frame.now in
    let w = c.args.work.now in
    let P : Task → Type 0 = λ t. StepsAlike fr (next_stepped fr t w) c.begin_split.new.work c.begin_split.result in
    subst P (sym c.in-Split.is)
    (steps_alike fr (task_step (all_uses (background_in fr)) (background_in fr) (Begin_split (split_term c.in-Split.reasons))
    (reasons_job fr c.in-Split.reasons ∷ End_split (split_term c.in-Split.reasons) ∷ jobs_of fr w) (values_of w.values) w.left) c.begin_split.new.work c.begin_split.result c.begin_split.ensures)

pub returns-in-EndSplit : goal.returns-in-EndSplit
returns-in-EndSplit c =
    let fr = c.args.frame.now in
    let w = c.args.work.now in
    let P : Task → Type 0 = λ t. StepsAlike fr (next_stepped fr t w) c.end_split.new.work c.end_split.result in
    subst P (sym c.in-EndSplit.is) (steps_alike fr (stepped fr (End_split c.in-EndSplit.term) w) c.end_split.new.work c.end_split.result (c.end_split.ensures fr))
