-- What is left to do after a step is what was left before it.
use Rattle.std.proofs.Common.{◌≡◌, ◌≤◌, ◌<◌, ◌⊎◌, ℕ, ◌+◌, List, [], ◌∷◌, ◌++◌, zero, suc, length, Option, Some, None, Result, Ok, Err, refl, ap, sym, ◌∙◌, subst}
use Rattle.circ_term.specs.Tree.{Tree}
use Rattle.circ_term.specs.Limits.{Names}
use Rattle.circ_term.specs.declared.fault.TermFault.{TermFault}
use Rattle.circ_term.specs.declared.fault.TermFault.TheVariants.{TooBig, TooDeep, Memory}
use Rattle.circ_theory.specs.Theory.{Pair}
use Rattle.circ_proof.specs.Plain.{WhyOf}
use Rattle.circ_expansion.specs.Followed.{no_pair}
use Rattle.circ_expansion.specs.Expand.{Spending, Yields, Long, Past, Stopped, continued, Background, Call as Use, Basis as SideBasis}
use Rattle.circ_expansion.specs.Machine.{Value, Pending, pending, Task as Job, Give_reason, with_row, all_done, task_step, all_uses, rest_done, tasks_weight, CountsDown}
use Rattle.circ_tasks.specs.Tasks.{Steps, StepsAlike, Halts, past_of, with_task, first_stepped, pending_of, assumed}
use Rattle.circ_tasks.specs.declared.calls.Frame.{Frame}
use Rattle.circ_tasks.specs.declared.tasks.Halt.{Halt}
use Rattle.circ_tasks.specs.declared.tasks.Halt.TheVariants as halt
use Rattle.circ_tasks.specs.declared.tasks.Task.{Task}
use Rattle.circ_tasks.specs.declared.tasks.Task.TheVariants as task
use Rattle.circ_tasks.specs.declared.tasks.Work.{Work}
use Rattle.circ_tasks.proofs.Assuming.{under, reason_same}
use Rattle.circ_expansion.proofs.Alike.{longer}
use Rattle.circ_expansion.proofs.Working.{rest_right}
use Rattle.circ_expansion.proofs.Ending.{step_down}

pub with_first : (fr : Frame) (t : Task) (js : List Job) → (j : Job) × (ks : List Job) × (with_task fr t js ≡ j ∷ ks)
with_first fr (task.Links links) js = (_, _, refl)
with_first fr (task.GiveReason reason) js = (_, _, refl)
with_first fr (task.GiveReasons reasons) js = (_, _, refl)
with_first fr (task.BeginUse call) js = (_, _, refl)
with_first fr (task.EnterUse call) js = (_, _, refl)
with_first fr (task.BeginSimpler simpler) js = (_, _, refl)
with_first fr (task.EnterSimpler simpler) js = (_, _, refl)
with_first fr (task.FirstChange changes by) js = (_, _, refl)
with_first fr (task.NextChange changes here) js = (_, _, refl)
with_first fr task.EmptyRow js = (_, _, refl)
with_first fr (task.PutBehind way) js = (_, _, refl)
with_first fr task.PutBetween js = (_, _, refl)
with_first fr task.AddPart js = (_, _, refl)
with_first fr (task.Split reasons) js = (_, _, refl)
with_first fr (task.EndSplit term) js = (_, _, refl)

pub step_left : (f : Background) (js : List Job) (j : Job) (ks : List Job) → js ≡ j ∷ ks → (vs : List Value) (n : ℕ)
    → rest_done f (pending js vs) n ≡ continued (first_stepped f js vs n) (rest_done f)
step_left f js j ks e vs n =
    let P : List Job → Type 0 = λ xs. rest_done f (pending xs vs) n ≡ continued (first_stepped f xs vs n) (rest_done f) in
    subst P (sym e) (rest_right f j ks vs n)

pub weighs_less : (f : Background) (js : List Job) (j : Job) (ks : List Job) → js ≡ j ∷ ks → (vs : List Value) (n : ℕ)
    → CountsDown n (tasks_weight js) (first_stepped f js vs n)
weighs_less f js j ks e vs n =
    let P : List Job → Type 0 = λ xs. CountsDown n (tasks_weight xs) (first_stepped f xs vs n) in subst P (sym e) (step_down (all_uses f) f j ks vs n)

names_on : {A B : Type 0} (o : Spending A) (F : A → ℕ → Spending B) (e : TermFault) → Names e (past_of o) → Names e (past_of (continued o F))
names_on o F Memory h = tt
names_on (Yields a n) F (TooBig k) h = absurd (cc)
names_on Long F (TooBig k) h = absurd (cc)
names_on (Past l) F (TooBig k) h = h
names_on Stopped F (TooBig k) h = absurd (cc)
names_on (Yields a n) F (TooDeep k) h = absurd (cc)
names_on Long F (TooDeep k) h = absurd (cc)
names_on (Past l) F (TooDeep k) h = h
names_on Stopped F (TooDeep k) h = absurd (cc)

pub halts_on : {A B : Type 0} (o : Spending A) (F : A → ℕ → Spending B) (h : Halt) → Halts o h → Halts (continued o F) h
halts_on o F halt.Long e = ap (λ x. continued x F) e
halts_on o F (halt.Past fault) e = names_on o F fault e
halts_on o F halt.Stopped e = ap (λ x. continued x F) e

pub steps_alike : (fr : Frame) (o : Spending Pending) (w : Work) (r : Result (Unit {0}) Halt) → Steps fr o w r → StepsAlike fr o w r
steps_alike fr o w (Ok u) e = (pending_of fr w, e, refl, refl)
steps_alike fr o w (Err h) e = e

-- ---- under other assumptions, as many

pub case_alike : (f : Background) (c : Use) (k : ℕ) (p : Pair) (b : SideBasis) (w : WhyOf Tree) (s t : Tree) (js : List Job) (vs : List Value) (n : ℕ)
    → rest_done f (pending (Give_reason (under (assumed k ++ p ∷ []) c) b w s t ∷ js) vs) n
    ≡ rest_done f (pending (Give_reason (under (assumed (suc k)) c) b w s t ∷ js) vs) n
case_alike f c k p b w s t js vs n =
    ap (λ o. continued (with_row (all_uses f) f vs o) (all_done (all_uses f) f js))
    (reason_same f c (assumed k ++ p ∷ []) (assumed (suc k)) (longer (assumed k) p) b w s t n)
