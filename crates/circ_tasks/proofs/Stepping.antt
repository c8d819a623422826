-- What a step answers, test by test, and the tasks that are pushed.
use Rattle.std.proofs.Common.{◌≡◌, ◌≤◌, ◌<◌, ℕ, ◌+◌, Bool, true, false, List, [], ◌∷◌, ◌++◌, zero, suc, map, Option, Some, None, Result, Ok, Err, refl, ap, sym, ◌∙◌, subst, arith}
use Rattle.std.specs.Option.{option_map_or}
use Rattle.circ_term.specs.Tree.{Tree, Trees, trees_of}
use Rattle.circ_term.specs.Limits.{Limit, first_limit, first_limits, or_else, Names}
use Rattle.circ_term.specs.Substitution.{Substitution, instance, instances}
use Rattle.circ_term.specs.declared.fault.TermFault.{TermFault}
use Rattle.circ_term.specs.declared.fault.TermFault.TheVariants.{TooBig, TooDeep, Memory}
use Rattle.circ_expansion.specs.Expand.{Spending, Yields, Long, Past, Stopped, counted, tested, all_tested}
use Rattle.circ_expansion.specs.Pieces.{Pieces}
use Rattle.circ_expansion.specs.Expand.{Call as Use, Background, continued}
use Rattle.circ_expansion.specs.Machine.{Pending, pending, Task as Job, Value, In_row, In_parts, on_row, Begin_use, Enter_use, task_step, all_uses}
use Rattle.circ_written.specs.Nodes.{ends_in_row}
use Rattle.circ_uses.specs.Uses.{first_of}
use Rattle.circ_tasks.specs.Tasks.{Steps, Halts, past_of, with_task, with_tasks, jobs_of, pending_of}
use Rattle.circ_written.specs.Values.{values_of}
use Rattle.circ_tasks.specs.declared.calls.Frame.{Frame}
use Rattle.circ_tasks.specs.declared.tasks.Halt.{Halt}
use Rattle.circ_tasks.specs.declared.tasks.Halt.TheVariants as halt
use Rattle.circ_tasks.specs.declared.tasks.Task.{Task}
use Rattle.circ_tasks.specs.declared.tasks.Work.{Work}
use Rattle.circ_expansion.proofs.Exceeding.{first_none, second_none}

pub tested_none : {X : Type 0} (t : Tree) (o : Spending X) → first_limit t ≡ None → tested t o ≡ o
tested_none t o e = ap (λ l. option_map_or Past l o) e

pub tests_none : {X : Type 0} (ts : List Tree) (o : Spending X) → first_of ts ≡ None → all_tested ts o ≡ o
tests_none [] o e = refl
tests_none (t ∷ ts) o e =
    tested_none t (all_tested ts o) (first_none (first_limit t) (first_of ts) e) ∙ tests_none ts o (second_none (first_limit t) (first_of ts) e)

past_tests : {X : Type 0} (ts : List Tree) (o : Spending X) (l : Limit) → first_of ts ≡ Some l → past_of (all_tested ts o) ≡ Some l
past_tests [] o l e = absurd (cc)
past_tests (t ∷ ts) o l e = go (first_limit t) e (λ q. past_tests ts o l q)
  where
    go : (x : Option Limit) → or_else x (first_of ts) ≡ Some l → (first_of ts ≡ Some l → past_of (all_tested ts o) ≡ Some l)
        → past_of (option_map_or Past x (all_tested ts o)) ≡ Some l
    go None q ih = ih q
    go (Some y) q ih = q

pub names_tests : {X : Type 0} (ts : List Tree) (o : Spending X) (e : TermFault) → Names e (first_of ts) → Names e (past_of (all_tested ts o))
names_tests ts o (TooBig n) h = past_tests ts o _ h
names_tests ts o (TooDeep n) h = past_tests ts o _ h
names_tests ts o Memory h = tt

pub names_tested : {X : Type 0} (t : Tree) (o : Spending X) (e : TermFault) → Names e (first_limit t) → Names e (past_of (tested t o))
names_tested t o (TooBig n) h = ap (λ l. past_of (option_map_or Past l o)) h
names_tested t o (TooDeep n) h = ap (λ l. past_of (option_map_or Past l o)) h
names_tested t o Memory h = tt

pub tests_append : {X : Type 0} (xs ys : List Tree) (o : Spending X) → all_tested (xs ++ ys) o ≡ all_tested xs (all_tested ys o)
tests_append [] ys o = refl
tests_append (x ∷ xs) ys o = ap (tested x) (tests_append xs ys o)

-- the terms of a row are tested like the list
pub limits_listed : (σ : Substitution) (ts : List Tree) → first_limits (instances σ (trees_of ts)) ≡ first_of (map (instance σ) ts)
limits_listed σ [] = refl
limits_listed σ (t ∷ ts) = ap (or_else (first_limit (instance σ t))) (limits_listed σ ts)

-- ---- what comes to the same answers the same

pub steps_same : (fr : Frame) (o p : Spending Pending) (w : Work) (r : Result (Unit {0}) Halt) → o ≡ p → Steps fr p w r → Steps fr o w r
steps_same fr o p w r e s = let P : Spending Pending → Type 0 = λ x. Steps fr x w r in subst P (sym e) s

pub halts_same : {X : Type 0} (o p : Spending X) (h : Halt) → o ≡ p → Halts p h → Halts o h
halts_same {X = X} o p h e s = let P : Spending X → Type 0 = λ x. Halts x h in subst P (sym e) s

pub counted_one : {X : Type 0} (n m : ℕ) (F : ℕ → Spending X) → n ≡ suc m → counted n F ≡ F m
counted_one n m F e = ap (λ k. counted k F) e

-- ---- the tasks

pub jobs_more : (fr : Frame) (ts : List Task) (t : Task) (js : List Job) → with_tasks fr (ts ++ t ∷ []) js ≡ with_task fr t (with_tasks fr ts js)
jobs_more fr [] t js = refl
jobs_more fr (x ∷ ts) t js = jobs_more fr ts t (with_task fr x js)

-- ---- units, tests and the last row

pub counted_none : {X : Type 0} (n : ℕ) (F : ℕ → Spending X) → n ≡ 0 → counted n F ≡ Long
counted_none n F e = ap (λ k. counted k F) e

pub first_alone : (t : Tree) → first_limit t ≡ None → first_of (t ∷ []) ≡ None
first_alone t e = ap (λ o. or_else o None) e

pub first_more : (t : Tree) (ts : List Tree) → first_limit t ≡ None → first_of ts ≡ None → first_of (t ∷ ts) ≡ None
first_more t ts e h = ap (λ o. or_else o (first_of ts)) e ∙ h

pub no_row : {A : Type 0} (vs : List Value) (h : Pieces → List Value → Spending A) → ends_in_row vs ≡ false → on_row vs h ≡ Stopped
no_row (In_row v ∷ vs) h e = absurd (cc)
no_row (In_parts ps ∷ vs) h e = refl
no_row [] h e = refl

pub row_there : (vs : List Value) → ends_in_row vs ≡ true → (v : Pieces) × (us : List Value) × (vs ≡ In_row v ∷ us)
row_there (In_row v ∷ us) e = (v, us, refl)
row_there (In_parts ps ∷ vs) e = absurd (cc)
row_there [] e = absurd (cc)

pub on_last : {A : Type 0} (vs : List Value) (h : Pieces → List Value → Spending A) (v : Pieces) (us : List Value) → vs ≡ In_row v ∷ us → on_row vs h ≡ h v us
on_last vs h v us e = ap (λ xs. on_row xs h) e

pub jobs_pushed : (fr : Frame) (ts us : List Task) (t : Task) → us ≡ ts ++ t ∷ [] → with_tasks fr us [] ≡ with_task fr t (with_tasks fr ts [])
jobs_pushed fr ts us t e = ap (λ xs. with_tasks fr xs []) e ∙ jobs_more fr ts t []

pub yields_same : (js ks : List Job) (vs us : List Value) (n m : ℕ) → js ≡ ks → vs ≡ us → n ≡ m → Yields (pending js vs) n ≡ Yields (pending ks us) m
yields_same js ks vs us n m e h k = λ i. Yields (pending (e i) (h i)) (k i)

-- a use is one by its parts
pub use_same : (c d : Use) → c.whole ≡ d.whole → c.path ≡ d.path → c.entries ≡ d.entries → c.along ≡ d.along → c.goal ≡ d.goal → c.by ≡ d.by
    → c.assumptions ≡ d.assumptions → c ≡ d
use_same c d a b e f g h j = λ i. record { whole = a i; path = b i; entries = e i; along = f i; goal = g i; by = h i; assumptions = j i }

-- a fault of the first of these, or of the last, where the others are tested
pub halts_past : {X : Type 0} (o p : Spending X) (e : TermFault) → o ≡ p → Names e (past_of p) → Halts o (halt.Past e)
halts_past {X = X} o p e q h = let P : Spending X → Type 0 = λ x. Names e (past_of x) in subst P (sym q) h

-- ---- a task that is put in the place of another

-- a unit is counted, and the use is next
pub use_begun : (fr : Frame) (f : Background) (w new : Work) (t : Task) (d : Use) → ((js : List Job) → with_task fr t js ≡ Enter_use d ∷ js) → w.left ≡ suc new.left
    → new.tasks.items ≡ w.tasks.items ++ t ∷ [] → new.values ≡ w.values
    → task_step (all_uses f) f (Begin_use d) (jobs_of fr w) (values_of w.values) w.left ≡ Yields (pending_of fr new) new.left
use_begun fr f w new t d is l e v =
    let F : ℕ → Spending Pending = λ m. Yields (pending (Enter_use d ∷ jobs_of fr w) (values_of w.values)) m in
    let js : jobs_of fr new ≡ Enter_use d ∷ jobs_of fr w = jobs_pushed fr w.tasks.items new.tasks.items t e ∙ is (jobs_of fr w) in
    counted_one w.left new.left F l ∙ (λ i. Yields (pending (sym js i) (values_of (sym v i))) new.left)

-- the values are put together
pub values_put : (fr : Frame) (w new : Work) (o : Spending (List Value)) → o ≡ Yields (values_of new.values) new.left → jobs_of fr new ≡ jobs_of fr w
    → continued o (λ vs n. Yields (pending (jobs_of fr w) vs) n) ≡ Yields (pending_of fr new) new.left
values_put fr w new o e js =
    ap (λ x. continued x (λ vs n. Yields (pending (jobs_of fr w) vs) n)) e ∙ (λ i. Yields (pending (sym js i) (values_of new.values)) new.left)

pub names_first : (t : Tree) (ts : List Tree) (e : TermFault) → Names e (first_limit t) → Names e (first_of (t ∷ ts))
names_first t ts (TooBig n) h = ap (λ o. or_else o (first_of ts)) h
names_first t ts (TooDeep n) h = ap (λ o. or_else o (first_of ts)) h
names_first t ts Memory h = tt

pub names_later : (t : Tree) (ts : List Tree) (e : TermFault) → first_limit t ≡ None → Names e (first_of ts) → Names e (first_of (t ∷ ts))
names_later t ts (TooBig n) k h = ap (λ o. or_else o (first_of ts)) k ∙ h
names_later t ts (TooDeep n) k h = ap (λ o. or_else o (first_of ts)) k ∙ h
names_later t ts Memory k h = tt

pub names_alone : (t : Tree) (e : TermFault) → Names e (first_limit t) → Names e (first_of (t ∷ []))
names_alone t e h = names_first t [] e h
