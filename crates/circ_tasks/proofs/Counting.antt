-- Tasks are done until a unit is counted, and until none is left.
use Rattle.std.proofs.Common.{◌≡◌, ◌==◌, ◌≤◌, ◌<◌, ◌⊎◌, ℕ, ◌+◌, Bool, true, false, List, [], ◌∷◌, ◌++◌, length, min, refl, ap, sym, ◌∙◌, subst, arith, inl, inr}
use Rattle.std.proofs.lemmas.Bool.{eqb-true}
use Rattle.circ_expansion.specs.Expand.{Spending, Yields, continued}
use Rattle.circ_expansion.specs.Machine.{Value, Pending, pending, rest_done, tasks_weight, CountsDown}
use Rattle.circ_written.specs.Values.{values_of}
use Rattle.circ_tasks.specs.Tasks.{background_in, jobs_of, with_task, with_tasks, next_stepped, left_of, IsAlike, Halts}
use Rattle.circ_tasks.specs.declared.calls.Frame.{Frame}
use Rattle.circ_tasks.specs.declared.tasks.Halt.{Halt}
use Rattle.circ_tasks.specs.declared.tasks.Task.{Task}
use Rattle.circ_tasks.specs.declared.tasks.Work.{Work}
use Rattle.circ_tasks.proofs.Stepping.{jobs_pushed}
use Rattle.circ_tasks.proofs.Leaving.{with_first, step_left, weighs_less, halts_on}

-- what is left before the last task is taken is its step, and what is left then
pub left_on : (fr : Frame) (w p : Work) (t : Task) → w.tasks.items ≡ p.tasks.items ++ t ∷ [] → w.values ≡ p.values → w.left ≡ p.left
    → left_of fr w ≡ continued (next_stepped fr t p) (rest_done (background_in fr))
left_on fr w p t e v n =
    let f = background_in fr in
    let x = with_first fr t (jobs_of fr p) in
    ap (λ js. rest_done f (pending js (values_of w.values)) w.left) (jobs_pushed fr p.tasks.items w.tasks.items t e)
    ∙ ap (λ vs. rest_done f (pending (with_task fr t (jobs_of fr p)) (values_of vs)) w.left) v
    ∙ ap (rest_done f (pending (with_task fr t (jobs_of fr p)) (values_of p.values))) n
    ∙ step_left f (with_task fr t (jobs_of fr p)) x.0 x.1 x.2 (values_of p.values) p.left

-- a step leaves what was left
pub left_same : (fr : Frame) (p new : Work) (t : Task) → IsAlike fr (next_stepped fr t p) new
    → continued (next_stepped fr t p) (rest_done (background_in fr)) ≡ left_of fr new
left_same fr p new t h = ap (λ o. continued o (rest_done (background_in fr))) h.1 ∙ h.2

pub left_after : (fr : Frame) (w p new : Work) (t : Task) → w.tasks.items ≡ p.tasks.items ++ t ∷ [] → w.values ≡ p.values → w.left ≡ p.left
    → IsAlike fr (next_stepped fr t p) new → left_of fr w ≡ left_of fr new
left_after fr w p new t e v n h = left_on fr w p t e v n ∙ left_same fr p new t h

-- and has counted a unit, or the tasks weigh less
pub left_less : (fr : Frame) (w p new : Work) (t : Task) → w.tasks.items ≡ p.tasks.items ++ t ∷ [] → w.left ≡ p.left → IsAlike fr (next_stepped fr t p) new
    → (new.left < w.left) ⊎ ((new.left ≡ w.left) × (tasks_weight (jobs_of fr new) < tasks_weight (jobs_of fr w)))
left_less fr w p new t e n h = go down
  where
    down : CountsDown p.left (tasks_weight (with_task fr t (jobs_of fr p))) (Yields h.0 new.left)
    down =
        let x = with_first fr t (jobs_of fr p) in
        let P : Spending Pending → Type 0 = λ o. CountsDown p.left (tasks_weight (with_task fr t (jobs_of fr p))) o in
        subst P h.1 (weighs_less (background_in fr) (with_task fr t (jobs_of fr p)) x.0 x.1 x.2 (values_of p.values) p.left)

    weight : tasks_weight (jobs_of fr w) ≡ tasks_weight (with_task fr t (jobs_of fr p))
    weight = ap tasks_weight (jobs_pushed fr p.tasks.items w.tasks.items t e)

    go : (new.left < p.left) ⊎ ((new.left ≡ p.left) × (tasks_weight h.0.tasks < tasks_weight (with_task fr t (jobs_of fr p))))
        → (new.left < w.left) ⊎ ((new.left ≡ w.left) × (tasks_weight (jobs_of fr new) < tasks_weight (jobs_of fr w)))
    go (inl a) = inl (omega (arith, a, n))
    go (inr a) = inr (a.0 ∙ sym n, omega (arith, a.1, weight, h.3))

pub left_halts : (fr : Frame) (w p : Work) (t : Task) (h : Halt) → w.tasks.items ≡ p.tasks.items ++ t ∷ [] → w.values ≡ p.values → w.left ≡ p.left
    → Halts (next_stepped fr t p) h → Halts (left_of fr w) h
left_halts fr w p t h e v n s =
    let P : Spending (List Value) → Type 0 = λ o. Halts o h in
    subst P (sym (left_on fr w p t e v n)) (halts_on (next_stepped fr t p) (rest_done (background_in fr)) h s)

-- no task is left
pub none_left : (fr : Frame) (w : Work) → w.tasks.items ≡ [] → left_of fr w ≡ Yields (values_of w.values) w.left
none_left fr w e = ap (λ ts. rest_done (background_in fr) (pending (with_tasks fr ts []) (values_of w.values)) w.left) e

pub some_length : {X : Type 0} (xs ys : List X) (x : X) → xs ≡ ys ++ x ∷ [] → 1 ≤ length xs
some_length [] [] x e = absurd (cc)
some_length [] (y ∷ ys) x e = absurd (cc)
some_length (z ∷ xs) ys x e = omega arith

pub emptied : (fr : Frame) (w p : Work) → w.tasks.items ≡ [] → p.tasks.items ≡ [] → w.values ≡ p.values → w.left ≡ p.left → left_of fr w ≡ left_of fr p
emptied fr w p e h v n = none_left fr w e ∙ (λ i. Yields (values_of (v i)) (n i)) ∙ sym (none_left fr p h)

pub no_items : {X : Type 0} (xs : List X) → length xs ≡ 0 → xs ≡ []
no_items [] e = refl
no_items (x ∷ xs) e = absurd (omega (arith, e))

-- where no unit was counted
pub units_stay : (n m b k l : ℕ) → (n < m) ⊎ ((n ≡ m) × (k < l)) → m ≡ b → b ≤ n → n ≡ b
units_stay n m b k l (inl a) e h = absurd (omega (arith, a, e, h))
units_stay n m b k l (inr a) e h = a.0 ∙ e

pub weight_falls : (n m b k l : ℕ) → (n < m) ⊎ ((n ≡ m) × (k < l)) → m ≡ b → b ≤ n → k < l
weight_falls n m b k l (inl a) e h = absurd (omega (arith, a, e, h))
weight_falls n m b k l (inr a) e h = a.1

-- units, and one more while there are tasks
pub run_less : {X : Type 0} (n m : ℕ) (xs ys : List X) → 1 ≤ length xs → (m < n) ⊎ ((m ≤ n) × (ys ≡ [])) → m + min 1 (length ys) < n + min 1 (length xs)
run_less n m xs ys h (inl a) = omega (arith, a, h)
run_less n m xs ys h (inr a) = let z = ap length a.1 in omega (arith, a.0, z, h)

pub some_there : {X : Type 0} (xs : List X) (b : Bool) → b ≡ (length xs == 0) → b ≡ false → 1 ≤ length xs
some_there [] b e f = absurd (let z = sym f ∙ e in cc)
some_there (x ∷ xs) b e f = omega arith

pub none_there : {X : Type 0} (xs : List X) (b : Bool) → b ≡ (length xs == 0) → b ≡ true → xs ≡ []
none_there [] b e f = refl
none_there (x ∷ xs) b e f = absurd (let n = eqb-true (length (x ∷ xs)) 0 (sym e ∙ f) in omega (arith, n))
