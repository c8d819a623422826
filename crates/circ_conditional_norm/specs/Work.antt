-- Work that takes steps of a budget.
use Rattle.std.specs.Prelude.{◌≤◌, ℕ, List, Option, Some, None}
use Rattle.circ_term.specs.Tree.{Tree}
use Rattle.circ_term.specs.Limits.{Limit}
use Rattle.circ_rewrite.specs.Replacement.{Traced}
use Rattle.circ_rewrite.specs.Norm.{Normalised, Normal_form, Budget_spent, Limit_passed}

-- What such work comes to: a value, with what is left; or a step is due and none is left; or a term passes a limit, and this is left.
pub data Work (A : Type 0) : Type 0 where
  Made : (value : A) (left : ℕ) → Work A
  Out : Work A
  Past : (limit : Limit) (left : ℕ) → Work A

-- what is left is no more than this
abbrev pub LeavesAtMost : {A : Type 0} → ℕ → Work A → Type 0
LeavesAtMost k (Made v l) = l ≤ k
LeavesAtMost k Out = Unit {0}
LeavesAtMost k (Past x l) = l ≤ k

-- the value found, or else what comes of going on
abbrev pub or_next : {A : Type 0} → Work (Option A) → (ℕ → Work (Option A)) → Work (Option A)
or_next (Made (Some a) k) f = Made (Some a) k
or_next (Made None k) f = f k
or_next Out f = Out
or_next (Past l k) f = Past l k

abbrev pub map_found : {A B : Type 0} → (A → B) → Work (Option A) → Work (Option B)
map_found g (Made (Some a) k) = Made (Some (g a)) k
map_found g (Made None k) = Made None k
map_found g Out = Out
map_found g (Past l k) = Past l k

abbrev pub unless_limit : {A : Type 0} → Option Limit → (left : ℕ) → Work A → Work A
unless_limit None k w = w
unless_limit (Some l) k w = Past l k

-- what is done with a normal form, its traces and what is left
abbrev pub normal_then : {B : Type 0} → Normalised → (Tree → List Traced → ℕ → Work B) → Work B
normal_then (Normal_form t ts k) f = f t ts k
normal_then Budget_spent f = Out
normal_then (Limit_passed l k) f = Past l k
