-- What work that takes steps comes to, in parts.
use Rattle.std.proofs.Common.{◌≡◌, ◌⊎◌, inl, inr, ℕ, ◌≤◌, Bool, true, false, if◌then◌else◌, List, Option, Some, None, refl, ap, arith}
use Rattle.circ_term.specs.Tree.{Tree}
use Rattle.circ_term.specs.Limits.{Limit, or_else}
use Rattle.circ_rewrite.specs.Norm.{Normalised, Normal_form, Budget_spent, Limit_passed}
use Rattle.circ_rewrite.specs.Replacement.{Traced}
use Rattle.circ_conditional_norm.specs.Work.{Work, Made, Out, Past, or_next, map_found, unless_limit, normal_then, LeavesAtMost}

pub same_found : {A : Type 0} (a b : A) (k l : ℕ) → Made (Some a) k ≡ Made (Some b) l → (a ≡ b) × (k ≡ l)
same_found a b k l e = (cc, cc)

pub found_map : {A B : Type 0} (g : A → B) (w : Work (Option A)) (b : B) (l : ℕ) → map_found g w ≡ Made (Some b) l
    → (a : A) × (w ≡ Made (Some a) l) × (g a ≡ b)
found_map g (Made (Some a) k) b l e = let h = same_found (g a) b k l e in (a, ap (Made (Some a)) h.1, h.0)
found_map g (Made None k) b l e = absurd (cc)
found_map g Out b l e = absurd (cc)
found_map g (Past x k) b l e = absurd (cc)

pub found_next : {A : Type 0} (w : Work (Option A)) (f : ℕ → Work (Option A)) (a : A) (l : ℕ) → or_next w f ≡ Made (Some a) l
    → (w ≡ Made (Some a) l) ⊎ ((k : ℕ) × (w ≡ Made None k) × (f k ≡ Made (Some a) l))
found_next (Made (Some b) k) f a l e = inl e
found_next (Made None k) f a l e = inr (k, refl, e)
found_next Out f a l e = absurd (cc)
found_next (Past x k) f a l e = absurd (cc)

pub found_limit : {A : Type 0} (o : Option Limit) (k : ℕ) (w : Work A) (v : A) (l : ℕ) → unless_limit o k w ≡ Made v l → (o ≡ None) × (w ≡ Made v l)
found_limit None k w v l e = (refl, e)
found_limit (Some x) k w v l e = absurd (cc)

pub found_normal : {B : Type 0} (n : Normalised) (f : Tree → List Traced → ℕ → Work B) (v : B) (l : ℕ) → normal_then n f ≡ Made v l
    → (t : Tree) × (ts : List Traced) × (k : ℕ) × (n ≡ Normal_form t ts k) × (f t ts k ≡ Made v l)
found_normal (Normal_form t ts k) f v l e = (t, ts, k, refl, e)
found_normal Budget_spent f v l e = absurd (cc)
found_normal (Limit_passed x k) f v l e = absurd (cc)

pub both_none : (a b : Option Limit) → or_else a b ≡ None → (a ≡ None) × (b ≡ None)
both_none None b e = (refl, e)
both_none (Some l) b e = absurd (cc)

-- ---- what is left

abbrev pub NormalLeavesAtMost : ℕ → Normalised → Type 0
NormalLeavesAtMost k (Normal_form t ts l) = l ≤ k
NormalLeavesAtMost k Budget_spent = Unit {0}
NormalLeavesAtMost k (Limit_passed x l) = l ≤ k

pub leaves_more : {A : Type 0} (w : Work A) (k m : ℕ) → k ≤ m → LeavesAtMost k w → LeavesAtMost m w
leaves_more (Made v l) k m h g = omega (arith, h, g)
leaves_more Out k m h g = tt
leaves_more (Past x l) k m h g = omega (arith, h, g)

pub normal_leaves_more : (w : Normalised) (k m : ℕ) → k ≤ m → NormalLeavesAtMost k w → NormalLeavesAtMost m w
normal_leaves_more (Normal_form t ts l) k m h g = omega (arith, h, g)
normal_leaves_more Budget_spent k m h g = tt
normal_leaves_more (Limit_passed x l) k m h g = omega (arith, h, g)

pub map_leaves : {A B : Type 0} (g : A → B) (w : Work (Option A)) (k : ℕ) → LeavesAtMost k w → LeavesAtMost k (map_found g w)
map_leaves g (Made (Some a) l) k h = h
map_leaves g (Made None l) k h = h
map_leaves g Out k h = tt
map_leaves g (Past x l) k h = h

pub next_leaves : {A : Type 0} (w : Work (Option A)) (f : ℕ → Work (Option A)) (k : ℕ) → LeavesAtMost k w → ((l : ℕ) → LeavesAtMost l (f l))
    → LeavesAtMost k (or_next w f)
next_leaves (Made (Some a) l) f k h g = h
next_leaves (Made None l) f k h g = leaves_more (f l) l k h (g l)
next_leaves Out f k h g = tt
next_leaves (Past x l) f k h g = h

pub normal_leaves : {B : Type 0} (n : Normalised) (f : Tree → List Traced → ℕ → Work B) (k : ℕ) → NormalLeavesAtMost k n
    → ((t : Tree) (ts : List Traced) (l : ℕ) → LeavesAtMost l (f t ts l)) → LeavesAtMost k (normal_then n f)
normal_leaves (Normal_form t ts l) f k h g = leaves_more (f t ts l) l k h (g t ts l)
normal_leaves Budget_spent f k h g = tt
normal_leaves (Limit_passed x l) f k h g = h

pub limit_leaves : {A : Type 0} (o : Option Limit) (k : ℕ) (w : Work A) → LeavesAtMost k w → LeavesAtMost k (unless_limit o k w)
limit_leaves None k w h = h
limit_leaves (Some x) k w h = omega arith

pub if_leaves : {A : Type 0} (b : Bool) (v w : Work A) (k : ℕ) → LeavesAtMost k v → LeavesAtMost k w → LeavesAtMost k (if b then v else w)
if_leaves true v w k g h = g
if_leaves false v w k g h = h
