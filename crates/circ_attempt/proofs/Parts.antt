-- What work that takes steps comes to, in parts.
use Rattle.std.proofs.Common.{◌≡◌, ℕ, ◌≤◌, refl, arith}
use Rattle.circ_conditional_norm.specs.Work.{Work, Made, Out, Past, LeavesAtMost}
use Rattle.circ_conditional_norm.proofs.Working.{leaves_more}
use Rattle.circ_conditional_search.specs.Joining.{work_then}

pub made_then : {A B : Type 0} (w : Work A) (f : A → ℕ → Work B) (v : B) (l : ℕ) → work_then w f ≡ Made v l
    → (a : A) × (k : ℕ) × (w ≡ Made a k) × (f a k ≡ Made v l)
made_then (Made a k) f v l e = (a, k, refl, e)
made_then Out f v l e = absurd (cc)
made_then (Past x k) f v l e = absurd (cc)

pub same_made : {A : Type 0} (a b : A) (k l : ℕ) → Made a k ≡ Made b l → a ≡ b
same_made a b k l e = cc

pub then_leaves : {A B : Type 0} (w : Work A) (f : A → ℕ → Work B) (k : ℕ) → LeavesAtMost k w → ((a : A) (l : ℕ) → LeavesAtMost l (f a l))
    → LeavesAtMost k (work_then w f)
then_leaves (Made a l) f k h g = leaves_more (f a l) l k h (g a l)
then_leaves Out f k h g = tt
then_leaves (Past x l) f k h g = h

pub leaves_made : {A : Type 0} (k : ℕ) (w : Work A) → LeavesAtMost k w → (a : A) (l : ℕ) → w ≡ Made a l → l ≤ k
leaves_made k (Made b j) h a l e = let same : j ≡ l = cc in omega (arith, h, same)
leaves_made k Out h a l e = absurd (cc)
leaves_made k (Past x j) h a l e = absurd (cc)
