-- When a regrouping is a move.
use Rattle.std.proofs.Common.{◌≡◌, ℕ, Bool, true, false, if◌then◌else◌, List, [], ◌∷◌, refl, ap, sym, subst}
use Rattle.circ_term.specs.Tree.{Tree}
use Rattle.circ_term.specs.Limits.{IsWithinLimits}
use Rattle.circ_term.specs.Order.{is_same}
use Rattle.circ_term.proofs.Order.{same_here}
use Rattle.circ_content_join.specs.Joining.{regrouped}
use Rattle.circ_content_join.specs.Moves.{Regrouping}

pub not_regrouped : (f : ℕ) (q : List ℕ) (a b : Tree) → is_same a b ≡ true → [] ≡ regrouped f q a b
not_regrouped f q a b e = sym (ap (λ v. if v then [] else Regrouping f q b ∷ []) e)

pub is_regrouped : (f : ℕ) (q : List ℕ) (a b : Tree) → is_same a b ≡ false → Regrouping f q b ∷ [] ≡ regrouped f q a b
is_regrouped f q a b e = sym (ap (λ v. if v then [] else Regrouping f q b ∷ []) e)

-- a term within the limits is none that passes one
pub within_differs : (a b : Tree) → IsWithinLimits a → (IsWithinLimits b → ⊥) → is_same a b ≡ false
within_differs a b w n = go (is_same a b) refl
  where
    go : (v : Bool) → is_same a b ≡ v → v ≡ false
    go true e = absurd (n (subst IsWithinLimits (same_here a b e) w))
    go false e = refl

pub past_differs : (a b : Tree) → (IsWithinLimits a → ⊥) → IsWithinLimits b → is_same a b ≡ false
past_differs a b n w = go (is_same a b) refl
  where
    go : (v : Bool) → is_same a b ≡ v → v ≡ false
    go true e = absurd (n (subst IsWithinLimits (sym (same_here a b e)) w))
    go false e = refl
