-- Special paths: their fronts, and one step more.
use Rattle.std.proofs.Common.{◌≡◌, ◌≤◌, ◌<◌, ◌+◌, ℕ, List, [], ◌∷◌, ◌++◌, zero, suc, Some, ◌↔◌, ◌⊎◌, inl, inr, length, take, refl, sym, ap, subst, ◌∙◌, arith}
use Rattle.std.specs.List.{slice_get, Contains}
use Rattle.std.proofs.lemmas.Option.{same_Some}
use Rattle.circ_term.specs.Tree.{Tree, Trees, Var, App, list_of, at}
use Rattle.circ_term.proofs.Paths.{nowhere, Down, down}
use Rattle.circ_special.specs.declared.place.Place.{Place}
use Rattle.circ_special.specs.Special.{IsSpecial, place}

-- the front of a special path
pub special_front : (G : List Place) (t : Tree) (p q : List ℕ) → IsSpecial G t (p ++ q) → IsSpecial G t p
special_front G t [] q h = tt
special_front G (Var n s) (i ∷ p) q h = absurd h
special_front G (App f s ts) (i ∷ p) q h = (h.0, h.1, h.2, special_front G h.1 p q h.3)

-- fewer first steps
pub special_fewer : (G : List Place) (t : Tree) (j k : ℕ) (p : List ℕ) → j ≤ k → IsSpecial G t (take k p) → IsSpecial G t (take j p)
special_fewer G t zero k p l h = tt
special_fewer G t (suc j) zero p l h = absurd (omega (arith, l))
special_fewer G t (suc j) (suc k) [] l h = tt
special_fewer G (Var n s) (suc j) (suc k) (i ∷ p) l h = absurd h
special_fewer G (App f s ts) (suc j) (suc k) (i ∷ p) l h = (h.0, h.1, h.2, special_fewer G h.1 j k p (omega (arith, l)) h.3)

-- one step more
pub special_step : (G : List Place) (p : List ℕ) (t : Tree) (i f s : ℕ) (ts : Trees) (a : Tree) → at t p ≡ Some (App f s ts) → slice_get (list_of ts) i ≡ Some a
    → IsSpecial G t (p ++ i ∷ []) ↔ (IsSpecial G t p × Contains G (place f i))
special_step G [] t i f s ts a e g =
    let P : Tree → Type 0 = λ x. IsSpecial G x (i ∷ []) ↔ (Unit {0} × Contains G (place f i)) in
    subst P (sym (same_Some t (App f s ts) e)) ((λ h. (tt, h.0)), (λ h. (h.1, a, g, tt)))
special_step G (j ∷ p) (Var n k) i f s ts a e g = nowhere p (App f s ts) e
special_step G (j ∷ p) (App m k us) i f s ts a e g =
    let d : Down (App m k us) j p (App f s ts) = down (App m k us) j p (App f s ts) e in (
      (λ h. let below = (special_step G p h.1 i f s ts a (here h.1 h.2) g).0 h.3 in ((h.0, h.1, h.2, below.0), below.1)),
      (λ h. (h.0.0, h.0.1, h.0.2, (special_step G p h.0.1 i f s ts a (here h.0.1 h.0.2) g).1 (h.0.3, h.1))),
    )
  where
    here : (x : Tree) → slice_get (list_of us) j ≡ Some x → at x p ≡ Some (App f s ts)
    here x z = rw z at e
