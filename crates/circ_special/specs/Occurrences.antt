-- What the steps of `guarded` find.
use Rattle.std.specs.Prelude.{◌≡◌, ◌⊎◌, ℕ, List, [], ◌∷◌, ◌++◌, true, Some}
use Rattle.std.specs.List.{slice_get}
use Rattle.circ_term.specs.Tree.{Tree, Var, sort_of, at}
use Rattle.circ_theory.specs.Theory.{Derivative, IsHidden, IsVisible}
use Rattle.circ_special.specs.declared.guard.Asked.{Asked}
use Rattle.circ_special.specs.Special.{IsSpecial}
use Rattle.circ_special.specs.Guarded.{IsGuardedAt}
use Rattle.circ_special.specs.Fitting.{fits}

-- the occurrence at the path p is guarded
abbrev pub IsGuarded : Asked → (p : List ℕ) → Type 0
IsGuarded a p = IsGuardedAt a.theory.now a.gamma.now a.root.now a.id a.sort p

-- each occurrence in t, the subterm at the path q, is guarded
abbrev pub GuardedBelow : Asked → (q : List ℕ) → Tree → Type 0
GuardedBelow a q t = (p : List ℕ) → at t p ≡ Some (Var a.id a.sort) → IsGuarded a (q ++ p)

-- the same for the arguments of the subterm at q
abbrev pub AllGuardedBelow : Asked → (q : List ℕ) → List Tree → Type 0
AllGuardedBelow a q ts = (i : ℕ) (t : Tree) → slice_get ts i ≡ Some t → GuardedBelow a (q ++ i ∷ []) t

-- an instance of the body at the path q counts: it is visible, or hidden and the path is special
abbrev pub Counts : Asked → (q : List ℕ) → (body : Tree) → Type 0
Counts a q body = IsVisible a.theory.now (sort_of body) ⊎ (IsHidden a.theory.now (sort_of body) × IsSpecial a.gamma.now a.root.now q)

-- at the path q stands what fits the body, whose hole is at r, and it counts
pub record IsHoleAt (a : Asked) (q r : List ℕ) (body : Tree) : Type 0 where
  pub hole : at body r ≡ Some (Var 0 a.sort)
  pub subterm : Tree
  pub there : at a.root.now q ≡ Some subterm
  pub fit : fits a.id a.sort body subterm ≡ true
  pub counts : Counts a q body

-- the path p has such a front q and a rest r
pub record IsHoleOf (a : Asked) (p : List ℕ) (body : Tree) : Type 0 where
  pub front : List ℕ
  pub rest : List ℕ
  pub cut : p ≡ front ++ rest
  pub hole : IsHoleAt a front rest body

-- the occurrence at p is the hole of such an instance of the derivative number k
pub record IsObservedBy (a : Asked) (p : List ℕ) (k : ℕ) : Type 0 where
  pub derivative : Derivative
  pub listed : slice_get a.theory.now.derivatives k ≡ Some derivative
  pub sort : derivative.hole ≡ a.sort
  pub hole : IsHoleOf a p derivative.body

-- of some derivative
abbrev pub IsObserved : Asked → (p : List ℕ) → Type 0
IsObserved a p = (k : ℕ) × IsObservedBy a p k
