-- Terms that are guarded in a variable.
use Rattle.std.specs.Prelude.{◌≡◌, ℕ, List, ◌++◌, Some}
use Rattle.std.specs.List.{Contains}
use Rattle.circ_term.specs.Tree.{Tree, Var, sort_of, at}
use Rattle.circ_term.specs.Substitution.{Substitution, KeepsSorts}
use Rattle.circ_theory.specs.Theory.{Theory, Derivative, IsHidden, IsVisible}
use Rattle.circ_theory.specs.Experiment.{derived}
use Rattle.circ_special.specs.declared.place.Place.{Place}
use Rattle.circ_special.specs.Special.{IsSpecial}

-- At the path q of t stands an instance of the derivative on the variable (n, s). Its hole is at r below q.
pub record IsInstanceAt (th : Theory) (t : Tree) (n s : ℕ) (d : Derivative) (q r : List ℕ) : Type 0 where
  pub listed : Contains th.derivatives d
  pub sort : d.hole ≡ s
  pub hole : at d.body r ≡ Some (Var 0 d.hole)
  pub parameters : Substitution
  pub keeps_sorts : KeepsSorts parameters
  pub there : at t q ≡ Some (derived d (Var n s) parameters)

-- The occurrence of the variable (n, s) at the path p is guarded: it is the hole of an instance of a visible derivative, or stands at a
-- special path, or is the hole of an instance of a hidden derivative that stands at a special path.
pub data IsGuardedAt (th : Theory) (G : List Place) (t : Tree) (n s : ℕ) (p : List ℕ) : Type 0 where
  by_visible : (d : Derivative) (q r : List ℕ) → p ≡ q ++ r → IsInstanceAt th t n s d q r → IsVisible th (sort_of d.body) → IsGuardedAt th G t n s p
  by_place : IsSpecial G t p → IsGuardedAt th G t n s p
  by_hidden : (d : Derivative) (q r : List ℕ) → p ≡ q ++ r → IsInstanceAt th t n s d q r → IsHidden th (sort_of d.body) → IsSpecial G t q
      → IsGuardedAt th G t n s p

-- A term is guarded in a variable where each occurrence of it is.
abbrev pub Guarded : Theory → List Place → Tree → (number sort : ℕ) → Type 0
Guarded th G t n s = (p : List ℕ) → at t p ≡ Some (Var n s) → IsGuardedAt th G t n s p
