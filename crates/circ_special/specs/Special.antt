-- Special sets of places, and special paths.
use Rattle.std.specs.Prelude.{◌≡◌, ℕ, List, [], ◌∷◌, Some, Bool, true, ◌==◌, ◌&&◌, ◌||◌, nat_lt}
use Rattle.std.specs.List.{slice_get, Contains, AllByRecursion}
use Rattle.circ_term.specs.Tree.{Tree, Var, App, list_of}
use Rattle.circ_theory.specs.Signature.{Operator}
use Rattle.circ_theory.specs.Theory.{Theory, IsHidden}
use Rattle.circ_special.specs.declared.place.Place.{Place}

abbrev pub place : (op arg : ℕ) → Place
place f i = record { op = f; arg = i }

-- A place: an argument of hidden sort of an operator of hidden sort.
pub record IsPlace (th : Theory) (g : Place) : Type 0 where
  pub operator : Operator
  pub sort : ℕ
  pub listed : slice_get th.signature.ops g.op ≡ Some operator
  pub argument : slice_get operator.args g.arg ≡ Some sort
  pub hidden : IsHidden th operator.result
  pub hidden_argument : IsHidden th sort

-- by operator, then argument
abbrev pub comes_before : Place → Place → Bool
comes_before g h = nat_lt g.op h.op || ((g.op == h.op) && nat_lt g.arg h.arg)

abbrev pub IsIncreasing : List Place → Type 0
IsIncreasing [] = Unit {0}
IsIncreasing (g ∷ []) = Unit {0}
IsIncreasing (g ∷ h ∷ G) = (comes_before g h ≡ true) × IsIncreasing (h ∷ G)

-- A special set of a theory: places in increasing order.
pub record IsSet (th : Theory) (G : List Place) : Type 0 where
  pub increasing : IsIncreasing G
  pub places : AllByRecursion (IsPlace th) G

-- A path in a term is special where each operator and place on it belongs to the set.
abbrev pub IsSpecial : List Place → Tree → List ℕ → Type 0
IsSpecial G t [] = Unit {0}
IsSpecial G (Var n s) (i ∷ p) = ⊥
IsSpecial G (App f s ts) (i ∷ p) = Contains G (place f i) × (a : Tree) × (slice_get (list_of ts) i ≡ Some a) × IsSpecial G a p

-- each place of G is one of F
abbrev pub IsWithin : (G F : List Place) → Type 0
IsWithin G F = (g : Place) → Contains G g → Contains F g
