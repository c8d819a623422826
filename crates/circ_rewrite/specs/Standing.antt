-- Where the work stands in a term: at a path, with all that comes before it in post-order settled.
use Rattle.std.specs.Prelude.{◌≡◌, ℕ, zero, suc, List, [], ◌∷◌, length, Option, Some, None}
use Rattle.std.specs.List.{slice_get}
use Rattle.circ_term.specs.Tree.{Tree, Trees, Var, App, none, more, list_of}
use Rattle.circ_rewrite.specs.Replacement.{Replacement}
use Rattle.circ_rewrite.specs.Norm.{first_due}

module _ (due : Tree → Option Replacement) where
  -- nothing is due in the term
  abbrev pub IsSettled : Tree → Type 0
  IsSettled t = first_due due t ≡ None

  -- the first i trees are settled
  abbrev pub AreSettled : (i : ℕ) → Trees → Type 0
  AreSettled zero ts = Unit {0}
  AreSettled (suc i) none = ⊥
  AreSettled (suc i) (more t ts) = IsSettled t × AreSettled i ts

  -- the term t stands in w at the path, and all to the left of the path is settled
  abbrev pub Stands : (w : Tree) → (path : List ℕ) → (t : Tree) → Type 0
  Stands w [] t = w ≡ t
  Stands (Var n s) (i ∷ p) t = ⊥
  Stands (App f s ts) (i ∷ p) t = (a : Tree) × (slice_get (list_of ts) i ≡ Some a) × AreSettled i ts × Stands a p t

  -- the arguments are settled
  abbrev pub HasSettledBelow : Tree → Type 0
  HasSettledBelow (Var n s) = Unit {0}
  HasSettledBelow (App f s ts) = AreSettled (length (list_of ts)) ts
