-- The order of terms.
use Rattle.std.specs.Prelude.{◌≡◌, ◌↔◌, Bool}
use Rattle.std.specs.Ordering.{nat_cmp, ordering_then, is_eq, is_lt}
use Rattle.std.proofs.Common.{Ordering, Less, Equal, Greater}
use Rattle.circ_term.specs.Tree.{Tree, Trees, Var, App, none, more}

-- variables come before applications; variables by number, then sort; applications by operator, then arguments from
-- the left, then sort
abbrev mutual
  pub tree_cmp : Tree → Tree → Ordering
  tree_cmp (Var n s) (Var m k) = ordering_then (nat_cmp n m) (nat_cmp s k)
  tree_cmp (Var n s) (App g k us) = Less
  tree_cmp (App f s ts) (Var m k) = Greater
  tree_cmp (App f s ts) (App g k us) = ordering_then (nat_cmp f g) (ordering_then (trees_cmp ts us) (nat_cmp s k))

  -- the first place where they differ decides; a list comes before its continuations
  pub trees_cmp : Trees → Trees → Ordering
  trees_cmp none none = Equal
  trees_cmp none (more u us) = Less
  trees_cmp (more t ts) none = Greater
  trees_cmp (more t ts) (more u us) = ordering_then (tree_cmp t u) (trees_cmp ts us)

-- whether both are the same term
abbrev pub is_same : Tree → Tree → Bool
is_same s t = is_eq (tree_cmp s t)

-- whether the first comes before the second
abbrev pub comes_before : Tree → Tree → Bool
comes_before s t = is_lt (tree_cmp s t)

-- a term is equal to itself alone
abbrev pub EqualIsSame : Type 0
EqualIsSame = (s t : Tree) → (tree_cmp s t ≡ Equal) ↔ (s ≡ t)
