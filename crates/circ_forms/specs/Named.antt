-- The trees of numbers, and which terms are their own canonical forms.
use Rattle.std.specs.Prelude.{◌≡◌, ◌<◌, ℕ, List, length, map, Option, Some, None}
use Rattle.std.specs.List.{AllByRecursion}
use Rattle.circ_term.specs.Tree.{Tree}
use Rattle.circ_theory.specs.Signature.{Signature}
use Rattle.circ_aci.specs.Canonical.{canonical_under}
use Rattle.circ_nodes.specs.Named.{tree_at}

abbrev pub trees_at : (nodes : List Tree) (ns : List ℕ) → List Tree
trees_at nodes ns = map (tree_at nodes) ns

abbrev pub AreThere : (nodes : List Tree) (ns : List ℕ) → Type 0
AreThere nodes ns = AllByRecursion (λ n. n < length nodes) ns

-- the numbers are there, of these two terms, or there are none
abbrev pub AreOperands : (nodes : List Tree) → Option (Tree × Tree) → Option (ℕ × ℕ) → Type 0
AreOperands nodes o None = o ≡ None
AreOperands nodes o (Some p) = (p.0 < length nodes) × (p.1 < length nodes) × (o ≡ Some (tree_at nodes p.0, tree_at nodes p.1))

-- each of the terms is its own canonical form under an operator
abbrev pub AreOwn : Signature → (f : ℕ) → List Tree → Type 0
AreOwn sig f ts = AllByRecursion (λ t. canonical_under sig f t ≡ t) ts
