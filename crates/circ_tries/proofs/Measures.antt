-- How deep the term of a number is.
use Rattle.std.proofs.Common.{◌≡◌, ◌⊎◌, inl, inr, ℕ, ◌+◌, ◌*◌, ◌≤◌, ◌<◌, List, ap, arith}
use Rattle.circ_term.specs.Tree.{Tree, depth_of}
use Rattle.circ_nodes.specs.Named.{IsNamed}
use Rattle.circ_nodes.specs.Named.{tree_at}
use Rattle.circ_nodes.proofs.Located.{named_tree}

abbrev pub depth_at : (nodes : List Tree) → (n : ℕ) → ℕ
depth_at nodes n = depth_of (tree_at nodes n)

pub depth_is : (nodes : List Tree) (n : ℕ) (t : Tree) → IsNamed nodes n t → depth_at nodes n ≡ depth_of t
depth_is nodes n t h = ap depth_of (named_tree nodes n t h)

-- what is due next is below: a step is taken, or the term is no deeper
pub below_on : (b k l du dv : ℕ) → k * 20020 + 16 * du ≤ b → l ≤ k → (l < k) ⊎ (du ≡ dv) → dv ≤ 1000 → l * 20020 + 16 * dv ≤ b
below_on b k l du dv h less (inl f) deep = omega (arith, h, f, deep)
below_on b k l du dv h less (inr e) deep = omega (arith, h, less, e)
