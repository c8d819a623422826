-- Terms that were built of numbers.
use Rattle.std.specs.Prelude.{◌≡◌, ℕ, nat_eq, List, Some}
use Rattle.std.specs.Map.{lookup}
use Rattle.circ_term.specs.Tree.{Tree}
use Rattle.circ_nodes.specs.Named.{IsNamed}

-- what was built of a number is its term
abbrev pub AreBuilt : (nodes : List Tree) → List (ℕ × Tree) → Type 0
AreBuilt nodes built = (n : ℕ) (t : Tree) → lookup (nat_eq n) built ≡ Some t → IsNamed nodes n t
