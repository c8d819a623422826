-- What two rows come to as one.
use Rattle.std.specs.Prelude.{◌≡◌, ◌<◌, ℕ, suc, true, if◌then◌else◌, List, [], ◌∷◌, ◌++◌, length}
use Rattle.circ_term.specs.Tree.{Tree}
use Rattle.circ_term.specs.Order.{comes_before}
use Rattle.circ_theory.specs.Signature.{Operator}
use Rattle.circ_aci.specs.Content.{leaves}
use Rattle.circ_aci.specs.Canonical.{join}
use Rattle.circ_aci.specs.Row.{is_row}
use Rattle.circ_nodes.specs.Named.{tree_at}
use Rattle.circ_forms.specs.Named.{trees_at}

-- the term is there, and it is a row
pub record IsRow (nodes : List Tree) (o : Operator) (f n : ℕ) : Type 0 where
  pub there : n < length nodes
  pub row : is_row o f (tree_at nodes n) ≡ true

-- what was taken, and then what the row `last` joins, is what was taken before and then the terms `all`
pub record Takes (nodes : List Tree) (o : Operator) (f : ℕ) (all : List Tree) (old new : List ℕ) (last : ℕ) : Type 0 where
  pub rest : IsRow nodes o f last
  pub taken : trees_at nodes new ++ leaves f (tree_at nodes last) ≡ trees_at nodes old ++ all

-- a list without its first
abbrev pub behind : List Tree → List Tree
behind [] = []
behind (x ∷ xs) = xs

-- the place of the first of some terms that doesn't come before x
abbrev pub place_in : Tree → List Tree → ℕ
place_in x [] = 0
place_in x (y ∷ ys) = if comes_before y x then suc (place_in x ys) else 0

-- the operator on these terms, grouped to the right
abbrev pub joined_at : (nodes : List Tree) (f k : ℕ) → List ℕ → ℕ → Tree
joined_at nodes f k ns n = join f k (trees_at nodes ns ++ tree_at nodes n ∷ [])
