-- Terms that get new numbers.
use Rattle.std.specs.Prelude.{◌≡◌, ℕ, ◌+◌, ◌-◌, ◌<◌, ◌≤◌, if◌then◌else◌, nat_lt, List, length, map, slice_index_or}
use Rattle.std.specs.List.{AllByRecursion}
use Rattle.circ_term.specs.Tree.{Tree, Trees, Var, App}
use Rattle.circ_term.specs.Limits.{argument_limit}
use Rattle.circ_nodes.specs.Named.{AreNamed}
use Rattle.circ_keeping.specs.declared.taking.Part.{Part}
use Rattle.circ_keeping.specs.declared.taking.Part.TheVariants.{Nothing, Variable, Application}

-- the new number of a term: below count its own, and from there on the one at its place
abbrev pub moved_number : (count : ℕ) (moved : List ℕ) → ℕ → ℕ
moved_number count moved n = if nat_lt n count then n else slice_index_or moved (n - count) 0

-- the term with this node, where its arguments have these new numbers
abbrev pub Becomes : (nodes : List Tree) (count : ℕ) (moved : List ℕ) → Part → Tree → Type 0
Becomes nodes count moved Nothing t = ⊥
Becomes nodes count moved (Variable number sort) t = t ≡ Var number sort
Becomes nodes count moved (Application op sort args) t = (ts : Trees) × (t ≡ App op sort ts) × AreNamed nodes (map (moved_number count moved) args.items) ts

-- the arguments have new numbers, and are there by them
abbrev pub MayBecome : (nodes : List Tree) (count : ℕ) (moved : List ℕ) → Part → Type 0
MayBecome nodes count moved Nothing = Unit {0}
MayBecome nodes count moved (Variable number sort) = Unit {0}
MayBecome nodes count moved (Application op sort args) =
    AllByRecursion (λ m. m < count + length moved) args.items × AllByRecursion (λ m. m < length nodes) (map (moved_number count moved) args.items)
    × (length args.items ≤ argument_limit)
