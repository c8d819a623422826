-- Terms that are taken out of a table.
use Rattle.std.specs.Prelude.{◌≡◌, ℕ, ◌+◌, ◌<◌, ◌≤◌, Bool, true, false, List, length, slice_index_or, Some}
use Rattle.std.specs.List.{slice_get, AllByRecursion}
use Rattle.circ_term.specs.Tree.{Tree, Trees, Var, App}
use Rattle.circ_term.specs.Limits.{argument_limit}
use Rattle.circ_nodes.specs.Named.{IsNamed, AreNamed}
use Rattle.circ_keeping.specs.declared.taking.Part.{Part}
use Rattle.circ_keeping.specs.declared.taking.Part.TheVariants.{Nothing, Variable, Application}

-- what is taken of the term of a number: nothing where it is not kept, and else its node, with the numbers of its arguments, which are lower
abbrev pub TakesNode : (nodes : List Tree) (n : ℕ) (is_kept : Bool) → Part → Type 0
TakesNode nodes n is_kept Nothing = is_kept ≡ false
TakesNode nodes n is_kept (Variable number sort) = (is_kept ≡ true) × IsNamed nodes n (Var number sort)
TakesNode nodes n is_kept (Application op sort args) =
    (is_kept ≡ true) × ((ts : Trees) × IsNamed nodes n (App op sort ts) × AreNamed nodes args.items ts)
    × AllByRecursion (λ m. m < n) args.items × (length args.items ≤ argument_limit)

-- the parts stand at the terms from number count on, each at its place: of those whose mark is set, and of no others
pub record AreTaken (nodes : List Tree) (count : ℕ) (marks : List Bool) (parts : List Part) : Type 0 where
  pub long : length parts ≡ length marks
  pub each : (i : ℕ) (p : Part) → slice_get parts i ≡ Some p → TakesNode nodes (count + i) (slice_index_or marks i false) p
