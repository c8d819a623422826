-- How a table lies in memory, and the trees that it is.
use Rattle.std.specs.Prelude.{◌≡◌, ℕ, zero, suc, ◌-◌, ◌≤◌, not, List, [], ◌∷◌, ◌++◌, length, take, drop, unwrap_or, slice_index_or, Some}
use Rattle.circ_term.specs.Tree.{Tree, Var, App, trees_of, args_of, size_of, depth_of}
use Rattle.circ_term.specs.Limits.{argument_limit, IsWithinLimits}
use Rattle.circ_proof.specs.Table.{has}
use Rattle.circ_table.specs.Table.{firsts_at}
use Rattle.circ_table.specs.declared.lines.Kind.{Kind}
use Rattle.circ_table.specs.declared.lines.Kind.TheVariants as kinds
use Rattle.circ_table.specs.declared.lines.Root.{Root}
use Rattle.circ_table.specs.declared.lines.Row.{Row}
use Rattle.circ_table.specs.declared.lines.Lines.{Lines}

-- a root as plain data: what it is, a variable's number or an operator, the sort, the numbers of the arguments
pub record PlainRoot : Type 0 where
  pub kind : Kind
  pub name : ℕ
  pub sort : ℕ
  pub args : List ℕ

abbrev pub plain : Root → PlainRoot
plain r = record { kind = r.kind; name = r.name; sort = r.sort; args = r.args.now }

abbrev pub node_of : Kind → (name sort : ℕ) → List Tree → Tree
node_of kinds.Variable n s ts = Var n s
node_of kinds.Application f s ts = App f s (trees_of ts)

-- the tree with this root, in a table that has its arguments
abbrev pub tree_at : List Tree → PlainRoot → Tree
tree_at table p = node_of p.kind p.name p.sort (unwrap_or (firsts_at table p.args) [])

-- the arguments are there, each by its least number
abbrev pub IsThere : List Tree → PlainRoot → Type 0
IsThere table p = firsts_at table p.args ≡ Some (args_of (tree_at table p))

-- the root of a row whose arguments begin at `start`
abbrev pub row_root : (args : List ℕ) (start : ℕ) → Row → PlainRoot
row_root args start r = record { kind = r.kind; name = r.name; sort = r.sort; args = take (r.end - start) (drop start args) }

-- the table with these rows behind its terms
abbrev pub trees_from : (args : List ℕ) → List Tree → (start : ℕ) → List Row → List Tree
trees_from args table start [] = table
trees_from args table start (r ∷ rs) = trees_from args (table ++ tree_at table (row_root args start r) ∷ []) r.end rs

abbrev pub trees : Lines → List Tree
trees l = trees_from l.args.items [] 0 l.rows.items

abbrev pub roots_from : (args : List ℕ) (start : ℕ) → List Row → List PlainRoot
roots_from args start [] = []
roots_from args start (r ∷ rs) = row_root args start r ∷ roots_from args r.end rs

abbrev pub roots : Lines → List PlainRoot
roots l = roots_from l.args.items 0 l.rows.items

-- where the arguments of the n-th row begin
abbrev pub begin_of : (start : ℕ) → List Row → ℕ → ℕ
begin_of start [] n = start
begin_of start (r ∷ rs) zero = start
begin_of start (r ∷ rs) (suc n) = begin_of r.end rs n

-- a root that can go last, and the size and the depth of its tree
pub record IsNode (table : List Tree) (p : PlainRoot) (nodes levels : ℕ) : Type 0 where
  pub few : length p.args ≤ argument_limit
  pub there : IsThere table p
  pub size : nodes ≡ size_of (tree_at table p)
  pub depth : levels ≡ depth_of (tree_at table p)
  pub within : IsWithinLimits (tree_at table p)

-- what a row keeps is true of its tree
pub record IsRow (args : List ℕ) (table : List Tree) (start : ℕ) (r : Row) : Type 0 where
  pub ahead : start ≤ r.end
  pub node : IsNode table (row_root args start r) r.size r.depth
  pub first : r.is_first ≡ not (has table (tree_at table (row_root args start r)))

abbrev pub AreRowsFrom : (args : List ℕ) → List Tree → (start : ℕ) → List Row → Type 0
AreRowsFrom args table start [] = start ≡ length args
AreRowsFrom args table start (r ∷ rs) =
    IsRow args table start r × AreRowsFrom args (table ++ tree_at table (row_root args start r) ∷ []) r.end rs

abbrev pub AreLines : Lines → Type 0
AreLines l = AreRowsFrom l.args.items [] 0 l.rows.items

-- a line with this root went last
pub record HasMore (old new : Lines) (p : PlainRoot) : Type 0 where
  pub lines : AreLines new
  pub with_tree : trees new ≡ trees old ++ tree_at (trees old) p ∷ []
  pub with_root : roots new ≡ roots old ++ p ∷ []

-- the terms at these places
abbrev pub picked : List Tree → List ℕ → List Tree
picked ts [] = []
picked ts (n ∷ ns) = slice_index_or ts n (Var 0 0) ∷ picked ts ns
