-- How terms lie in memory: for each a row, and the numbers of the arguments of all.
use Rattle.std.specs.Prelude.{◌≡◌, ℕ, zero, suc, ◌-◌, ◌≤◌, if◌then◌else◌, List, [], ◌∷◌, length, map, take, drop, slice_set}
use Rattle.circ_nodes.specs.declared.nodes.Shape.{Shape}
use Rattle.circ_nodes.specs.declared.nodes.Shape.TheVariants.{Variable, Application}
use Rattle.circ_nodes.specs.declared.rows.Changed.{Changed}
use Rattle.circ_nodes.specs.declared.rows.Row.{Row}
use Rattle.circ_nodes.specs.declared.rows.Rows.{Rows}
use Rattle.circ_nodes.specs.declared.rows.Weight.{Weight}

-- a root as plain data
pub data PlainRoot : Type 0 where
  variable : (number sort : ℕ) → PlainRoot
  application : (op sort : ℕ) (args : List ℕ) → PlainRoot

abbrev pub plain_root : Shape → PlainRoot
plain_root (Variable number sort) = variable number sort
plain_root (Application op sort args) = application op sort args.now

-- the numbers of the arguments
abbrev pub arguments : PlainRoot → List ℕ
arguments (variable number sort) = []
arguments (application op sort args) = args

-- the arguments with the other one at its place
abbrev pub changed_args : Changed → List ℕ
changed_args c = slice_set c.args.now c.place c.new

abbrev pub changed_root : Changed → PlainRoot
changed_root c = application c.op c.sort (changed_args c)

-- the root of a row with these arguments
abbrev pub root_of : Row → (args : List ℕ) → PlainRoot
root_of r args = if r.is_variable then variable r.name r.sort else application r.name r.sort args

-- the arguments of a row that begin at `start`
abbrev pub row_args : (args : List ℕ) (start : ℕ) → Row → List ℕ
row_args args start r = take (r.end - start) (drop start args)

abbrev pub roots_from : (args : List ℕ) (start : ℕ) → List Row → List PlainRoot
roots_from args start [] = []
roots_from args start (r ∷ rs) = root_of r (row_args args start r) ∷ roots_from args r.end rs

abbrev pub roots : Rows → List PlainRoot
roots l = roots_from l.args.items 0 l.rows.items

abbrev pub row_weight : Row → Weight
row_weight r = record { size = r.size; depth = r.depth; is_ground = r.is_ground }

abbrev pub weights : Rows → List Weight
weights l = map row_weight l.rows.items

-- where the arguments of the n-th row begin
abbrev pub begin_of : (start : ℕ) → List Row → ℕ → ℕ
begin_of start [] n = start
begin_of start (r ∷ rs) zero = start
begin_of start (r ∷ rs) (suc n) = begin_of r.end rs n

-- the arguments of the rows follow one another from `start`, and end at `last`
abbrev pub AreLaid : (start : ℕ) → List Row → (last : ℕ) → Type 0
AreLaid start [] last = start ≡ last
AreLaid start (r ∷ rs) last = (start ≤ r.end) × AreLaid r.end rs last

abbrev pub IsLaid : Rows → Type 0
IsLaid l = AreLaid 0 l.rows.items (length l.args.items)
