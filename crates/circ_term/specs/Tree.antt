-- A term as contracts see it: a plain tree, with no sharing, no kept size and no pointers.
use Rattle.std.specs.Prelude.{ℕ, ◌+◌, max, Bool, true, false, ◌&&◌, List, [], ◌∷◌, Option, Some, None, slice_set}
use Rattle.std.specs.List.{slice_get}
use Rattle.std.specs.Option.{option_and_then, option_map}

-- A variable has a number and a sort. An application has an operator's number, the sort of its result, and arguments.
mutual
  pub data Tree : Type 0 where
    Var : (number sort : ℕ) → Tree
    App : (op sort : ℕ) (args : Trees) → Tree

  pub data Trees : Type 0 where
    none : Trees
    more : (first : Tree) (rest : Trees) → Trees

abbrev pub list_of : Trees → List Tree
list_of none = []
list_of (more t ts) = t ∷ list_of ts

abbrev pub trees_of : List Tree → Trees
trees_of [] = none
trees_of (t ∷ ts) = more t (trees_of ts)

-- the number of nodes, counted as a tree
abbrev mutual
  pub size_of : Tree → ℕ
  size_of (Var n s) = 1
  size_of (App f s ts) = sizes_of ts + 1

  pub sizes_of : Trees → ℕ
  sizes_of none = 0
  sizes_of (more t ts) = size_of t + sizes_of ts

-- the depth: 1 for a variable and for a constant
abbrev mutual
  pub depth_of : Tree → ℕ
  depth_of (Var n s) = 1
  depth_of (App f s ts) = depths_of ts + 1

  pub depths_of : Trees → ℕ
  depths_of none = 0
  depths_of (more t ts) = max (depth_of t) (depths_of ts)

-- whether there is no variable
abbrev mutual
  pub is_ground : Tree → Bool
  is_ground (Var n s) = false
  is_ground (App f s ts) = are_ground ts

  pub are_ground : Trees → Bool
  are_ground none = true
  are_ground (more t ts) = is_ground t && are_ground ts

abbrev pub sort_of : Tree → ℕ
sort_of (Var n s) = s
sort_of (App f s ts) = s

abbrev pub args_of : Tree → List Tree
args_of (Var n s) = []
args_of (App f s ts) = list_of ts

abbrev pub variable_number : Tree → Option ℕ
variable_number (Var n s) = Some n
variable_number (App f s ts) = None

abbrev pub operator_number : Tree → Option ℕ
operator_number (Var n s) = None
operator_number (App f s ts) = Some f

-- going down a path of argument places, from a subterm that may be absent
abbrev pub walk : Option Tree → List ℕ → Option Tree
walk o [] = o
walk o (i ∷ p) = walk (option_and_then (λ t. slice_get (args_of t) i) o) p

-- the subterm at a path; none where the path leaves the term
abbrev pub at : Tree → List ℕ → Option Tree
at t p = walk (Some t) p

-- the trees with u in place of the i-th
abbrev pub put_at : Trees → ℕ → Tree → Trees
put_at ts i u = trees_of (slice_set (list_of ts) i u)

abbrev pub with_arg : Tree → ℕ → Option Tree → Option Tree
with_arg (Var n s) i o = None
with_arg (App f s ts) i o = option_map (λ u. App f s (put_at ts i u)) o

-- the term with u in place of the subterm at a path; none where the path leaves the term
abbrev pub replaced : Tree → List ℕ → Tree → Option Tree
replaced t [] u = Some u
replaced t (i ∷ p) u = with_arg t i (option_and_then (λ a. replaced a p u) (slice_get (args_of t) i))
