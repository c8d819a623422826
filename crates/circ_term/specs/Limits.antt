-- The limits of a term, and the node that passes one first, in post-order.
use Rattle.std.specs.Prelude.{◌≡◌, ℕ, ◌+◌, nat_lt, if◌then◌else◌, Option, Some, None, Result, Ok, Err}
use Rattle.circ_term.specs.Tree.{Tree, Trees, Var, App, none, more, sizes_of, depths_of}
use Rattle.circ_term.specs.declared.fault.TermFault.{TermFault}
use Rattle.circ_term.specs.declared.fault.TermFault.TheVariants.{TooBig, TooDeep, Memory}

-- the most nodes of a term, counted as a tree
abbrev pub node_limit : ℕ
node_limit = 1000000

-- the greatest depth of a term
abbrev pub depth_limit : ℕ
depth_limit = 1000

-- the most arguments of an application
abbrev pub argument_limit : ℕ
argument_limit = 65536

-- a limit that a node passes, with the node's number of nodes or its depth
pub data Limit : Type 0 where
  Big : (nodes : ℕ) → Limit
  Deep : (depth : ℕ) → Limit

abbrev pub limit_at : (size depth : ℕ) → Option Limit
limit_at size depth =
    if nat_lt node_limit size then Some (Big size) else if nat_lt depth_limit depth then Some (Deep depth) else None

abbrev pub or_else : Option Limit → Option Limit → Option Limit
or_else (Some l) o = Some l
or_else None o = o

-- the limit that the first application in post-order passes, if one does
abbrev mutual
  pub first_limit : Tree → Option Limit
  first_limit (Var n s) = None
  first_limit (App f s ts) = or_else (first_limits ts) (limit_at (sizes_of ts + 1) (depths_of ts + 1))

  pub first_limits : Trees → Option Limit
  first_limits none = None
  first_limits (more t ts) = or_else (first_limit t) (first_limits ts)

-- the term is within the limits
abbrev pub IsWithinLimits : Tree → Type 0
IsWithinLimits t = first_limit t ≡ None

-- the fault names the limit, or memory ran out
abbrev pub Names : TermFault → Option Limit → Type 0
Names (TooBig n) o = o ≡ Some (Big n)
Names (TooDeep n) o = o ≡ Some (Deep n)
Names Memory o = Unit {0}

-- what a call that builds the tree u answers: the tree exactly where it is within the limits
abbrev pub Builds : Result Tree TermFault → Tree → Type 0
Builds (Ok t) u = (t ≡ u) × IsWithinLimits u
Builds (Err e) u = Names e (first_limit u)

-- the same, where there may be no tree to build
abbrev pub BuildsSome : Result (Option Tree) TermFault → Option Tree → Type 0
BuildsSome (Ok None) o = o ≡ None
BuildsSome (Ok (Some t)) o = (o ≡ Some t) × IsWithinLimits t
BuildsSome (Err e) None = e ≡ Memory
BuildsSome (Err e) (Some u) = Names e (first_limit u)
