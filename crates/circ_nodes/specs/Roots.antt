-- How terms are kept: by their roots, with numbers for the arguments.
use Rattle.std.specs.Prelude.{◌≡◌, ℕ, ◌^◌, ◌≤◌, ◌<◌, List, [], ◌∷◌, ◌++◌, length, map, Option, Some, None, Result, Ok, Err}
use Rattle.std.specs.List.{slice_get, AllByRecursion}
use Rattle.circ_term.specs.Tree.{Tree, Trees, Var, App, trees_of, size_of, depth_of, is_ground, sizes_of, depths_of, are_ground}
use Rattle.circ_term.specs.Fingerprint.{fingerprint_of}
use Rattle.circ_term.specs.Limits.{argument_limit, first_limit, first_limits, IsWithinLimits, Names}
use Rattle.circ_term.specs.declared.fault.TermFault.{TermFault}
use Rattle.circ_nodes.specs.Named.{IsNamed, AreNamed, IsOnce, tree_at}
use Rattle.circ_nodes.specs.declared.nodes.Lookup.{Lookup}
use Rattle.circ_nodes.specs.declared.nodes.Lookup.TheVariants.{There, Absent, Unclear}
use Rattle.circ_nodes.specs.declared.nodes.Measures.{Measures}
use Rattle.circ_nodes.specs.declared.rows.Rows.{Rows}
use Rattle.circ_nodes.specs.declared.rows.Weight.{Weight}
use Rattle.circ_nodes.specs.Rows.{PlainRoot, variable, application, arguments, roots, weights, IsLaid}

-- the term with this root
abbrev pub root_tree : (nodes : List Tree) → PlainRoot → Tree
root_tree nodes (variable number sort) = Var number sort
root_tree nodes (application op sort args) = App op sort (trees_of (map (tree_at nodes) args))

-- the terms, and behind them those with these roots
abbrev pub trees_behind : (nodes : List Tree) → List PlainRoot → List Tree
trees_behind nodes [] = nodes
trees_behind nodes (r ∷ rs) = trees_behind (nodes ++ root_tree nodes r ∷ []) rs

-- the terms with these roots
abbrev pub trees_with : List PlainRoot → List Tree
trees_with roots = trees_behind [] roots

-- the term has this root, and its arguments are there
abbrev pub HasRoot : (nodes : List Tree) → PlainRoot → Tree → Type 0
HasRoot nodes (variable number sort) t = t ≡ Var number sort
HasRoot nodes (application op sort args) t = (ts : Trees) × (t ≡ App op sort ts) × AreNamed nodes args ts × (length args ≤ argument_limit)

-- what a look-up answers: the term's number, or that it has none
abbrev pub Finds : (nodes : List Tree) → Tree → Option ℕ → Type 0
Finds nodes t (Some n) = IsNamed nodes n t
Finds nodes t None = (n : ℕ) → IsNamed nodes n t → ⊥

-- what a search for a whole term tells: its number, that it has none, or nothing
abbrev pub Tells : (nodes : List Tree) → Tree → Lookup → Type 0
Tells nodes t (There n) = IsNamed nodes n t
Tells nodes t Absent = Finds nodes t None
Tells nodes t Unclear = Unit {0}

-- This is kept of the term, which is within the limits.
pub record HasWeight (w : Weight) (t : Tree) : Type 0 where
  pub size : w.size ≡ size_of t
  pub depth : w.depth ≡ depth_of t
  pub without_variable : w.is_ground ≡ is_ground t
  pub within : IsWithinLimits t

-- These are the measures of the terms, which are within the limits.
pub record AreMeasures (m : Measures) (ts : Trees) : Type 0 where
  pub sizes : m.sizes ≡ sizes_of ts
  pub depths : m.depths ≡ depths_of ts
  pub without_variable : m.are_ground ≡ are_ground ts
  pub within : first_limits ts ≡ None

-- what is to be kept of the term, where it is within the limits
abbrev pub Weighs : Result Weight TermFault → Tree → Type 0
Weighs (Ok w) t = HasWeight w t
Weighs (Err e) t = Names e (first_limit t)

-- each term is there once, after its arguments, and beside it its root and its weight
pub record IsKept (nodes : List Tree) (roots : List PlainRoot) (weights : List Weight) : Type 0 where
  pub few : length nodes < 2 ^ 32
  pub long : length roots ≡ length nodes
  pub rooted : (n : ℕ) (r : PlainRoot) (t : Tree) → slice_get roots n ≡ Some r → IsNamed nodes n t → HasRoot nodes r t
  pub once : IsOnce nodes
  pub before : (n : ℕ) (r : PlainRoot) → slice_get roots n ≡ Some r → AllByRecursion (λ m. m < n) (arguments r)
  pub weighted : length weights ≡ length nodes
  pub weighs : (n : ℕ) (w : Weight) (t : Tree) → slice_get weights n ≡ Some w → IsNamed nodes n t → HasWeight w t

-- the terms of these rows are kept, and their fingerprints are these keys
pub record AreTerms (l : Rows) (keys : List ℕ) : Type 0 where
  pub rows : IsLaid l
  pub kept : IsKept (trees_with (roots l)) (roots l) (weights l)
  pub keyed : keys ≡ map fingerprint_of (trees_with (roots l))
