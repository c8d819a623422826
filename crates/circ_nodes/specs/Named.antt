-- Terms and their numbers.
use Rattle.std.specs.Prelude.{◌≡◌, ◌⊎◌, ℕ, List, [], ◌∷◌, ◌++◌, Option, Some, None, Result, Ok, Err}
use Rattle.std.specs.List.{slice_get}
use Rattle.std.specs.Option.{unwrap_or}
use Rattle.circ_term.specs.Tree.{Tree, Trees, Var, App, none, more, at}
use Rattle.circ_term.specs.Limits.{first_limit, IsWithinLimits, Names}
use Rattle.circ_term.specs.declared.fault.TermFault.{TermFault}
use Rattle.circ_term.specs.declared.fault.TermFault.TheVariants.{Memory}
use Rattle.circ_nodes.specs.declared.nodes.Shape.{Shape}
use Rattle.circ_nodes.specs.declared.nodes.Shape.TheVariants.{Variable, Application}

-- the term of number n is t
abbrev pub IsNamed : (nodes : List Tree) (n : ℕ) → Tree → Type 0
IsNamed nodes n t = slice_get nodes n ≡ Some t

-- the term of a number
abbrev pub tree_at : (nodes : List Tree) (n : ℕ) → Tree
tree_at nodes n = unwrap_or (slice_get nodes n) (Var 0 0)

-- the terms of these numbers are these
abbrev pub AreNamed : (nodes : List Tree) (ns : List ℕ) → Trees → Type 0
AreNamed nodes [] none = Unit {0}
AreNamed nodes [] (more t ts) = ⊥
AreNamed nodes (n ∷ ns) none = ⊥
AreNamed nodes (n ∷ ns) (more t ts) = IsNamed nodes n t × AreNamed nodes ns ts

-- t was entered and nothing else: the terms are those of before where it has a number there, and else it comes last
abbrev pub Enters : (old new : List Tree) → Tree → Type 0
Enters old new t = ((n : ℕ) × IsNamed old n t × (new ≡ old)) ⊎ (((n : ℕ) → IsNamed old n t → ⊥) × (new ≡ old ++ t ∷ []))

-- the same, where there may be no term
abbrev pub EntersSome : (old new : List Tree) → Option Tree → Type 0
EntersSome old new None = new ≡ old
EntersSome old new (Some t) = Enters old new t

-- each term that was added is such
abbrev pub AddsOnly : (Tree → Type 0) → (old new : List Tree) → Type 0
AddsOnly P old new = (n : ℕ) (t : Tree) → IsNamed new n t → IsNamed old n t ⊎ P t

-- u stands in t at some path
abbrev pub IsPart : (t u : Tree) → Type 0
IsPart t u = (p : List ℕ) × (at t p ≡ Some u)

-- u stands in one of these terms
abbrev pub IsPartOfSome : List Tree → Tree → Type 0
IsPartOfSome ts u = (i : ℕ) × (t : Tree) × (slice_get ts i ≡ Some t) × IsPart t u

-- no term has two numbers
abbrev pub IsOnce : List Tree → Type 0
IsOnce nodes = (n m : ℕ) (t : Tree) → IsNamed nodes n t → IsNamed nodes m t → n ≡ m

-- the term taken apart by one node
abbrev pub HasShape : (nodes : List Tree) → Shape → Tree → Type 0
HasShape nodes (Variable number sort) t = t ≡ Var number sort
HasShape nodes (Application op sort args) t = (ts : Trees) × (t ≡ App op sort ts) × AreNamed nodes args.now ts

-- What a call that builds and interns the tree u answers: its number exactly where it is within the limits.
abbrev pub Interns : (nodes : List Tree) → Result ℕ TermFault → Tree → Type 0
Interns nodes (Ok n) u = IsNamed nodes n u × IsWithinLimits u
Interns nodes (Err e) u = Names e (first_limit u)

-- the same, where there may be no tree
abbrev pub InternsSome : (nodes : List Tree) → Result (Option ℕ) TermFault → Option Tree → Type 0
InternsSome nodes (Ok None) o = o ≡ None
InternsSome nodes (Ok (Some n)) o = (t : Tree) × (o ≡ Some t) × IsNamed nodes n t × IsWithinLimits t
InternsSome nodes (Err e) None = e ≡ Memory
InternsSome nodes (Err e) (Some u) = Names e (first_limit u)

-- the numbers of the arguments
abbrev pub arguments_of : Shape → List ℕ
arguments_of (Variable number sort) = []
arguments_of (Application op sort args) = args.now

-- the number is that of the term, where there is one
abbrev pub Points : (nodes : List Tree) → Option Tree → Option ℕ → Type 0
Points nodes o None = o ≡ None
Points nodes o (Some n) = (t : Tree) × (o ≡ Some t) × IsNamed nodes n t
