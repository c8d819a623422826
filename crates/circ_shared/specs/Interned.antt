-- What calls answer that build terms in a table that grows.
use Rattle.std.specs.Prelude.{◌≡◌, ◌<◌, ℕ, List, length, Option, Some, None, Result, Ok, Err}
use Rattle.circ_term.specs.Tree.{Tree, Trees}
use Rattle.circ_term.specs.Limits.{first_limits, Names}
use Rattle.circ_term.specs.declared.fault.TermFault.{TermFault}
use Rattle.circ_nodes.specs.Named.{AreNamed, tree_at}

-- the numbers of these trees, exactly where they are within the limits
abbrev pub InternsAll : {X : Type 0} → (X → List ℕ) → (nodes : List Tree) → Result X TermFault → Trees → Type 0
InternsAll view nodes (Ok x) us = AreNamed nodes (view x) us × (first_limits us ≡ None)
InternsAll view nodes (Err e) us = Names e (first_limits us)

-- what is said of a term that is answered, where its number is answered
abbrev pub OfTerm : (nodes : List Tree) → (Option Tree → Type 0) → Option ℕ → Type 0
OfTerm nodes P None = P None
OfTerm nodes P (Some n) = (n < length nodes) × P (Some (tree_at nodes n))
