-- A link by itself, by number: what it leads to, and the sides of its conditions.
use Rattle.std.specs.Prelude.{◌≡◌, ◌<◌, ℕ, List, [], length, map, Option, Some, None}
use Rattle.circ_term.specs.Substitution.{Substitution, instance}
use Rattle.circ_term.specs.Tree.{Tree}
use Rattle.circ_theory.specs.Theory.{Pair, instance_pair}
use Rattle.circ_theory.specs.Rewriting.{by_terms, Replaces, RewritesBy}
use Rattle.circ_theory.specs.Goal.{Goal}
use Rattle.circ_theory.specs.declared.way.Way.{Way}
use Rattle.circ_proof.specs.Plain.{LinkOf}
use Rattle.circ_proof.specs.Link.{Setting, Leads}
use Rattle.circ_nodes.specs.Named.{tree_at}
use Rattle.circ_replay.specs.Rewriting.{AreWithin}
use Rattle.circ_replay.specs.Usage.{IsUse}
use Rattle.circ_shared.specs.declared.patterns.Sides.{Sides}
use Rattle.circ_shared.specs.declared.usage.Use.{Use}
use Rattle.circ_shared.specs.Patterns.{pairs_at, AreThere}

-- a term to which a link leads where the sides of these pairs lead to one term
pub record PlainUse : Type 0 where
  pub term : Tree
  pub conds : List Pair

-- the terms of these numbers
abbrev pub use_at : (nodes : List Tree) → Use → PlainUse
use_at nodes x = record { term = tree_at nodes x.term; conds = pairs_at nodes x.conds.items }

-- what is said of a use that is answered, where it is answered by numbers
abbrev pub OfUse : (nodes : List Tree) → (Option PlainUse → Type 0) → Option Use → Type 0
OfUse nodes P None = P None
OfUse nodes P (Some x) = (x.term < length nodes) × AreThere nodes x.conds.items × P (Some (use_at nodes x))

-- what is said of pairs that are answered, likewise
abbrev pub OfPairs : {X : Type 0} → (X → List Sides) → (nodes : List Tree) → (Option (List Pair) → Type 0) → Option X → Type 0
OfPairs view nodes P None = P None
OfPairs view nodes P (Some x) = AreThere nodes (view x) × P (Some (pairs_at nodes (view x)))

-- what the link leads to and its pairs, or that it leads nowhere
abbrev pub Uses : Setting → LinkOf Tree → Tree → Option PlainUse → Type 0
Uses c l t None = (u : Tree) → Leads c l t u → ⊥
Uses c l t (Some x) = IsUse c l t x.term x.conds

-- One term replaces another, both under the substitution, with the conditions under it, or that is within no limits or not there.
abbrev pub GivesUse : Substitution → (from to : Tree) → (conds : List Pair) → (path : List ℕ) → Tree → Option PlainUse → Type 0
GivesUse σ from to E path t None = (u : Tree) → Replaces t path (instance σ from) (instance σ to) u → AreWithin σ E → ⊥
GivesUse σ from to E path t (Some x) =
    Replaces t path (instance σ from) (instance σ to) x.term × AreWithin σ E × (x.conds ≡ map (instance_pair σ) E)

-- The one term that rewriting by the goal leads to, with its conditions under the substitution, or that there is none within the limits.
abbrev pub GivesRewriting : Goal → Way → (path : List ℕ) → (terms : List Tree) → Tree → Option PlainUse → Type 0
GivesRewriting g way path terms t None = (u : Tree) → RewritesBy g way path terms t u → AreWithin (by_terms g terms) g.conds → ⊥
GivesRewriting g way path terms t (Some x) =
    RewritesBy g way path terms t x.term × AreWithin (by_terms g terms) g.conds × (x.conds ≡ map (instance_pair (by_terms g terms)) g.conds)

-- the number, and no conditions
abbrev pub IsUnconditional : Option ℕ → Option Use → Type 0
IsUnconditional None None = Unit {0}
IsUnconditional None (Some x) = ⊥
IsUnconditional (Some n) None = ⊥
IsUnconditional (Some n) (Some x) = (x.term ≡ n) × (x.conds.items ≡ [])
