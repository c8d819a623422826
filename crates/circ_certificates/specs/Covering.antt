-- Occurrences of a variable that are guarded from a subterm on, whatever the term around it is.
use Rattle.std.specs.Prelude.{◌≡◌, ◌⊎◌, ℕ, Bool, ◌==◌, ◌&&◌, ◌||◌, not, List, ◌++◌, map, Some}
use Rattle.std.specs.List.{slice_get, filter, filter_map, Contains}
use Rattle.circ_term.specs.Tree.{Tree, Var, sort_of, args_of, at}
use Rattle.circ_theory.specs.Theory.{Derivative, IsHidden, IsVisible}
use Rattle.circ_theory.specs.Observing.{is_hidden}
use Rattle.circ_special.specs.Special.{IsSpecial, place}
use Rattle.circ_special.specs.Guarded.{IsInstanceAt}
use Rattle.circ_special.specs.Fitting.{fits}
use Rattle.circ_nodes.specs.Named.{tree_at}
use Rattle.circ_steps.specs.Judging.{AreRules}
use Rattle.circ_certificates.specs.declared.guard.Asked.{Asked}

-- the rules by number are those of the terms
abbrev pub IsAsked : Asked → Type 0
IsAsked a = AreRules a.nodes.now a.rules

-- the terms of these numbers
abbrev pub numbered_terms : Asked → List ℕ → List Tree
numbered_terms a ns = map (tree_at a.nodes.now) ns

-- An instance at the path q of t counts, of a derivative with this result sort: it is visible, or the path from the root is special. Here says that it is
-- special up to t.
abbrev pub CountsFrom : Asked → (Here : Type 0) → Tree → (sort : ℕ) → (q : List ℕ) → Type 0
CountsFrom a Here t k q = IsVisible a.rules.theory.now k ⊎ (IsHidden a.rules.theory.now k × Here × IsSpecial a.rules.gamma.now t q)

-- The occurrence at the path p of t is guarded from t on: it stands at a special path, or is the hole of an instance that counts.
pub data IsGuardedFrom (a : Asked) (Here : Type 0) (t : Tree) (p : List ℕ) : Type 0 where
  from_place : Here → IsSpecial a.rules.gamma.now t p → IsGuardedFrom a Here t p
  from_instance : (d : Derivative) (q r : List ℕ) → p ≡ q ++ r → IsInstanceAt a.rules.theory.now t a.id a.sort d q r → CountsFrom a Here t (sort_of d.body) q
      → IsGuardedFrom a Here t p

-- the hole of one of these bodies is at the path
abbrev pub HasHoleAt : Asked → (bodies : List Tree) → (p : List ℕ) → Type 0
HasHoleAt a bs p = (b : Tree) × Contains bs b × (at b p ≡ Some (Var 0 a.sort))

-- Each occurrence in t is guarded from t on, or is the hole of one of the bodies.
abbrev pub IsCovered : Asked → (Here : Type 0) → (bodies : List Tree) → Tree → Type 0
IsCovered a Here bs t = (p : List ℕ) → at t p ≡ Some (Var a.id a.sort) → IsGuardedFrom a Here t p ⊎ HasHoleAt a bs p

-- the arguments at a place, of those terms that have one there
abbrev pub below : (place : ℕ) → List Tree → List Tree
below i bs = filter_map (λ b. slice_get (args_of b) i) bs

-- so it is with the arguments of an operator, where the bodies stand at it
abbrev pub AreCovered : Asked → (Here : Type 0) → (op : ℕ) → (bodies ts : List Tree) → Type 0
AreCovered a Here f bs ts =
    (i : ℕ) (t : Tree) → slice_get ts i ≡ Some t → IsCovered a (Here × Contains a.rules.gamma.now (place f i)) (below i bs) t

-- whether an instance of the derivative on the variable is at the root of t, and counts
abbrev pub begins : Asked → (here : Bool) → Tree → Derivative → Bool
begins a here t d =
    (d.hole == a.sort) && ((not (is_hidden a.rules.theory.now (sort_of d.body)) || here) && fits a.id a.sort d.body t)

-- the bodies of those of which one is
abbrev pub begun : Asked → (here : Bool) → Tree → List Derivative → List Tree
begun a here t ds = map (λ d. d.body) (filter (begins a here t) ds)
