-- Candidates as they lie in memory, how they are found, and how those are dropped that are not guarded.
use Rattle.std.specs.Prelude.{◌≡◌, ℕ, List, [], ◌∷◌, ◌++◌, map, Option, Some, None, Vec, Bool, true, false, ◌↔◌, ◌==◌}
use Rattle.std.proofs.Common.{Global}
use Rattle.std.specs.List.{AllByRecursion, Contains}
use Rattle.std.specs.Option.{option_map_or}
use Rattle.circ_term.specs.Tree.{Tree}
use Rattle.circ_theory.specs.Signature.{Operator}
use Rattle.circ_theory.specs.Theory.{Theory, Derivative}
use Rattle.circ_special.specs.declared.place.Place.{Place}
use Rattle.circ_special.specs.Special.{IsPlace, IsIncreasing, IsWithin}
use Rattle.circ_special.specs.Guarded.{Guarded}
use Rattle.circ_needs.specs.Needs.{HasAll}
use Rattle.circ_rewrite.specs.Norm.{Normalised, Normal_form}
use Rattle.circ_rewrite.specs.Plain.{plain_traces}
use Rattle.circ_rewrite.specs.Replacement.{Traced}
use Rattle.circ_rewrite.specs.declared.parts.Normal.{Normal}
use Rattle.circ_rewrite.specs.declared.parts.Trace.{Trace}
use Rattle.circ_proof.specs.Certified.{derivatives_at, due}
use Rattle.circ_plain_search.specs.Greatest.{HasNormalForm, IsCandidate, IsSelfGuarded, AreTraces, GreatestSpecialSet}
use Rattle.circ_plain_search.specs.Keeps.{Keeps}
use Rattle.circ_plain_search.specs.Places.{places_from}
use Rattle.circ_contexts.specs.declared.candidates.Candidate.{Candidate}

-- what contracts see of lists of traces
abbrev pub plain_lists : List (Vec Trace Global) → List (List Traced)
plain_lists vs = map (λ v. plain_traces v.items) vs

-- the arguments of an operator, if there is one
abbrev pub places_at : (f : ℕ) → Option Operator → List Place
places_at f None = []
places_at f (Some o) = places_from f 0 o.args

-- Behind the old items stand those of `whole` that have P, as far as the rest.
pub record AddsKept {X : Type 0} (P : X → Type 0) (whole rest old new : List X) : Type 0 where
  pub added : List X
  pub items : new ≡ old ++ added
  pub kept : (ys : List X) → Keeps P rest ys → Keeps P whole (added ++ ys)

-- ---- normal forms of start terms

-- the normal form that the term comes to, or that it comes to none
abbrev pub ComesTo : Normalised → Option Normal → Type 0
ComesTo o None = (normal : Tree) (traces : List Traced) (left : ℕ) → o ≡ Normal_form normal traces left → ⊥
ComesTo o (Some n) = (left : ℕ) × (o ≡ Normal_form n.term (plain_traces n.traces.items) left)

-- the same without its traces
abbrev pub ComesToTerm : Normalised → Option Tree → Type 0
ComesToTerm o None = (normal : Tree) (traces : List Traced) (left : ℕ) → o ≡ Normal_form normal traces left → ⊥
ComesToTerm o (Some t) = (traces : List Traced) × (left : ℕ) × (o ≡ Normal_form t traces left)

-- whether the derivative, if there is one, takes this sort
abbrev pub takes : Option Derivative → (sort : ℕ) → Bool
takes o s = option_map_or (λ d. d.hole == s) o false

module _ (th : Theory) (budget : ℕ) where
  -- the normal form of the start term, or that it has none
  abbrev pub GivesNormal : Place → Derivative → Option Normal → Type 0
  GivesNormal g d None = (normal : Tree) (traces : List Traced) → HasNormalForm th budget g d normal traces → ⊥
  GivesNormal g d (Some n) = HasNormalForm th budget g d n.term (plain_traces n.traces.items)

  abbrev pub GivesTerm : Place → Derivative → Option Tree → Type 0
  GivesTerm g d None = (normal : Tree) (traces : List Traced) → HasNormalForm th budget g d normal traces → ⊥
  GivesTerm g d (Some t) = (traces : List Traced) × HasNormalForm th budget g d t traces

  -- one for each derivative
  abbrev pub AreNormals : Place → List Derivative → List Normal → Type 0
  AreNormals g [] [] = Unit {0}
  AreNormals g [] (n ∷ ns) = ⊥
  AreNormals g (d ∷ ds) [] = ⊥
  AreNormals g (d ∷ ds) (n ∷ ns) = HasNormalForm th budget g d n.term (plain_traces n.traces.items) × AreNormals g ds ns

  -- those of a place, or that it is no candidate
  abbrev pub GivesNormals : Place → Option (Vec Normal Global) → Type 0
  GivesNormals g None = IsCandidate th budget g → ⊥
  GivesNormals g (Some ns) = AreNormals g (derivatives_at th g) ns.items

  -- the start term of each of these derivatives has a normal form
  abbrev pub HaveNormalForms : Place → List Derivative → Type 0
  HaveNormalForms g ds = (d : Derivative) → Contains ds d → (normal : Tree) × (traces : List Traced) × HasNormalForm th budget g d normal traces

  -- the set guards each normal form of the start terms of a place
  abbrev pub GuardsNormals : (G : List Place) → Place → List Derivative → Type 0
  GuardsNormals G g ds = (d : Derivative) → Contains ds d → (normal : Tree) (traces : List Traced) → (h : HasNormalForm th budget g d normal traces)
      → Guarded th G normal 0 h.place.sort

  -- what is needed for the normal form of one derivative more, where there is one
  abbrev pub AddsNeeds : Place → (sort : ℕ) → Derivative → (old new : List Place) → Bool → Type 0
  AddsNeeds g s d old new true = (normal : Tree) × (traces : List Traced) × HasNormalForm th budget g d normal traces
      × ((G : List Place) → HasAll G new ↔ (HasAll G old × Guarded th G normal 0 s))
  AddsNeeds g s d old new false = (normal : Tree) (traces : List Traced) → HasNormalForm th budget g d normal traces → ⊥

  -- exactly the sets that have these places guard all normal forms of the place
  abbrev pub AreNeeds : Place → (needs : List Place) → Type 0
  AreNeeds g ps = HaveNormalForms g (derivatives_at th g) × ((G : List Place) → HasAll G ps ↔ GuardsNormals G g (derivatives_at th g))

  abbrev pub GivesNeeds : Place → Option (List Place) → Type 0
  GivesNeeds g None = IsCandidate th budget g → ⊥
  GivesNeeds g (Some ps) = AreNeeds g ps

  -- A candidate with its needs.
  pub record IsFound (c : Candidate) : Type 0 where
    pub place : IsPlace th c.place
    pub needs : AreNeeds c.place c.needs

  -- the candidate of a place, or that it is none
  abbrev pub GivesCandidate : Place → Option Candidate → Type 0
  GivesCandidate g None = IsCandidate th budget g → ⊥
  GivesCandidate g (Some c) = (c.place ≡ g) × IsFound c

  -- the traces of a place are written behind the others
  abbrev pub AddsTraces : Place → (old new : List (Vec Trace Global)) → Type 0
  AddsTraces g old new = (ns : List Normal) × AreNormals g (derivatives_at th g) ns × (new ≡ old ++ map (λ n. n.traces) ns)

abbrev pub places_of : List Candidate → List Place
places_of cs = map (λ c. c.place) cs

-- The candidates among places, in order.
pub record AreCandidates (th : Theory) (budget : ℕ) (gs : List Place) (cs : List Candidate) : Type 0 where
  pub kept : Keeps (IsCandidate th budget) gs (places_of cs)
  pub found : AllByRecursion (IsFound th budget) cs

-- ---- dropping

-- the set has what the candidate needs
abbrev pub Passes : (G : List Place) → Candidate → Type 0
Passes G c = HasAll G c.needs

-- What is left in increasing order, among which is each place of each self-guarded set.
pub record StandsAt (th : Theory) (budget : ℕ) (cs : List Candidate) : Type 0 where
  pub increasing : IsIncreasing (places_of cs)
  pub found : AllByRecursion (IsFound th budget) cs
  pub most : (F : List Place) → IsSelfGuarded th budget F → IsWithin F (places_of cs)

-- The same, and each that is left passes.
pub record IsLast (th : Theory) (budget : ℕ) (cs : List Candidate) : Type 0 where
  pub stands : StandsAt th budget cs
  pub passes : AllByRecursion (Passes (places_of cs)) cs

-- The set is of candidates, and with the traces of their start terms it is the greatest.
pub record IsGreatest (th : Theory) (budget : ℕ) (G : List Place) : Type 0 where
  pub candidates : AllByRecursion (IsCandidate th budget) G
  pub greatest : (tss : List (List Traced)) → AreTraces th budget (due th G) tss → GreatestSpecialSet th budget G tss
