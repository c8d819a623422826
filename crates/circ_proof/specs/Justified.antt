-- When a goal holds by a recorded reason (`Justified`).
use Rattle.std.specs.Prelude.{◌≡◌, ◌<◌, ℕ, List, [], ◌∷◌}
use Rattle.std.specs.List.{Contains}
use Rattle.circ_term.specs.Tree.{Tree, sort_of}
use Rattle.circ_theory.specs.Theory.{Pair, pair_with, CaseList}
use Rattle.circ_theory.specs.Derivable.{is_case}
use Rattle.circ_proof.specs.Plain.{LinkOf, ChainOf, WhyOf, WhysOf, Same_why, Split_why, no_why, more_whys}
use Rattle.circ_proof.specs.Runs.{Runs}
use Rattle.circ_proof.specs.Link.{Setting, assuming, Leads, AllOfLinks}

-- the chain's links, each of which leads from term to term by the relation, lead from one pair to the other
pub record ChainLeads (LeadsBy : LinkOf Tree → Tree → Tree → Type 0) (chain : ChainOf Tree) (p q : Pair) : Type 0 where
  pub left : Runs LeadsBy chain.left p.left q.left
  pub right : Runs LeadsBy chain.right p.right q.right

-- A pair is justified where its sides lead to one term, or to two that are justified in each case of a term.
abbrev mutual
  pub Justified : Setting → Pair → WhyOf Tree → Type 0
  Justified c p (Same_why chain) = (m : Tree) × ChainLeads (Leads c) chain p (pair_with m m)
  Justified c p (Split_why chain u whys) =
      (q : Pair) × ChainLeads (Leads c) chain p q × (l : CaseList) × Contains c.theory.cases l × (sort_of u ≡ l.sort) × EachJustified c q u l l.constants whys

  -- one why for each of these constants, whose case is the last assumption
  pub EachJustified : Setting → Pair → (term : Tree) → CaseList → (constants : List ℕ) → WhysOf Tree → Type 0
  EachJustified c q u l [] no_why = Unit {0}
  EachJustified c q u l [] (more_whys w ws) = ⊥
  EachJustified c q u l (k ∷ ks) no_why = ⊥
  EachJustified c q u l (k ∷ ks) (more_whys w ws) = Justified (assuming c (is_case u l k)) q w × EachJustified c q u l ks ws

-- Each term that a chain names has the property, and so for whys.
abbrev pub AllOfChain : {T : Type 0} → (T → Type 0) → ChainOf T → Type 0
AllOfChain P c = AllOfLinks P c.left × AllOfLinks P c.right

abbrev mutual
  pub AllOfWhy : {T : Type 0} → (T → Type 0) → WhyOf T → Type 0
  AllOfWhy P (Same_why chain) = AllOfChain P chain
  AllOfWhy P (Split_why chain term whys) = AllOfChain P chain × P term × AllOfWhys P whys

  pub AllOfWhys : {T : Type 0} → (T → Type 0) → WhysOf T → Type 0
  AllOfWhys P no_why = Unit {0}
  AllOfWhys P (more_whys w ws) = AllOfWhy P w × AllOfWhys P ws

-- each number of the why is in a table of this length
abbrev pub IsWhyInTable : (count : ℕ) → WhyOf ℕ → Type 0
IsWhyInTable count w = AllOfWhy (λ n. n < count) w
