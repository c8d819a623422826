-- Proofs as plain data, and when one fits a theory (`ProofFor`).
use Rattle.std.specs.Prelude.{◌≡◌, ◌≢◌, ◌⊎◌, ◌≤◌, ◌<◌, ◌+◌, ◌-◌, ◌^◌, ℕ, true, List, [], ◌∷◌, ◌++◌, length, map}
use Rattle.std.specs.List.{AllByRecursion}
use Rattle.circ_term.specs.Tree.{Tree, Var, App, sort_of, list_of}
use Rattle.circ_term.specs.Limits.{IsWithinLimits}
use Rattle.circ_theory.specs.Signature.{IsWellSorted}
use Rattle.circ_theory.specs.Limits.{condition_limit}
use Rattle.circ_theory.specs.Theory.{Theory, Pair, pair_with, goal, IsVisible}
use Rattle.circ_theory.specs.Rewriting.{named}
use Rattle.circ_theory.specs.Goal.{Goal}
use Rattle.circ_special.specs.declared.place.Place.{Place}
use Rattle.circ_special.specs.Special.{IsSet}
use Rattle.circ_proof.specs.Plain.{LinkOf, LinksOf, ChainsOf, Equation_link, Hypothesis_link, Assumption_link, Content_link, no_link, more_links, no_chain, more_chains}
use Rattle.circ_proof.specs.Plain.{ChainOf, chains_in, WhyOf, WhysOf, Same_why, Split_why, no_why, more_whys}
use Rattle.circ_proof.specs.Counting.{why_count}
use Rattle.circ_proof.specs.Nesting.{nesting_limit}
use Rattle.circ_proof.specs.Table.{has, term_limit}
use Rattle.circ_proof.specs.Rules.{ProofStep, Simplify, Reduce, Derive, Cases, Done}
use Rattle.circ_proof.specs.Certified.{due}

-- a goal by the table's numbers of its terms
pub record GoalNames : Type 0 where
  pub conds : List (ℕ × ℕ)
  pub left : ℕ
  pub right : ℕ

-- Goals, with the table's numbers of their terms, and steps.
pub record Block : Type 0 where
  pub goals : List Goal
  pub names : List GoalNames
  pub steps : List (ProofStep ℕ)

-- A table of terms, a special set with its certificates, and blocks, and the version of the text.
pub record Proof : Type 0 where
  pub version : ℕ
  pub table : List Tree
  pub places : List Place
  pub certificates : List (List (LinkOf ℕ))
  pub blocks : List Block

abbrev pub pair_at : (table : List Tree) → ℕ × ℕ → Pair
pair_at table n = pair_with (named table n.0) (named table n.1)

abbrev pub goal_at : (table : List Tree) → GoalNames → Goal
goal_at table n = goal (map (pair_at table) n.conds) (named table n.left) (named table n.right)

-- a number that the text of a proof can hold
abbrev pub IsNumber : ℕ → Type 0
IsNumber n = n < 2 ^ 32

-- at most 1,000 entries, each at most 65,535
abbrev pub IsPath : List ℕ → Type 0
IsPath path = (length path ≤ 1000) × AllByRecursion (λ i. i < 2 ^ 16) path

-- the terms of a link are in a table of this length, and at most so many conditions stand inside one another
abbrev mutual
  pub IsLinkFor : (count depth : ℕ) → LinkOf ℕ → Type 0
  IsLinkFor count depth (Equation_link number way path terms conds) =
      IsNumber number × IsPath path × AllByRecursion (λ n. n < count) terms × AreChainsFor count depth conds
  IsLinkFor count depth (Hypothesis_link number way path terms conds) =
      IsNumber number × IsPath path × AllByRecursion (λ n. n < count) terms × AreChainsFor count depth conds
  IsLinkFor count depth (Assumption_link number way path) = IsNumber number × IsPath path
  IsLinkFor count depth (Content_link op path term) = IsNumber op × IsPath path × (term < count)

  pub IsRowFor : (count depth : ℕ) → LinksOf ℕ → Type 0
  IsRowFor count depth no_link = Unit {0}
  IsRowFor count depth (more_links l ls) = IsLinkFor count depth l × IsRowFor count depth ls

  pub AreChainsFor : (count depth : ℕ) → ChainsOf ℕ → Type 0
  AreChainsFor count depth no_chain = Unit {0}
  AreChainsFor count depth (more_chains l r cs) =
      (1 ≤ depth) × IsRowFor count (depth - 1) l × IsRowFor count (depth - 1) r × AreChainsFor count depth cs

abbrev pub AreLinksFor : (count : ℕ) → List (LinkOf ℕ) → Type 0
AreLinksFor count ls = AllByRecursion (IsLinkFor count nesting_limit) ls

abbrev pub IsChainFor : (count : ℕ) → ChainOf ℕ → Type 0
IsChainFor count c = AreLinksFor count c.left × AreLinksFor count c.right

-- at most so many splits stand inside one another, each of a number of whys that the text can hold
abbrev mutual
  pub IsWhyFor : (count splits : ℕ) → WhyOf ℕ → Type 0
  IsWhyFor count splits (Same_why chain) = IsChainFor count chain
  IsWhyFor count splits (Split_why chain term whys) =
      IsChainFor count chain × (term < count) × (1 ≤ splits) × IsNumber (why_count whys) × AreWhysFor count (splits - 1) whys

  pub AreWhysFor : (count splits : ℕ) → WhysOf ℕ → Type 0
  AreWhysFor count splits no_why = Unit {0}
  AreWhysFor count splits (more_whys w ws) = IsWhyFor count splits w × AreWhysFor count splits ws

-- the most splits inside one another
abbrev pub split_limit : ℕ
split_limit = 8

abbrev pub IsStepFor : (count : ℕ) → ProofStep ℕ → Type 0
IsStepFor count (Simplify chain) = IsChainFor count chain
IsStepFor count (Reduce why) = IsWhyFor count split_limit why
IsStepFor count Derive = Unit {0}
IsStepFor count (Cases term) = term < count
IsStepFor count Done = Unit {0}

-- the last step and no other is Done
abbrev pub IsEnded : List (ProofStep ℕ) → Type 0
IsEnded [] = ⊥
IsEnded (s ∷ []) = s ≡ Done
IsEnded (s ∷ t ∷ ss) = (s ≢ Done) × IsEnded (t ∷ ss)

-- a condition by the table's numbers of its sides: a pair of a visible sort
pub record IsConditionFor (th : Theory) (table : List Tree) (n : ℕ × ℕ) : Type 0 where
  pub left : n.0 < length table
  pub right : n.1 < length table
  pub same_sort : sort_of (named table n.1) ≡ sort_of (named table n.0)
  pub visible : IsVisible th (sort_of (named table n.0))

-- the goal's numbers are in the table, its two sides have one sort, and it has few conditions, which are such
pub record IsNameFor (th : Theory) (table : List Tree) (n : GoalNames) : Type 0 where
  pub left : n.left < length table
  pub right : n.right < length table
  pub same_sort : sort_of (named table n.right) ≡ sort_of (named table n.left)
  pub conds : AllByRecursion (IsConditionFor th table) n.conds
  pub few_conds : length n.conds ≤ condition_limit

pub record IsBlockFor (th : Theory) (table : List Tree) (b : Block) : Type 0 where
  pub some_goal : b.names ≢ []
  pub names : AllByRecursion (IsNameFor th table) b.names
  pub goals : b.goals ≡ map (goal_at table) b.names
  pub steps : AllByRecursion (IsStepFor (length table)) b.steps
  pub ended : IsEnded b.steps

-- a term of the table after the terms before it: each argument of an application is one of these
abbrev pub IsEntry : (before : List Tree) → Tree → Type 0
IsEntry before (Var n s) = IsNumber n
IsEntry before (App f s ts) = AllByRecursion (λ a. has before a ≡ true) (list_of ts)

abbrev pub AreEntries : (before table : List Tree) → Type 0
AreEntries before [] = Unit {0}
AreEntries before (t ∷ ts) = IsEntry before t × AreEntries (before ++ t ∷ []) ts

-- the number of steps, Done included
abbrev pub steps_in : List Block → ℕ
steps_in [] = 0
steps_in (b ∷ bs) = length b.steps + steps_in bs

-- the most steps
abbrev pub step_limit : ℕ
step_limit = 100000

-- ---- what version 1 leaves out

abbrev pub IsPlainLink : LinkOf ℕ → Type 0
IsPlainLink l = chains_in l ≡ no_chain

abbrev pub IsPlainChain : ChainOf ℕ → Type 0
IsPlainChain c = AllByRecursion IsPlainLink c.left × AllByRecursion IsPlainLink c.right

abbrev mutual
  pub IsPlainWhy : WhyOf ℕ → Type 0
  IsPlainWhy (Same_why chain) = IsPlainChain chain
  IsPlainWhy (Split_why chain term whys) = IsPlainChain chain × ArePlainWhys whys

  pub ArePlainWhys : WhysOf ℕ → Type 0
  ArePlainWhys no_why = Unit {0}
  ArePlainWhys (more_whys w ws) = IsPlainWhy w × ArePlainWhys ws

abbrev pub IsPlainStep : ProofStep ℕ → Type 0
IsPlainStep (Simplify chain) = IsPlainChain chain
IsPlainStep (Reduce why) = IsPlainWhy why
IsPlainStep Derive = Unit {0}
IsPlainStep (Cases term) = ⊥
IsPlainStep Done = Unit {0}

pub record IsPlainBlock (b : Block) : Type 0 where
  pub names : AllByRecursion (λ n. n.conds ≡ []) b.names
  pub steps : AllByRecursion IsPlainStep b.steps

-- no goal condition, no link condition and no Cases
pub record IsPlain (p : Proof) : Type 0 where
  pub certificates : AllByRecursion (λ ls. AllByRecursion IsPlainLink ls) p.certificates
  pub blocks : AllByRecursion IsPlainBlock p.blocks

-- The proof fits the theory.
pub record ProofFor (th : Theory) (p : Proof) : Type 0 where
  pub version : ((p.version ≡ 1) × IsPlain p) ⊎ (p.version ≡ 2)
  pub sorted : AllByRecursion (IsWellSorted th.signature) p.table
  pub within : AllByRecursion IsWithinLimits p.table
  pub entries : AreEntries [] p.table
  pub short_table : length p.table ≤ term_limit
  pub places : IsSet th p.places
  pub one_each : length p.certificates ≡ length (due th p.places)
  pub certificates : AllByRecursion (AreLinksFor (length p.table)) p.certificates
  pub some_block : p.blocks ≢ []
  pub blocks : AllByRecursion (IsBlockFor th p.table) p.blocks
  pub few_steps : steps_in p.blocks ≤ step_limit
