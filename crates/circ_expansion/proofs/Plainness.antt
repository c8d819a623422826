-- Links without conditions.
use Rattle.std.proofs.Common.{◌≡◌, ℕ, List, [], ◌∷◌, map, ap, sym, subst, refl}
use Rattle.std.specs.List.{AllByRecursion}
use Rattle.circ_term.specs.Tree.{Tree}
use Rattle.circ_term.specs.Substitution.{Substitution}
use Rattle.circ_theory.specs.Theory.{Pair}
use Rattle.circ_theory.specs.Goal.{Goal}
use Rattle.circ_proof.specs.Plain.{LinkOf, Equation_link, Hypothesis_link, Assumption_link, Content_link, ChainsOf, no_chain, chains_in}
use Rattle.circ_proof.specs.Plain.{ChainOf, WhyOf, WhysOf, Same_why, Split_why, no_why, more_whys, map_link, map_chain, map_chains, map_why, map_whys}
use Rattle.circ_proof.specs.Link.{Setting, ConditionsLead}
use Rattle.circ_proof.specs.Rules.{ProofStep, Simplify, Reduce, Derive, Cases, Done, map_step}
use Rattle.circ_proof.specs.Proof.{IsPlainLink, IsPlainChain, IsPlainWhy, ArePlainWhys, IsPlainStep}

-- no link has chains of conditions
abbrev pub AreBare : List (LinkOf Tree) → Type 0
AreBare ls = AllByRecursion (λ l. chains_in l ≡ no_chain) ls

abbrev pub IsBareChain : ChainOf Tree → Type 0
IsBareChain c = AreBare c.left × AreBare c.right

abbrev mutual
  pub IsBareWhy : WhyOf Tree → Type 0
  IsBareWhy (Same_why chain) = IsBareChain chain
  IsBareWhy (Split_why chain term whys) = IsBareChain chain × AreBareWhys whys

  pub AreBareWhys : WhysOf Tree → Type 0
  AreBareWhys no_why = Unit {0}
  AreBareWhys (more_whys w ws) = IsBareWhy w × AreBareWhys ws

abbrev pub IsBareStep : ProofStep Tree → Type 0
IsBareStep (Simplify chain) = IsBareChain chain
IsBareStep (Reduce why) = IsBareWhy why
IsBareStep Derive = Unit {0}
IsBareStep (Cases term) = ⊥
IsBareStep Done = Unit {0}

-- no goal has conditions
abbrev pub AreBareGoals : List Goal → Type 0
AreBareGoals gs = AllByRecursion (λ (g : Goal). g.conds ≡ []) gs

-- without chains there are no conditions
pub none_due : (c : Setting) (σ : Substitution) (E : List Pair) (cs : ChainsOf Tree) → cs ≡ no_chain → ConditionsLead c σ E cs → E ≡ []
none_due c σ [] cs e r = refl
none_due c σ (p ∷ E) cs e r = let P : ChainsOf Tree → Type 0 = ConditionsLead c σ (p ∷ E) in absurd (subst P e r)

-- and where there are none, none have to lead to one term
pub none_asked : (c : Setting) (σ : Substitution) (E : List Pair) (cs : ChainsOf Tree) → E ≡ [] → cs ≡ no_chain → ConditionsLead c σ E cs
none_asked c σ E cs n e =
    let P : List Pair → Type 0 = λ x. ConditionsLead c σ x cs in
    let Q : ChainsOf Tree → Type 0 = ConditionsLead c σ [] in
    subst P (sym n) (subst Q (sym e) tt)

-- ---- plain links stay so with the terms of a table for their numbers

link_bare : (f : ℕ → Tree) (l : LinkOf ℕ) → IsPlainLink l → chains_in (map_link f l) ≡ no_chain
link_bare f (Equation_link number way path terms conds) e = ap (map_chains f) e
link_bare f (Hypothesis_link number way path terms conds) e = ap (map_chains f) e
link_bare f (Assumption_link number way path) e = refl
link_bare f (Content_link op path term) e = refl

pub links_bare : (f : ℕ → Tree) (ls : List (LinkOf ℕ)) → AllByRecursion IsPlainLink ls → AreBare (map (map_link f) ls)
links_bare f [] a = tt
links_bare f (l ∷ ls) a = (link_bare f l a.0, links_bare f ls a.1)

chain_bare : (f : ℕ → Tree) (c : ChainOf ℕ) → IsPlainChain c → IsBareChain (map_chain f c)
chain_bare f c a = (links_bare f c.left a.0, links_bare f c.right a.1)

mutual
  why_bare : (f : ℕ → Tree) (w : WhyOf ℕ) → IsPlainWhy w → IsBareWhy (map_why f w)
  why_bare f (Same_why chain) a = chain_bare f chain a
  why_bare f (Split_why chain term whys) a = (chain_bare f chain a.0, whys_bare f whys a.1)

  whys_bare : (f : ℕ → Tree) (ws : WhysOf ℕ) → ArePlainWhys ws → AreBareWhys (map_whys f ws)
  whys_bare f no_why a = tt
  whys_bare f (more_whys w ws) a = (why_bare f w a.0, whys_bare f ws a.1)

step_bare : (f : ℕ → Tree) (s : ProofStep ℕ) → IsPlainStep s → IsBareStep (map_step f s)
step_bare f (Simplify chain) a = chain_bare f chain a
step_bare f (Reduce why) a = why_bare f why a
step_bare f Derive a = tt
step_bare f (Cases term) a = absurd a
step_bare f Done a = tt

pub steps_bare : (f : ℕ → Tree) (ss : List (ProofStep ℕ)) → AllByRecursion IsPlainStep ss → AllByRecursion IsBareStep (map (map_step f) ss)
steps_bare f [] a = tt
steps_bare f (s ∷ ss) a = (step_bare f s a.0, steps_bare f ss a.1)

pub certificates_bare : (f : ℕ → Tree) (lss : List (List (LinkOf ℕ))) → AllByRecursion (λ ls. AllByRecursion IsPlainLink ls) lss
    → AllByRecursion AreBare (map (map (map_link f)) lss)
certificates_bare f [] a = tt
certificates_bare f (ls ∷ lss) a = (links_bare f ls a.0, certificates_bare f lss a.1)
