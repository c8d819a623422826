-- What following a link of an equation or a hypothesis does is what the link says.
use Rattle.std.proofs.Common.{◌≡◌, ℕ, List, [], ◌∷◌, map, Option, Some, None, Result, Ok, Err, IfOk, sym, subst, ◌∙◌}
use Rattle.std.specs.List.{slice_get}
use Rattle.std.specs.Option.{option_map}
use Rattle.std.proofs.lemmas.Option.{same_Some}
use Rattle.circ_term.specs.Tree.{Tree, sort_of}
use Rattle.circ_term.specs.Substitution.{Substitution}
use Rattle.circ_theory.specs.Theory.{Pair, goal_of, instance_pair, IsHidden}
use Rattle.circ_theory.specs.Rewriting.{by_terms, RewritesBy}
use Rattle.circ_theory.specs.Goal.{Equation}
use Rattle.circ_theory.specs.Goal.{Goal}
use Rattle.circ_theory.specs.declared.way.Way.{Way}
use Rattle.circ_special.specs.Special.{IsSpecial}
use Rattle.circ_proof.specs.Plain.{LinkOf, ChainsOf, Equation_link, Hypothesis_link, no_chain, more_chains, chains_in}
use Rattle.circ_proof.specs.Link.{Setting, EquationLeads, ConditionsLead}
use Rattle.circ_replay.specs.Following.{Follows}
use Rattle.circ_replay.specs.Rewriting.{AreWithin}
use Rattle.circ_replay.specs.Usage.{Use, AllMeet, Uses, unconditional}

-- ---- conditions

-- conditions lead where their sides' instances are within the limits and meet

pub conditions_within : (c : Setting) (σ : Substitution) (E : List Pair) (cs : ChainsOf Tree) → ConditionsLead c σ E cs → AreWithin σ E
conditions_within c σ [] cs r = tt
conditions_within c σ (p ∷ ps) no_chain r = absurd r
conditions_within c σ (p ∷ ps) (more_chains l m cs) r = ((r.0, r.1), conditions_within c σ ps cs r.3)

pub conditions_meet : (c : Setting) (σ : Substitution) (E : List Pair) (cs : ChainsOf Tree) → ConditionsLead c σ E cs → AllMeet c (map (instance_pair σ) E) cs
conditions_meet c σ [] no_chain r = tt
conditions_meet c σ [] (more_chains l m cs) r = absurd r
conditions_meet c σ (p ∷ ps) no_chain r = absurd r
conditions_meet c σ (p ∷ ps) (more_chains l m cs) r = (r.2, conditions_meet c σ ps cs r.3)

pub conditions_lead : (c : Setting) (σ : Substitution) (E : List Pair) (cs : ChainsOf Tree) → AreWithin σ E → AllMeet c (map (instance_pair σ) E) cs
    → ConditionsLead c σ E cs
conditions_lead c σ [] no_chain w r = tt
conditions_lead c σ [] (more_chains l m cs) w r = absurd r
conditions_lead c σ (p ∷ ps) no_chain w r = absurd r
conditions_lead c σ (p ∷ ps) (more_chains l m cs) w r = (w.0.0, w.0.1, r.0, conditions_lead c σ ps cs w.1 r.1)

-- a link without conditions
pub unconditional_uses : (c : Setting) (l : LinkOf Tree) (t : Tree) (o : Option Tree) → chains_in l ≡ no_chain → Follows c l t o
    → Uses c l t (option_map unconditional o)
unconditional_uses c l t None e h = h
unconditional_uses c l t (Some u) e h = record {
  leads = λ m. h;
  only = λ v r. let P : ChainsOf Tree → Type 0 = AllMeet c [] in subst P (sym e) tt;
}

-- ---- rewriting

-- the one term that rewriting by the goal leads to, with its conditions' instances, or that there is none
abbrev pub GivesRewriting : Goal → Way → (path : List ℕ) → (terms : List Tree) → Tree → Option Use → Type 0
GivesRewriting g way path terms t None = (u : Tree) → RewritesBy g way path terms t u → AreWithin (by_terms g terms) g.conds → ⊥
GivesRewriting g way path terms t (Some x) =
    RewritesBy g way path terms t x.term × AreWithin (by_terms g terms) g.conds × (x.conds ≡ map (instance_pair (by_terms g terms)) g.conds)

-- ---- equations

pub equation_uses : {E : Type 0} (c : Setting) (number : ℕ) (e : Equation) (way : Way) (path : List ℕ) (terms : List Tree) (t : Tree) (cs : ChainsOf Tree)
    → Some e ≡ slice_get c.theory.equations number → (r : Result (Option Use) E) → IfOk r (GivesRewriting (goal_of e) way path terms t)
    → IfOk r (Uses c (Equation_link number way path terms cs) t)
equation_uses c number e way path terms t cs there (Err f) h = tt
equation_uses c number e way path terms t cs there (Ok (Some x)) h = record {
  leads = λ m.
      let P : List Pair → Type 0 = λ ps. AllMeet c ps cs in
      (record { equation = e; listed = sym there; rewrites = h.0 }, conditions_lead c (by_terms (goal_of e) terms) e.conds cs h.1 (subst P h.2 m));
  only = λ v r.
      let it : r.0.equation ≡ e = same_Some r.0.equation e (sym r.0.listed ∙ sym there) in
      let P : List Pair → Type 0 = λ ps. AllMeet c ps cs in
      let Q : Equation → Type 0 = λ d. ConditionsLead c (by_terms (goal_of d) terms) d.conds cs in
      subst P (sym h.2) (conditions_meet c (by_terms (goal_of e) terms) e.conds cs (subst Q it r.1));
}
equation_uses c number e way path terms t cs there (Ok None) h = λ u r.
    let it : r.0.equation ≡ e = same_Some r.0.equation e (sym r.0.listed ∙ sym there) in
    let P : Equation → Type 0 = λ d. RewritesBy (goal_of d) way path terms t u in
    let Q : Equation → Type 0 = λ d. ConditionsLead c (by_terms (goal_of d) terms) d.conds cs in
    h u (subst P it r.0.rewrites) (conditions_within c (by_terms (goal_of e) terms) e.conds cs (subst Q it r.1))

-- ---- hypotheses

pub hypothesis_uses : {E : Type 0} (c : Setting) (number : ℕ) (g : Goal) (way : Way) (path : List ℕ) (terms : List Tree) (t : Tree) (cs : ChainsOf Tree)
    → Some g ≡ slice_get c.hypotheses number → (IsHidden c.theory (sort_of g.left) → IsSpecial c.places t path)
    → (r : Result (Option Use) E) → IfOk r (GivesRewriting g way path terms t)
    → IfOk r (Uses c (Hypothesis_link number way path terms cs) t)
hypothesis_uses c number g way path terms t cs there special (Err f) h = tt
hypothesis_uses c number g way path terms t cs there special (Ok (Some x)) h = record {
  leads = λ m.
      let P : List Pair → Type 0 = λ ps. AllMeet c ps cs in (
        record { hypothesis = g; listed = sym there; rewrites = h.0; special = special },
        conditions_lead c (by_terms g terms) g.conds cs h.1 (subst P h.2 m),
      );
  only = λ v r.
      let it : r.0.hypothesis ≡ g = same_Some r.0.hypothesis g (sym r.0.listed ∙ sym there) in
      let P : List Pair → Type 0 = λ ps. AllMeet c ps cs in
      let Q : Goal → Type 0 = λ d. ConditionsLead c (by_terms d terms) d.conds cs in
      subst P (sym h.2) (conditions_meet c (by_terms g terms) g.conds cs (subst Q it r.1));
}
hypothesis_uses c number g way path terms t cs there special (Ok None) h = λ u r.
    let it : r.0.hypothesis ≡ g = same_Some r.0.hypothesis g (sym r.0.listed ∙ sym there) in
    let P : Goal → Type 0 = λ d. RewritesBy d way path terms t u in
    let Q : Goal → Type 0 = λ d. ConditionsLead c (by_terms d terms) d.conds cs in
    h u (subst P it r.0.rewrites) (conditions_within c (by_terms g terms) g.conds cs (subst Q it r.1))
