-- How a rule is used on a term that the side which it replaces matches.
use Rattle.std.specs.Prelude.{◌≡◌, ℕ, if◌then◌else◌, List, [], ◌∷◌, Option, Some, None, is_some}
use Rattle.circ_term.specs.Tree.{Tree}
use Rattle.circ_term.specs.Subst.{Bound, found, substitution_of}
use Rattle.circ_term.specs.Substitution.{Substitution, instance}
use Rattle.circ_theory.specs.Theory.{sides}
use Rattle.circ_theory.specs.Goal.{Goal}
use Rattle.circ_match.specs.Matcher.{has_variable}
use Rattle.circ_proof.specs.Plain.{plain_chains}
use Rattle.circ_rewrite.specs.Due.{terms_by}
use Rattle.circ_conditional_norm.specs.Tries.{Normaliser, tried}
use Rattle.circ_conditional_norm.specs.Work.{Work, Made, map_found}
use Rattle.circ_plain_search.specs.Joining.{HypothesisUse, hypothesis_variables}
use Rattle.circ_conditional_search.specs.Joining.{use_passing}
use Rattle.circ_join.specs.Binding.{BindsRest, have_pair_variable}
use Rattle.circ_attempt.specs.Rules.{HypothesisRule, may_take, old_side}
use Rattle.circ_own_rules.specs.Rules.{new_side}
use Rattle.circ_own_rules.specs.declared.using.DueRule.{DueRule}

-- the rule's use, by what the side that it replaces is matched with, where it may be taken and its conditions hold
abbrev pub rule_use_by : Normaliser → HypothesisRule → List ℕ → (old : Tree) → Substitution → (budget : ℕ) → Work (Option HypothesisUse)
rule_use_by normal r q t σ k =
    if may_take r (instance σ (new_side r)) t
    then map_found (λ passes. use_passing r.number r.way q (terms_by σ (hypothesis_variables r.hypothesis)) passes (instance σ (new_side r)))
    (tried (Some normal) σ r.hypothesis.conds k)
    else Made None k

-- just the variables of the side that the rule replaces are bound
abbrev pub BindsOld : HypothesisRule → List Bound → Type 0
BindsOld r σ = (n s : ℕ) → is_some (found σ n s) ≡ has_variable (old_side r) n s

-- each variable of the sides that is not bound stands for itself, and then so does each of the conditions
pub record BindsGoal (h : Goal) (σ τ : List Bound) : Type 0 where
  pub between : List Bound
  pub sides : BindsRest (have_pair_variable (sides h ∷ [])) σ between
  pub conds : BindsRest (have_pair_variable h.conds) between τ

-- the instance of the rule's other side takes the place
abbrev pub plain_due : DueRule → HypothesisUse
plain_due d = record {
  number = d.number;
  way = d.way;
  path = d.path.items;
  terms = d.terms.items;
  conds = plain_chains d.conds.items;
  new = instance (substitution_of d.subst) d.new.now;
}
