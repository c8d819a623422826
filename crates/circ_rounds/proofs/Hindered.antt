-- What hinders a part of an attempt, and what the parts come to under its rules.
use Rattle.std.proofs.Common.{◌≡◌, ℕ, ◌++◌, Bool, List, ap, ◌∙◌}
use Rattle.circ_term.specs.Tree.{Tree}
use Rattle.circ_theory.specs.Theory.{Theory, Pair}
use Rattle.circ_theory.specs.Goal.{Goal}
use Rattle.circ_rewrite.specs.declared.fault.RewriteFault.{RewriteFault}
use Rattle.circ_rewrite.specs.declared.fault.RewriteFault.TheVariants as fault
use Rattle.circ_conditional_norm.specs.Work.{Work}
use Rattle.circ_memo.specs.Value.{Rewriting}
use Rattle.circ_tries.specs.Trying.{Hinders}
use Rattle.circ_plain_search.specs.BlockRules.{block_rules}
use Rattle.circ_conditional_search.specs.Joining.{work_then}
use Rattle.circ_conditional_search.specs.Search.{condition_normaliser}
use Rattle.circ_join.specs.Trying.{normaliser_of}
use Rattle.circ_attempt.specs.Attempt.{both_normal, derived_rules}
use Rattle.circ_attempt.specs.Rules.{HypothesisRule, lemmas_of, first_rule_use}

-- work that is hindered hinders what comes behind it
pub hinders_then : {A B : Type 0} (f : A → ℕ → Work B) (e : RewriteFault) (l : ℕ) (w : Work A) → Hinders e l w → Hinders e l (work_then w f)
hinders_then f fault.Spent l w h = (ap (λ x. work_then x f) h.0, h.1)
hinders_then f (fault.TooBig n) l w h = ap (λ x. work_then x f) h
hinders_then f (fault.TooDeep n) l w h = ap (λ x. work_then x f) h
hinders_then f fault.Memory l w h = tt

-- ---- the reducer of an attempt

module _ (r : Rewriting) (th : Theory) (E : List Goal) (A : List Pair) (theory : r.theory ≡ th) (rules : r.rules ≡ block_rules th E)
    (conditions : r.assumptions ≡ A) where
  -- the reducer
  reducing : r ≡ record { theory = th; rules = block_rules th E; assumptions = A }
  reducing =
      ap (λ x. record { theory = x; rules = r.rules; assumptions = r.assumptions }) theory
      ∙ ap (λ x. record { theory = th; rules = x; assumptions = r.assumptions }) rules
      ∙ ap (λ x. record { theory = th; rules = block_rules th E; assumptions = x }) conditions

  -- how it normalises conditions
  pub normaliser_is : normaliser_of r ≡ condition_normaliser th E A
  normaliser_is = ap normaliser_of reducing

  -- and both sides
  pub normal_is : (s t : Tree) (k : ℕ) → both_normal r.theory r.rules r.assumptions s t k ≡ both_normal th (block_rules th E) A s t k
  normal_is s t k = ap (λ x. both_normal x.theory x.rules x.assumptions s t k) reducing

  -- and what a pass takes under it
  pub taker_is : (H : List Goal) (bs : List Bool) (L O : List HypothesisRule) → L ≡ lemmas_of th 0 E → O ≡ derived_rules E H bs
      → first_rule_use (normaliser_of r) (L ++ O) ≡ first_rule_use (condition_normaliser th E A) (lemmas_of th 0 E ++ derived_rules E H bs)
  taker_is H bs L O lemmas own =
      ap (λ f. first_rule_use f (L ++ O)) normaliser_is ∙ ap (λ x. first_rule_use (condition_normaliser th E A) (x ++ O)) lemmas
      ∙ ap (λ x. first_rule_use (condition_normaliser th E A) (lemmas_of th 0 E ++ x)) own
