-- Where no rule has conditions, what a memo answers is the answer with any number of tries around.
use Rattle.std.proofs.Common.{◌≡◌, ℕ, ◌-◌, List, [], ◌∷◌, ◌++◌, length, Result, refl, sym, subst, arith}
use Rattle.std.specs.List.{AllByRecursion}
use Rattle.circ_term.specs.Tree.{Tree}
use Rattle.circ_theory.specs.Theory.{Pair}
use Rattle.circ_rewrite.specs.Due.{AreUnconditional, IsRewriteRule}
use Rattle.circ_rewrite.specs.Norm.{Normalised, norm}
use Rattle.circ_rewrite.specs.Plain.{Answers}
use Rattle.circ_rewrite.specs.declared.fault.RewriteFault.{RewriteFault}
use Rattle.circ_rewrite.specs.declared.parts.Normal.{Normal}
use Rattle.circ_rewrite.specs.declared.parts.Rule.{Rule}
use Rattle.circ_memo.specs.Value.{Rewriting, AnswersValue}
use Rattle.circ_conditional_norm.specs.Norm.{conditional_norm, try_limit}
use Rattle.circ_conditional_norm.proofs.Before.{norm_before}

module _ (r : Rewriting) (all : AreUnconditional r.rules) (tries k left : ℕ) (t : Tree) where
  pub value_untried : (x : Result Tree RewriteFault) → AnswersValue x left (norm r.theory.signature r.rules r.assumptions k t)
      → AnswersValue x left (conditional_norm tries r.theory.signature r.rules r.assumptions k t)
  value_untried x h =
      subst (λ (o : Normalised). AnswersValue x left o) (sym (norm_before r.theory.signature r.rules all r.assumptions (try_limit - tries) k t)) h

  pub normal_untried : (x : Result Normal RewriteFault) → Answers x left (norm r.theory.signature r.rules r.assumptions k t)
      → Answers x left (conditional_norm tries r.theory.signature r.rules r.assumptions k t)
  normal_untried x h = subst (λ (o : Normalised). Answers x left o) (sym (norm_before r.theory.signature r.rules all r.assumptions (try_limit - tries) k t)) h

pub no_conditions : (ps : List Pair) → length ps ≡ 0 → ps ≡ []
no_conditions [] h = refl
no_conditions (p ∷ ps) h = absurd (omega (arith, h))

-- one more rule without conditions
pub more_unconditional : (rules : List Rule) (rule : Rule) → AreUnconditional rules → rule.conds ≡ [] → AreUnconditional (rules ++ rule ∷ [])
more_unconditional [] rule all e = (e, tt)
more_unconditional (r ∷ rules) rule all e = (all.0, more_unconditional rules rule all.1 e)

-- one more rewrite rule
pub rules_push : (rules : List Rule) (rule : Rule) → AllByRecursion IsRewriteRule rules → IsRewriteRule rule → AllByRecursion IsRewriteRule (rules ++ rule ∷ [])
rules_push [] rule all is = (is, tt)
rules_push (r ∷ rules) rule all is = (all.0, rules_push rules rule all.1 is)
