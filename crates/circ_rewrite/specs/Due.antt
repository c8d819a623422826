-- What is due at the root of a term: the first that applies of an assumption with the term as its left side, the canonical form where
-- it is another term, and a rule whose left side matches. At a variable only an assumption applies. Rules have no conditions here.
use Rattle.std.specs.Prelude.{◌≡◌, ℕ, ◌+◌, true, List, [], ◌∷◌, map, if◌then◌else◌, Option, Some, None, is_some}
use Rattle.std.specs.List.{AllByRecursion}
use Rattle.std.specs.Option.{option_or}
use Rattle.circ_term.specs.Tree.{Tree, Var, App, operator_number}
use Rattle.circ_term.specs.Order.{is_same}
use Rattle.circ_term.specs.Substitution.{Substitution, instance}
use Rattle.circ_theory.specs.Signature.{Signature}
use Rattle.circ_theory.specs.Theory.{Pair, goal}
use Rattle.circ_theory.specs.Rule.{is_bound}
use Rattle.circ_theory.specs.Variables.{Variable, variables_of, sorted}
use Rattle.circ_theory.specs.Goal.{Goal}
use Rattle.circ_aci.specs.Canonical.{canonical_under}
use Rattle.circ_rewrite.specs.Matching.{matching, matches}
use Rattle.circ_rewrite.specs.Replacement.{Replacement, By_rule, By_assumption, By_content, no_pass}
use Rattle.circ_rewrite.specs.declared.parts.Rule.{Rule}

-- an assumption is used as it stands
abbrev pub assumption_due : (number : ℕ) → Pair → Tree → Option Replacement
assumption_due number p t = if is_same p.left t then Some (record { reason = By_assumption number; new = p.right }) else None

-- the first assumption, the outermost of which has this number
abbrev pub assumed : (number : ℕ) → List Pair → Tree → Option Replacement
assumed number [] t = None
assumed number (p ∷ ps) t = option_or (assumption_due number p t) (assumed (number + 1) ps t)

-- the canonical form under the term's operator, where it is another term
abbrev pub content_due : Signature → Tree → Option Replacement
content_due sig (Var n s) = None
content_due sig (App f s ts) =
    if is_same (canonical_under sig f (App f s ts)) (App f s ts) then None
    else Some (record { reason = By_content f (canonical_under sig f (App f s ts)); new = canonical_under sig f (App f s ts) })

-- what a rule says
abbrev pub rule_goal : Rule → Goal
rule_goal r = goal r.conds r.left r.right

-- the variables of a rule, by number, then sort
abbrev pub rule_variables : Rule → List Variable
rule_variables r = sorted (variables_of (rule_goal r))

-- the terms that these are given
abbrev pub terms_by : Substitution → List Variable → List Tree
terms_by σ vs = map (λ v. σ v.number v.sort) vs

-- the instance of the right side, where the left side matches; the rule has no conditions
abbrev pub rule_due : Rule → Tree → Option Replacement
rule_due r t =
    if matches r.left t
    then Some (record { reason = By_rule r.name (terms_by (matching r.left t) (rule_variables r)) no_pass; new = instance (matching r.left t) r.right })
    else None

-- the first rule that applies
abbrev pub ruled : List Rule → Tree → Option Replacement
ruled [] t = None
ruled (r ∷ rs) t = option_or (rule_due r t) (ruled rs t)

abbrev pub due_under : Signature → List Rule → (assumptions : List Pair) → Tree → Option Replacement
due_under sig rs A (Var n s) = assumed 0 A (Var n s)
due_under sig rs A (App f s ts) = option_or (assumed 0 A (App f s ts)) (option_or (content_due sig (App f s ts)) (ruled rs (App f s ts)))

-- What a rule must be: its left side is no variable, and has the variables of its right side and its conditions.
pub record IsRewriteRule (r : Rule) : Type 0 where
  pub application : is_some (operator_number r.left) ≡ true
  pub bound : is_bound (rule_goal r) ≡ true

-- no rule has conditions
abbrev pub AreUnconditional : List Rule → Type 0
AreUnconditional rules = AllByRecursion (λ r. r.conds ≡ []) rules
