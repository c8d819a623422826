-- A goal without conditions under a substitution, and under the terms that this gives its variables in order.
use Rattle.std.proofs.Common.{◌≡◌, ℕ, true, ◌||◌, List, [], ◌∷◌, Some, refl, ap, sym, subst, ◌∙◌}
use Rattle.std.specs.List.{list_any, AllByRecursion}
use Rattle.circ_term.specs.Tree.{Tree, at}
use Rattle.circ_term.specs.Substitution.{Substitution, instance}
use Rattle.circ_theory.specs.Theory.{Theory}
use Rattle.circ_theory.specs.Goal.{Goal}
use Rattle.circ_theory.specs.Variables.{Variable, is_variable, variables_of, seen_in, seen_in_pairs, occurrences, given}
use Rattle.circ_match.specs.Matcher.{has_variable}
use Rattle.circ_match.proofs.Variables.{instance-variable}
use Rattle.circ_rewrite.specs.Due.{terms_by}
use Rattle.circ_rewrite.proofs.RuleTerms.{any_seen_in, has_variable-occurrences}
use Rattle.circ_rewrite.proofs.Linked.{any_sorted, given_back}
use Rattle.circ_plain_search.specs.Joining.{hypothesis_variables}
use Rattle.circ_plain_search.proofs.Terms.{Fine, either, or_left, or_right, same_number, variable_at, at_fine}

abbrev variable : ℕ → ℕ → Variable
variable n s = record { number = n; sort = s }

-- the variables of a goal without conditions are those of its sides
stands : (p : Goal) → p.conds ≡ [] → (n s : ℕ) → list_any (is_variable (variable n s)) (hypothesis_variables p) ≡ (has_variable p.left n s || has_variable p.right n s)
stands p none n s =
    any_sorted (is_variable (variable n s)) (variables_of p)
    ∙ ap (λ E. list_any (is_variable (variable n s)) (seen_in_pairs E (seen_in p.right (seen_in p.left [])))) none
    ∙ any_seen_in (variable n s) p.right (seen_in p.left [])
    ∙ ap (λ b. b || list_any (is_variable (variable n s)) (occurrences p.right)) (any_seen_in (variable n s) p.left [])
    ∙ ap (λ b. b || list_any (is_variable (variable n s)) (occurrences p.right)) (sym (has_variable-occurrences p.left n s))
    ∙ ap (λ b. has_variable p.left n s || b) (sym (has_variable-occurrences p.right n s))

-- the terms give back the instance of what has these variables alone
pub pair_instance : (p : Goal) → p.conds ≡ [] → (σ : Substitution) (x : Tree) → ((n s : ℕ) → has_variable x n s ≡ true → (has_variable p.left n s || has_variable p.right n s) ≡ true)
    → instance (given (hypothesis_variables p) (terms_by σ (hypothesis_variables p))) x ≡ instance σ x
pair_instance p none σ x within =
    instance-variable (given (hypothesis_variables p) (terms_by σ (hypothesis_variables p))) σ x
    (λ n s h. given_back σ (hypothesis_variables p) n s (stands p none n s ∙ within n s h))

pub left_instance : (p : Goal) → p.conds ≡ [] → (σ : Substitution) → instance (given (hypothesis_variables p) (terms_by σ (hypothesis_variables p))) p.left ≡ instance σ p.left
left_instance p none σ = pair_instance p none σ p.left (λ n s h. or_left (has_variable p.left n s) (has_variable p.right n s) h)

pub right_instance : (p : Goal) → p.conds ≡ [] → (σ : Substitution) → instance (given (hypothesis_variables p) (terms_by σ (hypothesis_variables p))) p.right ≡ instance σ p.right
right_instance p none σ = pair_instance p none σ p.right (λ n s h. or_right (has_variable p.left n s) (has_variable p.right n s) h)

each_term : (P : Tree → Type 0) (σ : Substitution) (vs : List Variable) → ((n s : ℕ) → list_any (is_variable (variable n s)) vs ≡ true → P (σ n s))
    → AllByRecursion P (terms_by σ vs)
each_term P σ [] f = tt
each_term P σ (v ∷ vs) f = (
  f v.number v.sort (rw (same_number v.number, same_number v.sort) refl),
  each_term P σ vs (λ n s e. f n s (or_right (is_variable (variable n s) v) (list_any (is_variable (variable n s)) vs) e)),
)

pub pair_terms : (P : Tree → Type 0) (p : Goal) → p.conds ≡ [] → (σ : Substitution) → ((n s : ℕ) → has_variable p.left n s ≡ true → P (σ n s))
    → ((n s : ℕ) → has_variable p.right n s ≡ true → P (σ n s)) → AllByRecursion P (terms_by σ (hypothesis_variables p))
pair_terms P p none σ left right =
    each_term P σ (hypothesis_variables p)
    (λ n s e. either (has_variable p.left n s) (has_variable p.right n s) (sym (stands p none n s) ∙ e) (left n s) (right n s))

-- what a variable is given is fine where the instance is
pub given_fine : (th : Theory) (m : ℕ) (σ : Substitution) (x a : Tree) → instance σ x ≡ a → Fine th m a → (n s : ℕ) → has_variable x n s ≡ true
    → Fine th m (σ n s)
given_fine th m σ x a is f n s h =
    let v = variable_at σ x n s h in
    let P : Tree → Type 0 = λ y. at y v.0 ≡ Some (σ n s) in
    at_fine th m v.0 a (σ n s) f (subst P is v.1)
