-- The terms of a link give back the substitution on all variables of its sides and its conditions.
use Rattle.std.proofs.Common.{◌≡◌, ℕ, Bool, true, false, ◌||◌, List, [], ◌∷◌, refl, ap, sym, ◌∙◌}
use Rattle.std.specs.List.{list_any, AllByRecursion}
use Rattle.circ_term.specs.Tree.{Tree}
use Rattle.circ_term.specs.Substitution.{Substitution, instance}
use Rattle.circ_theory.specs.Theory.{Pair}
use Rattle.circ_theory.specs.Variables.{Variable, is_variable, seen_in, sorted, occurrences, seen_in_pairs, variables_of}
use Rattle.circ_match.specs.Matcher.{has_variable}
use Rattle.circ_match.proofs.Variables.{instance-variable}
use Rattle.circ_rewrite.specs.Due.{terms_by}
use Rattle.circ_rewrite.proofs.Linked.{any_sorted, given_back}
use Rattle.circ_rewrite.proofs.RuleTerms.{any_seen_in, has_variable-occurrences}
use Rattle.circ_theory.specs.Rewriting.{by_terms}
use Rattle.circ_theory.specs.Goal.{Goal}

abbrev is_among : Variable → List Variable → Bool
is_among v vs = list_any (is_variable v) vs

abbrev variable : ℕ → ℕ → Variable
variable n s = record { number = n; sort = s }

or_true : (b : Bool) → (b || true) ≡ true
or_true true = refl
or_true false = refl

stays : (v : Variable) (t : Tree) (us : List Variable) → is_among v us ≡ true → is_among v (seen_in t us) ≡ true
stays v t us h = any_seen_in v t us ∙ ap (λ b. b || is_among v (occurrences t)) h

enters : (n s : ℕ) (t : Tree) (us : List Variable) → has_variable t n s ≡ true → is_among (variable n s) (seen_in t us) ≡ true
enters n s t us h =
    any_seen_in (variable n s) t us
    ∙ ap (λ b. is_among (variable n s) us || b) (sym (has_variable-occurrences t n s) ∙ h)
    ∙ or_true (is_among (variable n s) us)

stays_in_pairs : (v : Variable) (ps : List Pair) (us : List Variable) → is_among v us ≡ true → is_among v (seen_in_pairs ps us) ≡ true
stays_in_pairs v [] us h = h
stays_in_pairs v (p ∷ ps) us h = stays_in_pairs v ps (seen_in p.right (seen_in p.left us)) (stays v p.right (seen_in p.left us) (stays v p.left us h))

-- two substitutions make the same of both sides of each pair
abbrev pub MakeSame : (σ τ : Substitution) → List Pair → Type 0
MakeSame σ τ ps = AllByRecursion (λ p. (instance σ p.left ≡ instance τ p.left) × (instance σ p.right ≡ instance τ p.right)) ps

module _ (σ τ : Substitution) where
  conds_same : (ps : List Pair) (us : List Variable) → ((n s : ℕ) → is_among (variable n s) (seen_in_pairs ps us) ≡ true → σ n s ≡ τ n s) → MakeSame σ τ ps
  conds_same [] us h = tt
  conds_same (p ∷ ps) us h = (
    (
      instance-variable σ τ p.left (λ n s o. h n s (stays_in_pairs (variable n s) ps (seen_in p.right (seen_in p.left us))
          (stays (variable n s) p.right (seen_in p.left us) (enters n s p.left us o)))),
      instance-variable σ τ p.right (λ n s o. h n s (stays_in_pairs (variable n s) ps (seen_in p.right (seen_in p.left us)) (enters n s p.right (seen_in p.left us) o))),
    ),
    conds_same ps (seen_in p.right (seen_in p.left us)) h,
  )

-- the substitution that the terms give makes of the sides and the conditions what σ does
pub record GivesBack (g : Goal) (σ : Substitution) : Type 0 where
  pub left : instance (by_terms g (terms_by σ (sorted (variables_of g)))) g.left ≡ instance σ g.left
  pub right : instance (by_terms g (terms_by σ (sorted (variables_of g)))) g.right ≡ instance σ g.right
  pub conds : MakeSame (by_terms g (terms_by σ (sorted (variables_of g)))) σ g.conds

pub gives_back : (g : Goal) (σ : Substitution) → GivesBack g σ
gives_back g σ = record {
  left = instance-variable given_σ σ g.left
      (λ n s o. there n s (stays_in_pairs (variable n s) g.conds (seen_in g.right (seen_in g.left [])) (stays (variable n s) g.right (seen_in g.left []) (enters n s g.left [] o))));
  right = instance-variable given_σ σ g.right
      (λ n s o. there n s (stays_in_pairs (variable n s) g.conds (seen_in g.right (seen_in g.left [])) (enters n s g.right (seen_in g.left []) o)));
  conds = conds_same given_σ σ g.conds (seen_in g.right (seen_in g.left [])) there;
}
  where
    vs : List Variable
    vs = variables_of g

    given_σ : Substitution
    given_σ = by_terms g (terms_by σ (sorted vs))

    there : (n s : ℕ) → is_among (variable n s) vs ≡ true → given_σ n s ≡ σ n s
    there n s h = given_back σ (sorted vs) n s (any_sorted (is_variable (variable n s)) vs ∙ h)
