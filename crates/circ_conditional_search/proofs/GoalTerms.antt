-- The terms that a substitution gives the variables of a goal and of its conditions, in order.
use Rattle.std.proofs.Common.{◌≡◌, ℕ, true, List, [], ◌∷◌, refl, sym, ◌∙◌}
use Rattle.std.specs.List.{list_any, AllByRecursion}
use Rattle.circ_term.specs.Tree.{Tree}
use Rattle.circ_term.specs.Substitution.{Substitution}
use Rattle.circ_theory.specs.Theory.{Pair}
use Rattle.circ_theory.specs.Variables.{Variable, is_variable, seen_in, sorted, occurrences, seen_in_pairs, variables_of}
use Rattle.circ_match.specs.Matcher.{has_variable}
use Rattle.circ_rewrite.specs.Due.{terms_by}
use Rattle.circ_rewrite.proofs.Linked.{any_sorted}
use Rattle.circ_rewrite.proofs.RuleTerms.{any_seen_in, has_variable-occurrences}
use Rattle.circ_plain_search.proofs.Terms.{either, or_right, same_number}
use Rattle.circ_theory.specs.Goal.{Goal}

abbrev variable : ℕ → ℕ → Variable
variable n s = record { number = n; sort = s }

each_term : (P : Tree → Type 0) (σ : Substitution) (vs : List Variable) → ((n s : ℕ) → list_any (is_variable (variable n s)) vs ≡ true → P (σ n s))
    → AllByRecursion P (terms_by σ vs)
each_term P σ [] f = tt
each_term P σ (v ∷ vs) f = (
  f v.number v.sort (rw (same_number v.number, same_number v.sort) refl),
  each_term P σ vs (λ n s e. f n s (or_right (is_variable (variable n s) v) (list_any (is_variable (variable n s)) vs) e)),
)

module _ (P : (n s : ℕ) → Type 0) where
  -- what holds of each variable of a term
  abbrev pub OfTerm : Tree → Type 0
  OfTerm t = (n s : ℕ) → has_variable t n s ≡ true → P n s

  abbrev pub OfPairs : List Pair → Type 0
  OfPairs ps = AllByRecursion (λ p. OfTerm p.left × OfTerm p.right) ps

  abbrev OfList : List Variable → Type 0
  OfList vs = (n s : ℕ) → list_any (is_variable (variable n s)) vs ≡ true → P n s

  of_seen : (t : Tree) (us : List Variable) → OfList us → OfTerm t → OfList (seen_in t us)
  of_seen t us h f n s e =
      either (list_any (is_variable (variable n s)) us) (list_any (is_variable (variable n s)) (occurrences t)) (sym (any_seen_in (variable n s) t us) ∙ e) (h n s)
      (λ x. f n s (has_variable-occurrences t n s ∙ x))

  of_pairs : (ps : List Pair) (us : List Variable) → OfList us → OfPairs ps → OfList (seen_in_pairs ps us)
  of_pairs [] us h f = h
  of_pairs (p ∷ ps) us h f = of_pairs ps (seen_in p.right (seen_in p.left us)) (of_seen p.right (seen_in p.left us) (of_seen p.left us h f.0.0) f.0.1) f.1

  of_none : OfList []
  of_none n s e = absurd (cc)

  pub of_goal : (g : Goal) → OfTerm g.left → OfTerm g.right → OfPairs g.conds → OfList (variables_of g)
  of_goal g a b c = of_pairs g.conds (seen_in g.right (seen_in g.left [])) (of_seen g.right (seen_in g.left []) (of_seen g.left [] of_none a) b) c

-- what holds of what each variable is given holds of the terms
pub all_terms : (P : Tree → Type 0) (g : Goal) (σ : Substitution) → OfTerm (λ n s. P (σ n s)) g.left → OfTerm (λ n s. P (σ n s)) g.right
    → OfPairs (λ n s. P (σ n s)) g.conds → AllByRecursion P (terms_by σ (sorted (variables_of g)))
all_terms P g σ a b c =
    each_term P σ (sorted (variables_of g))
    (λ n s e. of_goal (λ n s. P (σ n s)) g a b c n s (sym (any_sorted (is_variable (variable n s)) (variables_of g)) ∙ e))
