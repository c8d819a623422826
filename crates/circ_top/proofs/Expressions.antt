-- That the equality of the terms of two expressions can be searched for in LANG.
use Rattle.std.proofs.Common.{◌≡◌, ◌≢◌, ◌≤◌, ◌^◌, max, ℕ, List, [], ◌∷◌, refl, sym, ◌∙◌, subst, arith}
use Rattle.circ_term.specs.Tree.{Tree, sort_of}
use Rattle.circ_term.specs.Limits.{IsWithinLimits}
use Rattle.circ_theory.specs.Signature.{IsWellSorted}
use Rattle.circ_theory.specs.Theory.{goal}
use Rattle.circ_theory.specs.Fresh.{above, fresh_in}
use Rattle.circ_theory.specs.Goal.{Goal}
use Rattle.circ_proof.proofs.Members.{nothing}
use Rattle.circ_conditional_search.specs.ConditionalSearch.{CanAllBeSearched}
use Rattle.circ_regex.specs.Lang.{LANG, lang_sort}
use Rattle.circ_regex.specs.Matches.{Expression, no_word, empty_word, one_letter, either_of, in_turn, any_number, a_letter, b_letter}
use Rattle.circ_regex.specs.Member.{expression_term}
use Rattle.circ_top.specs.Regex.{equality_goals}

-- the term of an expression has no variable
no_variable : (e : Expression) → above (expression_term e) ≡ 0
no_variable no_word = refl
no_variable empty_word = refl
no_variable (one_letter a_letter) = refl
no_variable (one_letter b_letter) = refl
no_variable (either_of e f) = rw (no_variable e, no_variable f) refl
no_variable (in_turn e f) = rw (no_variable e, no_variable f) refl
no_variable (any_number e) = rw (no_variable e) refl

module _ (sorted : (e : Expression) → IsWellSorted LANG.signature (expression_term e)) (sorts : (e : Expression) → sort_of (expression_term e) ≡ lang_sort) (e f : Expression) where
  no_fresh : fresh_in (goal [] (expression_term e) (expression_term f)) ≤ 2 ^ 31
  no_fresh = rw (no_variable e, no_variable f) (omega arith)

  pub equality_searchable : IsWithinLimits (expression_term e) → IsWithinLimits (expression_term f) → CanAllBeSearched LANG (equality_goals e f)
  equality_searchable left right = record {
    some_block = λ n. cc;
    some_goal = ((λ n. cc), tt);
    goals = (
      (
        record {
          sorted = record {
            sorted = record { left = sorted e; right = sorted f; same_sort = sorts f ∙ sym (sorts e) };
            conds = λ p c. nothing p c;
          };
          left_within = left;
          right_within = right;
          conds_within = tt;
          few_conds = omega arith;
          numbers = no_fresh;
        },
        tt,
      ),
      tt,
    );
  }
