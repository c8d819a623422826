-- Pairs of sides that have stood, the last first.
use Rattle.std.proofs.Common.{◌≡◌, ◌↔◌, Bool, true, false, IsTrue, ◌||◌, ◌&&◌, List, [], ◌∷◌, ◌++◌, refl, ap, sym, ◌∙◌}
use Rattle.circ_term.specs.Tree.{Tree}
use Rattle.circ_term.specs.Order.{is_same}
use Rattle.circ_join.proofs.Joins.{not_same, is_same_at}
use Rattle.circ_attempt.specs.Attempt.{Stood, has_stood}
use Rattle.circ_rewriting_turn.specs.Passed.{plain_sides, plain_passed}
use Rattle.circ_rewriting_turn.specs.declared.passed.PassedSides.{PassedSides}

pub passed_push : (ss : List PassedSides) (s : PassedSides) → plain_passed (ss ++ s ∷ []) ≡ plain_sides s ∷ plain_passed ss
passed_push [] s = refl
passed_push (t ∷ ss) s = ap (λ x. x ++ plain_sides t ∷ []) (passed_push ss s)

pub and_false : (a : Bool) → false ≡ (a && false)
and_false true = refl
and_false false = refl

-- a test of equality is the test of the definitions
pub told : (b : Bool) (t u : Tree) → (IsTrue b ↔ (t ≡ u)) → b ≡ is_same t u
told true t u h = sym (is_same_at t u (h.0 refl))
told false t u h = sym (not_same false t u h refl)

or_assoc : (a b c : Bool) → ((a || b) || c) ≡ (a || (b || c))
or_assoc true b c = refl
or_assoc false b c = refl

or_false : (a : Bool) → (a || false) ≡ a
or_false true = refl
or_false false = refl

or_true : (a : Bool) → (a || true) ≡ true
or_true true = refl
or_true false = refl

module _ (s t : Tree) where
  stood_last : (ps : Stood) (p : Tree × Tree) → has_stood s t (ps ++ p ∷ []) ≡ (has_stood s t ps || (is_same s p.0 && is_same t p.1))
  stood_last [] p = or_false (is_same s p.0 && is_same t p.1)
  stood_last (q ∷ ps) p =
      ap (λ b. (is_same s q.0 && is_same t q.1) || b) (stood_last ps p) ∙ sym (or_assoc (is_same s q.0 && is_same t q.1) (has_stood s t ps) (is_same s p.0 && is_same t p.1))

  -- the first of those that are left is such a pair, or the others decide
  pub stood_here : (x : PassedSides) (ss : List PassedSides) → (is_same s x.left && is_same t x.right) ≡ true → has_stood s t (plain_passed (x ∷ ss)) ≡ true
  stood_here x ss e = stood_last (plain_passed ss) (plain_sides x) ∙ ap (λ b. has_stood s t (plain_passed ss) || b) e ∙ or_true (has_stood s t (plain_passed ss))

  pub stood_on : (x : PassedSides) (ss : List PassedSides) → (is_same s x.left && is_same t x.right) ≡ false
      → has_stood s t (plain_passed (x ∷ ss)) ≡ has_stood s t (plain_passed ss)
  stood_on x ss e = stood_last (plain_passed ss) (plain_sides x) ∙ ap (λ b. has_stood s t (plain_passed ss) || b) e ∙ or_false (has_stood s t (plain_passed ss))
