-- The pairs of sides that have stood.
use Rattle.std.proofs.Common.{◌≡◌, ◌↔◌, ◌&&◌, ℕ, if◌then◌else◌, IsTrue, Bool, true, false, List, [], ◌∷◌, ◌++◌, reverse, None, refl, ap, sym, subst, ◌∙◌}
use Rattle.std.proofs.lemmas.List.{reverse-append}
use Rattle.std.proofs.lemmas.List.Sorted.{list_any-IsPermutation, IsPermutation-reverse}
use Rattle.circ_term.specs.Tree.{Tree}
use Rattle.circ_term.specs.Order.{is_same}
use Rattle.circ_term.proofs.Order.{same_here, same_itself}
use Rattle.circ_conditional_norm.specs.Work.{Made}
use Rattle.circ_plain_search.specs.Search.{Sides}
use Rattle.circ_attempt.specs.Attempt.{Rounds, Stood, has_stood, join_or}

-- what a test for one tree says
pub test_is : (r : Bool) (t u : Tree) → IsTrue r ↔ (t ≡ u) → r ≡ is_same t u
test_is true t u h = sym (subst (λ x. is_same t x ≡ true) (h.0 refl) (same_itself t))
test_is false t u h = go (is_same t u) refl
  where
    go : (b : Bool) → is_same t u ≡ b → false ≡ b
    go true e = absurd (let never : false ≡ true = h.1 (same_here t u e) in cc)
    go false e = refl

-- in which order the pairs are makes no difference
pub stood_reversed : (s t : Tree) (ps : List (Tree × Tree)) (r : Bool) → r ≡ has_stood s t ps → has_stood s t (reverse ps) ≡ r
stood_reversed s t ps r e =
    sym (list_any-IsPermutation (λ p. is_same s p.0 && is_same t p.1) ps (reverse ps) (IsPermutation-reverse ps)) ∙ sym e

-- a pair that is put last is the first of those that have stood
pub stood_more : (s t a b : Tree) (old new : List (Tree × Tree)) → new ≡ old ++ (a, b) ∷ [] → a ≡ s → b ≡ t → (s, t) ∷ reverse old ≡ reverse new
stood_more s t a b old new e left right =
    sym (ap reverse e ∙ reverse-append old ((a, b) ∷ []) ∙ ap (λ x. (x, b) ∷ reverse old) left ∙ ap (λ x. (s, x) ∷ reverse old) right)

pub stood_ends : (ps : Stood) (x : Sides) (again : Rounds) (k : ℕ) → has_stood x.left x.right ps ≡ true → join_or ps x again None k ≡ Made None k
stood_ends ps x again k e = ap (λ b. if b then Made None k else again ((x.left, x.right) ∷ ps) x k) e

pub stood_goes : (ps qs : Stood) (x : Sides) (again : Rounds) (k : ℕ) → has_stood x.left x.right ps ≡ false → (x.left, x.right) ∷ ps ≡ qs
    → join_or ps x again None k ≡ again qs x k
stood_goes ps qs x again k e s =
    ap (λ b. if b then Made None k else again ((x.left, x.right) ∷ ps) x k) e ∙ ap (λ q. again q x k) s
