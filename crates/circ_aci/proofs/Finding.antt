-- How the code finds a content: by the two arguments at the top, by comparing terms and lists of terms, and by sizes.
use Rattle.std.proofs.Common.{◌≡◌, ◌↔◌, ℕ, ◌==◌, ◌&&◌, not, Bool, true, false, cond, Ordering, Less, Equal, Greater, List, [], ◌∷◌}
use Rattle.std.proofs.Common.{◌++◌, length, Some, None, IsTrue, refl, sym, ap, subst, ◌∙◌, inl, inr}
use Rattle.std.specs.Ordering.{is_eq}
use Rattle.std.proofs.lemmas.Bool.{cases_Bool, cond-true, cond-false, eq-eqb, eqb-true}
use Rattle.std.proofs.lemmas.Option.{same_Some}
use Rattle.circ_term.specs.Tree.{Tree, App, none, more, list_of, trees_of}
use Rattle.circ_term.proofs.Trees.{list_of-trees_of}
use Rattle.circ_term.specs.Order.{is_same, trees_cmp}
use Rattle.circ_term.proofs.Order.{same_here, same_itself, trees_same, trees_equal}
use Rattle.circ_theory.specs.Signature.{Operator}
use Rattle.circ_theory.specs.Theory.{twice}
use Rattle.circ_theory.specs.Operators.{has_mark}
use Rattle.circ_aci.specs.Content.{settled, leaves, content}
use Rattle.circ_aci.specs.Operands.{two_of, operands, marked_operands}

-- a test of equality is the test of the definitions
pub told_same : (s t : Tree) (r : Bool) → (IsTrue r ↔ (s ≡ t)) → r ≡ is_same s t
told_same s t true h = let P : Tree → Type 0 = λ u. true ≡ is_same s u in subst P (h.0 refl) (sym (same_itself s))
told_same s t false h = elim (cases_Bool (is_same s t)) [
  | inl same ↦ absurd (let z : false ≡ true = h.1 (same_here s t same) in cc)
  | inr other ↦ sym other
]

pub lists_told : (xs ys : List Tree) (r : Bool) → r ≡ is_eq (trees_cmp (trees_of xs) (trees_of ys)) → IsTrue r ↔ (xs ≡ ys)
lists_told xs ys r e = (λ t. lists_same (equal_of (trees_cmp (trees_of xs) (trees_of ys)) (sym e ∙ t)), λ s. e ∙ itself s)
  where
    equal_of : (c : Ordering) → is_eq c ≡ true → c ≡ Equal
    equal_of Less q = absurd (cc)
    equal_of Equal q = refl
    equal_of Greater q = absurd (cc)

    lists_same : trees_cmp (trees_of xs) (trees_of ys) ≡ Equal → xs ≡ ys
    lists_same q = sym (list_of-trees_of xs) ∙ ap list_of (trees_equal (trees_of xs) (trees_of ys) q) ∙ list_of-trees_of ys

    itself : xs ≡ ys → is_eq (trees_cmp (trees_of xs) (trees_of ys)) ≡ true
    itself q =
        let P : List Tree → Type 0 = λ zs. is_eq (trees_cmp (trees_of xs) (trees_of zs)) ≡ true in
        subst P q (ap is_eq (trees_same (trees_of xs)))

-- ---- the two arguments

pub two_absent : (ts : List Tree) → (length ts ≡ 2 → ⊥) → two_of (trees_of ts) ≡ None
two_absent [] n = refl
two_absent (a ∷ []) n = refl
two_absent (a ∷ b ∷ []) n = absurd (n refl)
two_absent (a ∷ b ∷ c ∷ ts) n = refl

-- ---- where the operator has no arguments to join

pub content_leaf : (o : Operator) (f : ℕ) (t : Tree) → operands f t ≡ None → content o f t ≡ t ∷ []
content_leaf o f (App g s (more a (more b none))) e = elim (cases_Bool (f == g)) [
  | inl q ↦ absurd (let z : Some (a, b) ≡ None = rw q at e in cc)
  | inr n ↦ rw n refl
]
content_leaf o f t e = refl

pub leaves_leaf : (f : ℕ) (t : Tree) → operands f t ≡ None → leaves f t ≡ t ∷ []
leaves_leaf f (App g s (more a (more b none))) e = elim (cases_Bool (f == g)) [
  | inl q ↦ absurd (let z : Some (a, b) ≡ None = rw q at e in cc)
  | inr n ↦ rw n refl
]
leaves_leaf f t e = refl

-- ---- where it has two

-- f stands on a and b at the top of t
pub record StandsOn (f : ℕ) (t a b : Tree) : Type 0 where
  pub sort : ℕ
  pub is : t ≡ twice f sort a b

pub stands_on : (f : ℕ) (t a b : Tree) → Some (a, b) ≡ operands f t → StandsOn f t a b
stands_on f (App g s (more x (more y none))) a b e = elim (cases_Bool (f == g)) [
  | inl q ↦ let z : Some (a, b) ≡ Some (x, y) = rw q at e in
      let p : (a, b) ≡ (x, y) = same_Some (a, b) (x, y) z in
      record { sort = s; is = ap (λ n. App n s (more x (more y none))) (sym (eqb-true f g q)) ∙ ap (λ v. twice f s v.0 v.1) (sym p) }
  | inr n ↦ absurd (let z : Some (a, b) ≡ None = rw n at e in cc)
]
stands_on f t a b e = absurd (cc)

pub leaves_twice : (f k : ℕ) (a b : Tree) → leaves f (twice f k a b) ≡ leaves f a ++ leaves f b
leaves_twice f k a b = rw (eq-eqb f f refl) refl

-- the content of a marked operator on two terms
abbrev pub content_of_both : Operator → ℕ → Tree → Tree → List Tree
content_of_both o f a b =
    cond (o.idem && not o.assoc && is_same a b) (content o f a) (settled o (cond o.assoc (leaves f a ++ leaves f b) (a ∷ b ∷ [])))

pub content_twice : (o : Operator) (f k : ℕ) (a b : Tree) → has_mark o ≡ true → content o f (twice f k a b) ≡ content_of_both o f a b
content_twice o f k a b m = cond-false _ (twice f k a b ∷ []) (content_of_both o f a b) (rw (eq-eqb f f refl, m) refl)

-- the content of an operator on two arguments, by the marks
pub by_marks : (P : List Tree → Type 0) (o : Operator) (i c r : Bool) (one many few : List Tree)
    → (c ≡ true → P (settled o many))
    → (c ≡ false → i ≡ true → r ≡ true → P one)
    → (c ≡ false → (i ≡ true → r ≡ false) → P (settled o few))
    → P (cond (i && not c && r) one (settled o (cond c many few)))
by_marks P o true true r one many few x y z = x refl
by_marks P o false true r one many few x y z = x refl
by_marks P o false false r one many few x y z = z refl (λ e. absurd (cc))
by_marks P o true false true one many few x y z = y refl refl refl
by_marks P o true false false one many few x y z = z refl (λ e. refl)

pub marked_on : (o : Operator) (f : ℕ) (t a b : Tree) → Some (a, b) ≡ marked_operands o f t → (has_mark o ≡ true) × StandsOn f t a b
marked_on o f t a b e = elim (cases_Bool (has_mark o)) [
  | inl m ↦ (m, stands_on f t a b (rw m at e))
  | inr n ↦ absurd (let z : Some (a, b) ≡ None = rw n at e in cc)
]

content_of_two : (o : Operator) (f : ℕ) (t a b : Tree) → Some (a, b) ≡ marked_operands o f t → content o f t ≡ content_of_both o f a b
content_of_two o f t a b e = let h = marked_on o f t a b e in ap (content o f) h.1.is ∙ content_twice o f h.1.sort a b h.0

-- whether one of two arguments counts, and what both come to
pub content_of_one : (o : Operator) (f : ℕ) (t a b : Tree) → Some (a, b) ≡ marked_operands o f t
    → (r : Bool) → r ≡ (o.idem && not o.assoc && is_same a b) → r ≡ true → content o f a ≡ content o f t
content_of_one o f t a b e r is r_true = sym (content_of_two o f t a b e ∙ cond-true _ (content o f a) _ (sym is ∙ r_true))

pub content_of_parts : (o : Operator) (f : ℕ) (t a b : Tree) → Some (a, b) ≡ marked_operands o f t
    → (r : Bool) → r ≡ (o.idem && not o.assoc && is_same a b) → r ≡ false
    → (ps : List Tree) → ps ≡ cond o.assoc (leaves f a ++ leaves f b) (a ∷ b ∷ []) → settled o ps ≡ content o f t
content_of_parts o f t a b e r is r_false ps q =
    ap (settled o) q ∙ sym (content_of_two o f t a b e ∙ cond-false _ (content o f a) _ (sym is ∙ r_false))
