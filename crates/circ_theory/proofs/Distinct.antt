-- Keys that are told apart by their texts have different texts.
use Rattle.std.proofs.Common.{◌≡◌, ℕ, zero, suc, List, [], ◌∷◌, map, Bool, true, false, Some, nat_eq, sym, ap, subst, refl, ◌∙◌}
use Rattle.std.specs.List.{slice_get, IsDistinct, AllByRecursion}
use Rattle.std.specs.Map.{keys_of}
use Rattle.std.specs.Cmp.Lexicographic.{pointwise, bytes_decides}
use Rattle.circ_form.specs.Form.{text_of}
use Rattle.circ_theory.specs.declared.parts.OpDecl.{OpDecl}
use Rattle.circ_theory.specs.declared.theories.OpKey.{OpKey}
use Rattle.circ_theory.specs.Signature.{Operator}
use Rattle.circ_theory.specs.Theory.{declared}
use Rattle.circ_theory.specs.Names.{AreDifferent, names_of}
use Rattle.circ_theory.specs.Operators.{operator_of, AreDifferentOperators}
use Rattle.circ_theory.specs.Inside.{IsKeyOf, IsEntry, is_same_key}

module _ {K : Type 0} (f : K → List ℕ) where
  abbrev apart : K → K → Bool
  apart a b = pointwise nat_eq (f a) (f b)

  not_later : (k : K) (ks : List K) (n : ℕ) → AllByRecursion (λ y. apart k y ≡ false) ks → slice_get (map f ks) n ≡ Some (f k) → ⊥
  not_later k [] n a e = absurd (cc)
  not_later k (y ∷ ks) zero a e = let q : f y ≡ f k = cc in let t = (bytes_decides (f k) (f y)).1 (sym q) in absurd (let z = sym t ∙ a.0 in cc)
  not_later k (y ∷ ks) (suc n) a e = not_later k ks n a.1 e

  pub different : (ks : List K) → IsDistinct (λ a b. pointwise nat_eq (f a) (f b)) ks → AreDifferent (map f ks)
  unfolding IsDistinct
  different [] d m n w a b = absurd (cc)
  different (k ∷ ks) d zero zero w a b = refl
  different (k ∷ ks) d zero (suc n) w a b = let q : f k ≡ w = cc in absurd (not_later k ks n d.0 (b ∙ ap (λ x. Some x) (sym q)))
  different (k ∷ ks) d (suc m) zero w a b = let q : f k ≡ w = cc in absurd (not_later k ks m d.0 (a ∙ ap (λ x. Some x) (sym q)))
  different (k ∷ ks) d (suc m) (suc n) w a b = ap suc (different ks d.1 m n w a b)

  names_are : {V : Type 0} (v : V → ℕ) (es : List (K × V)) → names_of (map (λ e. declared (f e.0) (v e.1)) es) ≡ map f (keys_of es)
  names_are v [] = refl
  names_are v (e ∷ es) = ap (λ x. f e.0 ∷ x) (names_are v es)

  pub different_names : {V : Type 0} (v : V → ℕ) (es : List (K × V)) → IsDistinct (λ a b. pointwise nat_eq (f a) (f b)) (keys_of es)
      → AreDifferent (names_of (map (λ e. declared (f e.0) (v e.1)) es))
  different_names v es d = let P : List (List ℕ) → Type 0 = AreDifferent in subst P (sym (names_are v es)) (different (keys_of es) d)

-- keys of operators of one form and the same argument sorts are the same
key_again : (k j : OpKey) (o p : Operator) → IsKeyOf k o → IsKeyOf j p → o.form ≡ p.form → o.args ≡ p.args → is_same_key k j ≡ true
key_again k j o p a b f g =
    let form = (bytes_decides k.form.items j.form.items).1 (a.form ∙ ap text_of f ∙ sym b.form) in
    let args = (bytes_decides k.args.items j.args.items).1 (a.args ∙ g ∙ sym b.args) in
    rw (form, args) refl

none_later : (k : OpKey) (o : Operator) (es : List (OpKey × OpDecl)) (n : ℕ) (p : Operator) → IsKeyOf k o → AllByRecursion IsEntry es
    → AllByRecursion (λ j. is_same_key k j ≡ false) (keys_of es) → slice_get (map (λ e. operator_of e.1) es) n ≡ Some p → o.form ≡ p.form → o.args ≡ p.args → ⊥
none_later k o [] n p a all d l f g = absurd (cc)
none_later k o (e ∷ es) zero p a all d l f g =
    let q : operator_of e.1 ≡ p = cc in
    let again = key_again k e.0 o (operator_of e.1) a all.0 (f ∙ ap (λ x. x.form) (sym q)) (g ∙ ap (λ x. x.args) (sym q)) in
    absurd (let z = sym again ∙ d.0 in cc)
none_later k o (e ∷ es) (suc n) p a all d l f g = none_later k o es n p a all.1 d.1 l f g

pub different_operators : (es : List (OpKey × OpDecl)) → AllByRecursion IsEntry es → IsDistinct is_same_key (keys_of es) → AreDifferentOperators (map (λ e. operator_of e.1) es)
unfolding IsDistinct
different_operators [] all d m n o p a b f g = absurd (cc)
different_operators (e ∷ es) all d zero zero o p a b f g = refl
different_operators (e ∷ es) all d zero (suc n) o p a b f g =
    let q : operator_of e.1 ≡ o = cc in
    absurd (none_later e.0 (operator_of e.1) es n p all.0 all.1 d.0 b (ap (λ x. x.form) q ∙ f) (ap (λ x. x.args) q ∙ g))
different_operators (e ∷ es) all d (suc m) zero o p a b f g =
    let q : operator_of e.1 ≡ p = cc in
    absurd (none_later e.0 (operator_of e.1) es m o all.0 all.1 d.0 a (ap (λ x. x.form) q ∙ sym f) (ap (λ x. x.args) q ∙ sym g))
different_operators (e ∷ es) all d (suc m) (suc n) o p a b f g = ap suc (different_operators es all.1 d.1 m n o p a b f g)
