-- The variables of a derivative's body are distinct: it has one hole, and its parameters are numbered one after another.
use Rattle.std.proofs.Common.{◌≡◌, ◌<◌, ◌+◌, ℕ, true, false, ◌==◌, ◌&&◌, List, [], ◌∷◌, ◌++◌, map, ◌⊎◌, inl, inr, refl, ap, sym, subst, ◌∙◌, arith}
use Rattle.std.specs.List.{AllByRecursion, filter}
use Rattle.std.proofs.lemmas.Bool.{cases_Bool, eqb-true, eqb-false, eq-eqb, ne_eqb, and_parts}
use Rattle.circ_theory.specs.Signature.{Signature}
use Rattle.circ_theory.specs.Theory.{Derivative}
use Rattle.circ_theory.specs.Variables.{Variable, occurrences, AreNumberedFrom}
use Rattle.circ_theory.specs.Observing.{is_hole, is_parameter}
use Rattle.circ_theory.specs.WellFormed.{IsDerivative}
use Rattle.circ_special.proofs.Agreeing.{stands, stands-append, neither}

-- no variable stands again
abbrev pub AreDistinct : List Variable → Type 0
AreDistinct [] = Unit {0}
AreDistinct (v ∷ vs) = (stands v.number v.sort vs ≡ false) × AreDistinct vs

-- two parts have no variable in common
pub record AreApart (vs ws : List Variable) : Type 0 where
  pub first : AreDistinct vs
  pub second : AreDistinct ws
  pub apart : (m k : ℕ) → stands m k vs ≡ true → stands m k ws ≡ false

pub parts_apart : (vs ws : List Variable) → AreDistinct (vs ++ ws) → AreApart vs ws
parts_apart [] ws a = record { first = tt; second = a; apart = λ m k e. absurd (cc) }
parts_apart (v ∷ vs) ws a =
    let rest : AreApart vs ws = parts_apart vs ws a.1 in
    let here = neither (stands v.number v.sort vs) (stands v.number v.sort ws) (sym (stands-append v.number v.sort vs ws) ∙ a.0) in
    record { first = (here.0, rest.first); second = rest.second; apart = λ m k e. go m k e (cases_Bool ((m == v.number) && (k == v.sort))) here.1 rest }
  where
    go : (m k : ℕ) → stands m k (v ∷ vs) ≡ true → (((m == v.number) && (k == v.sort)) ≡ true) ⊎ (((m == v.number) && (k == v.sort)) ≡ false)
        → stands v.number v.sort ws ≡ false → AreApart vs ws → stands m k ws ≡ false
    go m k e (inl same) h rest =
        let both = and_parts (m == v.number) (k == v.sort) same in
        ap (λ x. stands x k ws) (eqb-true m v.number both.0) ∙ ap (λ x. stands v.number x ws) (eqb-true k v.sort both.1) ∙ h
    go m k e (inr other) h rest = rest.apart m k (rw other at e)

-- variables of other numbers
other_number : (m k : ℕ) (v : Variable) (vs : List Variable) → (m == v.number) ≡ false → stands m k vs ≡ false → stands m k (v ∷ vs) ≡ false
other_number m k v vs e h = rw (e, h) refl

no_hole : (k : ℕ) (vs : List Variable) → map (λ v. v.sort) (filter is_hole vs) ≡ [] → stands 0 k vs ≡ false
no_hole k [] e = refl
no_hole k (v ∷ vs) e = elim (cases_Bool (v.number == 0)) [
  | inl z ↦ absurd (let y = rw z at e in cc)
  | inr z ↦ other_number 0 k v vs (ne_eqb 0 v.number (λ x. eqb-false v.number 0 z (sym x))) (no_hole k vs (rw z at e))
]

no_lesser : (k m s : ℕ) (vs : List Variable) → 0 < m → m < k → AreNumberedFrom k (filter is_parameter vs) → stands m s vs ≡ false
no_lesser k m s [] p l a = refl
no_lesser k m s (v ∷ vs) p l a = elim (cases_Bool (v.number == 0)) [
  | inl z ↦
      let zero_number = eqb-true v.number 0 z in
      other_number m s v vs (ne_eqb m v.number (λ e. absurd (omega (arith, e, zero_number)))) (no_lesser k m s vs p l (rw z at a))
  | inr z ↦
      let b : AreNumberedFrom k (v ∷ filter is_parameter vs) = rw z at a in
      other_number m s v vs (ne_eqb m v.number (λ e. absurd (omega (arith, e, b.0)))) (no_lesser (k + 1) m s vs p (omega arith) b.1)
]

-- at most one hole
abbrev HasOneHole : List Variable → Type 0
HasOneHole vs = (h : ℕ) × ((map (λ v. v.sort) (filter is_hole vs) ≡ h ∷ []) ⊎ (map (λ v. v.sort) (filter is_hole vs) ≡ []))

distinct_from : (k : ℕ) (vs : List Variable) → 0 < k → AreNumberedFrom k (filter is_parameter vs) → HasOneHole vs → AreDistinct vs
distinct_from k [] p a e = tt
distinct_from k (v ∷ vs) p a e = elim (cases_Bool (v.number == 0)) [
  | inl z ↦
      let rest : map (λ v. v.sort) (filter is_hole vs) ≡ [] = elim e.1 [
        | inl f ↦ only v.sort (map (λ v. v.sort) (filter is_hole vs)) e.0 (rw z at f)
        | inr f ↦ absurd (let y = rw z at f in cc)
      ] in
      (ap (λ m. stands m v.sort vs) (eqb-true v.number 0 z) ∙ no_hole v.sort vs rest, distinct_from k vs p (rw z at a) (e.0, inr rest))
  | inr z ↦
      let b : AreNumberedFrom k (v ∷ filter is_parameter vs) = rw z at a in
      let rest : (map (λ v. v.sort) (filter is_hole vs) ≡ e.0 ∷ []) ⊎ (map (λ v. v.sort) (filter is_hole vs) ≡ []) = elim e.1 [
        | inl f ↦ inl (rw z at f)
        | inr f ↦ inr (rw z at f)
      ] in
      (ap (λ m. stands m v.sort vs) b.0 ∙ no_lesser (k + 1) k v.sort vs p (omega arith) b.1, distinct_from (k + 1) vs (omega arith) b.1 (e.0, rest))
]
  where
    only : (x : ℕ) (xs : List ℕ) (h : ℕ) → x ∷ xs ≡ h ∷ [] → xs ≡ []
    only x [] h e = refl
    only x (y ∷ ys) h e = absurd (cc)

pub body_distinct : (sig : Signature) (d : Derivative) → IsDerivative sig d → AreDistinct (occurrences d.body)
body_distinct sig d ok = distinct_from 1 (occurrences d.body) (omega arith) ok.numbered (d.hole, inl ok.one_hole)

-- each hole has the hole's sort
abbrev pub IsHoleOfSort : ℕ → Variable → Type 0
IsHoleOfSort h v = v.number ≡ 0 → v.sort ≡ h

holes_are : (h : ℕ) (vs : List Variable) → AllByRecursion (λ k. k ≡ h) (map (λ v. v.sort) (filter is_hole vs)) → AllByRecursion (IsHoleOfSort h) vs
holes_are h [] a = tt
holes_are h (v ∷ vs) a = elim (cases_Bool (v.number == 0)) [
  | inl z ↦ let b : AllByRecursion (λ k. k ≡ h) (v.sort ∷ map (λ v. v.sort) (filter is_hole vs)) = rw z at a in ((λ _. b.0), holes_are h vs b.1)
  | inr z ↦ ((λ e. absurd (let y : (v.number == 0) ≡ true = eq-eqb v.number 0 e in cc)), holes_are h vs (rw z at a))
]

pub body_holes : (sig : Signature) (d : Derivative) → IsDerivative sig d → AllByRecursion (IsHoleOfSort d.hole) (occurrences d.body)
body_holes sig d ok =
    let P : List ℕ → Type 0 = AllByRecursion (λ k. k ≡ d.hole) in
    holes_are d.hole (occurrences d.body) (subst P (sym ok.one_hole) (refl, tt))
