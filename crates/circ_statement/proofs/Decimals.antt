-- A number up to 127 has one text, and it is read.
use Rattle.std.specs.Prelude.{◌≡◌, ℕ, ◌+◌, ◌-◌, ◌*◌, ◌/◌, ◌%◌, ◌<◌, ◌≤◌, ◌==◌, [], ◌∷◌, refl, Option, Some, None, Bool, true, false, if◌then◌else◌, decimal}
use Rattle.std.specs.Char.{is_ascii_digit}
use Rattle.std.specs.Option.{option_map, option_and_then}
use Rattle.std.proofs.Common.{sym, ◌∙◌, ap, arith, ◌⊎◌, inl, inr}
use Rattle.std.proofs.lemmas.Grind.{common_steps}
use Rattle.std.proofs.lemmas.Option.{same_Some}
use Rattle.std.proofs.lemmas.Bool.{eqb-true, eqb-false, cases_order}
use Rattle.std.proofs.lemmas.Fmt.{decimal_digit, decimal_step}
use Rattle.circ_statement.specs.Words.{Word}
use Rattle.circ_statement.specs.Reading.{digit_of, two_digits, number_of}

digit_again : (d : ℕ) → d < 10 → digit_of (48 + d) ≡ Some d
digit_again d small =
    let is : is_ascii_digit (48 + d) ≡ true = grind (arith, common_steps) in
    let back : 48 + d - 48 ≡ d = omega arith in
    rw (is, back) refl

-- a digit's number is below 10
record IsDigit (b d : ℕ) : Type 0 where
  small : d < 10
  is : b ≡ 48 + d

digit_gives : (b d : ℕ) → digit_of b ≡ Some d → IsDigit b d
digit_gives b d e = go (is_ascii_digit b) refl e
  where
    go : (t : Bool) → is_ascii_digit b ≡ t → (if t then Some (b - 48) else None) ≡ Some d → IsDigit b d
    go true is e =
        let same : b - 48 ≡ d = same_Some (b - 48) d e in
        let low : 48 ≤ b = grind (arith, common_steps) in
        let high : b ≤ 57 = grind (arith, common_steps) in
        record { small = omega arith; is = omega arith }
    go false is e = absurd (cc)

decimal_two : (t u : ℕ) → 0 < t → t < 10 → u < 10 → decimal (10 * t + u) ≡ (48 + t) ∷ ((48 + u) ∷ [])
decimal_two t u some k l =
    let front : (10 * t + u) / 10 ≡ t = omega arith in
    let end : (10 * t + u) % 10 ≡ u = omega arith in
    decimal_step (10 * t + u) (omega arith) (omega arith) ∙ rw (front, end, decimal_digit t k) refl

decimal_three : (t u : ℕ) → t < 10 → u < 10 → decimal (100 + (10 * t + u)) ≡ 49 ∷ ((48 + t) ∷ ((48 + u) ∷ []))
decimal_three t u k l =
    let front : (100 + (10 * t + u)) / 10 ≡ 10 * 1 + t = omega arith in
    let end : (100 + (10 * t + u)) % 10 ≡ u = omega arith in
    decimal_step (100 + (10 * t + u)) (omega arith) (omega arith) ∙ rw (front, end, decimal_two 1 t (omega arith) (omega arith) k) refl

two_again : (t u : ℕ) → t < 10 → u < 10 → two_digits (48 + t) (48 + u) ≡ Some (10 * t + u)
two_again t u k l = rw (digit_again t k, digit_again u l) refl

-- the two digits of a number
record AreDigits (b c n : ℕ) : Type 0 where
  tens : ℕ
  ones : ℕ
  is_tens : IsDigit b tens
  is_ones : IsDigit c ones
  is : n ≡ 10 * tens + ones

two_gives : (b c n : ℕ) → two_digits b c ≡ Some n → AreDigits b c n
two_gives b c n e = go (digit_of b) (digit_of c) refl refl e
  where
    go : (o p : Option ℕ) → digit_of b ≡ o → digit_of c ≡ p → option_and_then (λ tens. option_map (λ ones. 10 * tens + ones) p) o ≡ Some n → AreDigits b c n
    go None p x y e = absurd (cc)
    go (Some t) None x y e = absurd (cc)
    go (Some t) (Some u) x y e = record { tens = t; ones = u; is_tens = digit_gives b t x; is_ones = digit_gives c u y; is = sym (same_Some (10 * t + u) n e) }

pub number_again : (n : ℕ) → n ≤ 127 → number_of (decimal n) ≡ Some n
number_again n small = go (cases_order n 10) (cases_order n 100)
  where
    two : (m : ℕ) → m < 100 → two_digits (48 + m / 10) (48 + m % 10) ≡ Some m
    two m l = two_again (m / 10) (m % 10) (omega arith) (omega arith) ∙ ap Some (omega arith)

    large : 10 ≤ n → n < 100 → number_of (decimal n) ≡ Some n
    large l m =
        let same : 10 * (n / 10) + n % 10 ≡ n = omega arith in
        let spelled : decimal n ≡ (48 + n / 10) ∷ ((48 + n % 10) ∷ []) = ap decimal (sym same) ∙ decimal_two (n / 10) (n % 10) (omega arith) (omega arith) (omega arith) in
        let some : (48 + n / 10 == 48) ≡ false = grind (arith, common_steps) in
        ap number_of spelled ∙ rw some (two n m)

    huge : 100 ≤ n → number_of (decimal n) ≡ Some n
    huge l =
        let m = n - 100 in
        let same : 100 + (10 * (m / 10) + m % 10) ≡ n = omega arith in
        let spelled : decimal n ≡ 49 ∷ ((48 + m / 10) ∷ ((48 + m % 10) ∷ [])) = ap decimal (sym same) ∙ decimal_three (m / 10) (m % 10) (omega arith) (omega arith) in
        let back : 100 + m ≡ n = omega arith in
        ap number_of spelled ∙ rw (two m (omega arith)) (ap Some back)

    go : (n ≡ 10) ⊎ ((n < 10) ⊎ (10 < n)) → (n ≡ 100) ⊎ ((n < 100) ⊎ (100 < n)) → number_of (decimal n) ≡ Some n
    go (inr (inl less)) p = ap number_of (decimal_digit n less) ∙ digit_again n less
    go (inl same) p = large (omega arith) (omega arith)
    go (inr (inr more)) (inl same) = huge (omega arith)
    go (inr (inr more)) (inr (inl less)) = large (omega arith) less
    go (inr (inr more)) (inr (inr most)) = huge (omega arith)

pub number_gives : (w : Word) (n : ℕ) → number_of w ≡ Some n → w ≡ decimal n
number_gives [] n e = absurd (cc)
number_gives (c ∷ []) n e = let d = digit_gives c n e in ap (λ b. b ∷ []) d.is ∙ sym (decimal_digit n d.small)
number_gives (b ∷ (c ∷ [])) n e = go (b == 48) (eqb-false b 48) e
  where
    go : (t : Bool) → (t ≡ false → b ≡ 48 → ⊥) → (if t then None else two_digits b c) ≡ Some n → b ∷ (c ∷ []) ≡ decimal n
    go true h e = absurd (cc)
    go false h e =
        let d = two_gives b c n e in
        let no : b ≡ 48 → ⊥ = h refl in
        let some : 0 < d.tens = omega (arith, d.is_tens.is, no) in
        (λ i. d.is_tens.is i ∷ (d.is_ones.is i ∷ [])) ∙ sym (decimal_two d.tens d.ones some d.is_tens.small d.is_ones.small) ∙ ap decimal (sym d.is)
number_gives (a ∷ (b ∷ (c ∷ []))) n e = go (a == 49) (eqb-true a 49) (two_digits b c) refl e
  where
    go : (t : Bool) → (t ≡ true → a ≡ 49) → (o : Option ℕ) → two_digits b c ≡ o → (if t then option_map (λ m. 100 + m) o else None) ≡ Some n → a ∷ (b ∷ (c ∷ [])) ≡ decimal n
    go false h o x e = absurd (cc)
    go true h None x e = absurd (cc)
    go true h (Some m) x e =
        let d = two_gives b c m x in
        let first : a ≡ 49 = h refl in
        let whole : n ≡ 100 + (10 * d.tens + d.ones) = sym (same_Some (100 + m) n e) ∙ ap (λ k. 100 + k) d.is in
        (λ i. first i ∷ (d.is_tens.is i ∷ (d.is_ones.is i ∷ []))) ∙ sym (decimal_three d.tens d.ones d.is_tens.small d.is_ones.small) ∙ ap decimal (sym whole)
number_gives (a ∷ (b ∷ (c ∷ (d ∷ w)))) n e = absurd (cc)
