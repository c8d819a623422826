-- A number has one text, and it is read.
use Rattle.std.specs.Prelude.{◌≡◌, ℕ, ◌+◌, ◌-◌, ◌*◌, ◌/◌, ◌%◌, ◌^◌, ◌<◌, ◌≤◌, ◌==◌, nat_lt, List, [], ◌∷◌, ◌++◌, zero, suc, refl, Option, Some, None, Bool, true, false, if◌then◌else◌, decimal}
use Rattle.std.specs.Char.{is_ascii_digit}
use Rattle.std.proofs.Common.{sym, ◌∙◌, ap, subst, arith, append_assoc, append-nil}
use Rattle.std.proofs.lemmas.Grind.{common_steps}
use Rattle.std.proofs.lemmas.Option.{same_Some}
use Rattle.std.proofs.lemmas.Bool.{eqb-true, eqb-false, le-ltb}
use Rattle.std.proofs.lemmas.Fmt.{decimal_digit, decimal_step, decimal_by_steps}
use Rattle.circ_statement.specs.Words.{Word}
use Rattle.circ_auto.specs.Reading.{digits_on, zero_alone, numeral}

is_digit : (d : ℕ) → d < 10 → is_ascii_digit (48 + d) ≡ true
is_digit d small = grind (arith, common_steps)

digit_above : (b : ℕ) → is_ascii_digit b ≡ true → (48 ≤ b) × (b ≤ 57)
digit_above b e = grind (arith, common_steps)

decimal_more : (n b : ℕ) → 0 < n → 10 * n + (b - 48) < 2 ^ 32 → is_ascii_digit b ≡ true → decimal (10 * n + (b - 48)) ≡ decimal n ++ b ∷ []
decimal_more n b some small e =
    let d : (48 ≤ b) × (b ≤ 57) = digit_above b e in
    let front : (10 * n + (b - 48)) / 10 ≡ n = omega (arith, d.0, d.1) in
    let end : 48 + (10 * n + (b - 48)) % 10 ≡ b = omega (arith, d.0, d.1) in
    decimal_step (10 * n + (b - 48)) (omega arith) (omega arith) ∙ (λ i. decimal (front i) ++ (end i ∷ []))

digits_gives : (n : ℕ) (bs : List ℕ) (m : ℕ) → 0 < n → n < 2 ^ 32 → digits_on n bs ≡ Some m → (decimal n ++ bs ≡ decimal m) × (m < 2 ^ 32)
digits_gives n [] m some fits e =
    let same : n ≡ m = same_Some n m e in (append-nil (decimal n) ∙ ap decimal same, omega (arith, fits, same))
digits_gives n (b ∷ bs) m some fits e =
    go (is_ascii_digit b) (nat_lt 4294967295 (10 * n + (b - 48))) refl refl e (λ l. digits_gives (10 * n + (b - 48)) bs m (omega arith) l)
  where
    go : (t u : Bool) → is_ascii_digit b ≡ t → nat_lt 4294967295 (10 * n + (b - 48)) ≡ u
        → (if t then (if u then None else digits_on (10 * n + (b - 48)) bs) else None) ≡ Some m
        → (10 * n + (b - 48) < 2 ^ 32 → digits_on (10 * n + (b - 48)) bs ≡ Some m → (decimal (10 * n + (b - 48)) ++ bs ≡ decimal m) × (m < 2 ^ 32))
        → (decimal n ++ b ∷ bs ≡ decimal m) × (m < 2 ^ 32)
    go false u d l e ih = absurd (cc)
    go true true d l e ih = absurd (cc)
    go true false d l e ih =
        let small : 10 * n + (b - 48) < 2 ^ 32 = grind (arith, common_steps, l) in
        let h = ih small e in
        (sym (append_assoc (decimal n) (b ∷ []) bs) ∙ ap (λ x. x ++ bs) (sym (decimal_more n b some small d)) ∙ h.0, h.1)

zero_text : decimal 0 ≡ 48 ∷ []
zero_text = decimal_digit 0 (omega arith)

pub numeral_gives : (w : Word) (n : ℕ) → numeral w ≡ Some n → (w ≡ decimal n) × (n < 2 ^ 32)
numeral_gives [] n e = absurd (cc)
numeral_gives (b ∷ bs) n e = go (b == 48) (is_ascii_digit b) (eqb-true b 48) (eqb-false b 48) refl e
  where
    zero_only : (bs : List ℕ) → zero_alone bs ≡ Some n → b ≡ 48 → (b ∷ bs ≡ decimal n) × (n < 2 ^ 32)
    zero_only [] e is =
        let same : 0 ≡ n = same_Some 0 n e in (ap (λ x. x ∷ []) is ∙ sym zero_text ∙ ap decimal same, omega (arith, same))
    zero_only (c ∷ cs) e is = absurd (cc)

    go : (t u : Bool) → (t ≡ true → b ≡ 48) → (t ≡ false → b ≡ 48 → ⊥) → is_ascii_digit b ≡ u
        → (if t then zero_alone bs else if u then digits_on (b - 48) bs else None) ≡ Some n → (b ∷ bs ≡ decimal n) × (n < 2 ^ 32)
    go true u is not d e = zero_only bs e (is refl)
    go false true is not d e =
        let a : (48 ≤ b) × (b ≤ 57) = digit_above b d in
        let some : b ≡ 48 → ⊥ = not refl in
        let spelled : decimal (b - 48) ≡ b ∷ [] = decimal_digit (b - 48) (omega (arith, a.1)) ∙ ap (λ x. x ∷ []) (omega (arith, a.0)) in
        let h = digits_gives (b - 48) bs n (omega (arith, a.0, some)) (omega (arith, a.1)) e in
        (ap (λ ds. ds ++ bs) (sym spelled) ∙ h.0, h.1)
    go false false is not d e = absurd (cc)

first_digit : (n : ℕ) (s : List ℕ) → 0 < n → n < 10 → numeral ((48 + n) ∷ s) ≡ digits_on n s
first_digit n s some small =
    let zero_no : (48 + n == 48) ≡ false = grind (arith, common_steps) in
    let back : 48 + n - 48 ≡ n = omega arith in
    ap (λ t. if t then zero_alone s else if is_ascii_digit (48 + n) then digits_on (48 + n - 48) s else None) zero_no
    ∙ ap (λ t. if t then digits_on (48 + n - 48) s else None) (is_digit n small)
    ∙ ap (λ k. digits_on k s) back

next_digit : (n d : ℕ) (s : List ℕ) → d < 10 → 10 * n + d < 2 ^ 32 → digits_on n ((48 + d) ∷ s) ≡ digits_on (10 * n + d) s
next_digit n d s small fits =
    let back : 10 * n + (48 + d - 48) ≡ 10 * n + d = omega arith in
    ap (λ t. if t then (if nat_lt 4294967295 (10 * n + (48 + d - 48)) then None else digits_on (10 * n + (48 + d - 48)) s) else None)
    (is_digit d small)
    ∙ ap (λ t. if t then None else digits_on (10 * n + (48 + d - 48)) s) (le-ltb 4294967295 (10 * n + (48 + d - 48)) (omega arith))
    ∙ ap (λ k. digits_on k s) back

Starts : ℕ → List ℕ → Type 0
Starts n ds = 0 < n → n < 2 ^ 32 → (s : List ℕ) → numeral (ds ++ s) ≡ digits_on n s

starts : (n : ℕ) → n < 2 ^ 64 → Starts n (decimal n)
unfolding Starts
starts = decimal_by_steps Starts (λ n small some fits s. first_digit n s some small) (λ n ds large before some fits s.
    let same : 10 * (n / 10) + n % 10 ≡ n = omega arith in
    ap numeral (append_assoc ds ((48 + n % 10) ∷ []) s)
    ∙ before (omega arith) (omega arith) ((48 + n % 10) ∷ s)
    ∙ next_digit (n / 10) (n % 10) s (omega arith) (omega arith) ∙ ap (λ k. digits_on k s) same)

pub numeral_again : (n : ℕ) → n < 2 ^ 32 → numeral (decimal n) ≡ Some n
unfolding Starts
numeral_again zero l = ap numeral zero_text
numeral_again (suc k) l = ap numeral (sym (append-nil (decimal (suc k)))) ∙ starts (suc k) (omega arith) (omega arith) (omega arith) []
