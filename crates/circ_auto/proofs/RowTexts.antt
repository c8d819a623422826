-- The rows of an automaton's text.
use Rattle.std.specs.Prelude.{◌≡◌, ℕ, ◌+◌, ◌*◌, ◌^◌, ◌<◌, ◌≤◌, ◌==◌, ◌&&◌, zero, suc, List, [], ◌∷◌, ◌++◌, Bool, true, false, length, map, take, drop, decimal, codes, Option, Some, None, Result, Ok, Err, refl, if◌then◌else◌}
use Rattle.std.specs.List.{AllByRecursion}
use Rattle.std.specs.Option.{option_and_then}
use Rattle.std.proofs.Common.{sym, ◌∙◌, ap, subst, arith, length-append}
use Rattle.std.proofs.lemmas.List.{take-append-drop}
use Rattle.std.proofs.lemmas.Bool.{eqb-true, eq-eqb}
use Rattle.circ_statement.specs.Words.{Word}
use Rattle.circ_auto.specs.Reading.{after, front_of, numeral, numbers_in, are_below}
use Rattle.circ_auto.specs.Parts.{or_shape, followed, is_number, behind_state, row_in, rows_part}
use Rattle.circ_auto.specs.Text.{row_words}
use Rattle.circ_auto.proofs.Numerals.{numeral_gives, numeral_again}
use Rattle.circ_auto.proofs.Wording.{after_gives, front_gives, numbers_give, numbers_again, below_all, all_below, all_small}
use Rattle.circ_auto.proofs.Inverting.{ok_same, both, some_there, both_some, if_some}

pub both_true : (a b : Bool) → (a && b) ≡ true → (a ≡ true) × (b ≡ true)
both_true true b e = (refl, e)
both_true false b e = absurd (cc)

pub record RowThen (k n s : ℕ) (ws : List Word) (ts : List ℕ) (r : List Word) : Type 0 where
  pub words : ws ≡ codes "from" ∷ decimal s ∷ map decimal ts ++ codes "." ∷ r
  pub count : length ts ≡ k
  pub below : AllByRecursion (λ t. t < n) ts

number_is : (s : ℕ) (w : Word) → is_number s (numeral w) ≡ true → w ≡ decimal s
number_is s w e = go (numeral w) refl e
  where
    go : (o : Option ℕ) → numeral w ≡ o → is_number s o ≡ true → w ≡ decimal s
    go None f e = absurd (cc)
    go (Some m) f e = (numeral_gives w m f).0 ∙ ap decimal (eqb-true m s e)

row_gives : (k n s : ℕ) (ws : List Word) (ts : List ℕ) (r : List Word) → row_in k n s ws ≡ Some (ts, r) → RowThen k n s ws ts r
row_gives k n s ws ts r e =
    let a = both_some (λ r. if (length r.0 == k) && are_below n r.0 then Some r else None) (option_and_then numbers_in (option_and_then (behind_state s) (after (codes "from") ws))) (ts, r) e in
    let c = if_some ((length a.value.0 == k) && are_below n a.value.0) a.value (ts, r) a.second in
    let t = both_true (length a.value.0 == k) (are_below n a.value.0) c.0 in
    let b = both_some numbers_in (option_and_then (behind_state s) (after (codes "from") ws)) a.value a.first in
    let d = both_some (behind_state s) (after (codes "from") ws) b.value b.first in
    let f = both_some (λ q. if is_number s (numeral q.0) then Some q.1 else None) (front_of d.value) b.value d.second in
    let g = if_some (is_number s (numeral f.value.0)) f.value.1 b.value f.second in
    let from : ws ≡ codes "from" ∷ d.value = after_gives (codes "from") ws d.value d.first in
    let state : d.value ≡ f.value.0 ∷ f.value.1 = front_gives d.value f.value.0 f.value.1 f.first in
    let number : f.value.0 ≡ decimal s = number_is s f.value.0 g.0 in
    let targets : b.value ≡ map decimal a.value.0 ++ codes "." ∷ a.value.1 = (numbers_give b.value a.value.0 a.value.1 b.second).words in
    let P : List ℕ × List Word → Type 0 = λ p. RowThen k n s ws p.0 p.1 in
    subst P c.1 (record {
      words = from ∙ ap (λ x. codes "from" ∷ x) (state ∙ (λ i. number i ∷ (g.1 ∙ targets) i));
      count = eqb-true (length a.value.0) k t.0;
      below = below_all n a.value.0 t.1;
    })

row_again : (k n s : ℕ) (ts : List ℕ) (r : List Word) → s < 2 ^ 32 → n ≤ 1000 → length ts ≡ k → AllByRecursion (λ t. t < n) ts
    → row_in k n s (codes "from" ∷ decimal s ∷ map decimal ts ++ codes "." ∷ r) ≡ Some (ts, r)
row_again k n s ts r fits few count below =
    rw (numeral_again s fits, eq-eqb s s refl, numbers_again ts r (all_small n ts (omega (arith, few)) below), eq-eqb (length ts) k count, all_below n ts below) refl

pub take_front : (ts us : List ℕ) (k : ℕ) → length ts ≡ k → take k (ts ++ us) ≡ ts
take_front [] us zero e = refl
take_front [] us (suc k) e = absurd (omega (arith, e))
take_front (t ∷ ts) us zero e = absurd (omega (arith, e))
take_front (t ∷ ts) us (suc k) e = ap (λ x. t ∷ x) (take_front ts us k (omega (arith, e)))

pub drop_front : (ts us : List ℕ) (k : ℕ) → length ts ≡ k → drop k (ts ++ us) ≡ us
drop_front [] us zero e = refl
drop_front [] us (suc k) e = absurd (omega (arith, e))
drop_front (t ∷ ts) us zero e = absurd (omega (arith, e))
drop_front (t ∷ ts) us (suc k) e = drop_front ts us k (omega (arith, e))

all_joined : (n : ℕ) (ts us : List ℕ) → AllByRecursion (λ t. t < n) ts → AllByRecursion (λ t. t < n) us → AllByRecursion (λ t. t < n) (ts ++ us)
all_joined n [] us a b = b
all_joined n (t ∷ ts) us a b = (a.0, all_joined n ts us a.1 b)

pub record RowsThen (k n rows s : ℕ) (ws : List Word) (ts : List ℕ) (r : List Word) : Type 0 where
  pub words : ws ≡ row_words k rows s ts r
  pub count : length ts ≡ rows * k
  pub below : AllByRecursion (λ t. t < n) ts

pub rows_give : (k n rows s : ℕ) (ws : List Word) (ts : List ℕ) (r : List Word) → rows_part k n rows s ws ≡ Ok (ts, r) → RowsThen k n rows s ws ts r
rows_give k n zero s ws ts r e =
    let same : ◌≡◌ {A = List ℕ × List Word} ([], ws) (ts, r) = ok_same ([], ws) (ts, r) e in
    let P : List ℕ × List Word → Type 0 = λ p. RowsThen k n zero s ws p.0 p.1 in
    subst P same (record { words = refl; count = omega arith; below = tt })
rows_give k n (suc rows) s ws ts r e =
    let a = both (or_shape (6 + s) (row_in k n s ws)) (λ r. followed (rows_part k n rows (s + 1) r.1) (λ t. Ok (r.0 ++ t.0, t.1))) (ts, r) e in
    let row = row_gives k n s ws a.value.0 a.value.1 (some_there (6 + s) (row_in k n s ws) a.value a.first) in
    let b = both (rows_part k n rows (s + 1) a.value.1) (λ t. Ok (a.value.0 ++ t.0, t.1)) (ts, r) a.second in
    let rest = rows_give k n rows (s + 1) a.value.1 b.value.0 b.value.1 b.first in
    let xs = a.value.0 in
    let ys = b.value.0 in
    let same : ◌≡◌ {A = List ℕ × List Word} (xs ++ ys, b.value.1) (ts, r) = ok_same (xs ++ ys, b.value.1) (ts, r) b.second in
    let P : List ℕ × List Word → Type 0 = λ p. RowsThen k n (suc rows) s ws p.0 p.1 in
    let t : take k (xs ++ ys) ≡ xs = take_front xs ys k row.count in
    let d : drop k (xs ++ ys) ≡ ys = drop_front xs ys k row.count in
    subst P same (record {
      words = row.words ∙ ap (λ q. codes "from" ∷ decimal s ∷ map decimal xs ++ codes "." ∷ q) rest.words
          ∙ (λ i. codes "from" ∷ decimal s ∷ map decimal (sym t i) ++ codes "." ∷ row_words k rows (s + 1) (sym d i) b.value.1);
      count = length-append xs ys ∙ omega (arith, row.count, rest.count);
      below = all_joined n xs ys row.below rest.below;
    })

all_taken : (n k : ℕ) (ts : List ℕ) → AllByRecursion (λ t. t < n) ts → AllByRecursion (λ t. t < n) (take k ts) × AllByRecursion (λ t. t < n) (drop k ts)
all_taken n zero ts a = (tt, a)
all_taken n (suc k) [] a = (tt, tt)
all_taken n (suc k) (t ∷ ts) a = let h = all_taken n k ts a.1 in ((a.0, h.0), h.1)

cut_lengths : (k m : ℕ) (ts : List ℕ) → length ts ≡ k + m → (length (take k ts) ≡ k) × (length (drop k ts) ≡ m)
cut_lengths zero m ts e = (refl, omega (arith, e))
cut_lengths (suc k) m [] e = absurd (omega (arith, e))
cut_lengths (suc k) m (t ∷ ts) e = let h = cut_lengths k m ts (omega (arith, e)) in (ap suc h.0, h.1)

pub rows_again : (k n rows s : ℕ) (ts : List ℕ) (r : List Word) → n ≤ 1000 → s + rows ≤ 2 ^ 32 → length ts ≡ rows * k → AllByRecursion (λ t. t < n) ts
    → rows_part k n rows s (row_words k rows s ts r) ≡ Ok (ts, r)
rows_again k n zero s [] r few fits count below = refl
rows_again k n zero s (t ∷ ts) r few fits count below = absurd (omega (arith, count))
rows_again k n (suc rows) s ts r few fits count below =
    let cut = cut_lengths k (rows * k) ts (omega (arith, count)) in
    let all = all_taken n k ts below in
    let rest = row_words k rows (s + 1) (drop k ts) r in
    let row : row_in k n s (row_words k (suc rows) s ts r) ≡ Some (take k ts, rest) = row_again k n s (take k ts) rest (omega (arith, fits)) few cut.0 all.0 in
    let more : rows_part k n rows (s + 1) rest ≡ Ok (drop k ts, r) = rows_again k n rows (s + 1) (drop k ts) r few (omega (arith, fits)) cut.1 all.1 in
    ap (λ o. followed (or_shape (6 + s) o) (λ p. followed (rows_part k n rows (s + 1) p.1) (λ t. Ok (p.0 ++ t.0, t.1)))) row
    ∙ ap (λ p. followed p (λ t. Ok (take k ts ++ t.0, t.1))) more
    ∙ ap (λ xs. Ok (xs, r)) (take-append-drop k ts)
