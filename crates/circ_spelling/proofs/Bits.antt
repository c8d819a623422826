-- Sets of places, as bits.
use Rattle.std.proofs.Common.{◌≡◌, ◌↔◌, ◌<◌, ◌≤◌, ◌-◌, ◌/◌, ◌^◌, ℕ, true, eqb, eqb-true, eq-eqb, bit_and, bit_or, sym, ◌∙◌, ap, arith}
use Rattle.std.specs.Int.{bit_at}
use Rattle.std.proofs.lemmas.Nat.Bits.{bit_at_or, bit_at-lt, bit_at_ones, shr_and_one}
use Rattle.circ_spelling.specs.declared.ends.Ends.{Ends}
use Rattle.circ_spelling.specs.Ends.{Has, Keeps, every_place}

bit_tests : (n m : ℕ) → (eqb (bit_and (n / 2 ^ m) 1) 1 ≡ true) ↔ (bit_at n m ≡ 1)
bit_tests n m = rw shr_and_one (eqb-true _ 1, eq-eqb _ 1)

pub low_tests : (e : Ends) (m : ℕ) → m < 128 → (eqb (bit_and (e.low / 2 ^ m) 1) 1 ≡ true) ↔ Has e m
unfolding Has
low_tests e m l = (λ t. (λ k. (bit_tests e.low m).0 t, λ k q. absurd (omega arith)), λ h. (bit_tests e.low m).1 (h.0 l))

pub high_tests : (e : Ends) (m : ℕ) → 128 ≤ m → m < 256 → (eqb (bit_and (e.high / 2 ^ (m - 128)) 1) 1 ≡ true) ↔ Has e m
unfolding Has
high_tests e m k l = (λ t. (λ q. absurd (omega arith), λ p q. (bit_tests e.high (m - 128)).0 t), λ h. (bit_tests e.high (m - 128)).1 (h.1 k l))

pub far_has : (e : Ends) (m : ℕ) → 256 ≤ m → Has e m
unfolding Has
far_has e m l = (λ q. absurd (omega arith), λ p q. absurd (omega arith))

pub every_has : (m : ℕ) → Has every_place m
unfolding Has
every_has m = (λ q. bit_at_ones 128 m q, λ p q. bit_at_ones 128 (m - 128) (omega arith))

pub low_has : (e : Ends) (m : ℕ) → m < 128 → bit_at e.low m ≡ 1 → Has e m
unfolding Has
low_has e m l h = (λ q. h, λ p q. absurd (omega arith))

pub high_has : (e : Ends) (m : ℕ) → 128 ≤ m → bit_at e.high (m - 128) ≡ 1 → Has e m
unfolding Has
high_has e m l h = (λ q. absurd (omega arith), λ p q. h)

or_left : (a b m : ℕ) → bit_at a m ≡ 1 → bit_at (bit_or a b) m ≡ 1
or_left a b m h = let o = bit_at_or a b m in let l = bit_at-lt b m in omega arith

or_right : (a b m : ℕ) → bit_at b m ≡ 1 → bit_at (bit_or a b) m ≡ 1
or_right a b m h = let o = bit_at_or a b m in let l = bit_at-lt a m in omega arith

-- bits that are added
pub more_keeps : (e new : Ends) (x y : ℕ) → new.low ≡ bit_or e.low x → new.high ≡ bit_or e.high y → Keeps e new
unfolding Has
more_keeps e new x y p q = λ m h. (λ l. ap (λ n. bit_at n m) p ∙ or_left e.low x m (h.0 l), λ k l. ap (λ n. bit_at n (m - 128)) q ∙ or_left e.high y (m - 128) (h.1 k l))

pub low_keeps : (e new : Ends) (x : ℕ) → new.low ≡ bit_or e.low x → new.high ≡ e.high → Keeps e new
unfolding Has
low_keeps e new x p q = λ m h. (λ l. ap (λ n. bit_at n m) p ∙ or_left e.low x m (h.0 l), λ k l. ap (λ n. bit_at n (m - 128)) q ∙ h.1 k l)

pub high_keeps : (e new : Ends) (y : ℕ) → new.low ≡ e.low → new.high ≡ bit_or e.high y → Keeps e new
unfolding Has
high_keeps e new y p q = λ m h. (λ l. ap (λ n. bit_at n m) p ∙ h.0 l, λ k l. ap (λ n. bit_at n (m - 128)) q ∙ or_left e.high y (m - 128) (h.1 k l))

pub others_keeps : (e new : Ends) (x y : ℕ) → new.low ≡ bit_or x e.low → new.high ≡ bit_or y e.high → Keeps e new
unfolding Has
others_keeps e new x y p q = λ m h. (λ l. ap (λ n. bit_at n m) p ∙ or_right x e.low m (h.0 l), λ k l. ap (λ n. bit_at n (m - 128)) q ∙ or_right y e.high (m - 128) (h.1 k l))

-- bits that add nothing
pub within_keeps : (e others : Ends) → bit_or e.low others.low ≡ others.low → bit_or e.high others.high ≡ others.high → Keeps e others
unfolding Has
within_keeps e others p q = λ m h.
    (λ l. sym (ap (λ n. bit_at n m) p) ∙ or_left e.low others.low m (h.0 l), λ k l. sym (ap (λ n. bit_at n (m - 128)) q) ∙ or_left e.high others.high (m - 128) (h.1 k l))
