-- Truth values.
use Rattle.std.specs.Prelude.{◌≡◌, Bool, true, false, ◌&&◌, ◌||◌, ◌⊎◌, refl}
use Rattle.std.proofs.Common.{sym, inl, inr}

pub or_false : (c : Bool) → (c || false) ≡ c
or_false true = refl
or_false false = refl

pub or_true : (c : Bool) → (c || true) ≡ true
or_true true = refl
or_true false = refl

pub and_false : (c : Bool) → (c && false) ≡ false
and_false true = refl
and_false false = refl

pub and_true : (c : Bool) → (c && true) ≡ c
and_true true = refl
and_true false = refl

pub or_swap : (c d : Bool) → (c || d) ≡ (d || c)
or_swap true d = sym (or_true d)
or_swap false d = sym (or_false d)

pub or_group : (c d e : Bool) → ((c || d) || e) ≡ (c || (d || e))
or_group true d e = refl
or_group false d e = refl

pub or_twice : (c : Bool) → (c || c) ≡ c
or_twice true = refl
or_twice false = refl

pub and_both : (c d : Bool) → (c && d) ≡ true → (c ≡ true) × (d ≡ true)
and_both true d e = (refl, e)
and_both false d e = absurd (cc)

pub both_and : (c d : Bool) → c ≡ true → d ≡ true → (c && d) ≡ true
both_and c d e f = rw (e, f) refl

pub or_either : (c d : Bool) → (c || d) ≡ true → (c ≡ true) ⊎ (d ≡ true)
or_either true d e = inl refl
or_either false d e = inr e

pub first_or : (c d : Bool) → c ≡ true → (c || d) ≡ true
first_or c d e = rw e refl

pub second_or : (c d : Bool) → d ≡ true → (c || d) ≡ true
second_or c d e = rw e (or_true c)
