-- The kinds of bytes are apart.
use Rattle.std.proofs.Common.{◌≡◌, ℕ, List, ◌∷◌, true, false, ◌||◌, arith}
use Rattle.std.proofs.lemmas.Bool.Decides.{nat_tests}
use Rattle.circ_lexer.specs.Bytes.{is_blank, is_special, is_plain, is_bad, is_in_line, begins_comment}

-- a byte that is neither plain nor bad ends a run
pub stops : (b : ℕ) → is_plain b ≡ false → is_bad b ≡ false → (is_blank b || is_special b) ≡ true
stops b h k = grind (arith, nat_tests)

pub plain_blank : (b : ℕ) → is_plain b ≡ true → is_blank b ≡ false
plain_blank b h = grind (arith, nat_tests)

pub plain_special : (b : ℕ) → is_plain b ≡ true → is_special b ≡ false
plain_special b h = grind (arith, nat_tests)

pub plain_bad : (b : ℕ) → is_plain b ≡ true → is_bad b ≡ false
plain_bad b h = grind (arith, nat_tests)

pub bad_blank : (b : ℕ) → is_bad b ≡ true → is_blank b ≡ false
bad_blank b h = grind (arith, nat_tests)

pub bad_special : (b : ℕ) → is_bad b ≡ true → is_special b ≡ false
bad_special b h = grind (arith, nat_tests)

pub special_blank : (b : ℕ) → is_special b ≡ true → is_blank b ≡ false
special_blank b h = grind (arith, nat_tests)

-- a comment begins with a plain byte, which ends no line
pub mark_plain : (b : ℕ) (bs : List ℕ) → begins_comment (b ∷ bs) ≡ true → is_plain b ≡ true
mark_plain b bs h = grind (arith, nat_tests)

pub mark_in_line : (b : ℕ) (bs : List ℕ) → begins_comment (b ∷ bs) ≡ true → is_in_line b ≡ true
mark_in_line b bs h = grind (arith, nat_tests)
