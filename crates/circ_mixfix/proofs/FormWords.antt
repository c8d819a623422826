-- The words of a form are tokens, and so are decimal numbers.
use Rattle.std.proofs.Common.{◌≡◌, ◌≢◌, ◌⊎◌, inl, inr, ◌==◌, ◌||◌, ℕ, zero, suc, ◌<◌, ◌/◌, ◌%◌, List, [], ◌∷◌, Bool, true, false, None, cond, refl, subst, arith}
use Rattle.std.proofs.lemmas.Bool.Decides.{nat_tests}
use Rattle.std.specs.List.{list_all, list_any, AllByRecursion, Contains}
use Rattle.std.specs.Fmt.{digit_glyph, digits_onto, digits, decimal}
use Rattle.circ_lexer.specs.Bytes as bytes
use Rattle.circ_lexer.specs.Bytes.{is_plain, begins_comment}
use Rattle.circ_lexer.specs.TokenList.{IsToken, special_token, run_token}
use Rattle.circ_form.specs.declared.forms.Piece.{Piece}
use Rattle.circ_form.specs.declared.forms.Piece.TheVariants.{Hole, Word}
use Rattle.circ_form.specs.Form.{is_hole, is_bracket, starts_with_bracket, before, pieces_of, is_bad_byte, is_reserved, is_bad_word, is_bad_piece, is_word, form_fault, text_of, IsForm}

pub or_false : (a b : Bool) → (a || b) ≡ false → (a ≡ false) × (b ≡ false)
or_false true b e = absurd (cc)
or_false false b e = (refl, e)

-- a bracket, or bytes without one
abbrev IsCutWord : List ℕ → Type 0
IsCutWord w = ((b : ℕ) × (w ≡ b ∷ []) × (is_bracket b ≡ true)) ⊎ ((w ≢ []) × (list_any is_bracket w ≡ false))

abbrev IsCutPiece : Piece → Type 0
IsCutPiece Hole = Unit {0}
IsCutPiece (Word w) = IsCutWord w

single : (b : ℕ) → is_bracket b ≡ false → IsCutWord (b ∷ [])
single b e = inr (λ z. cc, rw e refl)

before_cut : (b : ℕ) (ps : List Piece) → is_bracket b ≡ false → AllByRecursion IsCutPiece ps → AllByRecursion IsCutPiece (before b ps)
before_cut b [] e h = (single b e, tt)
before_cut b (Hole ∷ ps) e h = (single b e, h)
before_cut b (Word w ∷ ps) e h = go (starts_with_bracket w) refl h.0
  where
    go : (r : Bool) → starts_with_bracket w ≡ r → IsCutWord w → AllByRecursion IsCutPiece (before b (Word w ∷ ps))
    go true s k = rw s (single b e, h)
    go false s (inl k) = absurd (let z = rw (k.1) at s in let y = rw (k.2) at z in cc)
    go false s (inr k) = rw s (inr (λ z. cc, rw e k.1), h.1)

pieces_cut : (bs : List ℕ) → AllByRecursion IsCutPiece (pieces_of bs)
pieces_cut [] = tt
pieces_cut (b ∷ bs) = go (is_hole b) (is_bracket b) refl refl (pieces_cut bs)
  where
    go : (h k : Bool) → is_hole b ≡ h → is_bracket b ≡ k → AllByRecursion IsCutPiece (pieces_of bs) → AllByRecursion IsCutPiece (pieces_of (b ∷ bs))
    go true k e f c = rw e (tt, c)
    go false true e f c = rw (e, f) (inl (b, refl, f), c)
    go false false e f c = rw (e, f) (before_cut b (pieces_of bs) f c)

-- a byte of a word that is no bracket
byte_plain : (b : ℕ) → is_bad_byte b ≡ false → is_bracket b ≡ false → is_plain b ≡ true
byte_plain b e f = grind (arith, nat_tests)

bytes_plain : (w : List ℕ) → list_any is_bad_byte w ≡ false → list_any is_bracket w ≡ false → list_all is_plain w ≡ true
bytes_plain [] e f = refl
bytes_plain (b ∷ w) e f =
    let k = or_false (is_bad_byte b) (list_any is_bad_byte w) e in
    let l = or_false (is_bracket b) (list_any is_bracket w) f in
    rw (byte_plain b k.0 l.0) (bytes_plain w k.1 l.1)

bracket_special : (b : ℕ) → is_bracket b ≡ true → bytes.is_special b ≡ true
bracket_special b e = grind (arith, nat_tests)

word_token : (w : List ℕ) → IsCutWord w → list_any is_bad_byte w ≡ false → begins_comment w ≡ false → IsToken w
word_token w (inl k) bad front = rw (k.1) (special_token k.0 (bracket_special k.0 k.2))
word_token w (inr k) bad front = run_token w k.0 (bytes_plain w bad k.1) front

-- What stands in the text of a form: each word is a token.
abbrev pub IsTokenPiece : Piece → Type 0
IsTokenPiece Hole = Unit {0}
IsTokenPiece (Word w) = IsToken w

words_tokens : (ps : List Piece) → AllByRecursion IsCutPiece ps → list_any is_bad_piece ps ≡ false → ((w : List ℕ) → Contains ps (Word w) → begins_comment w ≡ false) → AllByRecursion IsTokenPiece ps
words_tokens [] c bad front = tt
words_tokens (Hole ∷ ps) c bad front = (tt, words_tokens ps c.1 bad (λ w k. front w (suc k.0, omega arith, k.2)))
words_tokens (Word w ∷ ps) c bad front =
    let k = or_false (is_bad_word w) (list_any is_bad_piece ps) bad in (
      word_token w c.0 (or_false (is_reserved w) (list_any is_bad_byte w) k.0).1 (front w (0, omega arith, refl)),
      words_tokens ps c.1 k.1 (λ v m. front v (suc m.0, omega arith, m.2)),
    )

pub no_bad_piece : (text : List ℕ) → form_fault text ≡ None → list_any is_bad_piece (pieces_of text) ≡ false
no_bad_piece text e = go (list_any is_word (pieces_of text)) (list_any is_bad_piece (pieces_of text)) refl refl
  where
    go : (h k : Bool) → list_any is_word (pieces_of text) ≡ h → list_any is_bad_piece (pieces_of text) ≡ k → list_any is_bad_piece (pieces_of text) ≡ false
    go false k e1 e2 = absurd (let z = rw e1 at e in cc)
    go true true e1 e2 = absurd (let z = rw (e1, e2) at e in cc)
    go true false e1 e2 = e2

pub form_tokens : (ps : List Piece) → IsForm ps → ((w : List ℕ) → Contains ps (Word w) → begins_comment w ≡ false) → AllByRecursion IsTokenPiece ps
form_tokens ps f front =
    let c : AllByRecursion IsCutPiece ps = subst (AllByRecursion IsCutPiece) f.cut (pieces_cut (text_of ps)) in
    let b : list_any is_bad_piece ps ≡ false = subst (λ (qs : List Piece). list_any is_bad_piece qs ≡ false) f.cut (no_bad_piece (text_of ps) f.sound) in
    words_tokens ps c b front

-- a digit's byte
abbrev IsDigit : ℕ → Type 0
IsDigit b = (is_plain b ≡ true) × ((b == 58) ≡ false)

digit : (d : ℕ) → d < 10 → IsDigit (digit_glyph false d)
digit d h = (grind (arith, nat_tests), grind (arith, nat_tests))

digits_are : (k n : ℕ) (later : List ℕ) → AllByRecursion IsDigit later → AllByRecursion IsDigit (digits_onto k 10 false n later)
digits_are zero n later h = h
digits_are (suc k) n later h =
    let here : AllByRecursion IsDigit (digit_glyph false (n % 10) ∷ later) = (digit (n % 10) (omega arith), h) in
    pick (n / 10 == 0) _ _ here (digits_are k (n / 10) _ here)
  where
    pick : (b : Bool) (xs ys : List ℕ) → AllByRecursion IsDigit xs → AllByRecursion IsDigit ys → AllByRecursion IsDigit (cond b xs ys)
    pick true xs ys h k = h
    pick false xs ys h k = k

decimal_digits : (n : ℕ) → AllByRecursion IsDigit (decimal n)
unfolding digits
decimal_digits n = digits_are 64 n [] tt

plain_digits : (w : List ℕ) → AllByRecursion IsDigit w → (list_all is_plain w ≡ true) × (list_any (λ b. b == 58) w ≡ false)
plain_digits [] h = (refl, refl)
plain_digits (b ∷ w) h = let k = plain_digits w h.1 in (rw (h.0.0) k.0, rw (h.0.1) k.1)

pub decimal_plain : (n : ℕ) → (list_all is_plain (decimal n) ≡ true) × (list_any (λ b. b == 58) (decimal n) ≡ false)
decimal_plain n = plain_digits (decimal n) (decimal_digits n)
