-- A form's text, cut piece by piece from the left.
use Rattle.std.proofs.Common.{◌≡◌, ◌<◌, ◌≤◌, nat_lt, unwrap_or, Some, None, ℕ, suc, Bool, true, false, ◌||◌, not, List, [], ◌∷◌, ◌++◌, length, get_or}
use Rattle.std.proofs.Common.{take, drop, if◌then◌else◌, refl, ap, sym, ◌∙◌, arith}
use Rattle.std.specs.List.{list_any, position_or_len, position}
use Rattle.std.proofs.lemmas.List.Sums.{prefix_len-le-length}
use Rattle.std.proofs.lemmas.Grind.{common_steps}
use Rattle.std.proofs.lemmas.Bool.{eqb-true}
use Rattle.circ_form.specs.declared.forms.Piece.{Piece}
use Rattle.circ_form.specs.declared.forms.Piece.TheVariants.{Hole, Word}
use Rattle.circ_form.specs.Form.{is_hole, is_bracket, is_special, starts_with_bracket, before, pieces_of, text_of, piece_of, is_word, is_bad_piece}
use Rattle.circ_form.specs.Form.{form_fault}

text_of-before : (b : ℕ) (ps : List Piece) → text_of (before b ps) ≡ b ∷ text_of ps
text_of-before b [] = refl
text_of-before b (Hole ∷ ps) = refl
text_of-before b (Word w ∷ ps) = go (starts_with_bracket w)
  where
    go : (v : Bool) → text_of (if v then Word (b ∷ []) ∷ Word w ∷ ps else Word (b ∷ w) ∷ ps) ≡ b ∷ (w ++ text_of ps)
    go true = refl
    go false = refl

-- the pieces of a text make the text
pub text_of-pieces_of : (t : List ℕ) → text_of (pieces_of t) ≡ t
text_of-pieces_of [] = refl
text_of-pieces_of (b ∷ bs) = go (text_of-pieces_of bs) (is_hole b) refl (is_bracket b)
  where
    go : text_of (pieces_of bs) ≡ bs → (h : Bool) → is_hole b ≡ h → (k : Bool)
        → text_of (if h then Hole ∷ pieces_of bs else if k then Word (b ∷ []) ∷ pieces_of bs else before b (pieces_of bs)) ≡ b ∷ bs
    go ih true e k = ap (λ x. x ∷ text_of (pieces_of bs)) (sym (eqb-true b 95 e)) ∙ ap (λ xs. b ∷ xs) ih
    go ih false e true = ap (λ xs. b ∷ xs) ih
    go ih false e false = text_of-before b (pieces_of bs) ∙ ap (λ xs. b ∷ xs) ih

or_false : (x y : Bool) → (x || y) ≡ false → (x ≡ false) × (y ≡ false)
or_false true y e = absurd (cc)
or_false false y e = (refl, e)

plain : (b : ℕ) (bs : List ℕ) → is_special b ≡ false → pieces_of (b ∷ bs) ≡ before b (pieces_of bs)
plain b bs h = let p = or_false (is_hole b) (is_bracket b) h in rw (p.0, p.1) refl

-- a word ends before the first byte that is a piece by itself
cut_word : (b : ℕ) (bs : List ℕ) → is_special b ≡ false
    → pieces_of (b ∷ bs) ≡ Word (b ∷ take (position_or_len is_special bs) bs) ∷ pieces_of (drop (position_or_len is_special bs) bs)
cut_word b [] h = plain b [] h
cut_word b (c ∷ cs) h = go (λ e. cut_word c cs e) (is_hole c) refl (is_bracket c) refl
  where
    go : (is_special c ≡ false → pieces_of (c ∷ cs) ≡ Word (c ∷ take (position_or_len is_special cs) cs) ∷ pieces_of (drop (position_or_len is_special cs) cs))
        → (x : Bool) → is_hole c ≡ x → (y : Bool) → is_bracket c ≡ y
        → pieces_of (b ∷ c ∷ cs) ≡ Word (b ∷ take (position_or_len is_special (c ∷ cs)) (c ∷ cs)) ∷ pieces_of (drop (position_or_len is_special (c ∷ cs)) (c ∷ cs))
    go ih true e y f = plain b (c ∷ cs) h ∙ simp e
    go ih false e true f = plain b (c ∷ cs) h ∙ simp (e, f)
    go ih false e false f =
        let special : is_special c ≡ false = rw (e, f) refl in
        let next : position_or_len is_special (c ∷ cs) ≡ suc (position_or_len is_special cs) = rw special (omega arith) in
        let joined : before b (Word (c ∷ take (position_or_len is_special cs) cs) ∷ pieces_of (drop (position_or_len is_special cs) cs))
        ≡ Word (b ∷ c ∷ take (position_or_len is_special cs) cs) ∷ pieces_of (drop (position_or_len is_special cs) cs) = rw f refl in
        plain b (c ∷ cs) h ∙ ap (before b) (ih special) ∙ joined
        ∙ ap (λ m. Word (b ∷ take m (c ∷ cs)) ∷ pieces_of (drop m (c ∷ cs))) (sym next)

position_end : {X : Type 0} (p : X → Bool) (xs : List X) → unwrap_or (position p xs) (length xs) ≡ position_or_len p xs
position_end p xs = go (nat_lt (position_or_len p xs) (length xs)) refl
  where
    go : (b : Bool) → nat_lt (position_or_len p xs) (length xs) ≡ b
        → unwrap_or (if b then Some (position_or_len p xs) else None) (length xs) ≡ position_or_len p xs
    go true e = refl
    go false e = let most = prefix_len-le-length (λ x. not (p x)) xs in let least : length xs ≤ position_or_len p xs = grind (arith, common_steps) in omega arith

-- the first piece of a text that begins with a word
pub cut_first : (text : List ℕ) (n : ℕ) → 0 < length text → is_special (get_or text 0 0) ≡ false → n ≡ unwrap_or (position is_special text) (length text)
    → pieces_of text ≡ piece_of (take n text) ∷ pieces_of (drop n text)
cut_first [] n h s e = absurd (omega arith)
cut_first (b ∷ bs) n h s e =
    let stop : unwrap_or (position is_special (b ∷ bs)) (length (b ∷ bs)) ≡ suc (position_or_len is_special bs) = position_end is_special (b ∷ bs) ∙ rw s (omega arith) in
    let word : piece_of (b ∷ take (position_or_len is_special bs) bs) ≡ Word (b ∷ take (position_or_len is_special bs) bs) = rw (or_false (is_hole b) (is_bracket b) s).0 refl in
    cut_word b bs s ∙ ap (λ p. p ∷ pieces_of (drop (position_or_len is_special bs) bs)) (sym word)
    ∙ ap (λ m. piece_of (take m (b ∷ bs)) ∷ pieces_of (drop m (b ∷ bs))) (sym (e ∙ stop))

-- a text with a word and no bad word has no fault
pub no_fault : (t : List ℕ) (a b : Bool) → a ≡ list_any is_word (pieces_of t) → a ≡ true → b ≡ list_any is_bad_piece (pieces_of t) → b ≡ false
    → form_fault t ≡ None
no_fault t a b word there bad absent = rw (sym word ∙ there, sym bad ∙ absent) refl
