-- An operator's form: its text, cut into words and holes.
use Rattle.std.specs.Prelude.{◌≡◌, ℕ, List, [], ◌∷◌, ◌++◌, Bool, true, false, ◌==◌, ◌||◌, nat_lt, nat_eq, codes, if◌then◌else◌, Option, Some, None}
use Rattle.std.specs.Prelude.{Result, Ok, Err, refl}
use Rattle.std.specs.List.{list_any, count_by}
use Rattle.std.specs.Coded.{Coded, code_by, coded_ℕ, coded_list, coded_option}
use Rattle.std.specs.Cmp.Lexicographic.{pointwise}
use Rattle.circ_form.specs.declared.forms.Piece.{Piece}
use Rattle.circ_form.specs.declared.forms.Piece.TheVariants.{Hole, Word}
use Rattle.circ_form.specs.declared.forms.FormFault.{FormFault}
use Rattle.circ_form.specs.declared.forms.FormFault.TheVariants.{NoWord, BadWord, Memory}

-- _
abbrev pub is_hole : ℕ → Bool
is_hole b = b == 95

-- [ ] { }
abbrev pub is_bracket : ℕ → Bool
is_bracket b = (b == 91) || (b == 93) || (b == 123) || (b == 125)

-- a byte that is a piece by itself
abbrev pub is_special : ℕ → Bool
is_special b = is_hole b || is_bracket b

abbrev pub starts_with_bracket : List ℕ → Bool
starts_with_bracket [] = false
starts_with_bracket (b ∷ w) = is_bracket b

-- a byte of a word, before the pieces of what follows: it lengthens a word that is no bracket
abbrev pub before : ℕ → List Piece → List Piece
before b [] = Word (b ∷ []) ∷ []
before b (Hole ∷ ps) = Word (b ∷ []) ∷ Hole ∷ ps
before b (Word w ∷ ps) = if starts_with_bracket w then Word (b ∷ []) ∷ Word w ∷ ps else Word (b ∷ w) ∷ ps

-- The text is cut at each hole, and each bracket is a word by itself.
abbrev pub pieces_of : List ℕ → List Piece
pieces_of [] = []
pieces_of (b ∷ bs) =
    if is_hole b then Hole ∷ pieces_of bs else if is_bracket b then Word (b ∷ []) ∷ pieces_of bs else before b (pieces_of bs)

-- ( ) , : and bytes that are not visible
abbrev pub is_bad_byte : ℕ → Bool
is_bad_byte b = (b == 40) || (b == 41) || (b == 44) || (b == 58) || nat_lt b 33 || nat_lt 126 b

-- . = ->
abbrev pub is_reserved : List ℕ → Bool
is_reserved w = pointwise nat_eq w (codes ".") || pointwise nat_eq w (codes "=") || pointwise nat_eq w (codes "->")

abbrev pub is_bad_word : List ℕ → Bool
is_bad_word w = is_reserved w || list_any is_bad_byte w

abbrev pub is_word : Piece → Bool
is_word Hole = false
is_word (Word w) = true

abbrev pub is_bad_piece : Piece → Bool
is_bad_piece Hole = false
is_bad_piece (Word w) = is_bad_word w

-- why a text is no form
abbrev pub form_fault : List ℕ → Option FormFault
form_fault text =
    if list_any is_word (pieces_of text) then (if list_any is_bad_piece (pieces_of text) then Some BadWord else None) else Some NoWord

-- what reading a text as a form answers
abbrev pub ReadsForm : Result (List Piece) FormFault → List ℕ → Type 0
ReadsForm (Ok ps) text = (ps ≡ pieces_of text) × (form_fault text ≡ None)
ReadsForm (Err NoWord) text = form_fault text ≡ Some NoWord
ReadsForm (Err BadWord) text = form_fault text ≡ Some BadWord
ReadsForm (Err Memory) text = Unit {0}

-- the text of pieces
abbrev pub text_of : List Piece → List ℕ
text_of [] = []
text_of (Hole ∷ ps) = 95 ∷ text_of ps
text_of (Word w ∷ ps) = w ++ text_of ps

-- The pieces are those of their text, which has a word and no bad word.
pub record IsForm (ps : List Piece) : Type 0 where
  pub cut : pieces_of (text_of ps) ≡ ps
  pub sound : form_fault (text_of ps) ≡ None

-- the first word of a form
abbrev pub first_word : List Piece → List ℕ
first_word [] = []
first_word (Hole ∷ ps) = first_word ps
first_word (Word w ∷ ps) = w

-- a text that is one piece
abbrev pub piece_of : List ℕ → Piece
piece_of w = if pointwise nat_eq w (95 ∷ []) then Hole else Word w

abbrev pub is_same_piece : Piece → Piece → Bool
is_same_piece Hole Hole = true
is_same_piece Hole (Word w) = false
is_same_piece (Word v) Hole = false
is_same_piece (Word v) (Word w) = pointwise nat_eq v w

abbrev pub is_hole_piece : Piece → Bool
is_hole_piece Hole = true
is_hole_piece (Word w) = false

abbrev pub has_hole : List Piece → Bool
has_hole ps = list_any is_hole_piece ps

abbrev pub hole_count : List Piece → ℕ
hole_count ps = count_by is_hole_piece ps

-- how a proof tells pieces apart
abbrev pub word_of : Piece → Option (List ℕ)
word_of Hole = None
word_of (Word w) = Some w

abbrev pub piece_with : Option (List ℕ) → Piece
piece_with None = Hole
piece_with (Some w) = Word w

pub piece_with-word_of : (p : Piece) → piece_with (word_of p) ≡ p
piece_with-word_of Hole = refl
piece_with-word_of (Word w) = refl

abbrev pub form_code : Coded (List Piece)
form_code = coded_list (code_by (Option (List ℕ)) (coded_option (coded_list coded_ℕ)) word_of piece_with piece_with-word_of)
