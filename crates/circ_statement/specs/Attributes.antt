-- The attributes of operators, and what they make of a form.
use Rattle.std.specs.Prelude.{◌≡◌, ◌⊎◌, ℕ, List, [], ◌∷◌, ◌++◌, Bool, true, false, ◌==◌, ◌&&◌, ◌||◌, not, nat_le, is_none, codes, decimal, if◌then◌else◌, Option, Some, None}
use Rattle.std.specs.Option.{option_and_then}
use Rattle.circ_form.specs.declared.forms.Piece.{Piece}
use Rattle.circ_theory.specs.declared.parts.Side.{Side}
use Rattle.circ_theory.specs.declared.parts.Side.TheVariants.{Neither, Left, Right}
use Rattle.circ_form.specs.Form.{pieces_of, form_fault}
use Rattle.circ_form.specs.Form.{is_hole_piece, has_hole}
use Rattle.circ_statement.specs.declared.attributes.Attribute.{Attribute}
use Rattle.circ_statement.specs.declared.attributes.Attribute.TheVariants.{Prec, ToLeft, ToRight, Assoc, Comm, Idem}
use Rattle.circ_statement.specs.declared.attributes.Attributes.{Attributes}
use Rattle.circ_statement.specs.Words.{Word}
use Rattle.circ_statement.specs.Heads.{IsBracket}

-- how an attribute is written
abbrev pub words_of : Attribute → List Word
words_of (Prec n) = codes "prec" ∷ (decimal n ∷ [])
words_of ToLeft = codes "left" ∷ []
words_of ToRight = codes "right" ∷ []
words_of Assoc = codes "assoc" ∷ []
words_of Comm = codes "comm" ∷ []
words_of Idem = codes "idem" ∷ []

-- how attributes are written
abbrev pub all_words_of : List Attribute → List Word
all_words_of [] = []
all_words_of (t ∷ ts) = words_of t ++ all_words_of ts

abbrev pub is_neither : Side → Bool
is_neither Neither = true
is_neither Left = false
is_neither Right = false

-- no attribute
abbrev pub no_attributes : Attributes
no_attributes = record { prec = None; side = Neither; assoc = false; comm = false; idem = false }

-- the attributes with one more; each may be given once, and one side only, and the greatest precedence is 127
abbrev pub with_attribute : Attributes → Attribute → Option Attributes
with_attribute a (Prec n) = if is_none a.prec && nat_le n 127 then Some (record a { prec = Some n }) else None
with_attribute a ToLeft = if is_neither a.side then Some (record a { side = Left }) else None
with_attribute a ToRight = if is_neither a.side then Some (record a { side = Right }) else None
with_attribute a Assoc = if a.assoc then None else Some (record a { assoc = true })
with_attribute a Comm = if a.comm then None else Some (record a { comm = true })
with_attribute a Idem = if a.idem then None else Some (record a { idem = true })

abbrev pub with_attributes : Attributes → List Attribute → Option Attributes
with_attributes a [] = Some a
with_attributes a (t ∷ ts) = option_and_then (λ b. with_attributes b ts) (with_attribute a t)

-- The words add attributes to those given before.
pub record AddsAttributes (a : Attributes) (ws : List Word) (b : Attributes) : Type 0 where
  pub attributes : List Attribute
  pub words : ws ≡ all_words_of attributes
  pub added : with_attributes a attributes ≡ Some b

-- what follows the result sort: nothing, or attributes in brackets
abbrev pub HasAttributes : List Word → Attributes → Type 0
HasAttributes marks a = ((marks ≡ []) × (a ≡ no_attributes)) ⊎ ((inside : List Word) × (IsBracket marks inside [] × AddsAttributes no_attributes inside a))

-- an operator's form with the precedence and the side that its statement gives it
pub record Spelled : Type 0 where
  pub form : List Piece
  pub prec : ℕ
  pub side : Side

abbrev pub begins_with_hole : List Piece → Bool
begins_with_hole [] = false
begins_with_hole (p ∷ ps) = is_hole_piece p

abbrev pub ends_with_hole : List Piece → Bool
ends_with_hole [] = false
ends_with_hole (p ∷ []) = is_hole_piece p
ends_with_hole (p ∷ (q ∷ ps)) = ends_with_hole (q ∷ ps)

-- The form begins and ends with a hole.
abbrev pub is_between : List Piece → Bool
is_between ps = begins_with_hole ps && ends_with_hole ps

-- the precedence that is given, or else 41 of a form that begins or ends with a hole
abbrev pub precedence_of : Option ℕ → List Piece → ℕ
precedence_of (Some n) ps = n
precedence_of None ps = if begins_with_hole ps || ends_with_hole ps then 41 else 0

-- the side that is given; else an associative operator whose form begins and ends with a hole groups to the right
abbrev pub side_of : Attributes → List Piece → Side
side_of a ps = if is_neither a.side && a.assoc && is_between ps then Right else a.side

-- A precedence is given to a form with holes only, and a side to one that begins and ends with a hole.
abbrev pub is_fitting : Attributes → List Piece → Bool
is_fitting a ps = (is_none a.prec || has_hole ps) && (is_neither a.side || is_between ps)

-- a form as it is written, and what the attributes make of it; a side has a precedence above 0
pub record IsSpelled (a : Attributes) (text : Word) (s : Spelled) : Type 0 where
  pub read : form_fault text ≡ None
  pub form : s.form ≡ pieces_of text
  pub fits : is_fitting a s.form ≡ true
  pub prec : s.prec ≡ precedence_of a.prec s.form
  pub side : s.side ≡ side_of a s.form
  pub above : (is_neither s.side || not (s.prec == 0)) ≡ true

abbrev pub AreSpelled : Attributes → List Word → List Spelled → Type 0
AreSpelled a [] [] = Unit {0}
AreSpelled a [] (s ∷ ss) = ⊥
AreSpelled a (w ∷ ws) [] = ⊥
AreSpelled a (w ∷ ws) (s ∷ ss) = IsSpelled a w s × AreSpelled a ws ss
