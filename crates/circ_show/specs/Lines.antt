-- The lines of a theory's text. A word that is empty leaves no second space.
use Rattle.std.specs.Prelude.{ℕ, ◌-◌, List, [], ◌∷◌, ◌++◌, Bool, true, false, ◌&&◌, length, flat_map, codes, decimal, unwrap_or, if◌then◌else◌}
use Rattle.std.specs.List.{slice_get}
use Rattle.std.specs.Option.{option_map_or}
use Rattle.circ_term.specs.Tree.{Tree}
use Rattle.circ_form.specs.declared.forms.Piece.{Piece}
use Rattle.circ_theory.specs.declared.parts.Side.{Side}
use Rattle.circ_theory.specs.declared.parts.Side.TheVariants.{Neither, Left, Right}
use Rattle.circ_theory.specs.Goal.{Equation}
use Rattle.circ_form.specs.Form.{text_of}
use Rattle.circ_theory.specs.Signature.{Signature, Operator}
use Rattle.circ_theory.specs.Theory.{Theory, Declared, Pair, goal_of}
use Rattle.circ_form.specs.Form.{is_hole_piece, has_hole}
use Rattle.circ_theory.specs.Observing.{cases_of}
use Rattle.circ_mixfix.specs.Printing.{joined, text_of_term, text_of_goal}

-- a word after a space; nothing where it is empty
abbrev pub spaced_word : List ℕ → List ℕ
spaced_word [] = []
spaced_word (b ∷ w) = 32 ∷ b ∷ w

abbrev pub sort_name : Signature → ℕ → List ℕ
sort_name sig s = unwrap_or (slice_get sig.sorts s) []

abbrev pub spaced_sort : Signature → ℕ → List ℕ
spaced_sort sig s = spaced_word (sort_name sig s)

abbrev pub is_hole_at : List Piece → ℕ → Bool
is_hole_at ps n = option_map_or is_hole_piece (slice_get ps n) false

-- the form begins and ends with a hole, so that a side counts
abbrev pub has_outer_holes : List Piece → Bool
has_outer_holes ps = is_hole_at ps 0 && is_hole_at ps (length ps - 1)

abbrev pub side_words : Operator → List (List ℕ)
side_words o = if has_outer_holes o.form then side_word o.side else []
  where
    side_word : Side → List (List ℕ)
    side_word Neither = []
    side_word Left = codes "left" ∷ []
    side_word Right = codes "right" ∷ []

-- the precedence and the side, of an operator with holes
abbrev pub precedence_words : Operator → List (List ℕ)
precedence_words o = if has_hole o.form then (codes "prec " ++ decimal o.prec) ∷ side_words o else []

abbrev pub if_set : Bool → List ℕ → List (List ℕ)
if_set b w = if b then w ∷ [] else []

abbrev pub attribute_words : Operator → List (List ℕ)
attribute_words o = precedence_words o ++ (if_set o.assoc (codes "assoc") ++ (if_set o.comm (codes "comm") ++ if_set o.idem (codes "idem")))

-- the words in brackets, joined by one space, after a space; nothing where there is no word
abbrev pub in_brackets : List (List ℕ) → List ℕ
in_brackets [] = []
in_brackets (w ∷ ws) = codes " [" ++ joined (codes " ") (w ∷ ws) ++ codes "]"

abbrev pub attributes_text : Operator → List ℕ
attributes_text o = in_brackets (attribute_words o)

abbrev pub theory_line : (name : List ℕ) → List ℕ
theory_line name = codes "theory" ++ spaced_word name ++ codes " is\n"

abbrev pub sort_line : (name : List ℕ) → List ℕ
sort_line name = codes "sort" ++ spaced_word name ++ codes " .\n"

-- an operator's form, and the sorts of its arguments and of its result
abbrev pub declaration : Signature → Operator → List ℕ
declaration sig o = text_of o.form ++ codes " :" ++ flat_map (spaced_sort sig) o.args ++ codes " ->" ++ spaced_sort sig o.result

abbrev pub op_line : Signature → Operator → List ℕ
op_line sig o = codes "op " ++ declaration sig o ++ attributes_text o ++ codes " .\n"

abbrev pub var_line : Signature → Declared → List ℕ
var_line sig d = codes "var" ++ spaced_word d.name ++ codes " :" ++ spaced_sort sig d.sort ++ codes " .\n"

-- the word that an equation with these conditions begins with
abbrev pub equation_word : (conds : List Pair) → List ℕ
equation_word [] = codes "eq "
equation_word (_ ∷ _) = codes "ceq "

-- an equation with its conditions, and whether it is no rewrite rule
abbrev pub equation_line : Signature → Equation → List ℕ
equation_line sig e =
    equation_word e.conds ++ text_of_goal sig (goal_of e) ++ (if e.exec then [] else codes " [nonexec]") ++ codes " .\n"

abbrev pub derivative_line : Signature → Tree → List ℕ
derivative_line sig t = codes "derivative " ++ text_of_term sig true t ++ codes " .\n"

-- the text of an operator's form after a space
abbrev pub spaced_form : Signature → ℕ → List ℕ
spaced_form sig f = codes " " ++ option_map_or (λ o. text_of o.form) (slice_get sig.ops f) []

-- the case list of a sort, where it has one
abbrev pub cases_line : Theory → ℕ → List ℕ
cases_line th s =
    option_map_or (λ cs. codes "cases" ++ spaced_sort th.signature s ++ codes " by" ++ flat_map (spaced_form th.signature) cs ++ codes " .\n")
    (cases_of th s) []

abbrev pub unobserved_line : Signature → ℕ → List ℕ
unobserved_line sig s = codes "--- no experiment:" ++ spaced_sort sig s ++ codes "\n"
