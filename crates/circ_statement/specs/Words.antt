-- The words that stand in statements.
use Rattle.std.specs.Prelude.{ℕ, List, [], ◌∷◌, Bool, false, ◌==◌, ◌||◌, not, nat_eq, codes, if◌then◌else◌, Option, Some, None}
use Rattle.std.specs.List.{list_any, list_all}
use Rattle.std.specs.Cmp.Lexicographic.{pointwise}
use Rattle.circ_lexer.specs.Bytes.{is_special}
use Rattle.circ_statement.specs.declared.keywords.Keyword.{Keyword}
use Rattle.circ_statement.specs.declared.keywords.Keyword.TheVariants.{Inclusion, Sorts, Operator, Operators, Variables, Equation, Conditional, Derivative, Cases, LeftOut}

-- a token as a text
abbrev pub Word : Type 0
Word = List ℕ

abbrev pub is_word : Word → Word → Bool
is_word v w = pointwise nat_eq v w

-- whether the word is among the words
abbrev pub has_word : Word → List Word → Bool
has_word w ws = list_any (λ v. is_word v w) ws

-- one of ( ) [ ] { } ,
abbrev pub is_special_word : Word → Bool
is_special_word [] = false
is_special_word (b ∷ []) = is_special b
is_special_word (b ∷ c ∷ w) = false

-- . = ->
abbrev pub is_reserved : Word → Bool
is_reserved w = is_word w (codes ".") || is_word w (codes "=") || is_word w (codes "->")

abbrev pub has_colon : Word → Bool
has_colon w = list_any (λ b. b == 58) w

-- a name or a sort
abbrev pub is_name : Word → Bool
is_name w = not (is_special_word w || has_colon w || is_reserved w)

abbrev pub are_names : List Word → Bool
are_names ws = list_all is_name ws

-- one name at least
abbrev pub are_some_names : List Word → Bool
are_some_names [] = false
are_some_names (w ∷ ws) = are_names (w ∷ ws)

-- the words of statements that are left out
abbrev pub is_left_out_word : Word → Bool
is_left_out_word w =
    is_word w (codes "subsort") || is_word w (codes "subsorts") || is_word w (codes "mb") || is_word w (codes "cmb")
    || is_word w (codes "rl") || is_word w (codes "crl") || is_word w (codes "extending") || is_word w (codes "ex") || is_word w (codes "class")
    || is_word w (codes "msg")

abbrev pub is_inclusion_word : Word → Bool
is_inclusion_word w = is_word w (codes "including") || is_word w (codes "inc") || is_word w (codes "protecting") || is_word w (codes "pr")

-- the kind of a statement, by its first word
abbrev pub keyword_of : Word → Option Keyword
keyword_of w =
    if is_left_out_word w then Some LeftOut
    else if is_inclusion_word w then Some Inclusion
    else if is_word w (codes "sort") || is_word w (codes "sorts") then Some Sorts
    else if is_word w (codes "op") then Some Operator
    else if is_word w (codes "ops") then Some Operators
    else if is_word w (codes "var") || is_word w (codes "vars") then Some Variables
    else if is_word w (codes "eq") then Some Equation
    else if is_word w (codes "ceq") then Some Conditional
    else if is_word w (codes "derivative") then Some Derivative
    else if is_word w (codes "cases") then Some Cases
    else None
