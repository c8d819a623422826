-- A statement says one thing, and is left out by one word.
use Rattle.std.proofs.Common.{◌≡◌, List, [], ◌∷◌, ◌++◌, Bool, true, false, Option, Some, None, codes, sym, ap, ◌∙◌, subst}
use Rattle.circ_statement.specs.declared.keywords.Keyword.{Keyword}
use Rattle.circ_statement.specs.declared.keywords.Keyword.TheVariants.{Inclusion, Sorts, Operator, Operators, Variables, Equation, Conditional, Derivative, Cases, LeftOut}
use Rattle.circ_statement.specs.Words.{Word, has_word, keyword_of}
use Rattle.circ_statement.specs.Heads.{HasForeign, IsFirstForeign}
use Rattle.circ_statement.specs.Said.{Said, inclusion, variables, cases}
use Rattle.circ_statement.specs.Statement.{IsInclusion, IsVariables, IsCases, IsOperators, IsOfKind, IsStatement, IsOutByKind, IsLeftOut}
use Rattle.circ_statement.proofs.WordLists.{split_same, some_names_lack}
use Rattle.circ_statement.proofs.HeadParts.{bracket_same}
use Rattle.circ_statement.proofs.Foreign.{first_same}
use Rattle.circ_statement.proofs.Equations.{equation_same}
use Rattle.circ_statement.proofs.Conditions.{conditional_same}
use Rattle.circ_statement.proofs.Declaring.{declared_by, foreign_in, declares_same}

inclusion_same : (ws : List Word) (a b : Said) → IsInclusion ws a → IsInclusion ws b → a ≡ b
inclusion_same ws a b h k =
    let same : h.name ∷ [] ≡ k.name ∷ [] = sym h.words ∙ k.words in
    let name : h.name ≡ k.name = cc in
    h.says ∙ ap inclusion name ∙ sym k.says

pub variables_cut : (ws names last : List Word) → ws ≡ names ++ codes ":" ∷ last → has_word (codes ":") names ≡ false → (said : Said) (h : IsVariables ws said)
    → (h.names ≡ names) × (h.sort ∷ [] ≡ last)
variables_cut ws names last words lacks said h = split_same (codes ":") h.names (h.sort ∷ []) names last (some_names_lack h.names h.are_names) lacks (sym h.words ∙ words)

variables_same : (ws : List Word) (a b : Said) → IsVariables ws a → IsVariables ws b → a ≡ b
variables_same ws a b h k =
    let cut = variables_cut ws k.names (k.sort ∷ []) k.words (some_names_lack k.names k.are_names) a h in
    let last = cut.1 in
    let sort : h.sort ≡ k.sort = cc in
    h.says ∙ (λ i. variables (cut.0 i) (sort i)) ∙ sym k.says

cases_same : (ws : List Word) (a b : Said) → IsCases ws a → IsCases ws b → a ≡ b
cases_same ws a b h k =
    let same : h.sort ∷ (codes "by" ∷ h.names) ≡ k.sort ∷ (codes "by" ∷ k.names) = sym h.words ∙ k.words in
    let sort : h.sort ≡ k.sort = cc in
    let names : h.names ≡ k.names = cc in
    h.says ∙ (λ i. cases (sort i) (names i)) ∙ sym k.says

operators_same : (is_one : Bool) (ws : List Word) (a b : Said) → IsOperators is_one ws a → IsOperators is_one ws b → a ≡ b
operators_same is_one ws a b h k =
    declares_same is_one k.front k.args k.result k.marks a b (declared_by k.head is_one a h) k.declares

kind_same : (o : Option Keyword) (ws : List Word) (a b : Said) → IsOfKind o ws a → IsOfKind o ws b → a ≡ b
kind_same None ws a b h k = absurd h
kind_same (Some LeftOut) ws a b h k = absurd h
kind_same (Some Inclusion) ws a b h k = inclusion_same ws a b h k
kind_same (Some Sorts) ws a b h k = h.says ∙ sym k.says
kind_same (Some Operator) ws a b h k = operators_same true ws a b h k
kind_same (Some Operators) ws a b h k = operators_same false ws a b h k
kind_same (Some Variables) ws a b h k = variables_same ws a b h k
kind_same (Some Equation) ws a b h k = equation_same ws a b h k
kind_same (Some Conditional) ws a b h k = conditional_same ws a b h k
kind_same (Some Derivative) ws a b h k = h ∙ sym k
kind_same (Some Cases) ws a b h k = cases_same ws a b h k

pub said_once : (ws : List Word) (a b : Said) → IsStatement ws a → IsStatement ws b → a ≡ b
said_once [] a b h k = absurd h
said_once (w ∷ ws) a b h k = kind_same (keyword_of w) ws a b h k

foreign_same : (ws : List Word) (v w : Word) → HasForeign ws v → HasForeign ws w → v ≡ w
foreign_same ws v w h k =
    let at = foreign_in k.head v h in
    first_same k.inside v w (subst (λ i. IsFirstForeign i v) (bracket_same at.1.1.0 k.bracket).0 at.1.1.1) k.foreign

out_same : (o : Option Keyword) (first : Word) (ws : List Word) (v w : Word) → IsOutByKind o first ws v → IsOutByKind o first ws w → v ≡ w
out_same None first ws v w h k = absurd h
out_same (Some LeftOut) first ws v w h k = sym h ∙ k
out_same (Some Inclusion) first ws v w h k = absurd h
out_same (Some Sorts) first ws v w h k = absurd h
out_same (Some Operator) first ws v w h k = foreign_same ws v w h k
out_same (Some Operators) first ws v w h k = foreign_same ws v w h k
out_same (Some Variables) first ws v w h k = absurd h
out_same (Some Equation) first ws v w h k = absurd h
out_same (Some Conditional) first ws v w h k = absurd h
out_same (Some Derivative) first ws v w h k = absurd h
out_same (Some Cases) first ws v w h k = absurd h

pub left_out_once : (ws : List Word) (v w : Word) → IsLeftOut ws v → IsLeftOut ws w → v ≡ w
left_out_once [] v w h k = absurd h
left_out_once (first ∷ ws) v w h k = out_same (keyword_of first) first ws v w h k
