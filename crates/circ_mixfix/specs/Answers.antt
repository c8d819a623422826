-- What reading some tokens answers.
use Rattle.std.specs.Prelude.{◌≡◌, ℕ, List, [], ◌∷◌, map, length, nat_lt, if◌then◌else◌, Bool, Option, Some, None, Result, Ok, Err}
use Rattle.std.proofs.Common.{Less}
use Rattle.std.specs.List.{Contains}
use Rattle.std.specs.Option.{option_or}
use Rattle.circ_lexer.specs.TokenList.{TokenList, tokens_in}
use Rattle.circ_lexer.specs.declared.tokens.Span.{Span}
use Rattle.circ_term.specs.Tree.{Tree, trees_of}
use Rattle.circ_term.specs.Order.{trees_cmp}
use Rattle.circ_theory.specs.Signature.{Signature, IsSort}
use Rattle.circ_theory.specs.Theory.{Declared, declared}
use Rattle.circ_mixfix.specs.Readings.{ReadsOne, ReadsPair}
use Rattle.circ_mixfix.specs.declared.few.Reading.{Reading}
use Rattle.circ_mixfix.specs.declared.parse.ParseFault.{ParseFault}
use Rattle.circ_mixfix.specs.declared.parse.ParseFault.TheVariants.{TooLong, NoParse, Ambiguous, Memory}

-- the variables of a list of names and sorts
abbrev pub declared_by : List (List ℕ × ℕ) → List Declared
declared_by vs = map (λ v. declared v.0 v.1) vs

-- their sorts exist
abbrev pub HaveSorts : Signature → List Declared → Type 0
HaveSorts sig vars = (d : Declared) → Contains vars d → IsSort sig d.sort

-- a number of tokens that is too great: more than 256
abbrev pub too_many : ℕ → Option ℕ
too_many n = if nat_lt 256 n then Some n else None

-- how many tokens there are, where that is too many
abbrev pub long_count : List (List ℕ) → Option ℕ
long_count ws = too_many (length ws)

-- how many tokens the first list has that has too many
abbrev pub first_long : List (List (List ℕ)) → Option ℕ
first_long [] = None
first_long (ws ∷ lists) = option_or (long_count ws) (first_long lists)

-- the tokens of spans
abbrev pub lists_in : TokenList → List Span → List (List (List ℕ))
lists_in ts spans = map (tokens_in ts) spans

-- the terms are the one term that the tokens read as
abbrev pub ReadsOnly : Signature → List Declared → Bool → List (List ℕ) → List Tree → Type 0
ReadsOnly sig vars hole tokens ts = (t : Tree) × (ts ≡ t ∷ []) × ReadsOne sig vars hole tokens t

-- the terms are the two that the token lists read as
abbrev pub ReadsBoth : Signature → List Declared → (left right : List (List ℕ)) → List Tree → Type 0
ReadsBoth sig vars left right ts = (t u : Tree) × (ts ≡ t ∷ u ∷ []) × ReadsPair sig vars left right t u

-- The only reading; or too many tokens; or no reading; or two of several readings, the lesser first; or memory ran out.
abbrev pub GivesReading : Result Reading ParseFault → (too_long : Option ℕ) → (List Tree → Type 0) → Type 0
GivesReading (Ok r) too_long P = (too_long ≡ None) × P r.terms.items × ((ts : List Tree) → P ts → ts ≡ r.terms.items)
GivesReading (Err (TooLong n)) too_long P = too_long ≡ Some n
GivesReading (Err NoParse) too_long P = (too_long ≡ None) × ((ts : List Tree) → P ts → ⊥)
GivesReading (Err (Ambiguous a b)) too_long P =
    (too_long ≡ None) × P a.terms.items × P b.terms.items × (trees_cmp (trees_of a.terms.items) (trees_of b.terms.items) ≡ Less)
GivesReading (Err Memory) too_long P = Unit {0}
