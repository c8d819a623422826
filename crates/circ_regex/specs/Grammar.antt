-- Which bytes spell an expression, and what reading bytes as one answers.
use Rattle.std.specs.Prelude.{◌≡◌, ℕ, ◌<◌, ◌≤◌, zero, suc, List, [], ◌∷◌, ◌++◌, length, replicate, Result, Ok, Err}
use Rattle.circ_regex.specs.declared.regex.Regex.{Regex}
use Rattle.circ_regex.specs.declared.fault.RegexFault.{RegexFault}
use Rattle.circ_regex.specs.declared.fault.RegexFault.TheVariants.{Limit, Shape, Memory}
use Rattle.circ_regex.specs.Matches.{a_letter, b_letter, Expression, no_word, empty_word, one_letter, either_of, in_turn, any_number, plain_regex}

-- the most bytes of an expression
abbrev pub byte_limit : ℕ
byte_limit = 1000

-- the names of the grammar
pub data Rank : Type 0 where
  sum_rank : Rank
  product_rank : Rank
  factor_rank : Rank
  atom_rank : Rank

-- the expression with so many stars behind it
abbrev pub starred : ℕ → Expression → Expression
starred zero e = e
starred (suc n) e = starred n (any_number e)

-- sum = product ("+" product)*, product = factor+, factor = atom "*"*, atom = "a" | "b" | "0" | "1" | "(" sum ")".
-- Sums and products nest to the right. The bytes 97 98 48 49 are a b 0 1, and 43 42 40 41 are + * ( ).
pub data SpellsExpression : Rank → List ℕ → Expression → Type 0 where
  one_product : {s : List ℕ} {e : Expression} → SpellsExpression product_rank s e → SpellsExpression sum_rank s e
  more_products : {s t : List ℕ} {e f : Expression} → SpellsExpression product_rank s e → SpellsExpression sum_rank t f
      → SpellsExpression sum_rank (s ++ 43 ∷ t) (either_of e f)
  one_factor : {s : List ℕ} {e : Expression} → SpellsExpression factor_rank s e → SpellsExpression product_rank s e
  more_factors : {s t : List ℕ} {e f : Expression} → SpellsExpression factor_rank s e → SpellsExpression product_rank t f
      → SpellsExpression product_rank (s ++ t) (in_turn e f)
  with_stars : {s : List ℕ} {e : Expression} (n : ℕ) → SpellsExpression atom_rank s e → SpellsExpression factor_rank (s ++ replicate n 42) (starred n e)
  by_a : SpellsExpression atom_rank (97 ∷ []) (one_letter a_letter)
  by_b : SpellsExpression atom_rank (98 ∷ []) (one_letter b_letter)
  by_zero : SpellsExpression atom_rank (48 ∷ []) no_word
  by_one : SpellsExpression atom_rank (49 ∷ []) empty_word
  grouped : {s : List ℕ} {e : Expression} → SpellsExpression sum_rank s e → SpellsExpression atom_rank (40 ∷ s ++ 41 ∷ []) e

-- the whole of the bytes spells the expression
abbrev pub IsTextOfRegex : List ℕ → Expression → Type 0
IsTextOfRegex bytes e = (length bytes ≤ byte_limit) × SpellsExpression sum_rank bytes e

-- what reading bytes as an expression answers: first whether there are too many
abbrev pub ReadsRegex : Result Regex RegexFault → List ℕ → Type 0
ReadsRegex (Ok e) bytes = IsTextOfRegex bytes (plain_regex e)
ReadsRegex (Err (Limit n)) bytes = (n ≡ length bytes) × (byte_limit < length bytes)
ReadsRegex (Err Shape) bytes = (length bytes ≤ byte_limit) × ((e : Expression) → IsTextOfRegex bytes e → ⊥)
ReadsRegex (Err Memory) bytes = Unit {0}
