-- Regular expressions, and which words they match: the textbook's definition.
use Rattle.std.specs.Prelude.{◌≡◌, List, [], ◌∷◌, ◌++◌, ◌⊎◌}
use Rattle.circ_regex.specs.declared.regex.Regex.{Regex}
use Rattle.circ_regex.specs.declared.regex.Regex.TheVariants.{Empty, Eps, A, B, Sum', Product', Star'}

pub data Letter : Type 0 where
  a_letter : Letter
  b_letter : Letter

-- an expression without its pointers: 0, 1, a letter, a sum, a product, a star
pub data Expression : Type 0 where
  no_word : Expression
  empty_word : Expression
  one_letter : Letter → Expression
  either_of : Expression → Expression → Expression
  in_turn : Expression → Expression → Expression
  any_number : Expression → Expression

abbrev pub plain_regex : Regex → Expression
plain_regex Empty = no_word
plain_regex Eps = empty_word
plain_regex A = one_letter a_letter
plain_regex B = one_letter b_letter
plain_regex (Sum' p e q f) = either_of (plain_regex e) (plain_regex f)
plain_regex (Product' p e q f) = in_turn (plain_regex e) (plain_regex f)
plain_regex (Star' p e) = any_number (plain_regex e)

-- the empty word, or a first part with the property that is not empty, and a rest that is such a word again
pub data Repeats (P : List Letter → Type 0) : List Letter → Type 0 where
  no_part : Repeats P []
  one_more_part : (x : Letter) (u v w : List Letter) → P (x ∷ u) → Repeats P v → w ≡ x ∷ u ++ v → Repeats P w

-- some cut of the word has these properties
abbrev pub Cut : (P Q : List Letter → Type 0) → List Letter → Type 0
Cut P Q w = (u : List Letter) × (v : List Letter) × (w ≡ u ++ v) × P u × Q v

-- the expression matches the word
abbrev pub Matches : Expression → List Letter → Type 0
Matches no_word w = ⊥
Matches empty_word w = w ≡ []
Matches (one_letter x) w = w ≡ x ∷ []
Matches (either_of e f) w = Matches e w ⊎ Matches f w
Matches (in_turn e f) w = Cut (Matches e) (Matches f) w
Matches (any_number e) w = Repeats (Matches e) w
