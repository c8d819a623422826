-- Words are the first, and then the further ones.
use Rattle.std.specs.Prelude.{◌≡◌, ℕ, List, [], ◌∷◌, ◌++◌, refl}
use Rattle.circ_line.specs.Text.{joined}
use Rattle.circ_line.specs.Written.{first_word, further}

pub two_parts : (words : List (List ℕ)) → joined 32 words ≡ first_word words ++ further words
two_parts [] = refl
two_parts (word ∷ words) = refl
