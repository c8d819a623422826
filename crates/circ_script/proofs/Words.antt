-- Words that are the same or not.
use Rattle.std.proofs.Common.{◌≡◌, List, ◌∷◌, true, false, refl, sym, ap, ◌∙◌}
use Rattle.std.proofs.lemmas.Slice.Eq.{bytes_eq-Decides}
use Rattle.circ_statement.specs.Words.{Word, is_word}

pub same_word : (w : Word) → is_word w w ≡ true
same_word w = (bytes_eq-Decides w w).1 refl

-- lists that begin with different words
pub heads_apart : (v w : Word) (vs ws : List Word) → is_word v w ≡ false → v ∷ vs ≡ w ∷ ws → ⊥
heads_apart v w vs ws f e = let q : v ≡ w = cc in let t : true ≡ false = sym (same_word w) ∙ ap (λ x. is_word x w) (sym q) ∙ f in cc t
