-- The words of a product and of a star, on terms of any kind.
use Rattle.std.specs.Prelude.{List, ◌↔◌}
use Rattle.circ_term.specs.Tree.{Tree}
use Rattle.circ_regex.specs.Matches.{Letter, Cut, Repeats}
use Rattle.circ_regex.specs.Lang.{product_term, star_term}
use Rattle.circ_regex.specs.Member.{HasWord, language_of}
use Rattle.circ_regex.proofs.Agrees.{product_cut, cut_product, star_repeats, repeats_star}

pub product_words : (t u : Tree) (w : List Letter) → HasWord (product_term t u) w ↔ Cut (HasWord t) (HasWord u) w
product_words t u w = (product_cut (language_of t) (language_of u) w, cut_product (language_of t) (language_of u) w)

pub star_words : (t : Tree) (w : List Letter) → HasWord (star_term t) w ↔ Repeats (HasWord t) w
star_words t w = (star_repeats (language_of t) w, repeats_star (language_of t) w)
