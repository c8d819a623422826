-- The library: its texts by their names.
use Rattle.std.specs.Prelude.{ℕ, List, [], ◌∷◌, nat_eq, codes, find, Option}
use Rattle.std.specs.Option.{option_map}
use Rattle.std.specs.Cmp.Lexicographic.{pointwise}
use Rattle.circ_lib.specs.Bits.{bits_text}
use Rattle.circ_lib.specs.Stream.{stream_text}
use Rattle.circ_lib.specs.Tree.{tree_text}
use Rattle.circ_lib.specs.Lang.{lang_text}
use Rattle.circ_lib.specs.Proc.{proc_text}

abbrev pub library : List (List ℕ × List ℕ)
library =
    (codes "BITS", bits_text) ∷ (codes "STREAM", stream_text) ∷ (codes "TREE", tree_text) ∷ (codes "LANG", lang_text) ∷ (codes "PROC", proc_text) ∷ []

-- the text of a name
abbrev pub library_text : List ℕ → Option (List ℕ)
library_text name = option_map (λ e. e.1) (find (λ e. pointwise nat_eq name e.0) library)
