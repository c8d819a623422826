-- The lines of a special set.
use Rattle.std.specs.Prelude.{ℕ, List, [], ◌++◌, flat_map, codes, decimal}
use Rattle.std.specs.List.{slice_get}
use Rattle.std.specs.Option.{option_map_or}
use Rattle.circ_theory.specs.Signature.{Signature}
use Rattle.circ_special.specs.declared.place.Place.{Place}
use Rattle.circ_show.specs.Lines.{declaration}

-- the declaration of an operator, if there is one
abbrev pub declared_at : Signature → ℕ → List ℕ
declared_at sig f = option_map_or (declaration sig) (slice_get sig.ops f) []

-- the number of a place, and the declaration of its operator
abbrev pub place_line : Signature → Place → List ℕ
place_line sig g = codes "place " ++ decimal g.arg ++ codes " of " ++ declared_at sig g.op ++ codes "\n"

-- each place, one a line
abbrev pub place_lines : Signature → List Place → List ℕ
place_lines sig gs = flat_map (place_line sig) gs
