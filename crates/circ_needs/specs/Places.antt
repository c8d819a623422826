-- Places as they lie in memory.
use Rattle.std.specs.Prelude.{List, map}
use Rattle.circ_special.specs.declared.place.Place.{Place}
use Rattle.circ_special.specs.Special.{place}
use Rattle.circ_needs.specs.declared.needs.Need.{Need}

abbrev pub places_of : List Need → List Place
places_of ns = map (λ n. place n.op n.arg) ns
