-- Lists of terms that go on.
use Rattle.std.specs.Prelude.{◌≡◌, List, ◌++◌}
use Rattle.circ_term.specs.Tree.{Tree}

-- terms were added, and the places of the others stay
abbrev pub Grows : (old new : List Tree) → Type 0
Grows old new = (rest : List Tree) × (new ≡ old ++ rest)
