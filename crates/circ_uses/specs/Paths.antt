-- What contracts see of paths, and paths in arguments from some one on.
use Rattle.std.specs.Prelude.{ℕ, ◌+◌, List, [], ◌∷◌, map}
use Rattle.std.specs.Global.{Vec}
use Rattle.circ_term.specs.Tree.{Trees}
use Rattle.circ_expansion.specs.Expand.{paths_in}

abbrev pub plain_paths : List (Vec ℕ) → List (List ℕ)
plain_paths vs = map (λ v. v.items) vs

-- so many arguments stand before these
abbrev pub behind : ℕ → List ℕ → List ℕ
behind k [] = []
behind k (i ∷ p) = (k + i) ∷ p

abbrev pub paths_from : (k number sort : ℕ) → Trees → List (List ℕ)
paths_from k n s ts = map (behind k) (paths_in n s ts)
