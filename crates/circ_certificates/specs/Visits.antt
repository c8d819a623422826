-- Terms that are gone over, with what is known of the paths to them.
use Rattle.std.specs.Prelude.{◌≡◌, ◌<◌, true, List, length}
use Rattle.std.specs.List.{AllByRecursion}
use Rattle.circ_nodes.specs.Named.{tree_at}
use Rattle.circ_certificates.specs.declared.guard.Asked.{Asked}
use Rattle.circ_certificates.specs.declared.guard.Visit.{Visit}
use Rattle.circ_certificates.specs.Covering.{numbered_terms, IsCovered}

-- its terms are there
pub record IsVisit (a : Asked) (v : Visit) : Type 0 where
  pub term : v.term < length a.nodes.now
  pub bodies : AllByRecursion (λ n. n < length a.nodes.now) v.bodies.items

-- each occurrence in the term is guarded from it on, or is the hole of one of the bodies
abbrev pub IsCoveredVisit : Asked → Visit → Type 0
IsCoveredVisit a v = IsCovered a (v.is_special ≡ true) (numbered_terms a v.bodies.items) (tree_at a.nodes.now v.term)

-- so it is with each of these
abbrev pub AreCoveredVisits : Asked → List Visit → Type 0
AreCoveredVisits a vs = AllByRecursion (IsCoveredVisit a) vs
