-- How a table looks its terms up: by their fingerprints.
use Rattle.std.specs.Prelude.{◌≡◌, ℕ, true, false, List, map, Option, Some, None}
use Rattle.circ_term.specs.Tree.{Tree}
use Rattle.circ_term.specs.Fingerprint.{fingerprint_of}
use Rattle.circ_proof.specs.Table.{IsTable, has, number_in, added}

-- beside each term stands its fingerprint
pub record IsKeyed (terms : List Tree) (fingerprints : List ℕ) : Type 0 where
  pub table : IsTable terms
  pub keys : fingerprints ≡ map fingerprint_of terms

-- What a look-up answers: the term's number, where its subterms are there too; or that it is not there.
abbrev pub Finds : (table : List Tree) → Tree → Option ℕ → Type 0
Finds table t (Some n) = (has table t ≡ true) × (n ≡ number_in table t) × (added table t ≡ table)
Finds table t None = has table t ≡ false
