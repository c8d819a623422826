-- A table that grows by a term's subterms, one after another. A refusal leaves what was added.
use Rattle.std.specs.Prelude.{◌≡◌, ℕ, ◌<◌, Bool, true, false, List, length, Option, Some, None, Result, Ok, Err}
use Rattle.circ_term.specs.Tree.{Tree, Trees}
use Rattle.circ_term.specs.Growing.{Grows}
use Rattle.circ_proof.specs.Table.{number_in, added, all_added, term_limit}

-- the number of a term, with whose subterms the table is grown; or that table would be too long
abbrev pub NumbersSoFar : {E : Type 0} → (old new : List Tree) → Tree → Result (Option ℕ) E → Type 0
NumbersSoFar old new t (Ok (Some n)) = (new ≡ added old t) × (n ≡ number_in new t)
NumbersSoFar old new t (Ok None) = Grows old new × (term_limit < length (added old t))
NumbersSoFar old new t (Err e) = Grows old new

-- the terms and their subterms are there, or that table would be too long
abbrev pub AddsAllSoFar : {E : Type 0} → (old new : List Tree) → Trees → Result Bool E → Type 0
AddsAllSoFar old new ts (Ok true) = new ≡ all_added old ts
AddsAllSoFar old new ts (Ok false) = Grows old new × (term_limit < length (all_added old ts))
AddsAllSoFar old new ts (Err e) = Grows old new
