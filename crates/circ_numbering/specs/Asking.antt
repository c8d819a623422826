-- What calls answer that ask a table for terms.
use Rattle.std.specs.Prelude.{◌≡◌, ◌<◌, ◌≤◌, ℕ, List, length, Result, Ok, Err}
use Rattle.circ_term.specs.Tree.{Tree}
use Rattle.circ_term.specs.Growing.{Grows}
use Rattle.circ_proof.specs.Plain.{LinkOf, ChainsOf, plain_link, plain_chains}
use Rattle.circ_proof.specs.declared.links.Link.{Link}
use Rattle.circ_proof.specs.Table.{term_limit}
use Rattle.circ_proof.specs.Proof.{Proof}
use Rattle.circ_plain_search.specs.Numbering.{asked_for}
use Rattle.circ_numbering.specs.declared.asking.Parts.{Parts}
use Rattle.circ_numbering.specs.declared.fault.NumberFault.{NumberFault}
use Rattle.circ_numbering.specs.declared.fault.NumberFault.TheVariants as fault

-- the fault of a table that would grow to this one
abbrev pub IsFaultOf : (grown : List Tree) → NumberFault → Type 0
IsFaultOf grown fault.LongTable = term_limit < length grown
IsFaultOf grown fault.Memory = Unit {0}

-- The table has the terms that are asked for, in their order, and in each table that goes on from it this is what was asked for; or the fault is that of
-- the table as it would be.
abbrev pub Asks : {X : Type 0} → (old new terms : List Tree) → (Named : (table : List Tree) → X → Type 0) → Result X NumberFault → Type 0
Asks old new terms Named (Ok x) = (new ≡ asked_for old terms) × ((table : List Tree) → Grows new table → Named table x)
Asks old new terms Named (Err e) = IsFaultOf (asked_for old terms) e

-- the link that parts make, or what was their fault
abbrev pub MakesLink : (make : (path terms : List ℕ) → ChainsOf ℕ → LinkOf ℕ) → Result Parts NumberFault → Result (Link ℕ) NumberFault → Type 0
MakesLink make (Ok p) (Ok x) = plain_link x ≡ make p.path.items p.terms.items (plain_chains p.conds.items)
MakesLink make (Ok p) (Err e) = ⊥
MakesLink make (Err f) (Ok x) = ⊥
MakesLink make (Err f) (Err e) = e ≡ f

-- the proof, whose table is short enough; or the fault of its table
abbrev pub GivesProof : {X : Type 0} → (plain : X → Proof) → Proof → Result X NumberFault → Type 0
GivesProof plain p (Ok x) = (plain x ≡ p) × (length p.table ≤ term_limit)
GivesProof plain p (Err e) = IsFaultOf p.table e
