-- What contracts see of what a search finds.
use Rattle.std.specs.Prelude.{List, map, Option, Some, None, Result, Ok, Err}
use Rattle.circ_theory.specs.Pairs.{plain_pair}
use Rattle.circ_rewrite.specs.Links.{link_of}
use Rattle.circ_rewrite.specs.Replacement.{Traced}
use Rattle.circ_proof.specs.PlainProof.{plain_proof}
use Rattle.circ_proof.specs.Proof.{Proof}
use Rattle.circ_special.specs.declared.place.Place.{Place}
use Rattle.circ_plain_search.specs.Search.{Standing, Ending, All_done, Is_stuck, Is_spent, Is_too_big, Is_too_deep}
use Rattle.circ_plain_search.specs.Numbering.{Found, Proved, LongTable, Stuck, Spent, TooBig, TooDeep, Special, special}
use Rattle.circ_turn.specs.declared.end.End.{End}
use Rattle.circ_turn.specs.declared.end.End.TheVariants as end
pub use Rattle.circ_turn.specs.Standing.{plain_limits, manner_with, conduct_with}
use Rattle.circ_search.specs.declared.found.Found.{Found as TheFound}
use Rattle.circ_search.specs.declared.found.Found.TheVariants as found

abbrev pub plain_found : TheFound → Found
plain_found (found.Proved proof) = Proved (plain_proof proof)
plain_found (found.LongTable terms) = LongTable terms
plain_found (found.Stuck block goal s t A) = Stuck block goal s t (map plain_pair A.items)
plain_found (found.Spent rewrites derives steps) = Spent rewrites derives steps
plain_found (found.TooBig nodes) = TooBig nodes
plain_found (found.TooDeep depth) = TooDeep depth

-- the ending that is told, unless memory ran out
abbrev pub ending_of : End → Option Ending
ending_of (end.Stuck block goal s t A) = Some (Is_stuck block goal s t (map plain_pair A.items))
ending_of (end.Spent rewrites derives steps) = Some (Is_spent rewrites derives steps)
ending_of (end.TooBig nodes) = Some (Is_too_big nodes)
ending_of (end.TooDeep depth) = Some (Is_too_deep depth)
ending_of end.Memory = None

-- the ending of a run that has come to this standing, unless memory ran out
abbrev pub ending_at : {X : Type 0} → Standing → Result X End → Option Ending
ending_at st (Ok x) = Some (All_done st.finished st.derives st.made st.deep)
ending_at st (Err e) = ending_of e

-- the set with its certificates, from the traces
abbrev pub special_with : List Place → List (List Traced) → Special
special_with G traces = special G (map (map link_of) traces)

-- the property holds of a proof that is found
abbrev pub IfProved : TheFound → (Proof → Type 0) → Type 0
IfProved (found.Proved proof) P = P (plain_proof proof)
IfProved (found.LongTable terms) P = Unit {0}
IfProved (found.Stuck block goal s t A) P = Unit {0}
IfProved (found.Spent rewrites derives steps) P = Unit {0}
IfProved (found.TooBig nodes) P = Unit {0}
IfProved (found.TooDeep depth) P = Unit {0}
