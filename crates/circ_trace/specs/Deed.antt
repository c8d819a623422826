-- What a turn of the search does with the goal in hand, whose sides are in normal form.
use Rattle.std.specs.Prelude.{ℕ, Bool, true, false, ◌==◌, if◌then◌else◌, List, length, Option, Some, None}
use Rattle.circ_term.specs.Tree.{Tree}
use Rattle.circ_proof.specs.Plain.{ChainOf}
use Rattle.circ_conditional_norm.specs.Work.{Work, Made, Out, Past}
use Rattle.circ_trace.specs.Used.{chain_hypotheses}
use Rattle.circ_trace.specs.declared.account.Deed.{Deed as TheDeed}
use Rattle.circ_trace.specs.declared.account.Deed.TheVariants as deed

-- The sides join by these hypotheses; or a lemma pass uses these; or an attempt makes them equal, and its links use these; or none of it, and the goal
-- gives way to its cases of this term, or is open. Or Join, the pass or the attempt ends the search. It is told whether an attempt was made that closed
-- nothing.
pub data Deed : Type 0 where
  Joins : (hypotheses : List ℕ) → Deed
  Passes : (hypotheses : List ℕ) → Deed
  Closes : (hypotheses : List ℕ) → Deed
  Cases : (attempted : Bool) → (term : Tree) → Deed
  Opens : (attempted : Bool) → Deed
  Ends : (attempted : Bool) → Deed

-- by what work comes to, and what it leaves of the budget; where it comes to nothing the search ends
abbrev pub deed_by : {A : Type 0} → Work A → (A → (budget : ℕ) → Deed) → Deed
deed_by (Made a k) f = f a k
deed_by Out f = Ends false
deed_by (Past l k) f = Ends false

-- by the hypotheses that a lemma pass uses; where it uses none, this is done
abbrev pub passes_or : List ℕ → Deed → Deed
passes_or ns d = if length ns == 0 then d else Passes ns

-- by what an attempt comes to
abbrev pub attempt_deed_by : Work (Option (ChainOf Tree)) → Deed
attempt_deed_by (Made (Some c) k) = Closes (chain_hypotheses c)
attempt_deed_by (Made None k) = Opens true
attempt_deed_by Out = Ends true
attempt_deed_by (Past l k) = Ends true

-- ---- what contracts see

abbrev pub plain_deed : TheDeed → Deed
plain_deed (deed.Joins hypotheses) = Joins hypotheses.items
plain_deed (deed.Passes hypotheses) = Passes hypotheses.items
plain_deed (deed.Closes hypotheses) = Closes hypotheses.items
plain_deed (deed.Cases attempted term) = Cases attempted term
plain_deed (deed.Opens attempted) = Opens attempted
plain_deed (deed.Ends attempted) = Ends attempted
