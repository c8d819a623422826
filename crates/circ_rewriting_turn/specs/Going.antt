-- How a turn with hypotheses as rules goes.
use Rattle.std.specs.Prelude.{◌≡◌, Bool, true, false, Result, Ok, Err}
use Rattle.circ_plain_search.specs.Search.{Ending, All_done}
use Rattle.circ_attempt.specs.Search.{Conduct, Going}
use Rattle.circ_turn.specs.Ending.{EndsAs}
use Rattle.circ_turn.specs.Standing.{manner_of}
use Rattle.circ_turn.specs.declared.end.End.{End}
use Rattle.circ_turn.specs.declared.search.Search.{Search}

-- how the search goes, with hypotheses as rules
abbrev pub rewriting_by : Search → Conduct
rewriting_by s = record { manner = manner_of s; rewrite = true }

-- the search goes on from there, or ends
abbrev pub TurnsTo : {X : Type 0} → Result Going Ending → Going → Result X End → Type 0
TurnsTo r x (Ok v) = r ≡ Ok x
TurnsTo r x (Err e) = EndsAs r e

-- a block is finished: the next begins, or every goal is done
abbrev pub TurnsToOrDone : Result Going Ending → Going → Result Bool End → Type 0
TurnsToOrDone r x (Ok true) = r ≡ Ok x
TurnsToOrDone r x (Ok false) = r ≡ Err (All_done x.standing.finished x.standing.derives x.standing.made x.standing.deep)
TurnsToOrDone r x (Err e) = EndsAs r e
