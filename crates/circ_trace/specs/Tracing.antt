-- What `trace` answers: the lines of each turn of the search, and then what `prove` would answer.
use Rattle.std.specs.Prelude.{◌≡◌, ℕ, List, [], ◌∷◌, ◌++◌, map, None, Ok, Err}
use Rattle.circ_theory.specs.Theory.{Theory}
use Rattle.circ_theory.specs.Goal.{Goal}
use Rattle.circ_special.specs.declared.place.Place.{Place}
use Rattle.circ_rewrite.specs.Links.{link_of}
use Rattle.circ_rewrite.specs.Replacement.{Traced}
use Rattle.circ_plain_search.specs.Greatest.{GreatestSpecialSet}
use Rattle.circ_plain_search.specs.Numbering.{special}
use Rattle.circ_plain_search.specs.Search.{Ending as SearchEnding}
use Rattle.circ_attempt.specs.RewritingSearch.{first_going}
use Rattle.circ_attempt.specs.Search.{Conduct, Going, turn_rewriting}
use Rattle.circ_conditional_search.specs.Versions.{versioned_found}
use Rattle.circ_found.specs.Answering.{found_ending}
use Rattle.circ_status.specs.Ending.{Ending, ending}
use Rattle.circ_trace.specs.Account.{account}
use Rattle.circ_trace.specs.Descents.{after_turn, first_row}
use Rattle.circ_trace.specs.TurnText.{turn_text}
use Rattle.circ_trace.specs.declared.descent.Descent.{Descent}

-- From here the search has its turns in these goings, of which this is the first, and ends so.
pub data Turns (th : Theory) (G : List Place) (c : Conduct) : Going → List Going → SearchEnding → Type 0 where
  ends : (x : Going) (e : SearchEnding) → turn_rewriting th G c x ≡ Err e → Turns th G c x (x ∷ []) e
  goes : (x next : Going) (xs : List Going) (e : SearchEnding) → turn_rewriting th G c x ≡ Ok next → Turns th G c next xs e
      → Turns th G c x (x ∷ xs) e

-- The lines of the turns in these goings. The goals that wait in the first of them come from there.
abbrev pub turns_text : Theory → List Place → Conduct → List Descent → List Going → List ℕ
turns_text th G c ds [] = []
turns_text th G c ds (x ∷ xs) =
    turn_text th ds x.standing (account th G c x) ++ turns_text th G c (after_turn th ds x.standing (account th G c x)) xs

-- these lines before what is answered, and nothing is stored
abbrev pub after_lines : (lines : List ℕ) → Ending → Ending
after_lines lines e = ending e.status (lines ++ e.text) None

-- With the greatest special set the search of these blocks has its turns in these goings; their lines come before the answer to what is found.
pub record TraceEnds (th : Theory) (c : Conduct) (blocks : List (List Goal)) (e : Ending) : Type 0 where
  pub places : List Place
  pub traces : List (List Traced)
  pub greatest : GreatestSpecialSet th c.manner.limits.steps places traces
  pub goings : List Going
  pub search_ending : SearchEnding
  pub turns : Turns th places c (first_going c blocks) goings search_ending
  pub is : after_lines (turns_text th places c (first_row blocks) goings)
      (found_ending th.signature [] (versioned_found (special places (map (map link_of) traces)) search_ending)) ≡ e
