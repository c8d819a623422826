-- What the search with `--rewrite` finds (`RewritingSearch`), and where it comes to on its way.
use Rattle.std.specs.Prelude.{◌≡◌, List, [], map, Ok}
use Rattle.circ_theory.specs.Theory.{Theory}
use Rattle.circ_theory.specs.Goal.{Goal}
use Rattle.circ_special.specs.declared.place.Place.{Place}
use Rattle.circ_rewrite.specs.Links.{link_of}
use Rattle.circ_rewrite.specs.Replacement.{Traced}
use Rattle.circ_plain_search.specs.Greatest.{GreatestSpecialSet}
use Rattle.circ_plain_search.specs.Numbering.{Found, special}
use Rattle.circ_plain_search.specs.Search.{Ending, start}
use Rattle.circ_conditional_search.specs.Versions.{versioned_found}
use Rattle.circ_attempt.specs.Search.{Conduct, Going, going, turn_rewriting, FinishesRewriting}

-- the start with these blocks, of which there is one at least
abbrev pub first_going : Conduct → List (List Goal) → Going
first_going c blocks = going (start c.manner.limits blocks) []

-- With the greatest special set, and the traces of its start terms as certificates, the search of these blocks ends, and this is found then.
pub record RewritingSearch (th : Theory) (blocks : List (List Goal)) (c : Conduct) (found : Found) : Type 0 where
  pub places : List Place
  pub traces : List (List Traced)
  pub greatest : GreatestSpecialSet th c.manner.limits.steps places traces
  pub ending : Ending
  pub run : FinishesRewriting th places c (first_going c blocks) ending
  pub is : found ≡ versioned_found (special places (map (map link_of) traces)) ending

-- From the first going the search comes to the second, turn by turn.
pub data ComesRewriting (th : Theory) (G : List Place) (c : Conduct) (first : Going) : Going → Type 0 where
  here_so : ComesRewriting th G c first first
  further_so : (x next : Going) → ComesRewriting th G c first x → turn_rewriting th G c x ≡ Ok next → ComesRewriting th G c first next
