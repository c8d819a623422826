-- What is appended turn by turn.
use Rattle.std.specs.Prelude.{◌≡◌, true, ℕ, List, [], ◌++◌}
use Rattle.circ_theory.specs.Theory.{Theory}
use Rattle.circ_special.specs.declared.place.Place.{Place}
use Rattle.circ_plain_search.specs.Search.{Standing, Ending}
use Rattle.circ_attempt.specs.Search.{Conduct, Going, going}
use Rattle.circ_turn.specs.declared.search.Search.{Search}
use Rattle.circ_rewriting_turn.specs.PassRules.{ReadAt}
use Rattle.circ_rewriting_turn.specs.declared.pass_rules.PassRules.{PassRules}
use Rattle.circ_trace.specs.Descents.{given_row}
use Rattle.circ_trace.specs.Tracing.{Turns, turns_text}

-- The search ends so from the beginning of a block, and the lines of its turns were appended.
pub record IsTold (th : Theory) (G : List Place) (c : Conduct) (st : Standing) (old new : List ℕ) (e : Ending) : Type 0 where
  pub goings : List Going
  pub turns : Turns th G c (going st []) goings e
  pub appended : new ≡ old ++ turns_text th G c (given_row st.goals) goings

-- The rules of the block's passes are read, where hypotheses are rules.
abbrev pub RulesAreRead : Search → Standing → PassRules → Type 0
RulesAreRead s st r = s.limits.rewrite ≡ true → ReadAt s.theory.now st r
