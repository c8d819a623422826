-- What a turn does with the goal in hand where hypotheses are rules. A name that ends in `rewriting` is that of the search with hypotheses as rules for
-- the same, which ends in `trying`.
use Rattle.std.specs.Prelude.{ℕ, false, if◌then◌else◌, List, [], ◌++◌, Option, Some, None}
use Rattle.circ_theory.specs.Theory.{Theory}
use Rattle.circ_theory.specs.Goal.{Goal}
use Rattle.circ_special.specs.declared.place.Place.{Place}
use Rattle.circ_plain_search.specs.Search.{Standing}
use Rattle.circ_conditional_search.specs.Joining.{Swept}
use Rattle.circ_conditional_search.specs.Search.{condition_normaliser}
use Rattle.circ_content_join.specs.Joining.{joined_by_content}
use Rattle.circ_content_join.specs.Moves.{Move}
use Rattle.circ_attempt.specs.Attempt.{Stood, has_stood}
use Rattle.circ_attempt.specs.Search.{is_attempted, attempt_here, lemma_pass}
use Rattle.circ_turn.specs.Standing.{with_budget}
use Rattle.circ_trace.specs.Deed.{Deed, Joins, Opens, deed_by, passes_or, attempt_deed_by}
use Rattle.circ_trace.specs.Used.{numbers_of, move_hypotheses}

-- of a goal that lemma passes leave as it is: an attempt, if one is made
abbrev pub attempt_deed : Theory → List Place → Standing → Goal → Deed
attempt_deed th G st g = if is_attempted th st g then attempt_deed_by (attempt_here th G st g) else Opens false

-- by what a lemma pass has made of both sides, and what it leaves of the budget
abbrev pub pass_deed : Theory → List Place → Standing → Goal → Swept × Swept → (budget : ℕ) → Deed
pass_deed th G st g w k = passes_or (numbers_of w.0.uses ++ numbers_of w.1.uses) (attempt_deed th G (with_budget st k) g)

-- a lemma pass, unless one was made to this pair since the goal was taken
abbrev pub lemma_deed : Theory → List Place → Standing → Stood → Goal → Deed
lemma_deed th G st ps g =
    if has_stood g.left g.right ps then attempt_deed th G st g else deed_by (lemma_pass th G st g) (pass_deed th G st g)

-- by whether the sides Join up to content
abbrev pub join_deed_rewriting : Theory → List Place → Standing → Stood → Goal → Option (List Move) → (budget : ℕ) → Deed
join_deed_rewriting th G st ps g (Some vs) k = Joins (move_hypotheses vs)
join_deed_rewriting th G st ps g None k = lemma_deed th G (with_budget st k) ps g

abbrev pub deed_rewriting : Theory → List Place → Standing → Stood → Goal → (budget : ℕ) → Deed
deed_rewriting th G st ps g k =
    deed_by (joined_by_content (condition_normaliser th st.earlier g.conds) th.signature G st.hypotheses [] g.left g.right k)
    (join_deed_rewriting th G st ps g)
