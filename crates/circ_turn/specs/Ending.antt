-- What parts of a turn answer.
use Rattle.std.specs.Prelude.{◌≡◌, ℕ, ◌+◌, ◌-◌, Bool, true, false, if◌then◌else◌, List, ◌++◌, map, length, Result, Ok, Err}
use Rattle.circ_term.specs.Tree.{Tree, sort_of}
use Rattle.circ_theory.specs.Pairs.{plain_pair}
use Rattle.circ_theory.specs.Theory.{Theory, Pair}
use Rattle.circ_theory.specs.Goal.{Goal}
use Rattle.circ_proof.specs.Goals.{with_cond}
use Rattle.circ_proof.specs.Rules.{Cases}
use Rattle.circ_memo.specs.Value.{Rewriting}
use Rattle.circ_plain_search.specs.BlockRules.{block_rules}
use Rattle.circ_plain_search.specs.Joining.{Stop as PlainStop, and_then}
use Rattle.circ_plain_search.specs.Search.{Limits, Standing, Ending, All_done, Is_stuck, Is_spent, Is_too_big, Is_too_deep}
use Rattle.circ_plain_search.specs.Search.{Sides, sides_with, has_links, next_goal, record_step, case_of, constants_of}
use Rattle.circ_conditional_search.specs.Joining.{Swept}
use Rattle.circ_conditional_search.specs.Search.{Manner, open_turn_trying, pass_chain, passed_sides, with_sides_of}
use Rattle.circ_proof.specs.Plain.{plain_chain}
use Rattle.circ_proof.specs.declared.links.Chain.{Chain}
use Rattle.circ_join.specs.Stopping.{Stops}
use Rattle.circ_join.specs.declared.stop.Stop.{Stop}
use Rattle.circ_join.specs.declared.stop.Stop.TheVariants as stop
use Rattle.circ_turn.specs.declared.end.End.{End}
use Rattle.circ_turn.specs.declared.end.End.TheVariants as end
use Rattle.circ_turn.specs.Standing.{unlinked}

-- the search ends so, or memory ran out
abbrev pub EndsAs : {A : Type 0} → Result A Ending → End → Type 0
EndsAs r (end.Stuck block goal s t A) = r ≡ Err (Is_stuck block goal s t (map plain_pair A.items))
EndsAs r (end.Spent rewrites derives steps) = r ≡ Err (Is_spent rewrites derives steps)
EndsAs r (end.TooBig nodes) = r ≡ Err (Is_too_big nodes)
EndsAs r (end.TooDeep depth) = r ≡ Err (Is_too_deep depth)
EndsAs r end.Memory = Unit {0}

-- the search goes on from this standing, or ends
abbrev pub GoesTo : {X : Type 0} → Result Standing Ending → Standing → Result X End → Type 0
GoesTo r st (Ok x) = r ≡ Ok st
GoesTo r st (Err e) = EndsAs r e

-- the same, where the links of the goal in hand count no more
abbrev pub GoesUnlinked : {X : Type 0} → Result Standing Ending → Standing → Result X End → Type 0
GoesUnlinked r st (Ok x) = (y : Standing) × (r ≡ Ok y) × (st ≡ unlinked y)
GoesUnlinked r st (Err e) = EndsAs r e

-- a block is finished: the next begins, or every goal is done
abbrev pub GoesOrDone : Result Standing Ending → Standing → Result Bool End → Type 0
GoesOrDone r st (Ok true) = r ≡ Ok st
GoesOrDone r st (Ok false) = r ≡ Err (All_done st.finished st.derives st.made st.deep)
GoesOrDone r st (Err e) = EndsAs r e

-- how a search ends that a part of it stops
abbrev pub end_by : Limits → Standing → Stop → End
end_by l st stop.Spent = end.Spent l.steps st.derives st.made
end_by l st (stop.TooBig nodes) = end.TooBig nodes
end_by l st (stop.TooDeep depth) = end.TooDeep depth
end_by l st (stop.Stuck s t A) = end.Stuck (length st.finished + 1) (st.taken + 1) s t A
end_by l st stop.Memory = end.Memory

-- how it ends where a budget is spent
abbrev pub end_spent : Limits → Standing → End
end_spent l st = end.Spent (l.steps - st.budget) st.derives st.made

-- the ending is such
abbrev pub IsEnd : (Ending → Type 0) → End → Type 0
IsEnd R (end.Stuck block goal s t A) = R (Is_stuck block goal s t (map plain_pair A.items))
IsEnd R (end.Spent rewrites derives steps) = R (Is_spent rewrites derives steps)
IsEnd R (end.TooBig nodes) = R (Is_too_big nodes)
IsEnd R (end.TooDeep depth) = R (Is_too_deep depth)
IsEnd R end.Memory = Unit {0}

-- a search ends so: with every goal done where it stands, or as it says
abbrev pub RunEnds : {X : Type 0} → (Ending → Type 0) → Standing → Result X End → Type 0
RunEnds R st (Ok x) = R (All_done st.finished st.derives st.made st.deep)
RunEnds R st (Err e) = IsEnd R e

-- the step Cases is recorded, and the goal in hand is replaced by the goals in which u is each constant in turn
abbrev pub cases_made : Theory → Limits → Standing → Goal → (rest : List Goal) → (u : Tree) → Result Standing Ending
cases_made th l st g rest u =
    and_then (record_step th l st (Cases u))
    (λ x. Ok (next_goal x.hypotheses (map (λ c. with_cond g (case_of u c)) (constants_of th (sort_of u)) ++ rest) x))

-- what the search goes on with after a lemma pass over both sides
abbrev pub swept_turn : Theory → Manner → Standing → Goal → (rest : List Goal) → Swept × Swept → Result Standing Ending
swept_turn th m st g rest w =
    if has_links (pass_chain w) then Ok (with_sides_of st g rest (passed_sides w st.budget)) else open_turn_trying th m st g rest

-- a goal in normal form with the links to its sides, by the sides in normal form under its conditions
abbrev pub GivesNormal : (conds : List Pair) → Result Sides PlainStop → (left : ℕ) → Result (Goal × Chain Tree) Stop → Type 0
GivesNormal E r left (Ok n) = (n.0.conds ≡ E) × (r ≡ Ok (sides_with n.0.left n.0.right (plain_chain n.1) left))
GivesNormal E r left (Err e) = Stops r e

-- the rules of a block after these goals, under the conditions of a goal
abbrev pub reducing : Theory → (earlier : List Goal) → (conds : List Pair) → Rewriting
reducing th E A = record { theory = th; rules = block_rules th E; assumptions = A }
