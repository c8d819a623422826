-- The search with `--rewrite`, one turn at a time. A name that ends in `rewriting` is that of the search with conditions for the same, which ends in
-- `trying`.
use Rattle.std.specs.Prelude.{◌≡◌, Bool, not, ◌&&◌, if◌then◌else◌, List, [], ◌∷◌, map, length, Option, Some, None, Result, Ok, Err}
use Rattle.circ_term.specs.Tree.{Tree, sort_of}
use Rattle.circ_theory.specs.Theory.{Theory, goal}
use Rattle.circ_theory.specs.Observing.{is_hidden}
use Rattle.circ_theory.specs.Goal.{Goal}
use Rattle.circ_special.specs.declared.place.Place.{Place}
use Rattle.circ_proof.specs.Plain.{ChainOf, Same_why}
use Rattle.circ_conditional_norm.specs.Work.{Work}
use Rattle.circ_plain_search.specs.BlockRules.{block_rules}
use Rattle.circ_plain_search.specs.Joining.{and_then}
use Rattle.circ_plain_search.specs.Search.{Standing, Ending, chain_with, chained, or_end, is_nil, has_links, done_turn}
use Rattle.circ_conditional_search.specs.Joining.{Swept}
use Rattle.circ_conditional_search.specs.Search.{Manner, condition_normaliser, normal_sides_trying, with_sides_of, goal_reduced, open_turn_trying, worked, pass_chain, passed_sides, turn_trying}
use Rattle.circ_content_join.specs.Joining.{joined_by_content}
use Rattle.circ_content_join.specs.Moves.{Move, move_link, make_all}
use Rattle.circ_attempt.specs.Attempt.{Stood, has_stood, derived_rules, attempt}
use Rattle.circ_attempt.specs.Passes.{both_swept}
use Rattle.circ_attempt.specs.Rules.{derived_of_script, lemmas_of, first_rule_use}

-- how a search goes, and whether hypotheses are rules, which the flag `--rewrite` sets
pub record Conduct : Type 0 where
  pub manner : Manner
  pub rewrite : Bool

-- Where a search stands, and the pairs of sides to which a lemma pass was made since the goal in hand was taken.
pub record Going : Type 0 where
  pub standing : Standing
  pub passed : Stood

abbrev pub going : Standing → Stood → Going
going st ps = record { standing = st; passed = ps }

-- no pass was made to the goal in hand
abbrev pub afresh : Result Standing Ending → Result Going Ending
afresh r = and_then r (λ st. Ok (going st []))

-- which of the derived hypotheses were goals of the script
abbrev pub of_script : Theory → Standing → List Bool
of_script th st = derived_of_script th (length st.goals) st.steps

-- an attempt is made where the goal is hidden and the block has a rule of its own
abbrev pub is_attempted : Theory → Standing → Goal → Bool
is_attempted th st g = is_hidden th (sort_of g.left) && not (is_nil (derived_rules st.earlier st.hypotheses (of_script th st)))

-- the attempt at the goal in hand
abbrev pub attempt_here : Theory → List Place → Standing → Goal → Work (Option (ChainOf Tree))
attempt_here th G st g = attempt th G st.earlier st.hypotheses (of_script th st) g.conds g.left g.right st.budget

-- The goal is reduced by the attempt's chain. Where there is none, nothing of the attempt is kept but what it left of the budget.
abbrev pub attempted_turn : Theory → Manner → Standing → Goal → (rest : List Goal) → Option (ChainOf Tree) → Result Standing Ending
attempted_turn th m st g rest (Some c) = goal_reduced th m.limits st rest (Same_why (chained st.chain c))
attempted_turn th m st g rest None = open_turn_trying th m st g rest

-- a goal that lemma passes leave as it is
abbrev pub attempt_turn : Theory → List Place → Manner → Standing → Goal → (rest : List Goal) → Result Standing Ending
attempt_turn th G m st g rest =
    if is_attempted th st g then worked m.limits st (attempt_here th G st g) (λ o x. attempted_turn th m x g rest o)
    else open_turn_trying th m st g rest

-- a lemma pass over both sides of the goal in hand
abbrev pub lemma_pass : Theory → List Place → Standing → Goal → Work (Swept × Swept)
lemma_pass th G st g =
    both_swept (first_rule_use (condition_normaliser th st.earlier g.conds) (lemmas_of th 0 st.earlier)) G g.left g.right st.budget

-- Where a replacement was made, the goal goes on from the first item with the chains kept.
abbrev pub after_pass_turn : Theory → List Place → Manner → Stood → Goal → (rest : List Goal) → Swept × Swept → Standing → Result Going Ending
after_pass_turn th G m ps g rest w x =
    if has_links (pass_chain w) then Ok (going (with_sides_of x g rest (passed_sides w x.budget)) ((g.left, g.right) ∷ ps))
    else afresh (attempt_turn th G m x g rest)

-- a lemma pass, unless one was made to this pair since the goal was taken
abbrev pub pass_turn_rewriting : Theory → List Place → Manner → Standing → Stood → Goal → (rest : List Goal) → Result Going Ending
pass_turn_rewriting th G m st ps g rest =
    if has_stood g.left g.right ps then afresh (attempt_turn th G m st g rest)
    else worked m.limits st (lemma_pass th G st g) (after_pass_turn th G m ps g rest)

-- Where the sides Join, the goal is reduced. Join's links go to the left of the chain.
abbrev pub join_turn_rewriting : Theory → List Place → Manner → Stood → Goal → (rest : List Goal) → Option (List Move) → Standing
    → Result Going Ending
join_turn_rewriting th G m ps g rest None st = pass_turn_rewriting th G m st ps g rest
join_turn_rewriting th G m ps g rest (Some vs) st =
    afresh (and_then (or_end m.limits st (make_all g.left vs))
    (λ u. goal_reduced th m.limits st rest (Same_why (chained st.chain (chain_with (map move_link vs) [])))))

-- a goal whose sides are in normal form
abbrev pub sides_turn_rewriting : Theory → List Place → Manner → Standing → Stood → Goal → (rest : List Goal) → Result Going Ending
sides_turn_rewriting th G m st ps g rest =
    worked m.limits st (joined_by_content (condition_normaliser th st.earlier g.conds) th.signature G st.hypotheses [] g.left g.right st.budget)
    (join_turn_rewriting th G m ps g rest)

-- One goal: both sides are normalised under its conditions, and then it is looked at.
abbrev pub goal_turn_rewriting : Theory → List Place → Manner → Standing → Stood → Goal → (rest : List Goal) → Result Going Ending
goal_turn_rewriting th G m st ps g rest =
    and_then (or_end m.limits st (normal_sides_trying th (block_rules th st.earlier) g.conds g.left g.right st.budget))
    (λ n. sides_turn_rewriting th G m (with_sides_of st g rest n) ps (goal g.conds n.left n.right) rest)

-- one turn: the first goal of the queue is treated, if there is one
abbrev pub turn_rewriting_at : Theory → List Place → Manner → Standing → Stood → (queue : List Goal) → Result Going Ending
turn_rewriting_at th G m st ps [] = afresh (done_turn th m.limits st)
turn_rewriting_at th G m st ps (g ∷ rest) = goal_turn_rewriting th G m st ps g rest

-- without the flag it is a turn of the search with conditions
abbrev pub turn_rewriting : Theory → List Place → Conduct → Going → Result Going Ending
turn_rewriting th G c x =
    if c.rewrite then turn_rewriting_at th G c.manner x.standing x.passed x.standing.queue
    else afresh (turn_trying th G c.manner x.standing)

-- The search ends so from here.
pub data FinishesRewriting (th : Theory) (G : List Place) (c : Conduct) : Going → Ending → Type 0 where
  stops_so : (x : Going) (e : Ending) → turn_rewriting th G c x ≡ Err e → FinishesRewriting th G c x e
  goes_on_so : (x next : Going) (e : Ending) → turn_rewriting th G c x ≡ Ok next → FinishesRewriting th G c next e
      → FinishesRewriting th G c x e
