-- What the calls of a split answer, with what is left of the budget.
use Rattle.std.specs.Prelude.{◌≡◌, ℕ, List, [], ◌∷◌, Result, Ok, Err}
use Rattle.circ_term.specs.Tree.{Tree}
use Rattle.circ_theory.specs.Theory.{Theory, Pair}
use Rattle.circ_proof.specs.Plain.{WhysOf, more_whys}
use Rattle.circ_rewrite.specs.declared.parts.Rule.{Rule}
use Rattle.circ_plain_search.specs.Joining.{Stop, and_then}
use Rattle.circ_plain_search.specs.Search.{NormalSide, normal_side, Sides, sides_with, Reason, reason_with, SplitReason, split_with, case_reason}
use Rattle.circ_conditional_search.specs.Search.{normal_sides_trying, split_cases_trying}
use Rattle.circ_proof.specs.Plain.{plain_links, plain_chain, plain_why, plain_whys}
use Rattle.circ_proof.specs.declared.links.Why.{Why}
use Rattle.circ_join.specs.Stopping.{Stops}
use Rattle.circ_join.specs.declared.stop.Stop.{Stop as TheStop}
use Rattle.circ_split.specs.declared.sides.Side.{Side}
use Rattle.circ_split.specs.declared.sides.Sides.{Sides as TheSides}
use Rattle.circ_split.specs.declared.splitting.Cases.{Cases}

abbrev pub GivesSide : Result NormalSide Stop → (left : ℕ) → Result Side TheStop → Type 0
GivesSide r left (Ok n) = r ≡ Ok (normal_side n.term (plain_links n.links.items) left)
GivesSide r left (Err e) = Stops r e

abbrev pub GivesSides : Result Sides Stop → (left : ℕ) → Result TheSides TheStop → Type 0
GivesSides r left (Ok n) = r ≡ Ok (sides_with n.left n.right (plain_chain n.chain) left)
GivesSides r left (Err e) = Stops r e

abbrev pub GivesReason : Result Reason Stop → (left : ℕ) → Result (Why Tree) TheStop → Type 0
GivesReason r left (Ok w) = r ≡ Ok (reason_with (plain_why w) left)
GivesReason r left (Err e) = Stops r e

abbrev pub GivesCases : Result SplitReason Stop → (left : ℕ) → Result Cases TheStop → Type 0
GivesCases r left (Ok c) = r ≡ Ok (split_with c.term (plain_whys c.whys.items) left)
GivesCases r left (Err e) = Stops r e

-- what a case gives under its assumptions, with room for so many splits
abbrev pub case_answer : Theory → List Rule → (room : ℕ) → (assumptions : List Pair) → (s t : Tree) → (budget : ℕ) → Result Reason Stop
case_answer th R room A s t k = and_then (normal_sides_trying th R A s t k) (case_reason (split_cases_trying th R room) A)

-- reasons made before, and those to come
abbrev pub onto : List (Why Tree) → WhysOf Tree → WhysOf Tree
onto [] ws = ws
onto (v ∷ vs) ws = more_whys (plain_why v) (onto vs ws)
