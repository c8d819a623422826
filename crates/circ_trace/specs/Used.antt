-- The hypotheses that lemma passes, moves and links use, in their order.
use Rattle.std.specs.Prelude.{ℕ, List, [], ◌∷◌, ◌++◌, map, flat_map}
use Rattle.circ_term.specs.Tree.{Tree}
use Rattle.circ_proof.specs.Plain.{LinkOf, Equation_link, Hypothesis_link, Assumption_link, Content_link, ChainOf}
use Rattle.circ_plain_search.specs.Joining.{HypothesisUse}
use Rattle.circ_content_join.specs.Moves.{Move, Using, Regrouping}

abbrev pub numbers_of : List HypothesisUse → List ℕ
numbers_of us = map (λ u. u.number) us

abbrev pub move_hypothesis : Move → List ℕ
move_hypothesis (Using u) = u.number ∷ []
move_hypothesis (Regrouping f q t) = []

abbrev pub move_hypotheses : List Move → List ℕ
move_hypotheses vs = flat_map move_hypothesis vs

abbrev pub link_hypothesis : LinkOf Tree → List ℕ
link_hypothesis (Equation_link n w q ts cs) = []
link_hypothesis (Hypothesis_link n w q ts cs) = n ∷ []
link_hypothesis (Assumption_link n w q) = []
link_hypothesis (Content_link f q t) = []

abbrev pub link_hypotheses : List (LinkOf Tree) → List ℕ
link_hypotheses ls = flat_map link_hypothesis ls

-- those of the left side first
abbrev pub chain_hypotheses : ChainOf Tree → List ℕ
chain_hypotheses c = link_hypotheses c.left ++ link_hypotheses c.right
