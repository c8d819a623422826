-- The state at the end of a block's steps.
use Rattle.std.proofs.Common.{◌≡◌, ℕ, List, [], ◌++◌, map, ap, ◌∙◌}
use Rattle.circ_term.specs.Tree.{Tree}
use Rattle.circ_theory.specs.Theory.{Theory}
use Rattle.circ_theory.specs.Goal.{Goal}
use Rattle.circ_special.specs.declared.place.Place.{Place}
use Rattle.circ_proof.specs.Rules.{State, state, ProofStep, map_step, StepsOf}
use Rattle.circ_proof.specs.Proof.{IsEnded}
use Rattle.circ_proof.proofs.Stepping.{steps_grow, steps_end}

-- no goal is left, and the hypotheses are those at the start with some appended
pub ended : (th : Theory) (G : List Place) (name : ℕ → Tree) (ss : List (ProofStep ℕ)) (a b : State) → IsEnded ss → StepsOf th G (map (map_step name) ss) a b
    → (ds : List Goal) × (b ≡ state (a.hypotheses ++ ds) [])
ended th G name ss a b e r =
    let g = steps_grow th G (map (map_step name) ss) a b r in
    (g.appended, ap (λ H. state H b.goals) g.whole ∙ ap (state (a.hypotheses ++ g.appended)) (steps_end th G name ss a b e r))
