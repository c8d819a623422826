-- A state that is handed over in pieces.
use Rattle.std.proofs.Common.{◌≡◌, ◌++◌, [], List, ap, ◌∙◌}
use Rattle.circ_theory.specs.Goal.{Goal}
use Rattle.circ_proof.specs.Rules.{State, state}

-- first the hypotheses, and then the goals in two lists
pub handed_over : (a b c d : State) (H K F B goals : List Goal) → a ≡ state [] [] → b ≡ state (a.hypotheses ++ H) a.goals → c ≡ state b.hypotheses (b.goals ++ F)
    → d ≡ state c.hypotheses (c.goals ++ B) → H ≡ K → F ++ B ≡ goals → d ≡ state K goals
handed_over a b c d H K F B goals e f g h k l =
    let one : b ≡ state H [] = f ∙ ap {A = State} (λ x. state (x.hypotheses ++ H) x.goals) e in
    let two : c ≡ state H F = g ∙ ap {A = State} (λ x. state x.hypotheses (x.goals ++ F)) one in
    h ∙ ap {A = State} (λ x. state x.hypotheses (x.goals ++ B)) two ∙ ap (state H) l ∙ ap (λ xs. state xs goals) k
