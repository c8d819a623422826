use Rattle.std.proofs.Common.{◌≡◌, ◌++◌, drop, map}
use Rattle.circ_proof.specs.Goals.{with_cond}
use Rattle.circ_plain_search.specs.Search.{case_of}
use Rattle.circ_split.proofs.casing.case_goals.Given as goal

abbrev pub invariant-loop-constant : goal.invariant-loop-constant
invariant-loop-constant l =
    l.goals.items ++ map (λ k. with_cond l.goal (case_of l.term k)) (drop l.constant-index l.constants) ≡ map (λ k. with_cond l.goal (case_of l.term k)) l.constants
