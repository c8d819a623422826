use Rattle.std.proofs.Common.{List, IfOk, subst}
use Rattle.circ_term.specs.Subst.{substitution_of}
use Rattle.circ_pairs.specs.Variables.{Variable}
use Rattle.circ_pairs.specs.Renumbering.{Renumbers}
use Rattle.circ_pairs.proofs.Gathering.{few_occurring, goal_seen}
use Rattle.circ_pairs.proofs.renumber.goal_renumbering.Goals as goal

pub renumbering-requires : goal.renumbering-requires
renumbering-requires c =
    few_occurring c.as_slice.result.now _
    (goal_seen c.args.goal.now c.new-variables.result.keys c.gather_goal.new.variables.keys c.as_slice.result.now c.new-variables.ensures.empty c.in_ok-gather_goal.ensures c.as_slice.ensures.keys)
    c.requires

pub returns : goal.returns
returns c =
    let P : List Variable → Type 0 = λ vs. IfOk c.renumbering.result (λ σ. Renumbers (substitution_of σ) vs) in
    subst P
    (goal_seen c.args.goal.now c.new-variables.result.keys c.gather_goal.new.variables.keys c.as_slice.result.now c.new-variables.ensures.empty c.in_ok-gather_goal.ensures c.as_slice.ensures.keys)
    c.renumbering.ensures
