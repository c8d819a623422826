use Rattle.std.proofs.Common.{List, map}
use Rattle.circ_theory.specs.Goal.{Goal}
use Rattle.circ_refute.specs.PlainRefutation.{Decision, goals_in}
use Rattle.circ_refute.specs.Plain.{plain_decision}
use Rattle.circ_found.proofs.Fitting.{answered, right_entries}
use Rattle.circ_found.proofs.differing.differ.Goals as goal

pub refuted_ending-requires : goal.refuted_ending-requires
refuted_ending-requires c =
    let bs : List (List Goal) = map (λ b. b.items) c.args.blocks.now in
    let x : Decision = plain_decision c.in_ok-decision.decision 0 0 in
    right_entries c.args.theory.now 1 (goals_in bs) x.goal x.conclusion.refuted c.in_ok-decision.ensures.right

pub returns : goal.returns
returns c =
    let bs : List (List Goal) = map (λ b. b.items) c.args.blocks.now in
    let x : Decision = plain_decision c.in_ok-decision.decision c.refute_all.new.rewrites c.refute_all.new.derives in
    answered c.args.theory.now c.args.rewrites c.args.derives bs x c.in_ok-decision.ensures.exact c.in_ok-decision.ensures.right c.refuted_ending.result
    c.refuted_ending.ensures
