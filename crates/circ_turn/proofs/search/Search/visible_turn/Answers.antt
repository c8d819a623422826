use Rattle.std.proofs.Common.{List, drop, map, ap, subst, ◌∙◌}
use Rattle.circ_proof.specs.Plain.{Split_why}
use Rattle.circ_theory.specs.Pairs.{plain_pair}
use Rattle.circ_plain_search.specs.BlockRules.{block_rules}
use Rattle.circ_plain_search.specs.Search.{split_with}
use Rattle.circ_conditional_search.specs.Search.{goal_reduced}
use Rattle.circ_term.specs.Tree.{Tree}
use Rattle.circ_proof.specs.Plain.{plain_why, plain_whys}
use Rattle.circ_proof.specs.declared.links.Why.{Why, Split}
use Rattle.circ_proof.proofs.Rows.{split_plain}
use Rattle.circ_theory.specs.Goal.{Goal}
use Rattle.circ_turn.specs.Ending.{GoesTo}
use Rattle.circ_turn.specs.Standing.{standing, plain_limits}
use Rattle.circ_turn.proofs.Turning.{visible_goes, goes_same, part_ends, cases_here}
use Rattle.circ_turn.proofs.search.Search.visible_turn.Goals as goal

pub returns-in-Err-clause-exact : goal.returns-in-Err-clause-exact
returns-in-Err-clause-exact c =
    let h = rw c.in-Err.is at (cases_here c.args.self.now.theory.now c.args.rules.now.cases.rules (block_rules c.args.self.now.theory.now c.args.state.now.hyps.earlier) (map plain_pair c.as_slice-conds.result.now)
    c.args.goal.now.conds c.args.goal.now.left c.args.goal.now.right c.args.state.now.budget c.split_cases.new.budget c.split_cases.result c.requires.rules.rules c.as_slice-conds.ensures
    c.split_cases.ensures.exact) in
    rw c.end.ensures (part_ends (plain_limits c.args.self.now.limits) (standing c.args.state.now) c.in-Err.stop _ _ h)

pub returns-in-Ok-clause-exact : goal.returns-in-Ok-clause-exact
returns-in-Ok-clause-exact c =
    let st = standing c.args.state.now in
    let h = rw c.in-Ok.is at (cases_here c.args.self.now.theory.now c.args.rules.now.cases.rules (block_rules c.args.self.now.theory.now c.args.state.now.hyps.earlier) (map plain_pair c.as_slice-conds.result.now)
    c.args.goal.now.conds c.args.goal.now.left c.args.goal.now.right c.args.state.now.budget c.split_cases.new.budget c.split_cases.result c.requires.rules.rules c.as_slice-conds.ensures
    c.split_cases.ensures.exact) in
    let w : Why Tree = Split c.take_chain-chain.result c.in-Ok.cases.term c.in-Ok.cases.whys in
    let why = split_plain c.take_chain-chain.result c.in-Ok.cases.term c.in-Ok.cases.whys ∙ ap (λ x. Split_why x c.in-Ok.cases.term (plain_whys c.in-Ok.cases.whys.items)) c.take_chain-chain.ensures.taken in
    let P : List Goal → Type 0 = λ q. GoesTo (goal_reduced c.args.self.now.theory.now (plain_limits c.args.self.now.limits) (standing c.take_chain-chain.new.self) (drop 1 q) (plain_why w))
    (standing c.goal_reduced.new.state) c.goal_reduced.result in
    let goes = subst P c.take_chain-chain.ensures.kept.queue c.goal_reduced.ensures in
    goes_same _ _ _ _
    (visible_goes c.args.self.now.theory.now (plain_limits c.args.self.now.limits) st (standing c.take_chain-chain.new.self) c.args.goal.now
    (drop 1 c.args.state.now.queue.items) (split_with c.in-Ok.cases.term (plain_whys c.in-Ok.cases.whys.items) c.split_cases.new.budget) (plain_why w) h
    c.take_chain-chain.ensures.left why) goes
