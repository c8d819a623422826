use Rattle.std.proofs.Common.{List, drop, ap, subst, ◌∙◌}
use Rattle.circ_term.specs.Tree.{Tree}
use Rattle.circ_theory.specs.Goal.{Goal}
use Rattle.circ_proof.specs.Plain.{WhyOf, Same_why, plain_chain}
use Rattle.circ_plain_search.specs.Search.{chained}
use Rattle.circ_conditional_search.specs.Search.{goal_reduced}
use Rattle.circ_turn.specs.Ending.{GoesTo}
use Rattle.circ_turn.specs.Standing.{standing, plain_limits}
use Rattle.circ_rewriting_turn.proofs.Going.{reduced_goes}
use Rattle.circ_rewriting_turn.proofs.steps.reduced_by.Goals as goal

pub returns : goal.returns
returns c =
    let th = c.args.search.now.theory.now in
    let l = plain_limits c.args.search.now.limits in
    let st = standing c.args.state.now in
    let more = plain_chain c.args.more in
    let w : WhyOf Tree = Same_why (plain_chain c.append.new.chain) in
    let same = ap Same_why (c.in_ok-append.ensures ∙ ap (λ x. chained x more) c.take_chain-chain.ensures.taken) in
    let P : List Goal → Type 0 = λ q. GoesTo (goal_reduced th l (standing c.take_chain-chain.new.self) (drop 1 q) w) (standing c.goal_reduced.new.state) c.goal_reduced.result in
    let goes = subst P c.take_chain-chain.ensures.kept.queue c.goal_reduced.ensures in
    reduced_goes th l st (standing c.take_chain-chain.new.self) (drop 1 c.args.state.now.queue.items) (Same_why (chained st.chain more)) w (standing c.goal_reduced.new.state)
    c.goal_reduced.result c.take_chain-chain.ensures.left same goes
