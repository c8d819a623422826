use Rattle.std.proofs.Common.{List, map, drop, ap, subst, ◌∙◌}
use Rattle.circ_plain_search.specs.Joining.{use_link}
use Rattle.circ_join.specs.Uses.{plain_uses}
use Rattle.circ_term.specs.Tree.{Tree}
use Rattle.circ_proof.specs.Plain.{WhyOf, Same_why, plain_link, plain_links}
use Rattle.circ_theory.specs.Goal.{Goal}
use Rattle.circ_plain_search.specs.Search.{chain_with}
use Rattle.circ_conditional_search.specs.Search.{goal_reduced}
use Rattle.circ_turn.specs.Ending.{GoesTo}
use Rattle.circ_turn.specs.Standing.{standing, plain_limits, manner_of}
use Rattle.circ_turn.proofs.Turning.{join_goes, goes_same, joined_why, map_append}
use Rattle.circ_turn.proofs.search.Search.join_turn.Goals as goal

pub returns : goal.returns
returns c =
    let st = standing c.args.state.now in
    let put = rw (c.in-Ok.is, c.as_slice.ensures.value) at c.put_all.ensures in
    let new = ap plain_links c.in_ok-append.ensures.items ∙ map_append plain_link c.take_chain-chain.result.left.items c.in_ok-links.links.items in
    let why = joined_why st.chain (plain_links c.take_chain-chain.result.left.items) (plain_links c.take_chain-chain.result.right.items) (plain_links c.in_ok-links.links.items)
    (map use_link (plain_uses c.args.uses.items)) (plain_links c.append.new.self.items) c.take_chain-chain.ensures.taken c.in_ok-links.ensures new in
    let w : WhyOf Tree = Same_why (chain_with (plain_links c.append.new.self.items) (plain_links c.take_chain-chain.result.right.items)) in
    let P : List Goal → Type 0 = λ q. GoesTo (goal_reduced c.args.self.now.theory.now (plain_limits c.args.self.now.limits) (standing c.take_chain-chain.new.self) (drop 1 q) w)
    (standing c.goal_reduced.new.state) c.goal_reduced.result in
    let goes = subst P c.take_chain-chain.ensures.kept.queue c.goal_reduced.ensures in
    goes_same _ _ _ _
    (join_goes c.args.self.now.theory.now c.args.self.now.gamma.now (manner_of c.args.self.now) st (standing c.take_chain-chain.new.self) c.args.goal.now
    (drop 1 c.args.state.now.queue.items) (plain_uses c.args.uses.items) c.in-Ok.field-0 w put c.take_chain-chain.ensures.left why) goes
