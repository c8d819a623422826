use Rattle.std.proofs.Common.{sym, ◌∙◌}
use Rattle.circ_turn.specs.Standing.{standing, plain_limits}
use Rattle.circ_turn.proofs.Turning.{simplified_goes, nothing_simplified}
use Rattle.circ_turn.proofs.search.Search.goal_simplified.Goals as goal

pub returns-clause-exact : goal.returns-clause-exact
returns-clause-exact c =
    simplified_goes c.args.self.now.theory.now (plain_limits c.args.self.now.limits) (standing c.args.state.now) (standing c.take_chain-chain.new.self) (standing c.step_recorded.new.state) _
    c.step_recorded.result (sym c.has_links.ensures ∙ c.if-not-has_links.false) c.take_chain-chain.ensures.left c.take_chain-chain.ensures.taken c.step_recorded.ensures.exact

pub returns-then-not-has_links-clause-exact : goal.returns-then-not-has_links-clause-exact
returns-then-not-has_links-clause-exact c =
    nothing_simplified c.args.self.now.theory.now (plain_limits c.args.self.now.limits) (standing c.args.state.now) (sym c.has_links.ensures ∙ c.if-not-has_links.true)
