use Rattle.circ_proof.specs.PlainProof.{plain_step}
use Rattle.circ_steps.specs.States.{state_at}
use Rattle.circ_steps.proofs.Applied.{applied_sorted}
use Rattle.circ_steps.proofs.rules.Rules.apply.Goals as goal

pub returns-clause-sorted : goal.returns-clause-sorted
returns-clause-sorted c =
    let r = c.args.self.now in
    applied_sorted r.theory.now c.known.ensures r.gamma.now c.args.nodes.now r.table.now c.requires.table_sorted (plain_step c.args.step.now) c.requires.in_table
    (state_at c.args.nodes.now c.args.state.now) (state_at c.by_rule.new.nodes c.by_rule.new.state) c.requires.sorted c.by_rule.result c.by_rule.ensures.exact
    c.by_rule.ensures.kept
