use Rattle.std.proofs.Common.{◌==◌, ap, ◌∙◌}
use Rattle.circ_steps.proofs.Applied.{done_applies}
use Rattle.circ_steps.proofs.rules.Rules.done.Goals as goal

pub returns : goal.returns
returns c = λ nodes.
    done_applies c.args.self.now.theory.now c.args.self.now.gamma.now nodes c.args.state.now c.is_empty.result
    (c.is_empty.ensures ∙ ap (λ n. n == 0) c.args.state.now.goals.ok.0)
