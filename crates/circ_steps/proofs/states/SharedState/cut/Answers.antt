use Rattle.circ_steps.proofs.Cutting.{cut_there, cut_seen}
use Rattle.circ_steps.proofs.states.SharedState.cut.Goals as goal

pub returns-clause-there : goal.returns-clause-there
returns-clause-there c =
    cut_there c.args.nodes.now c.cut.new.self c.args.terms c.args.hyps c.args.self.now (record { hyps = c.truncate.new.self; goals = c.clear.new.self }) c.cut.ensures
    c.truncate.ensures.items c.clear.ensures.items c.requires

pub returns-clause-cut : goal.returns-clause-cut
returns-clause-cut c =
    cut_seen c.args.nodes.now c.cut.new.self c.args.terms c.args.hyps c.args.self.now (record { hyps = c.truncate.new.self; goals = c.clear.new.self }) c.cut.ensures
    c.truncate.ensures.items c.clear.ensures.items c.requires
