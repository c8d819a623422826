use Rattle.circ_entering.proofs.Working.{table_stays, with_hypotheses, hypotheses_added}
use Rattle.circ_entering.proofs.work.Work.add_hypotheses.Goals as goal

pub enter_hypotheses-requires : goal.enter_hypotheses-requires
enter_hypotheses-requires c = c.requires.1.state.hypotheses

pub returns-clause-work : goal.returns-clause-work
returns-clause-work c th h =
    with_hypotheses th c.args.self.now h c.enter_hypotheses.new.nodes c.enter_hypotheses.ensures.grows c.enter_hypotheses.new.entered
    c.enter_hypotheses.ensures.there

pub returns-clause-table : goal.returns-clause-table
returns-clause-table c =
    table_stays c.requires.0 c.args.self.now c.requires.1 c.enter_hypotheses.new.nodes c.enter_hypotheses.ensures.grows

pub returns-clause-state : goal.returns-clause-state
returns-clause-state c =
    hypotheses_added c.requires.0 c.args.self.now c.requires.1 c.enter_hypotheses.new.nodes c.enter_hypotheses.ensures.grows c.enter_hypotheses.new.entered
    c.args.goals.now c.in_ok-enter_hypotheses.ensures.exact

pub returns-in_err-enter_hypotheses-clause-table : goal.returns-in_err-enter_hypotheses-clause-table
returns-in_err-enter_hypotheses-clause-table c =
    table_stays c.requires.0 c.args.self.now c.requires.1 c.enter_hypotheses.new.nodes c.enter_hypotheses.ensures.grows

pub returns-in_err-enter_hypotheses-clause-work : goal.returns-in_err-enter_hypotheses-clause-work
returns-in_err-enter_hypotheses-clause-work c th h =
    with_hypotheses th c.args.self.now h c.enter_hypotheses.new.nodes c.enter_hypotheses.ensures.grows c.enter_hypotheses.new.entered
    c.enter_hypotheses.ensures.there
