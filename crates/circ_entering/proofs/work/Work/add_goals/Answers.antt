use Rattle.circ_entering.proofs.Working.{table_stays, with_goals, goals_added}
use Rattle.circ_entering.proofs.work.Work.add_goals.Goals as goal

pub enter_goals-requires : goal.enter_goals-requires
enter_goals-requires c = c.requires.1.state.goals

pub returns-clause-work : goal.returns-clause-work
returns-clause-work c th h =
    with_goals th c.args.self.now h c.enter_goals.new.nodes c.enter_goals.ensures.grows c.enter_goals.new.entered c.enter_goals.ensures.there

pub returns-clause-table : goal.returns-clause-table
returns-clause-table c = table_stays c.requires.0 c.args.self.now c.requires.1 c.enter_goals.new.nodes c.enter_goals.ensures.grows

pub returns-clause-state : goal.returns-clause-state
returns-clause-state c =
    goals_added c.requires.0 c.args.self.now c.requires.1 c.enter_goals.new.nodes c.enter_goals.ensures.grows c.enter_goals.new.entered c.args.goals.now
    c.in_ok-enter_goals.ensures.exact

pub returns-in_err-enter_goals-clause-table : goal.returns-in_err-enter_goals-clause-table
returns-in_err-enter_goals-clause-table c =
    table_stays c.requires.0 c.args.self.now c.requires.1 c.enter_goals.new.nodes c.enter_goals.ensures.grows

pub returns-in_err-enter_goals-clause-work : goal.returns-in_err-enter_goals-clause-work
returns-in_err-enter_goals-clause-work c th h =
    with_goals th c.args.self.now h c.enter_goals.new.nodes c.enter_goals.ensures.grows c.enter_goals.new.entered c.enter_goals.ensures.there
