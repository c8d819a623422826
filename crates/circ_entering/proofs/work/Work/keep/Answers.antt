use Rattle.circ_entering.proofs.Working.{kept_work, kept_state}
use Rattle.circ_entering.proofs.work.Work.keep.Goals as goal

pub returns-clause-work : goal.returns-clause-work
returns-clause-work c th h = kept_work th c.args.self.now h c.args.hyps c.truncate.new.self c.clear.new.self c.truncate.ensures.items c.clear.ensures.items

pub returns-clause-state : goal.returns-clause-state
returns-clause-state c = kept_state c.args.self.now c.args.hyps c.truncate.new.self c.clear.new.self c.truncate.ensures.items c.clear.ensures.items
