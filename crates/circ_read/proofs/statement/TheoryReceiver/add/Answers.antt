use Rattle.circ_statement.specs.Said.{said_of}
use Rattle.circ_read.proofs.Coming.{outcome_as}
use Rattle.circ_read.proofs.statement.TheoryReceiver.add.Goals as goal

pub returns : goal.returns
returns c = outcome_as c.args.self.now (said_of c.args.tokens.now c.args.statement) c.add_statement.result c.add_statement.new.theory c.add_statement.ensures
