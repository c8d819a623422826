use Rattle.circ_top.proofs.SecondProves.{behind_failed_puts, behind_any_run}
use Rattle.circ_top.proofs.laws.second_proves_come_to_the_same.Goals as goal

pub returns-clause-not_put : goal.returns-clause-not_put
returns-clause-not_put c = behind_failed_puts

pub returns-clause-any : goal.returns-clause-any
returns-clause-any c = behind_any_run
