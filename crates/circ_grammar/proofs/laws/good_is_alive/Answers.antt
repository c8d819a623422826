use Rattle.circ_grammar.proofs.Complete.{begins_run}
use Rattle.circ_grammar.proofs.Finish.{run_begins}
use Rattle.circ_grammar.proofs.laws.good_is_alive.Goals as goal

pub returns-clause-alive : goal.returns-clause-alive
returns-clause-alive c = λ ls m e. let r = run_begins ls m e in (r.0, r.1, r.2, r.3)

pub returns-clause-begins : goal.returns-clause-begins
returns-clause-begins c = begins_run
