use Rattle.std.proofs.Common.{subst}
use Rattle.circ_term.specs.Limits.{Big, Deep, Names}
use Rattle.circ_term.specs.declared.fault.TermFault.{TermFault}
use Rattle.circ_tasks.specs.Tasks.{past_of}
use Rattle.circ_expand.proofs.Writings.{past_named}
use Rattle.circ_expand.proofs.writing_out.past.Goals as goal

pub returns-in-TooBig : goal.returns-in-TooBig
returns-in-TooBig c = λ o h. let P : TermFault → Type 0 = λ x. Names x (past_of o) in past_named o (Big c.in-TooBig.nodes) (subst P c.in-TooBig.is h)

pub returns-in-TooDeep : goal.returns-in-TooDeep
returns-in-TooDeep c = λ o h. let P : TermFault → Type 0 = λ x. Names x (past_of o) in past_named o (Deep c.in-TooDeep.depth) (subst P c.in-TooDeep.is h)

pub returns-in-Memory : goal.returns-in-Memory
returns-in-Memory c = λ o h. tt
