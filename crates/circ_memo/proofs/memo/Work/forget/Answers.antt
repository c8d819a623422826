use Rattle.std.proofs.Common.{ap, sym, subst, ◌∙◌}
use Rattle.circ_nodes.specs.Built.{AreBuilt}
use Rattle.circ_memo.proofs.memo.Work.forget.Goals as goal

pub returns-clause-ready : goal.returns-clause-ready
returns-clause-ready c = c.forget.ensures.ready

pub returns-clause-theory : goal.returns-clause-theory
returns-clause-theory c = c.forget.ensures.theory

pub returns-clause-rules : goal.returns-clause-rules
returns-clause-rules c = c.forget.ensures.rules

pub returns-clause-assumptions : goal.returns-clause-assumptions
returns-clause-assumptions c = c.forget.ensures.assumptions

pub returns-clause-entries : goal.returns-clause-entries
returns-clause-entries c = ap (λ x. x.entries) c.replace-2.ensures.after ∙ c.new-empty.ensures

pub returns-clause-terms : goal.returns-clause-terms
returns-clause-terms c = λ nodes. subst (AreBuilt nodes) (sym c.replace.ensures.after) (c.new-terms.ensures nodes)
