use Rattle.circ_soundness.proofs.Failing.{not_both, one_failure, one_relation}
use Rattle.circ_soundness.proofs.laws.one_verdict.Goals as goal

pub returns-clause-not_both : goal.returns-clause-not_both
returns-clause-not_both c = λ th p n a f. not_both th p n a f

pub returns-clause-one_failure : goal.returns-clause-one_failure
returns-clause-one_failure c = λ th p n m f g. one_failure th p n m f g

pub returns-clause-one_relation : goal.returns-clause-one_relation
returns-clause-one_relation c = λ th p dss ess d e. one_relation th p dss ess d e
