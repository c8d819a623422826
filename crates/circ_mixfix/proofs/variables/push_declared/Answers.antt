use Rattle.circ_mixfix.specs.Answers.{declared_by}
use Rattle.circ_mixfix.proofs.Written.{named_are}
use Rattle.circ_mixfix.proofs.variables.push_declared.Goals as goal

pub returns-in_ok-push_listed-in-Listed : goal.returns-in_ok-push_listed-in-Listed
returns-in_ok-push_listed-in-Listed c =
    rw c.in-Listed.is (_, c.in_ok-push_listed-in-Listed.ensures, named_are c.args.word c.args.name.now (declared_by c.in-Listed.vars.now))
