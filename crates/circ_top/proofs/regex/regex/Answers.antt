use Rattle.circ_regex.specs.Matches.{plain_regex}
use Rattle.circ_top.specs.Regex.{left_fault, right_fault}
use Rattle.circ_top.proofs.regex.regex.Goals as goal

pub returns-in-Err-clause-refused : goal.returns-in-Err-clause-refused
returns-in-Err-clause-refused c = left_fault c.in-Err.status c.in-Err.ensures.fault

pub returns-in-Err-expression-clause-refused : goal.returns-in-Err-expression-clause-refused
returns-in-Err-expression-clause-refused c =
    right_fault c.in-Err-expression.status (plain_regex c.in-Ok.first) c.in-Ok.ensures.reads c.in-Err-expression.ensures.fault
