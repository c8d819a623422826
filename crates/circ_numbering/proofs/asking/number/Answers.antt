use Rattle.circ_numbering.proofs.Requests.{number_later}
use Rattle.circ_numbering.proofs.asking.number.Goals as goal

pub returns-in-Ok-Some : goal.returns-in-Ok-Some
returns-in-Ok-Some c =
    let e = rw c.in-Ok-Some.field-0-is at c.in-Ok-Some.ensures.exact in
    (e.0, λ table a. number_later c.args.table.now c.number.new.self table c.args.term.now c.in-Ok-Some.number e.0 e.1 a)
