use Rattle.circ_proof.proofs.Tables.{added_names}
use Rattle.circ_replay.proofs.table.TableBuilder.number.Goals as goal

pub returns-in-Ok-Some-clause-named : goal.returns-in-Ok-Some-clause-named
returns-in-Ok-Some-clause-named c =
    let answer = rw c.in-Ok-Some.field-0-is at c.in-Ok-Some.ensures in
    added_names c.args.self.now c.add.new.self c.args.term.now c.in-Ok-Some.number answer.0 answer.1

pub returns-in-Ok-Some-clause-few : goal.returns-in-Ok-Some-clause-few
returns-in-Ok-Some-clause-few c = c.terms.ensures.table.few
