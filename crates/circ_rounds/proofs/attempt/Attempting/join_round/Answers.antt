use Rattle.std.proofs.Common.{Some, None, Ok}
use Rattle.circ_attempt.specs.Attempt.{join_or}
use Rattle.circ_moves.specs.Plain.{plain_moves}
use Rattle.circ_rounds.specs.Attempting.{rounds_in, join_round_in}
use Rattle.circ_rounds.specs.Running.{sides_of, stood_of}
use Rattle.circ_rounds.proofs.Running.{goes_on_same, join_hindered, join_gone}
use Rattle.circ_rounds.proofs.attempt.Attempting.join_round.Goals as goal

pub returns-in-Err-clause-exact : goal.returns-in-Err-clause-exact
returns-in-Err-clause-exact c = λ A bs n h.
    let run = c.args.run.now in
    join_hindered c.args.self.now bs A c.args.reducer.now h n (stood_of run) (sides_of run) c.args.budget.now c.join.new.budget c.in-Err.fault c.in-Err.ensures.exact

pub returns-in_ok-close-in-Ok-Some-clause-exact : goal.returns-in_ok-close-in-Ok-Some-clause-exact
returns-in_ok-close-in-Ok-Some-clause-exact c = λ A bs n h.
    let a = c.args.self.now in
    let run = c.args.run.now in
    let l = c.join.new.budget in
    let vs = plain_moves c.in-Ok-Some.moves.items in
    let again = rounds_in a bs A n in
    let joined = rw c.in-Ok-Some.field-0-is at c.in-Ok-Some.ensures.exact in
    goes_on_same again (join_round_in a bs A n (stood_of run) (sides_of run) c.args.budget.now) (join_or (stood_of run) (sides_of run) again (Some vs) l)
    c.close.new.self l (Ok c.in_ok-close-in-Ok-Some.field-0) (join_gone a bs A c.args.reducer.now h n (stood_of run) (sides_of run) c.args.budget.now l (Some vs) joined)
    (c.in_ok-close-in-Ok-Some.ensures (stood_of run) again l)

pub returns-in_ok-go_on-in-Ok-None-clause-exact : goal.returns-in_ok-go_on-in-Ok-None-clause-exact
returns-in_ok-go_on-in-Ok-None-clause-exact c = λ A bs n h.
    let a = c.args.self.now in
    let run = c.args.run.now in
    let l = c.join.new.budget in
    let again = rounds_in a bs A n in
    let joined = rw c.in-Ok-None.field-0-is at c.in-Ok-None.ensures.exact in
    goes_on_same again (join_round_in a bs A n (stood_of run) (sides_of run) c.args.budget.now) (join_or (stood_of run) (sides_of run) again None l)
    c.go_on.new.self l (Ok c.in_ok-go_on-in-Ok-None.field-0) (join_gone a bs A c.args.reducer.now h n (stood_of run) (sides_of run) c.args.budget.now l None joined)
    (c.in_ok-go_on-in-Ok-None.ensures again l)
