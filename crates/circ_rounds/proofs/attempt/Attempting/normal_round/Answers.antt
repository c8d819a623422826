use Rattle.std.proofs.Common.{ap, sym, ◌∙◌}
use Rattle.circ_rounds.specs.Attempting.{rounds_in, normal_round_in, join_round_in}
use Rattle.circ_rounds.specs.Running.{plain_sides, sides_of, stood_of}
use Rattle.circ_rounds.proofs.Running.{attempts_same, goes_on_same, normal_hindered, normal_gone}
use Rattle.circ_rounds.proofs.attempt.Attempting.normal_round.Goals as goal

pub returns-in-Err-clause-exact : goal.returns-in-Err-clause-exact
returns-in-Err-clause-exact c = λ A bs n h.
    let run = c.args.run.now in
    normal_hindered c.args.self.now bs A c.args.reducer.now h n (stood_of run) (sides_of run) c.args.budget.now c.both_normal.new.budget c.in-Err.fault
    c.in-Err.ensures.exact

pub returns-in_ok-go_to-in-Ok-clause-exact : goal.returns-in_ok-go_to-in-Ok-clause-exact
returns-in_ok-go_to-in-Ok-clause-exact c = λ A bs n h.
    let a = c.args.self.now in
    let run = c.args.run.now in
    let l = c.both_normal.new.budget in
    let now = c.go_to.new.self in
    let gone =
    normal_gone a bs A c.args.reducer.now h n (stood_of run) (sides_of run) c.args.budget.now l (plain_sides l c.in-Ok.sides) (sides_of now) c.in-Ok.ensures.exact
    c.in_ok-go_to-in-Ok.ensures.sides
    ∙ ap (λ ps. join_round_in a bs A n ps (sides_of now) l) (sym c.in_ok-go_to-in-Ok.ensures.stood) in
    goes_on_same (rounds_in a bs A n) (normal_round_in a bs A n (stood_of run) (sides_of run) c.args.budget.now) (join_round_in a bs A n (stood_of now) (sides_of now) l)
    c.join_round.new.run c.join_round.new.budget c.join_round.result gone
    (c.join_round.ensures.exact A bs n (attempts_same a bs A c.args.reducer.now c.both_normal.new.reducer (sym c.both_normal.ensures.same) h))
