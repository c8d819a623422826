use Rattle.std.proofs.Common.{suc, ap, sym, ◌∙◌}
use Rattle.circ_plain_search.specs.Search.{sides_with, chained}
use Rattle.circ_proof.specs.Plain.{plain_chain}
use Rattle.circ_join.specs.Sides.{plain_swept_sides}
use Rattle.circ_rounds.specs.Attempting.{rounds_in, normal_round_in}
use Rattle.circ_rounds.specs.Running.{sides_of, stood_of}
use Rattle.circ_rounds.proofs.Running.{attempts_same, goes_on_same, pass_hindered, pass_ended, pass_gone}
use Rattle.circ_rounds.proofs.attempt.Attempting.one_round.Goals as goal

pub returns-in-Err-clause-exact : goal.returns-in-Err-clause-exact
returns-in-Err-clause-exact c = λ A bs n h.
    let run = c.args.run.now in
    pass_hindered c.args.self.now bs A c.args.reducer.now h n (stood_of run) (sides_of run) c.args.budget.now c.pass_both.new.budget c.in-Err.fault
    c.in-Err.ensures.exact

pub returns-then-not-has_uses-clause-exact : goal.returns-then-not-has_uses-clause-exact
returns-then-not-has_uses-clause-exact c = λ A bs n h.
    let run = c.args.run.now in
    pass_ended c.args.self.now bs A c.args.reducer.now h n (stood_of run) (sides_of run) c.args.budget.now c.pass_both.new.budget (plain_swept_sides c.in-Ok.swept)
    c.in-Ok.ensures.exact (sym c.has_uses.ensures ∙ c.if-not-has_uses.true)

pub returns-in_ok-go_to-in-Ok-clause-exact : goal.returns-in_ok-go_to-in-Ok-clause-exact
returns-in_ok-go_to-in-Ok-clause-exact c = λ A bs n h.
    let a = c.args.self.now in
    let run = c.args.run.now in
    let l = c.pass_both.new.budget in
    let now = c.go_to.new.self in
    let sides =
    c.in_ok-go_to-in-Ok.ensures.sides
    ∙ ap (λ y. sides_with y.left y.right (chained (plain_chain run.chain) y.chain) 0) (c.in_ok-passed_sides-in-Ok.ensures 0) in
    let gone =
    pass_gone a bs A c.args.reducer.now h n (stood_of run) (sides_of run) c.args.budget.now l (plain_swept_sides c.in-Ok.swept) (sides_of now) c.in-Ok.ensures.exact
    (sym c.has_uses.ensures ∙ c.if-not-has_uses.false) sides
    ∙ ap (λ ps. normal_round_in a bs A n ps (sides_of now) l) (sym c.in_ok-go_to-in-Ok.ensures.stood) in
    goes_on_same (rounds_in a bs A n) (rounds_in a bs A (suc n) (stood_of run) (sides_of run) c.args.budget.now) (normal_round_in a bs A n (stood_of now) (sides_of now) l)
    c.normal_round.new.run c.normal_round.new.budget c.normal_round.result gone
    (c.normal_round.ensures.exact A bs n (attempts_same a bs A c.args.reducer.now c.pass_both.new.reducer (sym c.pass_both.ensures.same) h))
