use Rattle.std.proofs.Common.{◌-◌, ◌+◌, ◌∷◌, [], suc, refl, sym, ◌∙◌, arith}
use Rattle.circ_plain_search.specs.Search.{no_links, sides_with}
use Rattle.circ_tries.proofs.Faulting.{hinders_same}
use Rattle.circ_rounds.specs.Attempting.{rounds_in}
use Rattle.circ_rounds.specs.Running.{sides_of, stood_of}
use Rattle.circ_rounds.proofs.Running.{attempts_same, all_left, one_left, none_left, left_open, left_closed, left_ended}
use Rattle.circ_rounds.proofs.attempt.Attempting.rounds.Goals as goal

pub loop-round-init : goal.loop-round-init
loop-round-init c =
    let run = c.in_ok-run.run' in
    record {
      less = omega arith;
      same = refl;
      goes = λ A bs h.
          all_left c.args.self.now bs A c.args.most c.args.budget.now (stood_of run) ((c.args.left.now, c.args.right.now) ∷ []) (sides_of run)
          (sides_with c.args.left.now c.args.right.now no_links 0) c.in_ok-run.ensures.stood c.in_ok-run.ensures.sides;
    }

pub loop-round-preserved : goal.loop-round-preserved
loop-round-preserved c =
    let i = c.loop-round.invariant in
    let a = c.args.self.now in
    let run = c.loop-round.run in
    record {
      less = omega (arith, i.less, c.one_round.ensures.less);
      same = c.one_round.ensures.same ∙ i.same;
      goes = λ A bs h.
          let here = attempts_same a bs A c.args.reducer.now c.loop-round.reducer (sym i.same) h in
          i.goes A bs h
          ∙ left_open a bs A c.args.most c.loop-round._round (stood_of run) (sides_of run) c.loop-round.budget c.loop-round-test.true c.one_round.new.run
          c.one_round.new.budget c.in-Ok-Open.field-0 (c.in-Ok-Open.ensures.exact A bs (c.args.most - (c.loop-round._round + 1)) here) c.in-Ok-Open.field-0-is;
    }

pub returns-in-Err-clause-exact : goal.returns-in-Err-clause-exact
returns-in-Err-clause-exact c = λ A bs h.
    let i = c.loop-round.invariant in
    let a = c.args.self.now in
    let run = c.loop-round.run in
    let here = attempts_same a bs A c.args.reducer.now c.loop-round.reducer (sym i.same) h in
    hinders_same c.in-Err.fault c.one_round.new.budget
    (rounds_in a bs A c.args.most ((c.args.left.now, c.args.right.now) ∷ []) (sides_with c.args.left.now c.args.right.now no_links 0) c.args.budget.now)
    (rounds_in a bs A (suc (c.args.most - (c.loop-round._round + 1))) (stood_of run) (sides_of run) c.loop-round.budget)
    (i.goes A bs h ∙ one_left a bs A c.args.most c.loop-round._round (stood_of run) (sides_of run) c.loop-round.budget c.loop-round-test.true)
    (c.in-Err.ensures.exact A bs (c.args.most - (c.loop-round._round + 1)) here)

pub returns-in-Ok-Closed-clause-exact : goal.returns-in-Ok-Closed-clause-exact
returns-in-Ok-Closed-clause-exact c = λ A bs h.
    let i = c.loop-round.invariant in
    let a = c.args.self.now in
    let run = c.loop-round.run in
    let here = attempts_same a bs A c.args.reducer.now c.loop-round.reducer (sym i.same) h in
    i.goes A bs h
    ∙ left_closed a bs A c.args.most c.loop-round._round (stood_of run) (sides_of run) c.loop-round.budget c.loop-round-test.true c.one_round.new.run
    c.one_round.new.budget c.in-Ok-Closed.field-0 (c.in-Ok-Closed.ensures.exact A bs (c.args.most - (c.loop-round._round + 1)) here) c.in-Ok-Closed.field-0-is

pub returns-in-Ok-Ended-clause-exact : goal.returns-in-Ok-Ended-clause-exact
returns-in-Ok-Ended-clause-exact c = λ A bs h.
    let i = c.loop-round.invariant in
    let a = c.args.self.now in
    let run = c.loop-round.run in
    let here = attempts_same a bs A c.args.reducer.now c.loop-round.reducer (sym i.same) h in
    i.goes A bs h
    ∙ left_ended a bs A c.args.most c.loop-round._round (stood_of run) (sides_of run) c.loop-round.budget c.loop-round-test.true c.one_round.new.run
    c.one_round.new.budget c.in-Ok-Ended.field-0 (c.in-Ok-Ended.ensures.exact A bs (c.args.most - (c.loop-round._round + 1)) here) c.in-Ok-Ended.field-0-is

pub returns-clause-exact : goal.returns-clause-exact
returns-clause-exact c = λ A bs h.
    let i = c.loop-round.invariant in
    let run = c.loop-round.run in
    i.goes A bs h ∙ none_left c.args.self.now bs A c.args.most c.loop-round._round (stood_of run) (sides_of run) c.loop-round.budget c.loop-round-test.false
