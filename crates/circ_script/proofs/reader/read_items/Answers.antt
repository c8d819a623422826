use Rattle.std.proofs.Common.{◌+◌, refl, ap, arith}
use Rattle.circ_script.specs.Steps.{draft_of}
use Rattle.circ_script.proofs.Copies.{but_itself, but_then}
use Rattle.circ_script.proofs.Walk.{walk_begins, walk_goes_on, walk_faults, walk_ends, walk_breaks}
use Rattle.circ_script.proofs.reader.read_items.Goals as goal

pub loop-stop-init : goal.loop-stop-init
loop-stop-init c = record {
  walked = (0, refl, walk_begins c.args.job (draft_of c.args.theory.now c.args.asked.now) c.args.tokens.now _ refl c.count.ensures.tokens);
  kept = but_itself c.args.theory.now;
}

pub loop-stop-preserved : goal.loop-stop-preserved
loop-stop-preserved c =
    let l = c.loop-stop in
    let w = l.invariant.walked in
    record {
      walked = (
        w.0 + 1,
        ap (λ n. n + 1) w.1,
        walk_goes_on c.args.job (draft_of c.args.theory.now c.args.asked.now) c.args.tokens.now w.0 (draft_of l.theory l.asked) l.rest w.2 c.in-Some.stop _ _
            c.in-Some.ensures.stop refl refl refl refl
            (draft_of c.take_item.new.theory c.take_item.new.asked) c.set_aside.result.rest c.in-Ok.ensures.outcome c.set_aside.ensures.within
            c.set_aside.ensures.to c.set_aside.ensures.words
            c.set_aside.ensures.from,
      );
      kept = but_then c.args.theory.now l.theory c.take_item.new.theory l.invariant.kept c.in-Ok.ensures.kept;
    }

pub loop-stop-smaller : goal.loop-stop-smaller
loop-stop-smaller c =
    let ahead = c.in-Some.ensures.stop.ahead in
    let within = c.in-Some.ensures.stop.within in
    let from = c.set_aside.ensures.from in
    omega arith

pub returns-in-Err-clause-gives : goal.returns-in-Err-clause-gives
returns-in-Err-clause-gives c =
    let l = c.loop-stop in
    let w = l.invariant.walked in
    rw c.fault_at.ensures
    (walk_faults c.args.job (draft_of c.args.theory.now c.args.asked.now) c.args.tokens.now w.0 (draft_of l.theory l.asked) l.rest w.2 c.in-Some.stop _ _
    c.in-Some.ensures.stop refl refl refl refl
    l.number c.in-Err.fault (draft_of c.take_item.new.theory c.take_item.new.asked) (draft_of c.take_item.new.theory c.take_item.new.asked) w.1
    c.in-Err.ensures.outcome)

pub returns-in-Some-unfinished-clause-gives : goal.returns-in-Some-unfinished-clause-gives
returns-in-Some-unfinished-clause-gives c =
    let l = c.loop-stop in
    let w = l.invariant.walked in
    walk_breaks c.args.job (draft_of c.args.theory.now c.args.asked.now) c.args.tokens.now w.0 (draft_of l.theory l.asked) l.rest w.2 l.number
    c.in-Some-unfinished.cause (draft_of l.theory l.asked) w.1
    c.in_default.ensures.stop (c.in-Some-unfinished.ensures l.theory)

pub returns-in-None-clause-gives : goal.returns-in-None-clause-gives
returns-in-None-clause-gives c =
    let l = c.loop-stop in
    let w = l.invariant.walked in
    walk_ends c.args.job (draft_of c.args.theory.now c.args.asked.now) c.args.tokens.now w.0 (draft_of l.theory l.asked) l.rest w.2 (c.in-None.ensures l.theory)
