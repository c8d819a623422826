use Rattle.std.proofs.Common.{◌≡◌, ◌+◌, true, false, refl, arith}
use Rattle.circ_lexer.specs.TokenList.{tokens_of}
use Rattle.circ_read.proofs.Walk.{walk_begins, walk_goes_on, walk_faults_at, walk_ends, walk_ends_not}
use Rattle.circ_read.proofs.body.add_body.Goals as goal

pub loop-stop-init : goal.loop-stop-init
loop-stop-init g c = (0, refl, c.requires.some, walk_begins g.R.Receiver.adds g.R.Receiver.refuses c.args.receiver.now (tokens_of c.args.tokens.now) c.args.head.now.body c.requires.within)

pub next_stop-requires : goal.next_stop-requires
next_stop-requires g c = c.loop-stop.invariant.3.within

pub is_end-requires : goal.is_end-requires
is_end-requires g c = c.loop-stop.invariant.3.within

pub loop-stop-preserved : goal.loop-stop-preserved
loop-stop-preserved g c =
    let l = c.loop-stop in
    let count = l.invariant.1 in
    let small = l.invariant.2 in
    let ahead = c.in-Some.ensures.stop.ahead in (
      l.invariant.0 + 1,
      omega arith,
      omega arith,
      walk_goes_on g.R.Receiver.adds g.R.Receiver.refuses c.args.receiver.now (tokens_of c.args.tokens.now) c.args.head.now.body l.invariant.0 l.receiver l.at l.invariant.3
          c.in-Some.stop c.add_tokens.new.receiver c.in-Some.ensures.stop c.in-Ok.ensures,
    )

pub returns-in-Err : goal.returns-in-Err
returns-in-Err g c =
    let l = c.loop-stop in
    rw c.fault_at.ensures
    (walk_faults_at g.R.Receiver.adds g.R.Receiver.refuses c.args.receiver.now (tokens_of c.args.tokens.now) c.args.head.now.body l.invariant.0 l.receiver l.at l.invariant.3
    c.args.head.now.opened l.number c.in-Some.stop c.in-Err.fault c.add_tokens.new.receiver c.add_tokens.new.receiver l.invariant.1 c.in-Some.ensures.stop c.in-Err.ensures)

pub returns-then-is_end : goal.returns-then-is_end
returns-then-is_end g c =
    let l = c.loop-stop in (
      l.invariant.0,
      walk_ends g.R.Receiver.adds g.R.Receiver.refuses c.args.receiver.now (tokens_of c.args.tokens.now) c.args.head.now.body l.invariant.0 l.receiver l.at l.invariant.3
          c.args.head.now.opened (c.if-is_end.ensures.0 refl),
    )

pub returns-else-is_end : goal.returns-else-is_end
returns-else-is_end g c =
    let l = c.loop-stop in (
      l.invariant.0,
      l.invariant.1,
      walk_ends_not g.R.Receiver.adds g.R.Receiver.refuses c.args.receiver.now (tokens_of c.args.tokens.now) c.args.head.now.body l.invariant.0 l.receiver l.at l.invariant.3
          c.args.head.now.opened c.in_default.ensures.stop (λ e. let f : false ≡ true = c.if-is_end.ensures.1 e in cc),
    )
