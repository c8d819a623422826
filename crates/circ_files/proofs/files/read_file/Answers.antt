use Rattle.std.proofs.Common.{◌≡◌, ◌≤◌, ◌<◌, ◌+◌, ◌++◌, ◌∙◌, ℕ, List, [], length, take, refl, ap, sym, subst, arith}
use Rattle.std.proofs.lemmas.List.{length-append, length-take-le}
use Rattle.circ_outer.specs.Shelf.{Moves}
use Rattle.circ_files.proofs.Pieces.{given_more, given_all, moved_within, written_whole, quiet_more}
use Rattle.circ_files.proofs.files.read_file.Goals as goal

pub loop-buf-init : goal.loop-buf-init
loop-buf-init g c =
    let e = c.in_ok-begin.ensures in
    record {
      begun = e.begun;
      short = omega arith;
      room = c.in_ok-buf.ensures.some;
      most = c.in_ok-buf.ensures.most;
      given = ([], refl, c.requires, e.content);
      tells = e.frame.tells;
      holds = e.frame.holds;
      quiet = e.quiet;
    }

pub returns-then-n-eq0-clause-taken : goal.returns-then-n-eq0-clause-taken
returns-then-n-eq0-clause-taken g c =
    let i = c.loop-buf.invariant in
    let told = rw c.if-n-eq0.true at c.in_ok-n.ensures.moves in
    record {
      bytes = i.given.0;
      short = omega (arith, i.given.1, i.short);
      held = given_all c.args.name.now (g.S.Shelf.state c.args.shelf.now) (g.S.Shelf.state c.loop-buf.shelf) (g.S.Shelf.state c.piece.new.self) c.piece.new.buf
          c.loop-buf.count (λ bytes. g.I.Intake.takes c.args.into.now bytes c.loop-buf.into) i.tells told i.given;
      are = i.given.2;
    }

pub returns-then-n-count-clause-past : goal.returns-then-n-count-clause-past
returns-then-n-count-clause-past g c = λ k e.
    let i = c.loop-buf.invariant in
    let same : c.loop-buf.count + c.in_ok-n.n ≡ k = cc in
    let past : 67108864 < k = omega (arith, same, c.if-n-count.true, i.short) in
    let most : k ≤ 67174400 = omega (arith, same, i.short, i.most, c.in_ok-n.ensures.within, ap length c.deref_mut.ensures.value) in
    (past, most)

pub returns-then-n-count-clause-long : goal.returns-then-n-count-clause-long
returns-then-n-count-clause-long g c = λ k e told.
    let i = c.loop-buf.invariant in
    let left = (g.S.Shelf.state c.loop-buf.shelf).left in
    let same : c.loop-buf.count + c.in_ok-n.n ≡ k = cc in
    let moved = moved_within left (g.S.Shelf.state c.piece.new.self).left c.piece.new.buf c.in_ok-n.n
    (omega (arith, c.in_ok-n.ensures.within, c.piece.auto.buf)) (c.in_ok-n.ensures.moves (i.tells ∙ told)) in
    let all = length-append i.given.0 left in
    (i.given.0 ++ left, i.given.3 told, omega (arith, same, moved, all, i.given.1))

pub give-requires : goal.give-requires
give-requires g c =
    let i = c.loop-buf.invariant in
    let buffer = c.deref.ensures.value ∙ written_whole c.loop-buf.buf.len c.piece.new.buf c.loop-buf.buf.items (c.loop-buf.buf.ok.0) (c.piece.auto.buf ∙ ap length c.deref_mut.ensures.value) in
    let within : c.in_ok-n.n ≤ length c.deref.result.now = omega (arith, c.in_ok-n.ensures.within, c.piece.auto.buf, ap length buffer) in
    let taken = length-take-le c.in_ok-n.n c.deref.result.now within in
    let short : length i.given.0 + length (take c.in_ok-n.n c.deref.result.now) ≤ 67108864 = omega (arith, taken, i.given.1, c.if-n-count.false, i.short) in
    (c.args.into.now, i.given.0, i.given.2, short)

pub loop-buf-preserved : goal.loop-buf-preserved
loop-buf-preserved g c =
    let i = c.loop-buf.invariant in
    let e = c.in_ok-n.ensures in
    let before = g.S.Shelf.state c.args.shelf.now in
    let now = g.S.Shelf.state c.loop-buf.shelf in
    let after = g.S.Shelf.state c.piece.new.self in
    let filled = c.piece.new.buf in
    let len = c.piece.auto.buf ∙ ap length c.deref_mut.ensures.value in
    let whole = written_whole c.loop-buf.buf.len filled c.loop-buf.buf.items c.loop-buf.buf.ok.0 len in
    let buffer : c.deref.result.now ≡ filled = c.deref.ensures.value ∙ whole in
    let P : List ℕ → Type 0 = λ xs. Moves now.left after.left xs c.in_ok-n.n in
    record {
      begun = e.begun ∙ i.begun;
      short = omega (arith, i.short, c.if-n-count.false);
      room = omega (arith, ap length whole, len, i.room);
      most = omega (arith, ap length whole, len, i.most);
      given = given_more c.args.name.now before now after c.deref.result.now c.in_ok-n.n c.loop-buf.count
          (λ bytes. g.I.Intake.takes c.args.into.now bytes c.loop-buf.into) (λ bytes. g.I.Intake.takes c.args.into.now bytes c.give.new.self)
          i.tells (omega (arith, e.within, c.piece.auto.buf, ap length buffer)) (λ told. subst P (sym buffer) (e.moves told))
          (λ bytes t. c.in_ok-give.ensures c.args.into.now bytes t) i.given;
      tells = e.frame.tells ∙ i.tells;
      holds = λ n. e.frame.holds n ∙ i.holds n;
      quiet = quiet_more before now after i.quiet e.quiet;
    }
