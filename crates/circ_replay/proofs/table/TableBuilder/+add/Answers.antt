use Rattle.std.proofs.Common.{◌≡◌, ◌∙◌, ◌+◌, ◌<◌, true, List, drop, length, arith, ap, sym, subst}
use Rattle.std.specs.List.{AllByRecursion}
use Rattle.circ_term.specs.Tree.{Tree, args_of, trees_of, depths_of}
use Rattle.circ_term.specs.Growing.{Grows}
use Rattle.circ_term.proofs.Within.{depth_at}
use Rattle.circ_proof.specs.Table.{has, all_added, term_limit}
use Rattle.circ_proof.proofs.Tables.{added_grows, grows_more}
use Rattle.circ_replay.proofs.Adding.{too_many, next_added, term_added, term_too_many, args_added, args_less}
use Rattle.circ_replay.proofs.table.TableBuilder.+add.Goals as goal

pub add-add_all-requires : goal.add-add_all-requires
add-add_all-requires t c = (omega (arith, args_less c.args.term.now, ap (λ ts. depths_of (trees_of ts)) c.args-2.ensures.value), tt)

pub add-returns-then-not-branch : goal.add-returns-then-not-branch
add-returns-then-not-branch t c =
    let more = rw (c.if-not-branch.true, c.args-2.ensures.value) at c.in_ok-add_all.ensures in
    (more.0, term_too_many c.args.self.now c.args.term.now more.1)

pub add-enter-requires : goal.add-enter-requires
add-enter-requires t c =
    let made = rw (c.if-not-branch.false, c.args-2.ensures.value) at c.in_ok-add_all.ensures in
    let P : List Tree → Type 0 = λ table. AllByRecursion (λ a. has table a ≡ true) (args_of c.args.term.now) in
    subst P (sym made) (args_added c.args.self.now c.args.term.now)

pub add-returns : goal.add-returns
add-returns t c =
    let made = rw (c.if-not-branch.false, c.args-2.ensures.value) at c.in_ok-add_all.ensures in
    term_added c.args.self.now c.add_all.new.self c.enter.new.self c.args.term.now made c.enter.result c.enter.ensures

pub add_all-add-requires : goal.add_all-add-requires
add_all-add-requires t c =
    let at = c.loop-term in
    (omega (arith, depth_at c.args.terms.now at.term-index c.term-item.result c.loop-term-test.true c.term-item.is), tt)

pub add_all-returns-in_default : goal.add_all-returns-in_default
add_all-returns-in_default t c =
    let at = c.loop-term in
    let ts = c.args.terms.now in
    let more = rw c.in_default.is at c.in_ok-add.ensures in
    let next = next_added at.self ts at.term-index c.term-item.result c.loop-term-test.true c.term-item.is in
    let P : List Tree → Type 0 = λ table. term_limit < length table in (
      grows_more c.args.self.now at.self c.add.new.self at.invariant.grows more.0,
      subst P (sym next ∙ at.invariant.made) (too_many at.self c.term-item.result (trees_of (drop (at.term-index + 1) ts)) more.1),
    )

pub add_all-loop-term-preserved : goal.add_all-loop-term-preserved
add_all-loop-term-preserved t c =
    let at = c.loop-term in
    let ts = c.args.terms.now in
    let i = at.term-index in
    let item = c.term-item.result in
    let more = rw c.in-Some.is at c.in_ok-add.ensures in
    let next = next_added at.self ts i item c.loop-term-test.true c.term-item.is in
    let P : List Tree → Type 0 = Grows at.self in
    record {
      grows = grows_more c.args.self.now at.self c.add.new.self at.invariant.grows (subst P (sym more.0) (added_grows at.self item));
      made = ap (λ table. all_added table (trees_of (drop (i + 1) ts))) more.0 ∙ sym next ∙ at.invariant.made;
    }
