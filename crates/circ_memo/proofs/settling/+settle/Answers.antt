use Rattle.std.proofs.Common.{◌≡◌, ℕ, ◌+◌, ◌-◌, ◌<◌, [], ◌∷◌, length, refl, ap, sym, subst, ◌∙◌, arith, length-append}
use Rattle.std.proofs.lemmas.Option.{slice_get_read}
use Rattle.circ_nodes.specs.Named.{IsNamed, tree_at}
use Rattle.circ_nodes.proofs.Numbers.{named_below, named_one, named_later, all_below, are_named_later, grows_self}
use Rattle.circ_chain.specs.Chain.{Chain, RunsOut}
use Rattle.circ_chain.proofs.Chains.{out_on}
use Rattle.circ_due.specs.Chosen.{due_by}
use Rattle.circ_memo.specs.Settling.{IsPassing, ArePassed, HasPassed, IsToKeep, Stops, passed_count}
use Rattle.circ_memo.specs.Working.{IsStore, Extends, HasWorked}
use Rattle.circ_memo.specs.declared.store.Store.{Store}
use Rattle.circ_memo.proofs.Arguments.{arg_at, arg_is, arg_inside, arg_measure, arg_small, passing_still, passing_stops, variable_way, within_of}
use Rattle.circ_memo.proofs.Forms.{kept_later, passing_later, way_later, are_passed_later}
use Rattle.circ_memo.proofs.Telling.{stays_self, way_kept_later, linked_on, number_more, has_passed_later, passed_stays, passed_next, passed_all}
use Rattle.circ_memo.proofs.Stepping.{are_passed_in, passed_on, passed_at, passed_chain, count_on, stops_on, way_stops}
use Rattle.circ_memo.proofs.Circling.{out_again}
use Rattle.circ_memo.proofs.Stores.{store_later, store_kept, extends_self, extends_on, extends_by, worked_self, worked_later, are_linked_extends, depth_named_is}
use Rattle.circ_memo.proofs.settling.+settle.Goals.{turn-After-keep_settled, settle-After-keep_steps}
use Rattle.circ_memo.proofs.settling.+settle.Goals as goal

pub settle_arg-returns-then-is_still-clause-passes : goal.settle_arg-returns-then-is_still-clause-passes
settle_arg-returns-then-is_still-clause-passes t c = λ u p.
    let m = c.args.means.now in
    let nodes = c.args.store.now.nodes in
    let still = c.is_still.ensures c.if-is_still.true in
    let kept = c.requires.store.kept c.arg-arg.result still.0 still.1 in
    let at = arg_is (due_by m) nodes c.args.bounds u c.args.place c.args.passing.now p c.arg-arg.result kept.term c.arg-arg.ensures kept.here in
    (passing_still (due_by m) nodes c.args.bounds u c.args.place c.args.passing.now p kept.term still.0 at kept.form still.2, refl {a = c.args.budget.now + c.args.passing.now.count})

pub settle_arg-known_at-requires : goal.settle_arg-known_at-requires
settle_arg-known_at-requires t c =
    let a = arg_at (due_by c.args.means.now) c.args.store.now.nodes c.args.bounds c.requires.passing.0 c.args.place c.args.passing.now c.requires.passing.1 c.arg-arg.result c.arg-arg.ensures in
    named_below c.args.store.now.nodes c.arg-arg.result a.0 a.2

pub settle_arg-room-room-requires-clause-big : goal.settle_arg-room-room-requires-clause-big
settle_arg-room-room-requires-clause-big t c =
    (arg_small (due_by c.args.means.now) c.args.store.now.nodes c.args.bounds c.requires.passing.0 c.args.place c.args.passing.now c.requires.passing.1 c.arg-arg.result c.size-own.result
    (tree_at c.args.store.now.nodes c.arg-arg.result) c.arg-arg.ensures c.known_at.ensures.named c.size-own.ensures.exact).1

pub settle_arg-room-room-requires-clause-deep : goal.settle_arg-room-room-requires-clause-deep
settle_arg-room-room-requires-clause-deep t c =
    (arg_small (due_by c.args.means.now) c.args.store.now.nodes c.args.bounds c.requires.passing.0 c.args.place c.args.passing.now c.requires.passing.1 c.arg-arg.result c.size-own.result
    (tree_at c.args.store.now.nodes c.arg-arg.result) c.arg-arg.ensures c.known_at.ensures.named c.size-own.ensures.exact).3

pub settle_arg-room-room-requires-clause-small : goal.settle_arg-room-room-requires-clause-small
settle_arg-room-room-requires-clause-small t c =
    omega (
      arith,
      (arg_small (due_by c.args.means.now) c.args.store.now.nodes c.args.bounds c.requires.passing.0 c.args.place c.args.passing.now c.requires.passing.1 c.arg-arg.result c.size-own.result
          (tree_at c.args.store.now.nodes c.arg-arg.result) c.arg-arg.ensures c.known_at.ensures.named c.size-own.ensures.exact).2,
      c.size-own.ensures.small,
    )

pub settle_arg-settle-requires : goal.settle_arg-settle-requires
settle_arg-settle-requires t c = (
  omega (
    arith,
    arg_measure (due_by c.args.means.now) c.args.store.now.nodes c.args.bounds c.requires.passing.0 c.args.place c.args.passing.now c.requires.passing.1 c.arg-arg.result c.args.budget.now
        (tree_at c.args.store.now.nodes c.arg-arg.result) c.arg-arg.ensures c.known_at.ensures.named,
  ),
  (
    c.requires.store,
    (
      arg_inside (due_by c.args.means.now) c.args.store.now.nodes c.args.bounds c.requires.passing.0 c.args.place c.args.passing.now c.requires.passing.1 c.arg-arg.result c.size-own.result
          (tree_at c.args.store.now.nodes c.arg-arg.result) c.room-room.result c.arg-arg.ensures c.known_at.ensures.named c.size-own.ensures.exact c.room-room.ensures,
      omega (arith, c.requires.count),
    ),
  ),
)

pub settle_arg-pass-requires-clause-value : goal.settle_arg-pass-requires-clause-value
settle_arg-pass-requires-clause-value t c =
    let kept = c.in-Ok.ensures.settles (tree_at c.args.store.now.nodes c.arg-arg.result) c.known_at.ensures.named in
    named_below c.settle.new.store.nodes c.in-Ok.entry.value kept.0.0.value kept.0.0.there

pub settle_arg-pass-requires-clause-own : goal.settle_arg-pass-requires-clause-own
settle_arg-pass-requires-clause-own t c =
    (arg_small (due_by c.args.means.now) c.args.store.now.nodes c.args.bounds c.requires.passing.0 c.args.place c.args.passing.now c.requires.passing.1 c.arg-arg.result c.size-own.result
    (tree_at c.args.store.now.nodes c.arg-arg.result) c.arg-arg.ensures c.known_at.ensures.named c.size-own.ensures.exact).0

pub settle_arg-pass-requires-clause-size : goal.settle_arg-pass-requires-clause-size
settle_arg-pass-requires-clause-size t c =
    let small = arg_small (due_by c.args.means.now) c.args.store.now.nodes c.args.bounds c.requires.passing.0 c.args.place c.args.passing.now c.requires.passing.1 c.arg-arg.result c.size-own.result
    (tree_at c.args.store.now.nodes c.arg-arg.result) c.arg-arg.ensures c.known_at.ensures.named c.size-own.ensures.exact in
    omega (arith, small.1, small.2)

pub settle_arg-pass-requires-clause-big : goal.settle_arg-pass-requires-clause-big
settle_arg-pass-requires-clause-big t c =
    let kept = c.in-Ok.ensures.settles (tree_at c.args.store.now.nodes c.arg-arg.result) c.known_at.ensures.named in
    let inside = arg_inside (due_by c.args.means.now) c.args.store.now.nodes c.args.bounds c.requires.passing.0 c.args.place c.args.passing.now c.requires.passing.1 c.arg-arg.result c.size-own.result
    (tree_at c.args.store.now.nodes c.arg-arg.result) c.room-room.result c.arg-arg.ensures c.known_at.ensures.named c.size-own.ensures.exact c.room-room.ensures in
    omega (arith, kept.0.1.small, inside.2.big)

pub settle_arg-outgrow-requires-clause-there : goal.settle_arg-outgrow-requires-clause-there
settle_arg-outgrow-requires-clause-there t c =
    let p = c.requires.passing.1 in
    all_below c.settle.new.store.nodes c.args.passing.now.args.items p.args
    (are_named_later c.args.store.now.nodes c.settle.new.store.nodes c.args.passing.now.args.items p.args c.settle.ensures.worked.extends.grows p.named)

pub settle_arg-outgrow-requires-clause-new : goal.settle_arg-outgrow-requires-clause-new
settle_arg-outgrow-requires-clause-new t c =
    let s = rw c.in-Err-Outgrows.field-0-is at (c.in-Err-Outgrows.ensures.settles (tree_at c.args.store.now.nodes c.arg-arg.result) c.known_at.ensures.named) in
    named_below c.settle.new.store.nodes c.in-Err-Outgrows.new s.0 s.1

pub settle_arg-returns-in-Ok-clause-passes : goal.settle_arg-returns-in-Ok-clause-passes
settle_arg-returns-in-Ok-clause-passes t c = λ u p.
    let due = due_by c.args.means.now in
    let old = c.args.store.now.nodes in
    let new = c.settle.new.store.nodes in
    let a = tree_at c.args.store.now.nodes c.arg-arg.result in
    let kept = c.in-Ok.ensures.settles a c.known_at.ensures.named in
    let later = passing_later due old new c.settle.ensures.worked.extends.grows c.args.bounds u c.args.place c.args.passing.now p in
    let named = named_later old new c.arg-arg.result a c.settle.ensures.worked.extends.grows c.known_at.ensures.named in (
      c.pass.ensures.passes due c.args.bounds u a c.arg-arg.result later c.arg-arg.ensures named c.size-own.ensures.exact kept.0.0 (rw c.room-room.ensures at kept.0.1),
      omega (arith, c.pass.ensures.count, kept.1),
    )

pub settle_arg-returns-then-is_still-clause-worked : goal.settle_arg-returns-then-is_still-clause-worked
settle_arg-returns-then-is_still-clause-worked t c = worked_self c.args.means.now c.args.store.now c.args.budget.now c.requires.store

pub settle_arg-returns-in-Ok-clause-worked : goal.settle_arg-returns-in-Ok-clause-worked
settle_arg-returns-in-Ok-clause-worked t c = c.settle.ensures.worked

pub settle_arg-returns-in-Err-Fault-clause-worked : goal.settle_arg-returns-in-Err-Fault-clause-worked
settle_arg-returns-in-Err-Fault-clause-worked t c = c.settle.ensures.worked

pub settle_arg-returns-in-Err-Outgrows-clause-worked : goal.settle_arg-returns-in-Err-Outgrows-clause-worked
settle_arg-returns-in-Err-Outgrows-clause-worked t c =
    worked_later c.args.means.now c.args.store.now c.settle.new.store _ c.args.budget.now c.settle.new.budget c.settle.new.budget c.settle.ensures.worked c.outgrow.ensures.grows refl (omega arith)

pub settle_arg-returns-in-Err-Outgrows-clause-passes : goal.settle_arg-returns-in-Err-Outgrows-clause-passes
settle_arg-returns-in-Err-Outgrows-clause-passes t c = λ u p.
    let due = due_by c.args.means.now in
    let old = c.args.store.now.nodes in
    let new = c.settle.new.store.nodes in
    let a = tree_at c.args.store.now.nodes c.arg-arg.result in
    let s = rw c.in-Err-Outgrows.field-0-is at (c.in-Err-Outgrows.ensures.settles a c.known_at.ensures.named) in
    let later = passing_later due old new c.settle.ensures.worked.extends.grows c.args.bounds u c.args.place c.args.passing.now p in
    let named = named_later old new c.arg-arg.result a c.settle.ensures.worked.extends.grows c.known_at.ensures.named in
    c.outgrow.ensures.stops due c.args.bounds u a c.arg-arg.result c.args.budget.now c.settle.new.budget later c.arg-arg.ensures named
    (rw c.size-own.ensures.exact at (rw c.room-room.ensures at s))

pub settle_arg-returns-in-Err-Fault-clause-passes : goal.settle_arg-returns-in-Err-Fault-clause-passes
settle_arg-returns-in-Err-Fault-clause-passes t c = λ u p.
    let due = due_by c.args.means.now in
    let old = c.args.store.now.nodes in
    let new = c.settle.new.store.nodes in
    let a = tree_at c.args.store.now.nodes c.arg-arg.result in
    let s = rw c.in-Err-Fault.field-0-is at (c.in-Err-Fault.ensures.settles a c.known_at.ensures.named) in
    let later = passing_later due old new c.settle.ensures.worked.extends.grows c.args.bounds u c.args.place c.args.passing.now p in
    let named = named_later old new c.arg-arg.result a c.settle.ensures.worked.extends.grows c.known_at.ensures.named in
    passing_stops due new c.args.bounds u c.args.place c.args.passing.now later c.args.budget.now c.settle.new.budget _ a c.in-Err-Fault.fault
    (arg_is due new c.args.bounds u c.args.place c.args.passing.now later c.arg-arg.result a c.arg-arg.ensures named) (omega arith)
    (rw c.size-own.ensures.exact at (rw c.room-room.ensures at s))

pub settle_args-returns-in_default-clause-finds : goal.settle_args-returns-in_default-clause-finds
settle_args-returns-in_default-clause-finds t c = λ u n.
    let due = due_by c.args.means.now in
    let nodes = c.args.store.now.nodes in
    let begins = c.in_ok-passing.ensures.begins due c.args.bounds u n (within_of nodes c.args.bounds c.args.here u c.requires.inside n) in
    (u, variable_way due nodes c.args.bounds u c.args.here n (rw c.in_default.is at begins), omega arith)

pub settle_args-loop-place-init : goal.settle_args-loop-place-init
settle_args-loop-place-init t c =
    let i = c.requires.inside in
    let begins = rw c.in-Some.is at (c.in_ok-passing.ensures.begins (due_by c.args.means.now) c.args.bounds i.0 i.1 i.2) in
    record {
      store = c.requires.store;
      extends = extends_self c.args.store.now;
      passing = (i.0, i.1, begins.0, rw c.in-Some.is at (c.in_ok-passing.ensures.kept c.args.store.now.entries i.0 i.1));
      len = sym c.len-len.ensures.value;
      count = omega (arith, begins.1);
    }

pub settle_args-settle_arg-requires : goal.settle_args-settle_arg-requires
settle_args-settle_arg-requires t c =
    let i = c.loop-place.invariant in (
      omega (arith, i.count, i.passing.2.depth, depth_named_is c.args.store.now.nodes c.args.here i.passing.0 i.passing.1),
      (i.store, ((i.passing.0, i.passing.2), (omega (arith, i.len, c.loop-place-test.true), omega (arith, i.count, c.requires.fits)))),
    )

pub settle_args-returns-in-Err-clause-finds : goal.settle_args-returns-in-Err-clause-finds
settle_args-returns-in-Err-clause-finds t c = λ u n.
    let i = c.loop-place.invariant in
    let due = due_by c.args.means.now in
    let same = named_one c.args.store.now.nodes c.args.here i.passing.0 u i.passing.1 n in
    let stops = c.in-Err.ensures.passes i.passing.0 i.passing.2 in
    subst (λ k. Stops due c.settle_arg.new.store.nodes c.args.bounds k c.settle_arg.new.budget u c.in-Err.stop) i.count
    (subst (λ x. Stops due c.settle_arg.new.store.nodes c.args.bounds (c.loop-place.budget + c.loop-place.passing.count) c.settle_arg.new.budget x c.in-Err.stop) same stops)

pub settle_args-loop-place-preserved : goal.settle_args-loop-place-preserved
settle_args-loop-place-preserved t c =
    let i = c.loop-place.invariant in
    let passes = c.in-Ok.ensures.passes i.passing.0 i.passing.2 in
    record {
      store = c.settle_arg.ensures.worked.store;
      extends = extends_on c.args.store.now c.loop-place.store c.settle_arg.new.store i.extends c.settle_arg.ensures.worked.extends;
      passing = (i.passing.0, i.passing.1, passes.0, c.in-Ok.ensures.kept i.passing.0 i.passing.3);
      len = c.settle_arg.ensures.len ∙ i.len;
      count = omega (arith, passes.1, i.count);
    }

pub settle_args-finish-requires-clause-there : goal.settle_args-finish-requires-clause-there
settle_args-finish-requires-clause-there t c =
    let p = c.loop-place.invariant.passing.2 in
    all_below c.loop-place.store.nodes c.loop-place.passing.args.items p.args p.named

pub settle_args-returns-in_err-passing-clause-worked : goal.settle_args-returns-in_err-passing-clause-worked
settle_args-returns-in_err-passing-clause-worked t c = worked_self c.args.means.now c.args.store.now c.args.budget.now c.requires.store

pub settle_args-returns-in_default-clause-worked : goal.settle_args-returns-in_default-clause-worked
settle_args-returns-in_default-clause-worked t c = worked_self c.args.means.now c.args.store.now c.args.budget.now c.requires.store

pub settle_args-returns-in-Err-clause-worked : goal.settle_args-returns-in-Err-clause-worked
settle_args-returns-in-Err-clause-worked t c =
    let i = c.loop-place.invariant in
    let w = c.settle_arg.ensures.worked in
    record { store = w.store; extends = extends_on c.args.store.now c.loop-place.store c.settle_arg.new.store i.extends w.extends; less = omega (arith, w.less, i.count) }

pub settle_args-returns-clause-worked : goal.settle_args-returns-clause-worked
settle_args-returns-clause-worked t c =
    let i = c.loop-place.invariant in
    let mid = c.loop-place.store in
    record {
      store = store_later c.args.means.now mid _ c.finish.ensures.grows refl i.store;
      extends = extends_on c.args.store.now mid _ i.extends (extends_by mid _ c.finish.ensures.grows (stays_self mid.entries));
      less = omega (arith, i.count);
    }

pub settle_args-returns-clause-finds : goal.settle_args-returns-clause-finds
settle_args-returns-clause-finds t c = λ u n.
    let i = c.loop-place.invariant in
    let due = due_by c.args.means.now in
    let same = named_one c.args.store.now.nodes c.args.here i.passing.0 u i.passing.1 n in
    let all : c.loop-place.place ≡ length c.loop-place.passing.args.items = omega (arith, i.len, c.loop-place.auto.place-end, c.loop-place-test.false) in
    c.finish.ensures.finds due c.args.bounds u c.args.budget.now c.loop-place.budget (named_later c.args.store.now.nodes c.loop-place.store.nodes c.args.here u i.extends.grows n)
    (subst (λ k. IsPassing due c.loop-place.store.nodes c.args.bounds u k c.loop-place.passing) all
    (subst (λ x. IsPassing due c.loop-place.store.nodes c.args.bounds x c.loop-place.place c.loop-place.passing) same i.passing.2))
    i.count

-- what is kept once nothing more is due
settled : (t : ℕ) (c : turn-After-keep_settled t) → IsStore c.args.means.now c.keep_settled.new.store × Extends c.args.store.now c.keep_settled.new.store
settled t c =
    let due = due_by c.args.means.now in
    let i = c.requires.inside in
    let old = c.args.store.now in
    let a = c.settle_args.new.store in
    let g = c.advance.ensures.grows in
    let way = c.in-Ok.ensures.finds i.0 i.1 in
    let none = rw c.in-Ok-None.field-0-is at (c.in-Ok-None.ensures.advances way.0 way.1.there way.1.readies.settled) in
    let before : Store = record { alloc = a.alloc; nodes = c.advance.new.nodes; entries = a.entries } in
    let kept =
    c.keep_settled.ensures.kept due c.args.bounds i.0 way.0 (kept_later due a.nodes c.advance.new.nodes g a.entries c.settle_args.ensures.worked.store.kept)
    (named_later a.nodes c.advance.new.nodes c.args.here i.0 g (named_later old.nodes a.nodes c.args.here i.0 c.settle_args.ensures.worked.extends.grows i.1))
    (way_later due a.nodes c.advance.new.nodes g c.args.bounds i.0 c.in-Ok.way way.0 way.1) none.0
    (way_kept_later a.entries a.nodes c.advance.new.nodes g c.args.here i.0 c.in-Ok.way.ready c.in-Ok.way.count (c.in-Ok.ensures.kept i.0 i.1)) in (
      store_kept c.args.means.now before c.keep_settled.new.store c.keep_settled.ensures.nodes kept.0 (store_later c.args.means.now a before g refl c.settle_args.ensures.worked.store),
      extends_on old a c.keep_settled.new.store c.settle_args.ensures.worked.extends (extends_by a c.keep_settled.new.store (rw c.keep_settled.ensures.nodes g) kept.1),
    )

-- and what is left of the budget then
settled_worked : (t : ℕ) (c : turn-After-keep_settled t) → HasWorked c.args.means.now c.args.store.now c.keep_settled.new.store c.args.budget.now c.advance.new.budget
settled_worked t c =
    let x = settled t c in
    record { store = x.0; extends = x.1; less = omega (arith, c.settle_args.ensures.worked.less, c.advance.ensures.less) }

pub turn-returns-in_err-keep_settled-in-Ok-None-clause-worked : goal.turn-returns-in_err-keep_settled-in-Ok-None-clause-worked
turn-returns-in_err-keep_settled-in-Ok-None-clause-worked t c = settled_worked t (goal.at.turn-returns-in_err-keep_settled-in-Ok-None-clause-worked t c).After-keep_settled

pub turn-returns-in_ok-keep_settled-in-Ok-None-clause-worked : goal.turn-returns-in_ok-keep_settled-in-Ok-None-clause-worked
turn-returns-in_ok-keep_settled-in-Ok-None-clause-worked t c = settled_worked t (goal.at.turn-returns-in_ok-keep_settled-in-Ok-None-clause-worked t c).After-keep_settled

pub turn-returns-in-Err-clause-worked : goal.turn-returns-in-Err-clause-worked
turn-returns-in-Err-clause-worked t c = c.settle_args.ensures.worked

pub turn-returns-in-Err-advance-clause-worked : goal.turn-returns-in-Err-advance-clause-worked
turn-returns-in-Err-advance-clause-worked t c =
    worked_later c.args.means.now c.args.store.now c.settle_args.new.store _ c.args.budget.now c.settle_args.new.budget c.advance.new.budget c.settle_args.ensures.worked c.advance.ensures.grows refl
    c.advance.ensures.less

pub turn-returns-in-Err-advance-clause-turns : goal.turn-returns-in-Err-advance-clause-turns
turn-returns-in-Err-advance-clause-turns t c = λ u n.
    let way = c.in-Ok.ensures.finds u n in
    let stops = c.in-Err-advance.ensures.advances way.0 way.1.there way.1.readies.settled in
    way_stops (due_by c.args.means.now) c.settle_args.new.store.nodes c.advance.new.nodes c.args.bounds c.settle_args.new.budget c.args.budget.now c.advance.new.budget u c.in-Ok.way way.0 c.in-Err-advance.stop
    way.1 stops way.2

pub turn-returns-in_ok-keep_settled-in-Ok-None-clause-turns : goal.turn-returns-in_ok-keep_settled-in-Ok-None-clause-turns
turn-returns-in_ok-keep_settled-in-Ok-None-clause-turns t c = λ u n.
    let due = due_by c.args.means.now in
    let way = c.in-Ok.ensures.finds u n in
    let none = rw c.in-Ok-None.field-0-is at (c.in-Ok-None.ensures.advances way.0 way.1.there way.1.readies.settled) in (
      c.in_ok-keep_settled-in-Ok-None.ensures.form due c.args.bounds u way.0
          (way_later due c.settle_args.new.store.nodes c.advance.new.nodes c.advance.ensures.grows c.args.bounds u c.in-Ok.way way.0 way.1) none.0,
      omega (arith, c.in_ok-keep_settled-in-Ok-None.ensures.count, none.1, way.2),
    )

pub turn-returns-in-Ok-Some-clause-worked : goal.turn-returns-in-Ok-Some-clause-worked
turn-returns-in-Ok-Some-clause-worked t c =
    worked_later c.args.means.now c.args.store.now c.settle_args.new.store _ c.args.budget.now c.settle_args.new.budget c.advance.new.budget c.settle_args.ensures.worked c.advance.ensures.grows refl
    c.advance.ensures.less

pub turn-returns-in-Ok-Some-clause-turns : goal.turn-returns-in-Ok-Some-clause-turns
turn-returns-in-Ok-Some-clause-turns t c = λ u n.
    let due = due_by c.args.means.now in
    let a = c.settle_args.new.store.nodes in
    let g = c.advance.ensures.grows in
    let way = c.in-Ok.ensures.finds u n in
    let made = rw c.in-Ok-Some.field-0-is at (c.in-Ok-Some.ensures.advances way.0 way.1.there way.1.readies.settled) in (
      made.0.new,
      record {
        ready = way.0;
        replacement = made.0;
        here = named_later a c.advance.new.nodes c.args.here u g (named_later c.args.store.now.nodes a c.args.here u c.settle_args.ensures.worked.extends.grows n);
        way = way_later due a c.advance.new.nodes g c.args.bounds u c.in-Ok.way way.0 way.1;
        is_due = made.1;
        next = made.2;
        new = refl;
        small = made.3;
        shallow = made.4;
      },
      omega (arith, made.5, way.2),
    )

pub settle-returns-in-Err-clause-settles : goal.settle-returns-in-Err-clause-settles
settle-returns-in-Err-clause-settles t c = λ u n.
    let due = due_by c.args.means.now in
    let w = c.loop-stop.invariant.way in
    let same = named_one c.args.store.now.nodes c.args.number w.0 u w.2 n in
    let chain = passed_chain due c.loop-stop.store.nodes c.args.bounds w.0 c.loop-stop.steps.items w.1 w.4 in
    subst (λ x. Stops due c.turn.new.store.nodes c.args.bounds c.args.budget.now c.turn.new.budget x c.in-Err.stop) same
    (stops_on due c.turn.new.store.nodes c.args.bounds c.loop-stop.budget c.args.budget.now c.turn.new.budget chain.0 w.0 w.1 c.in-Err.stop chain.1 (c.in-Err.ensures.turns w.1 w.3)
    (omega (arith, chain.2, c.loop-stop.invariant.count)))

pub settle-keep_steps-requires-clause-there : goal.settle-keep_steps-requires-clause-there
settle-keep_steps-requires-clause-there t c =
    let due = due_by c.args.means.now in
    let w = c.loop-stop.invariant.way in
    are_passed_in due c.turn.new.store.nodes c.args.bounds w.0 c.loop-stop.steps.items w.1
    (are_passed_later due c.loop-stop.store.nodes c.turn.new.store.nodes c.turn.ensures.worked.extends.grows c.args.bounds w.0 c.loop-stop.steps.items w.1 w.4)

pub settle-keep_steps-requires-clause-count : goal.settle-keep_steps-requires-clause-count
settle-keep_steps-requires-clause-count t c =
    let w = c.loop-stop.invariant.way in
    let settled = rw c.in-Ok-Settled.field-0-is at (c.in-Ok-Settled.ensures.turns w.1 w.3) in
    omega (arith, settled.1, c.loop-stop.invariant.count, c.requires.fits)

-- what is kept once the entries of all steps are
stepped : (t : ℕ) (c : settle-After-keep_steps t) → IsStore c.args.means.now c.keep_steps.new.store × Extends c.args.store.now c.keep_steps.new.store
stepped t c =
    let due = due_by c.args.means.now in
    let i = c.loop-stop.invariant in
    let w = i.way in
    let mid = c.turn.new.store in
    let e = c.turn.ensures.worked.extends in
    let last = rw c.in-Ok-Settled.field-0-is at (c.in-Ok-Settled.ensures.turns w.1 w.3) in
    let kept =
    c.keep_steps.ensures.kept due c.args.bounds w.0 w.1 c.args.number c.loop-stop.here c.turn.ensures.worked.store.kept
    (are_passed_later due c.loop-stop.store.nodes mid.nodes e.grows c.args.bounds w.0 c.loop-stop.steps.items w.1 w.4) last.0.0 last.0.1
    (are_linked_extends c.loop-stop.store mid e c.args.number c.loop-stop.steps.items c.loop-stop.here i.linked) (rw c.in-Ok-Settled.field-0-is at c.in-Ok-Settled.ensures.kept) in (
      store_kept c.args.means.now mid c.keep_steps.new.store c.keep_steps.ensures.nodes kept.0 c.turn.ensures.worked.store,
      extends_on c.args.store.now c.loop-stop.store c.keep_steps.new.store i.extends
          (extends_on c.loop-stop.store mid c.keep_steps.new.store e (extends_by mid c.keep_steps.new.store (rw c.keep_steps.ensures.nodes (grows_self mid.nodes)) kept.1)),
    )

-- and what is left of the budget then
stepped_worked : (t : ℕ) (c : settle-After-keep_steps t) → HasWorked c.args.means.now c.args.store.now c.keep_steps.new.store c.args.budget.now c.turn.new.budget
stepped_worked t c =
    let x = stepped t c in
    record { store = x.0; extends = x.1; less = omega (arith, c.turn.ensures.worked.less, c.loop-stop.invariant.count) }

pub settle-returns-in_err-keep_steps-in-Ok-Settled-clause-worked : goal.settle-returns-in_err-keep_steps-in-Ok-Settled-clause-worked
settle-returns-in_err-keep_steps-in-Ok-Settled-clause-worked t c = stepped_worked t (goal.at.settle-returns-in_err-keep_steps-in-Ok-Settled-clause-worked t c).After-keep_steps

pub settle-returns-in-Ok-Settled-clause-worked : goal.settle-returns-in-Ok-Settled-clause-worked
settle-returns-in-Ok-Settled-clause-worked t c = stepped_worked t (goal.at.settle-returns-in-Ok-Settled-clause-worked t c).After-keep_steps

pub settle-returns-in-Ok-Settled-clause-there : goal.settle-returns-in-Ok-Settled-clause-there
settle-returns-in-Ok-Settled-clause-there t c =
    let due = due_by c.args.means.now in
    let i = c.loop-stop.invariant in
    let w = i.way in
    let mid = c.turn.new.store in
    let e = c.turn.ensures.worked.extends in
    let last = rw c.in-Ok-Settled.field-0-is at (c.in-Ok-Settled.ensures.turns w.1 w.3) in
    c.in_ok-keep_steps-in-Ok-Settled.ensures.there due c.args.bounds w.0 w.1 c.args.number c.loop-stop.here c.turn.ensures.worked.store.kept
    (are_passed_later due c.loop-stop.store.nodes mid.nodes e.grows c.args.bounds w.0 c.loop-stop.steps.items w.1 w.4) last.0.0 last.0.1
    (are_linked_extends c.loop-stop.store mid e c.args.number c.loop-stop.steps.items c.loop-stop.here i.linked) (rw c.in-Ok-Settled.field-0-is at c.in-Ok-Settled.ensures.kept)

pub settle-returns-in-Ok-Settled-clause-settles : goal.settle-returns-in-Ok-Settled-clause-settles
settle-returns-in-Ok-Settled-clause-settles t c = λ u n.
    let due = due_by c.args.means.now in
    let w = c.loop-stop.invariant.way in
    let same = named_one c.args.store.now.nodes c.args.number w.0 u w.2 n in
    let settled = rw c.in-Ok-Settled.field-0-is at (c.in-Ok-Settled.ensures.turns w.1 w.3) in (
      subst (λ x. IsToKeep due c.keep_steps.new.store.nodes c.args.bounds x c.in_ok-keep_steps-in-Ok-Settled.field-0) same
          (c.in_ok-keep_steps-in-Ok-Settled.ensures.form due c.args.bounds w.0 w.1
          (are_passed_later due c.loop-stop.store.nodes c.turn.new.store.nodes c.turn.ensures.worked.extends.grows c.args.bounds w.0 c.loop-stop.steps.items w.1 w.4) settled.0.0 settled.0.1),
      omega (arith, c.in_ok-keep_steps-in-Ok-Settled.ensures.count, settled.1, c.loop-stop.invariant.count),
    )

pub settle-loop-stop-preserved : goal.settle-loop-stop-preserved
settle-loop-stop-preserved t c =
    let due = due_by c.args.means.now in
    let i = c.loop-stop.invariant in
    let w = i.way in
    let items = c.in_ok-push-in-Ok-Stepped.ensures.items in
    let stepped = rw c.in-Ok-Stepped.field-0-is at (c.in-Ok-Stepped.ensures.turns w.1 w.3) in
    let before = are_passed_later due c.loop-stop.store.nodes c.turn.new.store.nodes c.turn.ensures.worked.extends.grows c.args.bounds w.0 c.loop-stop.steps.items w.1 w.4 in
    record {
      store = c.turn.ensures.worked.store;
      extends = extends_on c.args.store.now c.loop-stop.store c.turn.new.store i.extends c.turn.ensures.worked.extends;
      way = (
        w.0,
        stepped.0,
        w.2,
        stepped.1.next,
        rw items (passed_on due c.turn.new.store.nodes c.args.bounds w.0 c.loop-stop.steps.items w.1 c.in-Ok-Stepped.step stepped.0 before stepped.1),
        record { small = stepped.1.small; shallow = stepped.1.shallow; big = w.5.big; deep = w.5.deep },
      );
      linked =
          rw items
          (linked_on c.turn.new.store.nodes c.turn.new.store.entries c.args.number c.loop-stop.steps.items c.loop-stop.here c.in-Ok-Stepped.step
          (are_linked_extends c.loop-stop.store c.turn.new.store c.turn.ensures.worked.extends c.args.number c.loop-stop.steps.items c.loop-stop.here i.linked) (rw c.in-Ok-Stepped.field-0-is at c.in-Ok-Stepped.ensures.kept));
      count = omega (arith, ap passed_count items, count_on c.loop-stop.steps.items c.in-Ok-Stepped.step, stepped.2, i.count);
      mark = omega (arith, c.next_mark-mark.ensures, c.len.ensures);
      below = omega (arith, depth_named_is c.turn.new.store.nodes c.in-Ok-Stepped.step.next stepped.0 stepped.1.next, stepped.1.shallow, w.5.deep, stepped.2, i.count);
    }

pub settle-index-requires : goal.settle-index-requires
settle-index-requires t c =
    omega (
      arith,
      c.loop-stop.invariant.mark,
      ap length c.in_ok-push-in-Ok-Stepped.ensures.items,
      length-append c.loop-stop.steps.items (c.in-Ok-Stepped.step ∷ []),
    )

pub settle-returns-then-index-here-clause-worked : goal.settle-returns-then-index-here-clause-worked
settle-returns-then-index-here-clause-worked t c = record {
  store = c.turn.ensures.worked.store;
  extends = extends_on c.args.store.now c.loop-stop.store c.turn.new.store c.loop-stop.invariant.extends c.turn.ensures.worked.extends;
  less = omega arith;
}

pub settle-returns-then-index-here-clause-settles : goal.settle-returns-then-index-here-clause-settles
settle-returns-then-index-here-clause-settles t c = λ u n.
    let due = due_by c.args.means.now in
    let nodes = c.turn.new.store.nodes in
    let b = c.args.bounds in
    let k = c.args.budget.now in
    let i = c.loop-stop.invariant in
    let w = i.way in
    let all = c.push.new.self.items in
    let items = c.in_ok-push-in-Ok-Stepped.ensures.items in
    let same = named_one c.args.store.now.nodes c.args.number w.0 u w.2 n in
    let stepped = rw c.in-Ok-Stepped.field-0-is at (c.in-Ok-Stepped.ensures.turns w.1 w.3) in
    let before = are_passed_later due c.loop-stop.store.nodes nodes c.turn.ensures.worked.extends.grows b w.0 c.loop-stop.steps.items w.1 w.4 in
    let passed : ArePassed due nodes b w.0 all stepped.0 =
    rw items (passed_on due nodes b w.0 c.loop-stop.steps.items w.1 c.in-Ok-Stepped.step stepped.0 before stepped.1) in
    let inside : c.loop-stop.mark < length all = omega (arith, i.mark, ap length items, length-append c.loop-stop.steps.items (c.in-Ok-Stepped.step ∷ [])) in
    let marked = slice_get_read all (length all) c.loop-stop.mark c.index.result.now refl inside c.index.ensures in
    let round = passed_at due nodes b w.0 all stepped.0 c.loop-stop.mark c.index.result.now passed marked in
    let back : stepped.0 ≡ round.0 = named_one nodes c.in-Ok-Stepped.step.next stepped.0 round.0 stepped.1.next (subst (λ x. IsNamed nodes x round.0) c.if-index-here.true round.1) in
    let again =
    out_again due b.big b.deep (k - length round.2) round.4 round.0 round.6 (subst (λ x. Chain due b.big b.deep round.0 round.4 x) back round.5) in
    let count : length round.2 + (k - length round.2) ≡ k =
    omega (arith, round.7, ap passed_count items, count_on c.loop-stop.steps.items c.in-Ok-Stepped.step, stepped.2, i.count) in (
      subst (λ x. RunsOut due b.big b.deep k x) same (out_on due b.big b.deep (k - length round.2) k round.2 w.0 round.0 round.3 again count),
      refl,
    )

pub settle_arg-returns-then-is_still-clause-kept : goal.settle_arg-returns-then-is_still-clause-kept
settle_arg-returns-then-is_still-clause-kept t c = λ u h.
    let still = c.is_still.ensures c.if-is_still.true in
    passed_next c.args.store.now.nodes c.args.store.now.entries u c.args.place c.args.passing.now _ c.arg-arg.result h c.arg-arg.ensures (still.0, still.1, omega (arith, still.2))
    (omega arith) refl (λ j l. refl)

pub settle_arg-returns-in-Ok-clause-kept : goal.settle_arg-returns-in-Ok-clause-kept
settle_arg-returns-in-Ok-clause-kept t c = λ u h.
    let old = c.args.store.now in
    let new = c.settle.new.store in
    let e = c.settle.ensures.worked.extends in
    passed_next new.nodes new.entries u c.args.place c.args.passing.now c.pass.new.self c.arg-arg.result
    (passed_stays old.entries new.entries e.stays new.nodes u c.args.place c.args.passing.now (has_passed_later old.entries old.nodes new.nodes e.grows u c.args.place c.args.passing.now h))
    c.arg-arg.ensures
    (number_more new.entries c.arg-arg.result c.in-Ok.entry.count c.pass.new.self.count (omega (arith, c.pass.ensures.count)) c.in-Ok.ensures.there)
    (omega (arith, c.pass.ensures.count)) c.pass.ensures.len c.pass.ensures.rest

pub settle_args-returns-clause-kept : goal.settle_args-returns-clause-kept
settle_args-returns-clause-kept t c = λ u n.
    let i = c.loop-place.invariant in
    let same = named_one c.args.store.now.nodes c.args.here i.passing.0 u i.passing.1 n in
    c.finish.ensures.kept c.loop-place.store.entries u
    (passed_all c.loop-place.store.nodes c.loop-place.store.entries u c.loop-place.place c.loop-place.passing
    (subst (λ x. HasPassed c.loop-place.store.nodes c.loop-place.store.entries x c.loop-place.place c.loop-place.passing) same i.passing.3)
    (omega (arith, i.len, c.loop-place-test.false)))

pub turn-returns-in-Ok-Some-clause-kept : goal.turn-returns-in-Ok-Some-clause-kept
turn-returns-in-Ok-Some-clause-kept t c =
    let i = c.requires.inside in
    let a = c.settle_args.new.store in
    let g = c.advance.ensures.grows in
    record {
      here = refl;
      term = i.0;
      named = named_later a.nodes c.advance.new.nodes c.args.here i.0 g (named_later c.args.store.now.nodes a.nodes c.args.here i.0 c.settle_args.ensures.worked.extends.grows i.1);
      way = way_kept_later a.entries a.nodes c.advance.new.nodes g c.args.here i.0 c.in-Ok.way.ready c.in-Ok.way.count (c.in-Ok.ensures.kept i.0 i.1);
    }

pub settle-loop-stop-init : goal.settle-loop-stop-init
settle-loop-stop-init t c =
    let i = c.requires.inside in
    rw c.new-steps.ensures.items (record {
      store = c.requires.store;
      extends = extends_self c.args.store.now;
      way = (i.0, i.0, i.1, i.1, refl, i.2);
      linked = refl;
      count = omega arith;
      mark = omega arith;
      below = omega arith;
    })

pub settle-turn-requires : goal.settle-turn-requires
settle-turn-requires t c =
    let i = c.loop-stop.invariant in
    let w = i.way in
    (omega (arith, i.below), (i.store, ((w.1, w.3, w.5), omega (arith, i.count, c.requires.fits))))

pub settle-loop-stop-smaller : goal.settle-loop-stop-smaller
settle-loop-stop-smaller t c =
    let w = c.loop-stop.invariant.way in
    let stepped = rw c.in-Ok-Stepped.field-0-is at (c.in-Ok-Stepped.ensures.turns w.1 w.3) in
    omega (arith, stepped.2)

pub turn-settle_args-requires : goal.turn-settle_args-requires
turn-settle_args-requires t c = (omega arith, (c.requires.store, (c.requires.inside, c.requires.fits)))

pub settle-returns-in-Err-clause-worked : goal.settle-returns-in-Err-clause-worked
settle-returns-in-Err-clause-worked t c =
    let i = c.loop-stop.invariant in
    let w = c.turn.ensures.worked in
    record { store = w.store; extends = extends_on c.args.store.now c.loop-stop.store c.turn.new.store i.extends w.extends; less = omega (arith, w.less, i.count) }

pub settle-returns-in_err-push-in-Ok-Stepped-clause-worked : goal.settle-returns-in_err-push-in-Ok-Stepped-clause-worked
settle-returns-in_err-push-in-Ok-Stepped-clause-worked t c =
    let i = c.loop-stop.invariant in
    let w = c.turn.ensures.worked in
    record { store = w.store; extends = extends_on c.args.store.now c.loop-stop.store c.turn.new.store i.extends w.extends; less = omega (arith, w.less, i.count) }
