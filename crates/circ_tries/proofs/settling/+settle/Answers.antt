use Rattle.std.proofs.Common.{◌≡◌, ◌⊎◌, inl, inr, ℕ, ◌+◌, ◌-◌, ◌≤◌, ◌<◌, true, [], ◌∷◌, ◌++◌, take, length, is_some, refl, ap, sym, subst, ◌∙◌, arith, append-nil}
use Rattle.std.proofs.lemmas.Option.{slice_get_within}
use Rattle.circ_term.specs.Tree.{Tree, args_of, operator_number, depth_of}
use Rattle.circ_term.specs.Limits.{node_limit, depth_limit}
use Rattle.circ_term.proofs.Limits.{within_limits}
use Rattle.circ_rewrite.specs.Plain.{plain_passes}
use Rattle.circ_nodes.specs.Named.{tree_at}
use Rattle.circ_nodes.proofs.Numbers.{named_below, named_one, named_later, there_named, are_named_length}
use Rattle.circ_due.specs.Bounds.{AreBound}
use Rattle.circ_due.specs.Chosen.{IsFit, by_rule, due_by}
use Rattle.circ_due.specs.declared.choice.Choice.TheVariants.{Ruled}
use Rattle.circ_due.proofs.Givens.{are_bound_later}
use Rattle.circ_conditional_norm.specs.Tries.{rule_replaces}
use Rattle.circ_conditional_norm.specs.Within.{IsInRoom, Form, run_in}
use Rattle.circ_conditional_norm.proofs.Stepping.{never_outgrown, root_none}
use Rattle.circ_tries.specs.Trying.{due_in, conditions_by, norm_by, FindsDue}
use Rattle.circ_tries.specs.Turning.{plain_room, GoesOn, StopsAt, SettlesAt}
use Rattle.circ_tries.specs.declared.parts.Course.{Course}
use Rattle.circ_tries.specs.declared.parts.Found.{Found}
use Rattle.circ_tries.specs.declared.parts.Room.{Room}
use Rattle.circ_tries.proofs.Arguments.{writes_arg}
use Rattle.circ_tries.proofs.Faulting.{root_faults}
use Rattle.circ_tries.proofs.Going.{take_front, writes_none, writes_on, goes_self, goes_on, stops_on, settles_on, steps_on, turns_on}
use Rattle.circ_tries.proofs.Measures.{depth_at, depth_is, below_on}
use Rattle.circ_tries.proofs.Passed.{variable_at_root, behind_args, args_start, settles_still, passes_still, passes_formed, passes_faults, passes_outgrown, deeper_than, arg_inside, room_limits, put_arg, put_limits, put_passes, formed_in_room}
use Rattle.circ_tries.proofs.Still.{settled_at}
use Rattle.circ_tries.proofs.Stores.{store_later, worked_self, worked_on, worked_grown, worked_later, worked_made, worked_kept, ready_on, due_falls, nothing_in, whole_faults_by, whole_settles}
use Rattle.circ_tries.proofs.Rooting.{found_later}
use Rattle.circ_tries.proofs.Ruling.{rule_hinders, rule_fails, rule_applies}
use Rattle.circ_tries.proofs.Tried.{due_behind, found_first, replaces_by, rules_none, still_from}
use Rattle.circ_tries.proofs.settling.+settle.Answers.Conditions as conditions
use Rattle.circ_tries.proofs.settling.+settle.Goals as goal
mod Conditions

-- ---- a whole term

pub settle_whole-settle-requires : goal.settle_whole-settle-requires
settle_whole-settle-requires t c =
    let w = within_limits (tree_at c.args.store.now.nodes c.args.number) c.known_at.ensures.within in (
      omega arith,
      (
        c.requires.ready,
        record { term = tree_at c.args.store.now.nodes c.args.number; named = c.known_at.ensures.named; room = record { small = w.0; shallow = w.1 }; big = omega arith; deep = omega arith },
      ),
    )

pub settle_whole-whole_fault-requires : goal.settle_whole-whole_fault-requires
settle_whole-whole_fault-requires t c = λ n e.
    let u = tree_at c.args.store.now.nodes c.args.number in
    let due = due_in c.args.means.now c.args.tries in
    let room : Room = record { big = node_limit; deep = depth_limit } in
    let s = subst (λ o. StopsAt due room c.settle.new.store.nodes [] u c.args.budget.now c.settle.new.budget o) e (c.in-Err.ensures.ends u c.known_at.ensures.named) in
    never_outgrown due c.args.budget.now [] u s.0 [] c.args.budget.now c.settle.new.budget (s.2 [])

pub settle_whole-returns-in-Ok-clause-exact : goal.settle_whole-returns-in-Ok-clause-exact
settle_whole-returns-in-Ok-clause-exact t c = λ u n.
    let h = c.in-Ok.ensures.ends u n in (
      h.0,
      h.2,
      whole_settles c.args.means.now c.args.tries _ (refl, refl) c.settle.new.store.nodes c.new-course.result.path.items c.new-course.result c.settle.new.course u c.args.budget.now c.settle.new.budget c.in-Ok.value
          c.new-course.ensures.path c.new-course.ensures.traces h,
    )

pub settle_whole-returns-in-Err-clause-exact : goal.settle_whole-returns-in-Err-clause-exact
settle_whole-returns-in-Err-clause-exact t c = λ u n.
    whole_faults_by c.args.means.now c.args.tries _ (refl, refl) c.settle.new.store.nodes u c.args.budget.now c.settle.new.budget c.whole_fault.result
    (rw c.whole_fault.ensures at (c.in-Err.ensures.ends u n))

-- ---- one turn after the other

pub settle-loop-stop-init : goal.settle-loop-stop-init
settle-loop-stop-init t c =
    let i = c.requires.inside in
    record {
      worked = worked_self c.args.means.now c.args.store.now c.args.budget.now c.requires.ready.store;
      way = (
        i.term,
        i.term,
        [],
        i.named,
        i.named,
        goes_self (due_in c.args.means.now c.args.tries) c.args.room [] i.term c.args.budget.now,
        writes_none c.args.course.now.path.items c.args.course.now refl,
        i.room,
      );
      below = omega arith;
    }

pub settle-turn-requires : goal.settle-turn-requires
settle-turn-requires t c =
    let i = c.loop-stop.invariant in
    let w = i.way in
    let r = c.requires.inside in (
      omega (arith, i.below),
      (
        ready_on c.args.means.now c.args.store.now c.loop-stop.store c.args.tries c.args.budget.now c.loop-stop.budget c.requires.ready i.worked,
        record { term = w.1; named = w.4; room = w.7; big = r.big; deep = r.deep },
      ),
    )

pub settle-returns-in-Err-clause-ends : goal.settle-returns-in-Err-clause-ends
settle-returns-in-Err-clause-ends t c = λ u n.
    let due = due_in c.args.means.now c.args.tries in
    let w = c.loop-stop.invariant.way in
    let same = named_one c.args.store.now.nodes c.args.number w.0 u w.3 n in
    subst (λ x. StopsAt due c.args.room c.turn.new.store.nodes [] x c.args.budget.now c.turn.new.budget c.in-Err.stop) same
    (stops_on due c.args.room c.turn.new.store.nodes [] [] w.0 w.1 c.args.budget.now c.loop-stop.budget c.turn.new.budget w.2 c.in-Err.stop w.5 (c.in-Err.ensures.turns w.1 w.4))

pub settle-returns-in-Ok-Settled-clause-ends : goal.settle-returns-in-Ok-Settled-clause-ends
settle-returns-in-Ok-Settled-clause-ends t c = λ u n.
    let due = due_in c.args.means.now c.args.tries in
    let path = c.args.course.now.path.items in
    let w = c.loop-stop.invariant.way in
    let same = named_one c.args.store.now.nodes c.args.number w.0 u w.3 n in
    let settled = rw c.in-Ok-Settled.field-0-is at (c.in-Ok-Settled.ensures.turns w.1 w.4) in
    subst (λ x. SettlesAt due c.args.room c.turn.new.store.nodes path c.args.course.now c.turn.new.course [] x c.args.budget.now c.turn.new.budget c.in-Ok-Settled.value) same
    (settles_on due c.args.room c.turn.new.store.nodes path [] [] c.args.course.now c.loop-stop.course c.turn.new.course w.0 w.1 c.args.budget.now c.loop-stop.budget c.turn.new.budget
    c.in-Ok-Settled.value w.2 w.5 w.6 (rw w.6.1 at settled))

pub settle-loop-stop-preserved : goal.settle-loop-stop-preserved
settle-loop-stop-preserved t c =
    let due = due_in c.args.means.now c.args.tries in
    let path = c.args.course.now.path.items in
    let i = c.loop-stop.invariant in
    let w = i.way in
    let r = c.requires.inside in
    let stepped = rw c.in-Ok-Stepped.field-0-is at (c.in-Ok-Stepped.ensures.turns w.1 w.4) in
    let on =
    steps_on due c.args.room c.turn.new.store.nodes path [] [] c.args.course.now c.loop-stop.course c.turn.new.course w.0 w.1 c.args.budget.now c.loop-stop.budget c.turn.new.budget
    c.in-Ok-Stepped.next w.2 i.worked.less w.5 w.6 (rw w.6.1 at stepped) in
    record {
      worked = worked_on c.args.means.now c.args.store.now c.loop-stop.store c.turn.new.store c.args.budget.now c.loop-stop.budget c.turn.new.budget i.worked c.turn.ensures.worked;
      way = (w.0, on.0, on.1, w.3, on.2, on.3, on.4, on.5);
      below =
          (let f = on.6 in
          let d = depth_is c.turn.new.store.nodes c.in-Ok-Stepped.next on.0 on.2 in
          let s = on.5.shallow in omega (arith, f, d, s, r.deep));
    }

pub settle-loop-stop-smaller : goal.settle-loop-stop-smaller
settle-loop-stop-smaller t c =
    let w = c.loop-stop.invariant.way in
    let stepped = rw c.in-Ok-Stepped.field-0-is at (c.in-Ok-Stepped.ensures.turns w.1 w.4) in
    let f = stepped.6 in omega (arith, f)

pub settle-returns-in-Err-clause-worked : goal.settle-returns-in-Err-clause-worked
settle-returns-in-Err-clause-worked t c =
    worked_on c.args.means.now c.args.store.now c.loop-stop.store c.turn.new.store c.args.budget.now c.loop-stop.budget c.turn.new.budget c.loop-stop.invariant.worked c.turn.ensures.worked

pub settle-returns-in-Ok-Settled-clause-worked : goal.settle-returns-in-Ok-Settled-clause-worked
settle-returns-in-Ok-Settled-clause-worked t c =
    worked_on c.args.means.now c.args.store.now c.loop-stop.store c.turn.new.store c.args.budget.now c.loop-stop.budget c.turn.new.budget c.loop-stop.invariant.worked c.turn.ensures.worked

-- ---- a turn

pub turn-returns-then-is_still-clause-turns : goal.turn-returns-then-is_still-clause-turns
turn-returns-then-is_still-clause-turns t c = λ u n.
    let m = c.args.means.now in
    let nodes = c.args.store.now.nodes in
    settles_still (due_in m c.args.tries) c.args.room (due_by m) (nothing_in m c.args.tries) nodes c.args.course.now.path.items c.args.course.now u c.args.budget.now c.args.here refl n
    (settled_at (due_by m) nodes c.args.store.now.still.items c.args.here u c.requires.ready.store.right (sym c.is_still.ensures ∙ c.if-is_still.true) n)

pub turn-settle_args-requires : goal.turn-settle_args-requires
turn-settle_args-requires t c = (omega arith, (c.requires.ready, c.requires.inside))

pub turn-returns-then-is_still-clause-worked : goal.turn-returns-then-is_still-clause-worked
turn-returns-then-is_still-clause-worked t c = worked_self c.args.means.now c.args.store.now c.args.budget.now c.requires.ready.store

pub turn-advance-requires : goal.turn-advance-requires
turn-advance-requires t c =
    let i = c.requires.inside in
    let r = c.in-Ok.ensures.readies i.term i.named in (
      omega (arith, c.settle_args.ensures.worked.less),
      (
        ready_on c.args.means.now c.args.store.now c.settle_args.new.store c.args.tries c.args.budget.now c.settle_args.new.budget c.requires.ready c.settle_args.ensures.worked,
        record { term = r.0; named = r.3; room = r.7; big = i.big; deep = i.deep },
      ),
    )

pub turn-returns-in-Ok-clause-turns : goal.turn-returns-in-Ok-clause-turns
turn-returns-in-Ok-clause-turns t c = λ u n.
    let due = due_in c.args.means.now c.args.tries in
    let path = c.args.course.now.path.items in
    let r = c.in-Ok.ensures.readies u n in
    turns_on due c.args.room c.advance.new.store.nodes path [] r.2 c.args.course.now c.settle_args.new.course c.advance.new.course u r.0 c.args.budget.now c.settle_args.new.budget
    c.advance.new.budget r.1 c.advance.result c.settle_args.ensures.worked.less r.4 r.6 (rw r.6.1 at (c.advance.ensures.turns r.0 r.2 r.3 r.5))

pub turn-returns-in-Ok-clause-worked : goal.turn-returns-in-Ok-clause-worked
turn-returns-in-Ok-clause-worked t c =
    worked_on c.args.means.now c.args.store.now c.settle_args.new.store c.advance.new.store c.args.budget.now c.settle_args.new.budget c.advance.new.budget c.settle_args.ensures.worked
    c.advance.ensures.worked

-- ---- the arguments

pub settle_args-returns-in-Variable-clause-readies : goal.settle_args-returns-in-Variable-clause-readies
settle_args-returns-in-Variable-clause-readies t c = λ u n.
    let due = due_in c.args.means.now c.args.tries in
    let i = c.requires.inside in
    let same = named_one c.args.store.now.nodes c.args.number i.term u i.named n in (
      u,
      [],
      [],
      n,
      goes_self due c.args.room [] u c.args.budget.now,
      variable_at_root due u c.in-Variable.number c.in-Variable.sort (c.in-Variable.ensures.shape u n),
      writes_none c.args.course.now.path.items c.args.course.now refl,
      subst (IsInRoom (plain_room c.args.room)) same i.room,
    )

pub settle_args-loop-place-init : goal.settle_args-loop-place-init
settle_args-loop-place-init t c =
    let due = due_in c.args.means.now c.args.tries in
    let i = c.requires.inside in
    let s = c.in-Application.ensures.shape i.term i.named in
    let o : is_some (operator_number i.term) ≡ true = ap (λ u. is_some (operator_number u)) s.1 in
    record {
      worked = worked_self c.args.means.now c.args.store.now c.args.budget.now c.requires.ready.store;
      way = (
        i.term,
        i.term,
        [],
        i.named,
        i.named,
        args_start due c.args.room i.term c.args.budget.now o,
        (o, refl),
        writes_none c.args.course.now.path.items c.args.course.now refl,
        i.room,
        ap (λ u. length (args_of u)) s.1 ∙ sym (are_named_length c.args.store.now.nodes c.in-Application.args.now s.0 s.2),
      );
      below = omega arith;
    }

pub settle_args-returns-in-Variable-clause-worked : goal.settle_args-returns-in-Variable-clause-worked
settle_args-returns-in-Variable-clause-worked t c = worked_self c.args.means.now c.args.store.now c.args.budget.now c.requires.ready.store

pub settle_args-settle_arg-requires : goal.settle_args-settle_arg-requires
settle_args-settle_arg-requires t c =
    let i = c.loop-place.invariant in
    let w = i.way in
    let r = c.requires.inside in (
      omega (arith, i.below),
      (
        ready_on c.args.means.now c.args.store.now c.loop-place.store c.args.tries c.args.budget.now c.loop-place.budget c.requires.ready i.worked,
        (
          record { term = w.1; named = w.4; room = w.8; big = r.big; deep = r.deep },
          λ x nx.
              let same = named_one c.loop-place.store.nodes c.loop-place.here w.1 x w.4 nx in
              omega (arith, ap (λ u. length (args_of u)) same, w.6.1, w.9, c.loop-place-test.true),
        ),
      ),
    )

pub settle_args-returns-in-Err-clause-readies : goal.settle_args-returns-in-Err-clause-readies
settle_args-returns-in-Err-clause-readies t c = λ u n.
    let due = due_in c.args.means.now c.args.tries in
    let w = c.loop-place.invariant.way in
    let same = named_one c.args.store.now.nodes c.args.number w.0 u w.3 n in
    subst (λ x. StopsAt due c.args.room c.settle_arg.new.store.nodes [] x c.args.budget.now c.settle_arg.new.budget c.in-Err.stop) same
    (stops_on due c.args.room c.settle_arg.new.store.nodes [] (c.loop-place.place ∷ []) w.0 w.1 c.args.budget.now c.loop-place.budget c.settle_arg.new.budget w.2 c.in-Err.stop w.5
    (c.in-Err.ensures.passes w.1 w.4))

pub settle_args-returns-in-Err-clause-worked : goal.settle_args-returns-in-Err-clause-worked
settle_args-returns-in-Err-clause-worked t c =
    worked_on c.args.means.now c.args.store.now c.loop-place.store c.settle_arg.new.store c.args.budget.now c.loop-place.budget c.settle_arg.new.budget c.loop-place.invariant.worked
    c.settle_arg.ensures.worked

pub settle_args-loop-place-preserved : goal.settle_args-loop-place-preserved
settle_args-loop-place-preserved t c =
    let due = due_in c.args.means.now c.args.tries in
    let path = c.args.course.now.path.items in
    let i = c.loop-place.invariant in
    let w = i.way in
    let r = c.requires.inside in
    let k = c.loop-place.place in
    let p = c.in-Ok.ensures.passes w.1 w.4 in
    record {
      worked = worked_on c.args.means.now c.args.store.now c.loop-place.store c.settle_arg.new.store c.args.budget.now c.loop-place.budget c.settle_arg.new.budget i.worked
          c.settle_arg.ensures.worked;
      way = (
        w.0,
        p.0,
        w.2 ++ p.1,
        w.3,
        p.2,
        goes_on due c.args.room [] (k ∷ []) ((k + 1) ∷ []) w.0 w.1 p.0 c.args.budget.now c.loop-place.budget c.settle_arg.new.budget w.2 p.1 w.5 p.3,
        (p.4.0, p.4.1 ∙ w.6.1),
        writes_on path c.args.course.now c.loop-place.course c.settle_arg.new.course w.2 p.1 w.7 (rw w.7.1 at p.5),
        p.6,
        w.9,
      );
      below =
          (let du = depth_is c.loop-place.store.nodes c.loop-place.here w.1 w.4 in
          let dv = depth_is c.settle_arg.new.store.nodes c.in-Ok.next p.0 p.2 in
          let s = p.6.shallow in
          below_on _ c.loop-place.budget c.settle_arg.new.budget (depth_at c.loop-place.store.nodes c.loop-place.here) (depth_at c.settle_arg.new.store.nodes c.in-Ok.next) i.below
          c.settle_arg.ensures.worked.less (same_depth p.7 du dv) (omega (arith, dv, s, r.deep)));
    }
  where
    same_depth : {a b : ℕ} {x y : Tree} {m n : ℕ} → (a < b) ⊎ (x ≡ y) → m ≡ depth_of x → n ≡ depth_of y → (a < b) ⊎ (m ≡ n)
    same_depth (inl f) h g = inl f
    same_depth (inr e) h g = inr (h ∙ ap depth_of e ∙ sym g)

pub settle_args-returns-clause-readies : goal.settle_args-returns-clause-readies
settle_args-returns-clause-readies t c = λ u n.
    let due = due_in c.args.means.now c.args.tries in
    let w = c.loop-place.invariant.way in
    let same = named_one c.args.store.now.nodes c.args.number w.0 u w.3 n in
    let k = c.loop-place.place in
    let all : length (args_of w.1) ≤ k = omega (arith, w.6.1, w.9, c.loop-place.auto.place-end, c.loop-place-test.false) in
    (w.1, w.2, k ∷ [], w.4, subst (λ x. GoesOn due c.args.room [] x c.args.budget.now (k ∷ []) w.1 w.2 c.loop-place.budget) same w.5, behind_args due w.1 k w.6.0 all, w.7, w.8)

-- ---- one argument

pub settle_arg-returns-then-is_still-clause-passes : goal.settle_arg-returns-then-is_still-clause-passes
settle_arg-returns-then-is_still-clause-passes t c = λ u n.
    let m = c.args.means.now in
    let nodes = c.args.store.now.nodes in
    let i = c.requires.inside in
    let a = c.arg_at-arg.ensures.arg u n in
    let room = subst (IsInRoom (plain_room c.args.room)) (named_one nodes c.args.here i.term u i.named n) i.room in
    passes_still (due_in m c.args.tries) (due_falls m c.args.tries) c.args.room i.big i.deep (due_by m) (nothing_in m c.args.tries) u c.args.place a.0 c.args.budget.now a.1 room nodes
    c.args.course.now.path.items c.args.course.now c.args.here refl n
    (settled_at (due_by m) nodes c.args.store.now.still.items c.arg_at-arg.result a.0 c.requires.ready.store.right (sym c.is_still.ensures ∙ c.if-is_still.true) a.2)

pub settle_arg-room_for-left-requires : goal.settle_arg-room_for-left-requires
settle_arg-room_for-left-requires t c =
    let i = c.requires.inside in
    let a = c.arg_at-arg.ensures.arg i.term i.named in
    let d = deeper_than (due_in c.args.means.now c.args.tries) (due_falls c.args.means.now c.args.tries) c.args.room i.big i.deep i.term c.args.place a.0 a.1 in
    let s = i.room.shallow in
    record { inside = i; arg = named_below c.args.store.now.nodes c.arg_at-arg.result a.0 a.2; deep = omega (arith, d, s) }

pub settle_arg-settle-settled-requires : goal.settle_arg-settle-settled-requires
settle_arg-settle-settled-requires t c =
    let due = due_in c.args.means.now c.args.tries in
    let falls = due_falls c.args.means.now c.args.tries in
    let nodes = c.args.store.now.nodes in
    let i = c.requires.inside in
    let a = c.arg_at-arg.ensures.arg i.term i.named in
    let left = c.room_for-left.ensures i.term a.0 i.named a.2 in
    let inside = arg_inside due falls c.args.room i.big i.deep i.term c.args.place a.0 a.1 i.room in
    let limits = room_limits due falls c.args.room i.big i.deep i.term c.args.place a.0 a.1 i.room in
    let d = deeper_than due falls c.args.room i.big i.deep i.term c.args.place a.0 a.1 in
    let da = depth_is nodes c.arg_at-arg.result a.0 a.2 in
    let dt = depth_is nodes c.args.here i.term i.named in (
      omega (arith, d, da, dt),
      (
        c.requires.ready,
        record {
          term = a.0;
          named = a.2;
          room = subst (λ (r : Room). IsInRoom (plain_room r) a.0) (sym left) inside;
          big = omega (arith, ap (λ (r : Room). r.big) left, limits.0);
          deep = omega (arith, ap (λ (r : Room). r.deep) left, limits.1);
        },
      ),
    )

pub settle_arg-put_value-requires : goal.settle_arg-put_value-requires
settle_arg-put_value-requires t c =
    let i = c.requires.inside in
    let nodes = c.args.store.now.nodes in
    let new = c.settle-settled.new.store.nodes in
    let a = c.arg_at-arg.ensures.arg i.term i.named in
    let g = c.settle-settled.ensures.worked.grows in
    let here = named_later nodes new c.args.here i.term g i.named in
    let h = rw c.in-Ok.is at (c.settle-settled.ensures.ends a.0 a.2) in
    record {
      there = named_below new c.args.here i.term here;
      value = named_below new c.in-Ok.value h.0 h.2;
      place = λ x nx. let same = named_one new c.args.here i.term x here nx in subst (λ y. c.args.place < length (args_of y)) same (c.requires.place i.term i.named);
    }

pub settle_arg-outgrow-requires-clause-there : goal.settle_arg-outgrow-requires-clause-there
settle_arg-outgrow-requires-clause-there t c =
    let i = c.requires.inside in
    let new = c.settle-settled.new.store.nodes in
    named_below new c.args.here i.term (named_later c.args.store.now.nodes new c.args.here i.term c.settle-settled.ensures.worked.grows i.named)

pub settle_arg-outgrow-requires-clause-new : goal.settle_arg-outgrow-requires-clause-new
settle_arg-outgrow-requires-clause-new t c =
    let i = c.requires.inside in
    let a = c.arg_at-arg.ensures.arg i.term i.named in
    let s = rw (rw c.in-Err-Outgrows.is at c.in-Err-Outgrows.field-0-is) at (rw c.in-Err-Outgrows.is at (c.settle-settled.ensures.ends a.0 a.2)) in
    named_below c.settle-settled.new.store.nodes c.in-Err-Outgrows.new s.0 s.1

pub settle_arg-outgrow-requires-clause-place : goal.settle_arg-outgrow-requires-clause-place
settle_arg-outgrow-requires-clause-place t c = λ x nx.
    let i = c.requires.inside in
    let new = c.settle-settled.new.store.nodes in
    let here = named_later c.args.store.now.nodes new c.args.here i.term c.settle-settled.ensures.worked.grows i.named in
    let same = named_one new c.args.here i.term x here nx in
    subst (λ y. c.args.place < length (args_of y)) same (c.requires.place i.term i.named)

pub settle_arg-returns-then-is_still-clause-worked : goal.settle_arg-returns-then-is_still-clause-worked
settle_arg-returns-then-is_still-clause-worked t c = worked_self c.args.means.now c.args.store.now c.args.budget.now c.requires.ready.store

pub settle_arg-returns-in-Ok-clause-worked : goal.settle_arg-returns-in-Ok-clause-worked
settle_arg-returns-in-Ok-clause-worked t c =
    worked_later c.args.means.now c.args.store.now c.settle-settled.new.store _ c.args.budget.now c.settle-settled.new.budget c.settle-settled.ensures.worked c.put_value.ensures.grows refl refl

pub settle_arg-returns-in-Err-Outgrows-clause-worked : goal.settle_arg-returns-in-Err-Outgrows-clause-worked
settle_arg-returns-in-Err-Outgrows-clause-worked t c =
    worked_later c.args.means.now c.args.store.now c.settle-settled.new.store _ c.args.budget.now c.settle-settled.new.budget c.settle-settled.ensures.worked c.outgrow.ensures.grows refl refl

pub settle_arg-returns-in-Ok-clause-passes : goal.settle_arg-returns-in-Ok-clause-passes
settle_arg-returns-in-Ok-clause-passes t c = λ u n.
    let due = due_in c.args.means.now c.args.tries in
    let falls = due_falls c.args.means.now c.args.tries in
    let nodes = c.args.store.now.nodes in
    let new = c.settle-settled.new.store.nodes in
    let path = c.args.course.now.path.items in
    let k = c.args.budget.now in
    let i = c.requires.inside in
    let a = c.arg_at-arg.ensures.arg u n in
    let room = subst (IsInRoom (plain_room c.args.room)) (named_one nodes c.args.here i.term u i.named n) i.room in
    let left = c.room_for-left.ensures u a.0 n a.2 in
    let g = c.settle-settled.ensures.worked.grows in
    let h = rw c.in-Ok.is at (c.settle-settled.ensures.ends a.0 a.2) in
    let form = ap (λ (r : Room). run_in due (plain_room r) k [] a.0 [] k) (sym left) ∙ h.3 [] in
    let put = put_arg due falls c.args.room i.big i.deep u c.args.place a.0 h.0 a.1 in
    let inner = formed_in_room due falls c.args.room i.big i.deep u c.args.place a.0 h.0 h.1 k c.settle-settled.new.budget a.1 room form in
    let limits = put_limits due falls c.args.room i.big i.deep u c.args.place a.0 h.0 put.0 a.1 room inner put.1 in
    let is = c.put_value.ensures.puts u a.0 h.0 put.0 (named_later nodes new c.args.here u g n) a.1 (named_later nodes new c.arg_at-arg.result a.0 g a.2) h.2 put.1 limits in
    let course : Course = record { path = c.truncate.new.self; traces = c.settle-settled.new.course.traces } in
    let back =
    c.truncate.ensures.items ∙ ap (take c.len-depth.result) (h.4.1 ∙ c.in_ok-push.ensures.ok) ∙ take_front path (c.args.place ∷ []) c.len-depth.result c.len-depth.ensures.value in
    put_passes due c.args.room c.put_value.new.nodes path c.args.course.now course u c.args.place k c.settle-settled.new.budget put.0 c.put_value.result is
    (λ m named. passes_formed due falls c.args.room i.big i.deep u c.args.place a.0 h.0 put.0 k a.1 room put.1 c.put_value.new.nodes path c.args.course.now course m c.settle-settled.new.budget h.1
    named form (writes_arg path c.args.place c.args.course.now course h.1 (rw c.in_ok-push.ensures.ok at h.4.0) back))

pub settle_arg-returns-in-Err-Fault-clause-passes : goal.settle_arg-returns-in-Err-Fault-clause-passes
settle_arg-returns-in-Err-Fault-clause-passes t c = λ u n.
    let due = due_in c.args.means.now c.args.tries in
    let nodes = c.args.store.now.nodes in
    let i = c.requires.inside in
    let a = c.arg_at-arg.ensures.arg u n in
    let room = subst (IsInRoom (plain_room c.args.room)) (named_one nodes c.args.here i.term u i.named n) i.room in
    let left = c.room_for-left.ensures u a.0 n a.2 in
    let s = rw (rw c.in-Err-Fault.is at c.in-Err-Fault.field-0-is) at (rw c.in-Err-Fault.is at (c.settle-settled.ensures.ends a.0 a.2)) in
    passes_faults due (due_falls c.args.means.now c.args.tries) c.args.room i.big i.deep u c.args.place a.0 c.args.budget.now a.1 room c.settle-settled.new.store.nodes c.settle-settled.new.budget
    c.room_for-left.result c.in-Err-Fault.fault (ap plain_room left) s

pub settle_arg-returns-in-Err-Outgrows-clause-passes : goal.settle_arg-returns-in-Err-Outgrows-clause-passes
settle_arg-returns-in-Err-Outgrows-clause-passes t c = λ u n.
    let due = due_in c.args.means.now c.args.tries in
    let falls = due_falls c.args.means.now c.args.tries in
    let nodes = c.args.store.now.nodes in
    let new = c.settle-settled.new.store.nodes in
    let k = c.args.budget.now in
    let i = c.requires.inside in
    let a = c.arg_at-arg.ensures.arg u n in
    let room = subst (IsInRoom (plain_room c.args.room)) (named_one nodes c.args.here i.term u i.named n) i.room in
    let left = c.room_for-left.ensures u a.0 n a.2 in
    let s = rw (rw c.in-Err-Outgrows.is at c.in-Err-Outgrows.field-0-is) at (rw c.in-Err-Outgrows.is at (c.settle-settled.ensures.ends a.0 a.2)) in
    let put = put_arg due falls c.args.room i.big i.deep u c.args.place a.0 s.0 a.1 in
    passes_outgrown due falls c.args.room i.big i.deep u c.args.place a.0 s.0 put.0 k a.1 room put.1 c.outgrow.new.nodes c.settle-settled.new.budget c.outgrow.result
    (ap (λ (r : Room). run_in due (plain_room r) k [] a.0 [] k) (sym left) ∙ s.2 [])
    (c.outgrow.ensures.outgrows u s.0 put.0 (named_later nodes new c.args.here u c.settle-settled.ensures.worked.grows n) s.1 put.1)

-- ---- at the root

pub advance-find_due-requires : goal.advance-find_due-requires
advance-find_due-requires t c =
    let i = c.requires.inside in
    (omega arith, (c.requires.ready, named_below c.args.store.now.nodes c.args.number i.term i.named))

pub advance-returns-in-Err-clause-turns : goal.advance-returns-in-Err-clause-turns
advance-returns-in-Err-clause-turns t c = λ u from n root.
    root_faults (due_in c.args.means.now c.args.tries) c.args.room c.find_due.new.store.nodes from u c.args.budget.now c.find_due.new.budget c.in-Err.fault root (c.in-Err.ensures.finds u n)

pub advance-returns-in-Ok-None-clause-turns : goal.advance-returns-in-Ok-None-clause-turns
advance-returns-in-Ok-None-clause-turns t c = λ u from n root.
    let due = due_in c.args.means.now c.args.tries in
    let k = c.args.budget.now in
    let none = rw c.in-Ok-None.field-0-is at (c.in-Ok-None.ensures.finds u n) in (
      u,
      [],
      named_later c.args.store.now.nodes c.find_due.new.store.nodes c.args.number u c.find_due.ensures.worked.grows n,
      (λ us. root_none due (plain_room c.args.room) from u us k (root k) k c.find_due.new.budget none ∙ ap (λ xs. Form u xs c.find_due.new.budget) (sym (append-nil us))),
      writes_none c.args.course.now.path.items c.args.course.now refl,
    )

pub advance-make-requires : goal.advance-make-requires
advance-make-requires t c =
    let i = c.requires.inside in
    let g = c.find_due.ensures.worked.grows in
    let here = named_later c.args.store.now.nodes c.find_due.new.store.nodes c.args.number i.term g i.named in
    let found = rw c.in-Ok-Some.field-0-is at (c.in-Ok-Some.ensures.finds i.term i.named) in
    record { ready = c.find_due.ensures.worked.store.ready; built = c.find_due.ensures.worked.store.built; there = named_below c.find_due.new.store.nodes c.args.number i.term here; found = (i.term, found.0, here, found.1) }

pub advance-returns-in-Ok-clause-turns : goal.advance-returns-in-Ok-clause-turns
advance-returns-in-Ok-clause-turns t c = λ u from n root.
    let g = c.find_due.ensures.worked.grows in
    let here = named_later c.args.store.now.nodes c.find_due.new.store.nodes c.args.number u g n in
    let found = rw c.in-Ok-Some.field-0-is at (c.in-Ok-Some.ensures.finds u n) in
    c.in-Ok.ensures.makes (due_in c.args.means.now c.args.tries) (due_falls c.args.means.now c.args.tries) from u found.0 c.args.budget.now here found.1 root found.2

pub advance-returns-in-Err-make-clause-turns : goal.advance-returns-in-Err-make-clause-turns
advance-returns-in-Err-make-clause-turns t c = λ u from n root.
    let g = c.find_due.ensures.worked.grows in
    let here = named_later c.args.store.now.nodes c.find_due.new.store.nodes c.args.number u g n in
    let found = rw c.in-Ok-Some.field-0-is at (c.in-Ok-Some.ensures.finds u n) in
    c.in-Err-make.ensures.makes (due_in c.args.means.now c.args.tries) (due_falls c.args.means.now c.args.tries) from u found.0 c.args.budget.now here found.1 root found.2

pub advance-returns-in-Ok-clause-worked : goal.advance-returns-in-Ok-clause-worked
advance-returns-in-Ok-clause-worked t c =
    worked_made c.args.means.now c.args.store.now c.find_due.new.store _ c.args.budget.now c.find_due.new.budget c.make.new.budget c.find_due.ensures.worked c.make.ensures.grows refl
    c.make.ensures.built c.make.ensures.less

pub advance-returns-in-Err-make-clause-worked : goal.advance-returns-in-Err-make-clause-worked
advance-returns-in-Err-make-clause-worked t c =
    worked_made c.args.means.now c.args.store.now c.find_due.new.store _ c.args.budget.now c.find_due.new.budget c.make.new.budget c.find_due.ensures.worked c.make.ensures.grows refl
    c.make.ensures.built c.make.ensures.less

pub find_due-returns-in-Some-clause-worked : goal.find_due-returns-in-Some-clause-worked
find_due-returns-in-Some-clause-worked t c = worked_self c.args.means.now c.args.store.now c.args.budget.now c.requires.ready.store

pub find_due-returns-in-Some-clause-finds : goal.find_due-returns-in-Some-clause-finds
find_due-returns-in-Some-clause-finds t c = λ u n.
    let m = c.args.means.now in
    let chosen = rw c.in-Some.is at (c.choose_before_rules.ensures u n) in
    found_first c.args.store.now.nodes m c.args.tries u c.args.budget.now (record { choice = c.in-Some.choice; conds = c.new.result }) chosen.0 chosen.2 chosen.1 c.new.ensures.items

pub find_due-try_rules-requires : goal.find_due-try_rules-requires
find_due-try_rules-requires t c =
    (omega arith, (c.requires.ready, (c.requires.there, λ u n. rw c.in_default.is at (c.choose_before_rules.ensures u n))))

pub find_due-returns-clause-finds : goal.find_due-returns-clause-finds
find_due-returns-clause-finds t c = λ u n.
    let m = c.args.means.now in
    let none = rw c.in_default.is at (c.choose_before_rules.ensures u n) in
    let same = due_behind (conditions_by m c.args.tries) m.theory.now.signature m.rules.items m.assumptions c.args.budget.now u c.requires.ready.store.ready.rewrite none in
    subst (λ w. FindsDue c.try_rules.new.store.nodes m u c.try_rules.new.budget w c.try_rules.result) (sym same) (c.try_rules.ensures.finds u n)

-- ---- rules, one after the other

pub try_rules-loop-store-init : goal.try_rules-loop-store-init
try_rules-loop-store-init t c = record { worked = worked_self c.args.means.now c.args.store.now c.args.budget.now c.requires.ready.store; tried = λ u n. refl }

pub try_rules-returns-in-None-clause-finds : goal.try_rules-returns-in-None-clause-finds
try_rules-returns-in-None-clause-finds t c = λ u n.
    let i = c.loop-store.invariant in
    let here = named_later c.args.store.now.nodes c.loop-store.store.nodes c.args.number u i.worked.grows n in
    i.tried u n ∙ rules_none (conditions_by c.args.means.now c.args.tries) u c.args.means.now.rules.items c.loop-store.from c.loop-store.budget (rw c.in-None.is at (c.in_ok-rule_from.ensures u here))

pub try_rules-returns-in-None-clause-worked : goal.try_rules-returns-in-None-clause-worked
try_rules-returns-in-None-clause-worked t c =
    let m = c.args.means.now in
    let old = c.args.store.now.nodes in
    let i = c.loop-store.invariant in
    let u = there_named old c.args.number c.requires.there in
    let here = named_later old c.loop-store.store.nodes c.args.number u.0 i.worked.grows u.1 in
    let none = rw c.in-None.is at (c.in_ok-rule_from.ensures u.0 here) in
    worked_kept m c.args.store.now c.loop-store.store c.keep_still.new.store c.args.budget.now c.loop-store.budget i.worked c.keep_still.ensures.nodes c.keep_still.ensures.terms
    (c.keep_still.ensures.right (due_by m) u.0 i.worked.store.right here (λ e. still_from m.theory.now.signature m.rules.items m.assumptions u.0 c.loop-store.from (c.requires.none u.0 u.1) none e))

pub try_rules-returns-in_err-keep_still-in-None-clause-worked : goal.try_rules-returns-in_err-keep_still-in-None-clause-worked
try_rules-returns-in_err-keep_still-in-None-clause-worked t c =
    let m = c.args.means.now in
    let old = c.args.store.now.nodes in
    let i = c.loop-store.invariant in
    let u = there_named old c.args.number c.requires.there in
    let here = named_later old c.loop-store.store.nodes c.args.number u.0 i.worked.grows u.1 in
    let none = rw c.in-None.is at (c.in_ok-rule_from.ensures u.0 here) in
    worked_kept m c.args.store.now c.loop-store.store c.keep_still.new.store c.args.budget.now c.loop-store.budget i.worked c.keep_still.ensures.nodes c.keep_still.ensures.terms
    (c.keep_still.ensures.right (due_by m) u.0 i.worked.store.right here (λ e. still_from m.theory.now.signature m.rules.items m.assumptions u.0 c.loop-store.from (c.requires.none u.0 u.1) none e))

pub try_rules-returns-in-Err-clause-worked : goal.try_rules-returns-in-Err-clause-worked
try_rules-returns-in-Err-clause-worked t c =
    worked_on c.args.means.now c.args.store.now c.loop-store.store c.try_rule.new.store c.args.budget.now c.loop-store.budget c.try_rule.new.budget c.loop-store.invariant.worked
    c.try_rule.ensures.worked

pub try_rules-returns-in-Ok-Some-clause-worked : goal.try_rules-returns-in-Ok-Some-clause-worked
try_rules-returns-in-Ok-Some-clause-worked t c =
    worked_on c.args.means.now c.args.store.now c.loop-store.store c.try_rule.new.store c.args.budget.now c.loop-store.budget c.try_rule.new.budget c.loop-store.invariant.worked
    c.try_rule.ensures.worked

pub try_rules-try_rule-requires : goal.try_rules-try_rule-requires
try_rules-try_rule-requires t c =
    let old = c.args.store.now.nodes in
    let i = c.loop-store.invariant in
    let u = there_named old c.args.number c.requires.there in
    let here = named_later old c.loop-store.store.nodes c.args.number u.0 i.worked.grows u.1 in
    let found = rw c.in-Some.is at (c.in_ok-rule_from.ensures u.0 here) in (
      omega (arith, i.worked.less),
      (
        ready_on c.args.means.now c.args.store.now c.loop-store.store c.args.tries c.args.budget.now c.loop-store.budget c.requires.ready i.worked,
        (slice_get_within c.args.means.now.rules.items c.in-Some.rule found.1.0 found.1.1, subst (AreBound c.loop-store.store.nodes) (sym c.as_slice.ensures) found.1.2.bound),
      ),
    )

pub try_rules-overflow_add-from : goal.try_rules-overflow_add-from
try_rules-overflow_add-from t c =
    let old = c.args.store.now.nodes in
    let i = c.loop-store.invariant in
    let u = there_named old c.args.number c.requires.there in
    let here = named_later old c.loop-store.store.nodes c.args.number u.0 i.worked.grows u.1 in
    let found = rw c.in-Some.is at (c.in_ok-rule_from.ensures u.0 here) in
    omega (arith, slice_get_within c.args.means.now.rules.items c.in-Some.rule found.1.0 found.1.1, i.worked.store.ready.few_rules)

pub try_rules-returns-in-Err-clause-finds : goal.try_rules-returns-in-Err-clause-finds
try_rules-returns-in-Err-clause-finds t c = λ u n.
    let m = c.args.means.now in
    let here = c.loop-store.store.nodes in
    let i = c.loop-store.invariant in
    let found = rw c.in-Some.is at (c.in_ok-rule_from.ensures u (named_later c.args.store.now.nodes here c.args.number u i.worked.grows n)) in
    rule_hinders (conditions_by m c.args.tries) here m.rules.items u c.args.budget.now c.loop-store.from c.loop-store.budget c.in-Some.rule found.1.0 c.as_slice.result.now
    (record { before = i.tried u n; low = found.0; there = found.1.1; fit = subst (IsFit here found.1.0 u) (sym c.as_slice.ensures) found.1.2; none = found.2 }) c.in-Err.fault c.try_rule.new.budget (c.in-Err.ensures.finds found.1.0 found.1.1)

pub try_rules-returns-in-Ok-Some-clause-finds : goal.try_rules-returns-in-Ok-Some-clause-finds
try_rules-returns-in-Ok-Some-clause-finds t c = λ u n.
    let m = c.args.means.now in
    let here = c.loop-store.store.nodes in
    let i = c.loop-store.invariant in
    let given = c.in-Some.given.items in
    let rule = rw c.in-Some.is at (c.in_ok-rule_from.ensures u (named_later c.args.store.now.nodes here c.args.number u i.worked.grows n)) in
    let r = rule.1.0 in
    let fit = rule.1.2 in
    let ps = plain_passes c.in-Ok-Some.conds.items in
    let found : Found = record { choice = Ruled c.in-Some.rule c.in-Some.given; conds = c.in-Ok-Some.conds } in
    let applies = rw c.in-Ok-Some.field-0-is at (c.in-Ok-Some.ensures.finds r rule.1.1) in (
      rule_replaces r u ps,
      found_later here c.try_rule.new.store.nodes c.try_rule.ensures.worked.grows m u found (rule_replaces r u ps)
          (by_rule here r given, (r, rule.1.1, fit, refl), replaces_by here r u given fit ps),
      rule_applies (conditions_by m c.args.tries) here m.rules.items u c.args.budget.now c.loop-store.from c.loop-store.budget c.in-Some.rule r c.as_slice.result.now
          (record { before = i.tried u n; low = rule.0; there = rule.1.1; fit = subst (IsFit here r u) (sym c.as_slice.ensures) fit; none = rule.2 }) c.try_rule.new.budget ps applies,
    )

pub try_rules-loop-store-smaller : goal.try_rules-loop-store-smaller
try_rules-loop-store-smaller t c =
    let old = c.args.store.now.nodes in
    let i = c.loop-store.invariant in
    let u = there_named old c.args.number c.requires.there in
    let here = named_later old c.loop-store.store.nodes c.args.number u.0 i.worked.grows u.1 in
    let found = rw c.in-Some.is at (c.in_ok-rule_from.ensures u.0 here) in
    let low = found.0 in
    omega (arith, slice_get_within c.args.means.now.rules.items c.in-Some.rule found.1.0 found.1.1, low)

pub try_rules-loop-store-preserved : goal.try_rules-loop-store-preserved
try_rules-loop-store-preserved t c =
    let m = c.args.means.now in
    let here = c.loop-store.store.nodes in
    let i = c.loop-store.invariant in
    record {
      worked = worked_on m c.args.store.now c.loop-store.store c.try_rule.new.store c.args.budget.now c.loop-store.budget c.try_rule.new.budget i.worked c.try_rule.ensures.worked;
      tried = λ u n.
          let found = rw c.in-Some.is at (c.in_ok-rule_from.ensures u (named_later c.args.store.now.nodes here c.args.number u i.worked.grows n)) in
          rule_fails (conditions_by m c.args.tries) here m.rules.items u c.args.budget.now c.loop-store.from c.loop-store.budget c.in-Some.rule found.1.0 c.as_slice.result.now
          (record { before = i.tried u n; low = found.0; there = found.1.1; fit = subst (IsFit here found.1.0 u) (sym c.as_slice.ensures) found.1.2; none = found.2 }) c.try_rule.new.budget
          (rw c.in-Ok-None.field-0-is at (c.in-Ok-None.ensures.finds found.1.0 found.1.1));
    }

-- ---- conditions, one after the other

pub try_rule-returns-then-is_empty-clause-worked : goal.try_rule-returns-then-is_empty-clause-worked
try_rule-returns-then-is_empty-clause-worked t c = worked_self c.args.means.now c.args.store.now c.args.budget.now c.requires.ready.store

pub try_rule-returns-then-tries-eq-MOST_TRIES-clause-worked : goal.try_rule-returns-then-tries-eq-MOST_TRIES-clause-worked
try_rule-returns-then-tries-eq-MOST_TRIES-clause-worked t c = worked_self c.args.means.now c.args.store.now c.args.budget.now c.requires.ready.store

pub try_rule-returns-then-budget-eq0-clause-worked : goal.try_rule-returns-then-budget-eq0-clause-worked
try_rule-returns-then-budget-eq0-clause-worked t c = worked_self c.args.means.now c.args.store.now c.args.budget.now c.requires.ready.store

pub try_rule-try_conditions-requires : goal.try_rule-try_conditions-requires
try_rule-try_conditions-requires t c =
    let r = c.requires.ready in (
      omega (arith, c.if-budget-eq0.false),
      (record { store = r.store; tries = omega (arith, r.tries, c.if-tries-eq-MOST_TRIES.false); fits = omega (arith, r.fits) }, c.requires.bound),
    )

pub try_rule-returns-clause-worked : goal.try_rule-returns-clause-worked
try_rule-returns-clause-worked t c =
    let w = c.try_conditions.ensures.worked in
    let l = w.less in
    record { store = w.store; grows = w.grows; less = omega (arith, l) }

pub try_rule-returns-clause-finds : goal.try_rule-returns-clause-finds
try_rule-returns-clause-finds = conditions.tries

pub try_conditions-returns-in-Err-clause-finds : goal.try_conditions-returns-in-Err-clause-finds
try_conditions-returns-in-Err-clause-finds = conditions.hinders

pub try_conditions-returns-in-Ok-None-clause-finds : goal.try_conditions-returns-in-Ok-None-clause-finds
try_conditions-returns-in-Ok-None-clause-finds = conditions.fails

pub try_conditions-returns-in-Err-clause-worked : goal.try_conditions-returns-in-Err-clause-worked
try_conditions-returns-in-Err-clause-worked t c =
    worked_on c.args.means.now c.args.store.now c.loop-cond.store c.try_condition.new.store c.args.budget.now c.loop-cond.budget c.try_condition.new.budget c.loop-cond.invariant.worked
    c.try_condition.ensures.worked

pub try_conditions-returns-in-Ok-None-clause-worked : goal.try_conditions-returns-in-Ok-None-clause-worked
try_conditions-returns-in-Ok-None-clause-worked t c =
    worked_on c.args.means.now c.args.store.now c.loop-cond.store c.try_condition.new.store c.args.budget.now c.loop-cond.budget c.try_condition.new.budget c.loop-cond.invariant.worked
    c.try_condition.ensures.worked

pub try_conditions-returns-in_err-push-in-Ok-Some-clause-worked : goal.try_conditions-returns-in_err-push-in-Ok-Some-clause-worked
try_conditions-returns-in_err-push-in-Ok-Some-clause-worked t c =
    worked_on c.args.means.now c.args.store.now c.loop-cond.store c.try_condition.new.store c.args.budget.now c.loop-cond.budget c.try_condition.new.budget c.loop-cond.invariant.worked
    c.try_condition.ensures.worked

pub try_conditions-returns-clause-worked : goal.try_conditions-returns-clause-worked
try_conditions-returns-clause-worked t c = c.loop-cond.invariant.worked

pub try_conditions-try_condition-requires : goal.try_conditions-try_condition-requires
try_conditions-try_condition-requires t c =
    let i = c.loop-cond.invariant in (
      omega (arith, i.worked.less),
      (
        ready_on c.args.means.now c.args.store.now c.loop-cond.store c.args.tries c.args.budget.now c.loop-cond.budget c.requires.ready i.worked,
        are_bound_later c.args.store.now.nodes c.loop-cond.store.nodes c.args.given.now i.worked.grows c.requires.bound,
      ),
    )

pub try_conditions-loop-cond-preserved : goal.try_conditions-loop-cond-preserved
try_conditions-loop-cond-preserved = conditions.holds_on_to_the_next

pub try_conditions-returns-clause-finds : goal.try_conditions-returns-clause-finds
try_conditions-returns-clause-finds = conditions.holds

-- ---- one condition

pub try_condition-settle_whole-requires : goal.try_condition-settle_whole-requires
try_condition-settle_whole-requires = conditions.left_is_ready

pub try_condition-settle_whole-requires-2 : goal.try_condition-settle_whole-requires-2
try_condition-settle_whole-requires-2 = conditions.right_is_ready

pub try_condition-returns-in-Err-clause-worked : goal.try_condition-returns-in-Err-clause-worked
try_condition-returns-in-Err-clause-worked t c = record {
  store = store_later c.args.means.now c.args.store.now _ c.build_sides.ensures.grows refl refl c.requires.ready.store;
  grows = c.build_sides.ensures.grows;
  less = omega arith;
}

pub try_condition-returns-in-Err-clause-tests : goal.try_condition-returns-in-Err-clause-tests
try_condition-returns-in-Err-clause-tests t c = λ rest. c.in-Err.ensures.builds (norm_by c.args.means.now c.args.tries) c.args.budget.now rest

pub try_condition-returns-in-Err-settle_whole-clause-worked : goal.try_condition-returns-in-Err-settle_whole-clause-worked
try_condition-returns-in-Err-settle_whole-clause-worked t c =
    worked_grown c.args.means.now c.args.store.now _ c.settle_whole.new.store c.args.budget.now c.settle_whole.new.budget c.build_sides.ensures.grows c.settle_whole.ensures.worked

pub try_condition-returns-in-Err-settle_whole-clause-tests : goal.try_condition-returns-in-Err-settle_whole-clause-tests
try_condition-returns-in-Err-settle_whole-clause-tests = conditions.left_hinders

pub try_condition-returns-in-Err-settle_whole-2-clause-worked : goal.try_condition-returns-in-Err-settle_whole-2-clause-worked
try_condition-returns-in-Err-settle_whole-2-clause-worked t c =
    worked_on c.args.means.now c.args.store.now c.settle_whole.new.store c.settle_whole-2.new.store c.args.budget.now c.settle_whole.new.budget c.settle_whole-2.new.budget
    (worked_grown c.args.means.now c.args.store.now _ c.settle_whole.new.store c.args.budget.now c.settle_whole.new.budget c.build_sides.ensures.grows c.settle_whole.ensures.worked)
    c.settle_whole-2.ensures.worked

pub try_condition-returns-in-Err-settle_whole-2-clause-tests : goal.try_condition-returns-in-Err-settle_whole-2-clause-tests
try_condition-returns-in-Err-settle_whole-2-clause-tests = conditions.right_hinders

pub try_condition-returns-in-Ok-settle_whole-2-clause-worked : goal.try_condition-returns-in-Ok-settle_whole-2-clause-worked
try_condition-returns-in-Ok-settle_whole-2-clause-worked t c =
    worked_on c.args.means.now c.args.store.now c.settle_whole.new.store c.settle_whole-2.new.store c.args.budget.now c.settle_whole.new.budget c.settle_whole-2.new.budget
    (worked_grown c.args.means.now c.args.store.now _ c.settle_whole.new.store c.args.budget.now c.settle_whole.new.budget c.build_sides.ensures.grows c.settle_whole.ensures.worked)
    c.settle_whole-2.ensures.worked

pub try_condition-returns-in-Ok-settle_whole-2-clause-tests : goal.try_condition-returns-in-Ok-settle_whole-2-clause-tests
try_condition-returns-in-Ok-settle_whole-2-clause-tests = conditions.both_tested
