use Rattle.std.proofs.Common.{refl, sym, arith}
use Rattle.std.specs.List.{slice_get}
use Rattle.circ_theory.specs.Operators.{operator_of}
use Rattle.circ_proof.proofs.Starting.{few_args}
use Rattle.circ_special.specs.Special.{IsPlace, place}
use Rattle.circ_contexts.specs.Candidates.{places_at}
use Rattle.circ_contexts.proofs.Adding.{adds_kept, adds_dropped, adds_all}
use Rattle.circ_contexts.proofs.Listing.{next_place, last_place}
use Rattle.circ_contexts.proofs.places.push_places.Goals as goal
use Rattle.circ_contexts.proofs.places.push_places.Goals.{then-is_place+in_ok-push, else-is_place}

pub overflow_cast-place : goal.overflow_cast-place
overflow_cast-place c =
    let few = few_args c.args.theory.now c.known.ensures c.args.op (operator_of c.in-Some.decl.now) (sym c.in-Some.ensures) in
    omega (arith, few, c.loop-number-test.true, c.len-number-end.ensures)

pub loop-number-preserved : goal.loop-number-preserved
loop-number-preserved c =
    let th = c.args.theory.now in
    let ops = th.signature.ops in
    let o = operator_of c.in-Some.decl.now in
    let f = c.args.op in
    let i = c.loop-number.number in
    let all = places_at f (slice_get ops f) in
    let next = next_place ops f o (sym c.in-Some.ensures) i (omega (arith, c.loop-number-test.true, c.len-number-end.ensures)) in
    elim c.if-is_place.branch [
      | then-is_place+in_ok-push w ↦
          rw (w.places-is, w.in_ok-push.ensures.items)
          (adds_kept (IsPlace th) all _ _ c.args.places.now.items c.loop-number.places.items (place f i) next c.loop-number.invariant (w.if-is_place.ensures.0 refl))
      | else-is_place w ↦
          rw w.places-is
          (adds_dropped (IsPlace th) all _ _ c.args.places.now.items c.loop-number.places.items (place f i) next c.loop-number.invariant
          (λ p. let never = w.if-is_place.ensures.1 p in absurd (cc)))
    ]

pub returns : goal.returns
returns c =
    let th = c.args.theory.now in
    let ops = th.signature.ops in
    let f = c.args.op in
    let past = last_place ops f (operator_of c.in-Some.decl.now) (sym c.in-Some.ensures) c.loop-number.number
    (omega (arith, c.loop-number-test.false, c.len-number-end.ensures)) in
    adds_all (IsPlace th) (places_at f (slice_get ops f)) _ c.args.places.now.items c.loop-number.places.items past c.loop-number.invariant
