use Rattle.std.proofs.Common.{◌≡◌, ℕ, ◌+◌, ◌-◌, Bool, false, true, List, length, ap, sym, subst, ◌∙◌, arith, rules}
use Rattle.std.proofs.Math.ListN.{replicate, length-replicate, length-set}
use Rattle.circ_keeping.specs.Marks.{MarkParts}
use Rattle.circ_keeping.proofs.Marked.{marked_first, marked_next, written}
use Rattle.circ_keeping.proofs.marking.part_marks.Goals as goal

pub loop-place-init : goal.loop-place-init
loop-place-init c =
    let place = c.args.number + 1 - c.args.count in
    let marks = c.in_ok-marks.marks.items in
    let is : marks ≡ replicate place false = search rules in
    let l = length-set marks (place - 1) true in
    let long = ap length is ∙ length-replicate place false in
    record {
      marked = marked_first c.args.nodes.now c.args.count c.args.number place marks c.requires.there (omega arith) is;
      within = omega (arith, l, long);
    }

pub mark_arguments-requires-clause-there : goal.mark_arguments-requires-clause-there
mark_arguments-requires-clause-there c = let k = c.loop-place.invariant in omega (arith, k.marked.long, k.within)

pub mark_arguments-requires-clause-within : goal.mark_arguments-requires-clause-within
mark_arguments-requires-clause-within c = let k = c.loop-place.invariant in omega (arith, k.within, ap length c.deref_mut.ensures.value)

pub loop-place-preserved : goal.loop-place-preserved
loop-place-preserved c =
    let at = c.loop-place in
    let k = at.invariant in
    let place = at.place - 1 in
    let marks = at.marks.items in
    let new = c.mark_arguments.new.marks in
    let nodes = c.args.nodes.now in
    let e : at.place ≡ place + 1 = omega arith in
    let P : ℕ → Type 0 = λ n. MarkParts nodes c.args.count c.args.number n marks in
    let set = rw c.deref_mut.ensures.value at c.mark_arguments.ensures.set in
    let lower = rw c.deref_mut.ensures.value at c.mark_arguments.ensures.lower in
    let is = written at.marks.len marks new (omega (arith, at.marks.ok.0)) set.long in
    let Q : List Bool → Type 0 = MarkParts nodes c.args.count c.args.number place in
    record {
      marked = subst Q (sym is) (marked_next nodes c.args.count c.args.number place marks new (subst P e k.marked) lower set);
      within = omega (arith, ap length is, set.long, k.within);
    }
