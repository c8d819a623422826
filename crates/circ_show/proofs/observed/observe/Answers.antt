use Rattle.std.proofs.Common.{◌≡◌, ◌<◌, length, false, true, ap, refl, arith}
use Rattle.circ_show.proofs.SortMarks.{set_marks, hole_within, unmarked_set}
use Rattle.circ_show.proofs.observed.observe.Goals as goal

pub returns-then-hole-len-clause-passed : goal.returns-then-hole-len-clause-passed
returns-then-hole-len-clause-passed c =
    let d = c.in-Some-Some in
    let within = hole_within c.args.theory.now c.known.ensures c.args.marks.now.items c.args.number d.term.now d.hole d.ensures d.ensures' c.requires in
    absurd (omega (arith, within, c.if-hole-len.true, c.len.ensures, c.deref-2.ensures.len, ap length c.deref-2.ensures.value))

pub returns-clause-marks : goal.returns-clause-marks
returns-clause-marks c =
    let d = c.in-Some-Some in
    set_marks c.args.theory.now c.known.ensures c.args.marks.now.items c.args.number d.term.now d.hole d.ensures d.ensures' c.requires
    (rw (c.deref.ensures.value, c.sort.ensures) at (c.if-not-is_marked.ensures.0 refl))

pub returns-clause-marked : goal.returns-clause-marked
returns-clause-marked c = λ _.
    let within : c.in-Some-Some.hole < length c.args.marks.now.items =
    omega (arith, c.if-hole-len.false, c.len.ensures, c.deref-2.ensures.len, ap length c.deref-2.ensures.value) in
    unmarked_set c.args.marks.now.items c.in-Some-Some.hole
    (λ g. let never : false ≡ true = (rw c.deref-2.ensures.value at c.if-is_marked.ensures).1 g in cc)
    within
