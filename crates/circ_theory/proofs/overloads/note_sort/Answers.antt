use Rattle.std.proofs.Common.{sym}
use Rattle.circ_theory.proofs.Noting.{sort_more, sort_same}
use Rattle.circ_theory.proofs.overloads.note_sort.Goals as goal

pub returns-in-Some-clause-err : goal.returns-in-Some-clause-err
returns-in-Some-clause-err c =
    sort_same c.push_number.result c.args.by_sort.now.entries _ c.args.sort c.in-Some.numbers.now c.push_number.new.numbers (sym c.in-Some.ensures.value)
    (c.get_mut.follows.holds c.push_number.new.numbers).0 c.push_number.ensures.err

pub returns-in-Some-clause-noted : goal.returns-in-Some-clause-noted
returns-in-Some-clause-noted c =
    sort_more c.push_number.result c.args.by_sort.now.entries _ c.args.sort c.in-Some.numbers.now c.push_number.new.numbers (sym c.in-Some.ensures.value)
    (c.get_mut.follows.holds c.push_number.new.numbers).0 c.args.number c.push_number.ensures.pushed

pub begin_sort-requires : goal.begin_sort-requires
begin_sort-requires c = rw c.get_mut.follows.holds-at-none (sym c.in_default.ensures.value)

pub returns-clause-noted : goal.returns-clause-noted
returns-clause-noted c = rw c.get_mut.follows.holds-at-none at c.begin_sort.ensures.noted

pub returns-clause-err : goal.returns-clause-err
returns-clause-err c = rw c.get_mut.follows.holds-at-none at c.begin_sort.ensures.err
