use Rattle.std.proofs.Common.{sym}
use Rattle.circ_theory.proofs.Noting.{noted_more, noted_same}
use Rattle.circ_theory.proofs.adding.note_word.Goals as goal

pub returns-in-Some-clause-err : goal.returns-in-Some-clause-err
returns-in-Some-clause-err c =
    noted_same c.note.result c.args.by_word.now.entries _ c.args.word.now c.in-Some.overloads.now c.note.new.self (sym c.in-Some.ensures.value) (c.get_mut.follows.holds c.note.new.self).0
    c.note.ensures.err_all c.note.ensures.err_by_sort

pub returns-in-Some-clause-noted : goal.returns-in-Some-clause-noted
returns-in-Some-clause-noted c =
    noted_more c.note.result c.args.by_word.now.entries _ c.args.word.now c.in-Some.overloads.now c.note.new.self (sym c.in-Some.ensures.value) (c.get_mut.follows.holds c.note.new.self).0
    c.args.sort c.args.number c.note.ensures.all c.note.ensures.by_sort

pub begin_word-requires : goal.begin_word-requires
begin_word-requires c = rw (c.in_ok-copy.ensures.items, c.get_mut.follows.holds-at-none) (sym c.in_default.ensures.value)

pub returns-clause-noted : goal.returns-clause-noted
returns-clause-noted c = rw (c.in_ok-copy.ensures.items, c.get_mut.follows.holds-at-none) at c.begin_word.ensures.noted

pub returns-clause-err : goal.returns-clause-err
returns-clause-err c = rw c.get_mut.follows.holds-at-none at c.begin_word.ensures.err
