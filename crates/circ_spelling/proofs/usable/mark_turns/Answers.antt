use Rattle.std.proofs.Common.{length, arith}
use Rattle.circ_spelling.proofs.Marked.{covers_none, covers_more, covers_to, variables_stay}
use Rattle.circ_spelling.proofs.usable.mark_turns.Goals as goal

pub all-init : goal.all-init
all-init c = record { covers = covers_none c.args.grammar.now c.args.marks.now.items c.requires.words; variables = c.requires.variables }

pub all-preserved : goal.all-preserved
all-preserved c =
    let g = c.args.grammar.now in
    let old = c.all.marks.items in
    let new = c.mark_rules.new.marks.items in
    let i = c.all.invariant in
    let m = c.mark_rules.ensures in
    record {
      covers = covers_more g c.all.turn old new c.requires.words i.variables i.covers (rw c.deref.ensures.value at m.rules) m.stay;
      variables = variables_stay g.variables.items (length g.variables.items) old new m.stay i.variables;
    }

pub returns-then-not-mark_rules : goal.returns-then-not-mark_rules
returns-then-not-mark_rules c =
    let g = c.args.grammar.now in
    let i = c.all.invariant in
    let m = c.mark_rules.ensures in
    covers_to g c.all.turn c.args.count c.all.marks.items c.mark_rules.new.marks.items (omega arith) (m.same c.if-not-mark_rules.true) c.requires.words i.variables i.covers (rw c.deref.ensures.value at m.rules)
