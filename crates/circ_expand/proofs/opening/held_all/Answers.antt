use Rattle.std.proofs.Common.{◌≡◌, ◌+◌, ◌∷◌, ◌++◌, [], List, map, drop, reverse, refl, ap, sym, ◌∙◌, append_assoc, append-nil}
use Rattle.std.proofs.lemmas.List.{drop_all}
use Rattle.circ_theory.specs.Theory.{Theory}
use Rattle.circ_theory.specs.Limits.{argument_limit}
use Rattle.circ_term.proofs.Within.{drop_read}
use Rattle.circ_entry.specs.Entries.{numbered_entries}
use Rattle.circ_entry.specs.Plain.{plain_entries}
use Rattle.circ_entry.specs.declared.entries.Entry.{Entry}
use Rattle.circ_uses.specs.Uses.{held_by}
use Rattle.circ_expand.proofs.Held.{few_at, held_next, held_ended}
use Rattle.circ_expand.proofs.opening.held_all.Goals as goal

pub held-requires : goal.held-requires
held-requires c = few_at c.args.entries.now c.loop-entry.entry-index c.entry-item.result c.loop-entry-test.true c.entry-item.is c.requires

pub loop-entry-preserved : goal.loop-entry-preserved
loop-entry-preserved c = λ th.
    held_next th c.loop-entry.all.items c.push.new.self.items c.in_ok-held.field-0 c.args.entries.now c.loop-entry.entry-index c.entry-item.result c.loop-entry-test.true
    c.entry-item.is c.in_ok-push.ensures.items (c.in_ok-held.ensures th) (c.loop-entry.invariant th)

pub returns : goal.returns
returns c = λ th. held_ended th c.loop-entry.all.items c.reverse.new.self.items c.args.entries.now c.loop-entry.entry-index c.loop-entry-test.false c.reverse.ensures.items
    (c.loop-entry.invariant th)
