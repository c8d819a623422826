use Rattle.std.proofs.Common.{refl, inl, subst}
use Rattle.circ_line.specs.Line.{Application_line}
use Rattle.circ_file.specs.View.{now_of}
use Rattle.circ_file.specs.Adding.{terms_in, AddsLine}
use Rattle.circ_file.specs.declared.lines.LineReader.{LineReader}
use Rattle.circ_file.proofs.Taking.{table_handled, still_open}
use Rattle.circ_file.proofs.lines.LineReader.take_application.Goals as goal

pub add_application-requires : goal.add_application-requires
add_application-requires c =
    let old = c.args.self.now in
    let l = Application_line c.args.op c.args.self.now.args.items in
    let moved = c.if-not-on_table.ensures (terms_in old.table) l c.requires.kept in
    still_open (now_of old.machine) (now_of c.on_table.new.self) l old.table moved.next c.requires.step

pub returns-then-not-on_table-clause-taken : goal.returns-then-not-on_table-clause-taken
returns-then-not-on_table-clause-taken c w =
    inl (c.if-not-on_table.ensures (terms_in c.args.self.now.table) (Application_line c.args.op c.args.self.now.args.items) c.requires.kept)

pub returns-clause-taken : goal.returns-clause-taken
returns-clause-taken c w =
    let old = c.args.self.now in
    let l = Application_line c.args.op c.args.self.now.args.items in
    let new : LineReader = record old { machine = c.on_table.new.self; table = c.add_application.new.self } in
    table_handled w old new l c.in_ok-taken.taken c.requires refl refl (c.if-not-on_table.ensures (terms_in old.table) l c.requires.kept)
    (subst (λ xs. AddsLine old.theory.now.signature (terms_in old.table) (Application_line c.args.op xs) c.in_ok-taken.taken (terms_in new.table))
    c.as_slice-args.ensures.value c.in_ok-taken.ensures.added) c.add_application.ensures.state
