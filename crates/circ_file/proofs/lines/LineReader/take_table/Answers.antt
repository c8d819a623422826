use Rattle.std.proofs.Common.{refl, inl}
use Rattle.circ_line.specs.Plain.{plain_table_line}
use Rattle.circ_file.specs.View.{now_of}
use Rattle.circ_file.specs.Adding.{terms_in}
use Rattle.circ_file.specs.declared.lines.LineReader.{LineReader}
use Rattle.circ_file.proofs.Taking.{table_handled, still_open}
use Rattle.circ_file.proofs.lines.LineReader.take_table.Goals as goal

pub add-requires : goal.add-requires
add-requires c =
    let old = c.args.self.now in
    let l = plain_table_line c.args.line.now in
    let moved = c.if-not-on_table.ensures (terms_in old.table) l c.requires.reader.kept in
    still_open (now_of old.machine) (now_of c.on_table.new.self) l old.table moved.next c.requires.reader.step

pub returns-then-not-on_table-clause-taken : goal.returns-then-not-on_table-clause-taken
returns-then-not-on_table-clause-taken c w =
    inl (c.if-not-on_table.ensures (terms_in c.args.self.now.table) (plain_table_line c.args.line.now) c.requires.reader.kept)

pub returns-clause-taken : goal.returns-clause-taken
returns-clause-taken c w =
    let old = c.args.self.now in
    let l = plain_table_line c.args.line.now in
    let new : LineReader = record old { machine = c.on_table.new.self; table = c.add.new.self } in
    table_handled w old new l c.in_ok-taken.taken c.requires.reader refl refl (c.if-not-on_table.ensures (terms_in old.table) l c.requires.reader.kept)
    c.in_ok-taken.ensures.added c.add.ensures.state
