use Rattle.std.proofs.Common.{◌∙◌, ◌+◌, ◌++◌, refl}
use Rattle.circ_file.specs.View.{now_of}
use Rattle.circ_file.specs.Lines.{ReadsNext}
use Rattle.circ_file.specs.Feeding.{reading_of}
use Rattle.circ_file.specs.declared.taken.Taken.TheVariants as taken
use Rattle.circ_file.specs.declared.fault.FileFault.TheVariants.{Line, Limit}
use Rattle.circ_file.specs.declared.reader.FileReader.{FileReader}
use Rattle.circ_file.proofs.Standing.{wanted_counted, some_wanted, line_taken, line_refused, line_over, line_shows}
use Rattle.circ_file.proofs.reader.FileReader.end_line.Goals as goal

pub returns-in-Ok-Yes-clause-reader : goal.returns-in-Ok-Yes-clause-reader
returns-in-Ok-Yes-clause-reader c =
    let w = some_wanted (now_of c.args.self.now.reader.machine) in
    (((rw c.in-Ok-Yes.field-0-is at c.in-Ok-Yes.ensures.read) w.0 w.1).3).reader

pub returns-in-Ok-Yes-clause-stands : goal.returns-in-Ok-Yes-clause-stands
returns-in-Ok-Yes-clause-stands c th x handed s =
    let old = c.args.self.now in
    let new : FileReader = record c.read.new.self { lines = old.lines + 1 } in
    let told = c.in-Ok-Yes.ensures in
    let read : ReadsNext taken.Yes s.wanted old.reader (old.rest.items ++ c.args.more.now) c.read.new.self.reader
    = (rw c.in-Ok-Yes.field-0-is at told.read) s.wanted (wanted_counted th x handed (reading_of s.wanted old) s.stands) in
    line_taken th x c.args.more.now handed old new s read told.theory refl told.rest (told.fault ∙ s.fault)

pub returns-in-Ok-Line-clause-stands : goal.returns-in-Ok-Line-clause-stands
returns-in-Ok-Line-clause-stands c th x handed s =
    let old = c.args.self.now in
    let read : ReadsNext taken.Line s.wanted old.reader (old.rest.items ++ c.args.more.now) c.read.new.self.reader
    = (rw c.in-Ok-Line.field-0-is at c.in-Ok-Line.ensures.read) s.wanted (wanted_counted th x handed (reading_of s.wanted old) s.stands) in
    let more = c.args.more.now in
    let fault = line_refused th x more handed old c.read.new.self s read c.requires.no_feed in
    (fault, line_shows th x more handed old c.read.new.self s (Line (old.lines + 1)) c.requires.no_feed refl fault)

pub returns-in-Ok-Limit-clause-stands : goal.returns-in-Ok-Limit-clause-stands
returns-in-Ok-Limit-clause-stands c th x handed s =
    let old = c.args.self.now in
    let read : ReadsNext taken.Limit s.wanted old.reader (old.rest.items ++ c.args.more.now) c.read.new.self.reader
    = (rw c.in-Ok-Limit.field-0-is at c.in-Ok-Limit.ensures.read) s.wanted (wanted_counted th x handed (reading_of s.wanted old) s.stands) in
    let more = c.args.more.now in
    let fault = line_over th x more handed old c.read.new.self s read in
    (fault, line_shows th x more handed old c.read.new.self s (Limit (old.lines + 1)) c.requires.no_feed refl fault)
