use Rattle.circ_line.specs.Plain.{plain_line}
use Rattle.circ_file.proofs.Taking.{is_free, advanced}
use Rattle.circ_file.proofs.lines.LineReader.advance.Goals as goal

pub returns-in_ok-taken-in_default-clause-taken : goal.returns-in_ok-taken-in_default-clause-taken
returns-in_ok-taken-in_default-clause-taken c =
    let free = is_free c.args.line c.in_default.not-Certificate c.in_default.not-Block c.requires.other in
    advanced c.in_ok-taken-in_default.taken c.args.self.now (plain_line c.args.line) c.take.new.self c.requires.reader free c.in_ok-taken-in_default.ensures
