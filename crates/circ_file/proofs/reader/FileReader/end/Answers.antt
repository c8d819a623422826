use Rattle.circ_file.proofs.Handing.{whole_text, broken_text}
use Rattle.circ_file.proofs.reader.FileReader.end.Goals as goal

pub returns-then-is_whole-clause-stands : goal.returns-then-is_whole-clause-stands
returns-then-is_whole-clause-stands c th x handed s =
    let whole = c.is_whole.ensures.yes c.if-is_whole.true in whole_text th x handed c.args.self.now s whole.0 whole.1

pub returns-clause-stands : goal.returns-clause-stands
returns-clause-stands c th x handed s = broken_text th x handed c.args.self.now s (c.is_whole.ensures.no c.if-is_whole.false)
