use Rattle.std.proofs.Common.{refl}
use Rattle.circ_file.proofs.reader.FileReader.feed.Goals as goal

pub returns-in-Err-clause-stands : goal.returns-in-Err-clause-stands
returns-in-Err-clause-stands c th x handed s = let told = c.in-Err.ensures.stands th x handed s in (refl, told.0, told.1)
