use Rattle.std.proofs.Common.{subst}
use Rattle.circ_proof.specs.Plain.{plain_link}
use Rattle.circ_line.specs.Plain.{plain_line}
use Rattle.circ_line.specs.Text.{IsInRange}
use Rattle.circ_file.proofs.Taking.{bare_in_range}
use Rattle.circ_file.proofs.lines.LineReader.take.Goals as goal

pub take_left-requires-clause-bare : goal.take_left-requires-clause-bare
take_left-requires-clause-bare c = bare_in_range (plain_link c.in-Left.link) (subst (λ l. IsInRange (plain_line l)) c.in-Left.is c.requires.in_range)

pub take_right-requires-clause-bare : goal.take_right-requires-clause-bare
take_right-requires-clause-bare c = bare_in_range (plain_link c.in-Right.link) (subst (λ l. IsInRange (plain_line l)) c.in-Right.is c.requires.in_range)
