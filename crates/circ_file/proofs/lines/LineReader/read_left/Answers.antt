use Rattle.std.proofs.Common.{ap, sym, ◌∙◌}
use Rattle.std.specs.Option.{option_map}
use Rattle.circ_proof.specs.Plain.{plain_link}
use Rattle.circ_file.proofs.ReadingLinks.{left_bare, left_read, left_unread}
use Rattle.circ_file.proofs.lines.LineReader.read_left.Goals as goal

pub take_left-requires-clause-bare : goal.take_left-requires-clause-bare
take_left-requires-clause-bare c =
    left_bare c.args.rest.now (plain_link c.in-Some.link) (ap (option_map plain_link) (sym c.in-Some.is) ∙ c.in_ok-read.ensures)

pub returns-in-Some-clause-read : goal.returns-in-Some-clause-read
returns-in-Some-clause-read c =
    left_read c.args.self.now c.take_left.new.self c.args.rest.now (plain_link c.in-Some.link) (ap (option_map plain_link) (sym c.in-Some.is) ∙ c.in_ok-read.ensures)
    c.take_left.result c.take_left.ensures.taken

pub returns-in-None-clause-read : goal.returns-in-None-clause-read
returns-in-None-clause-read c =
    left_unread c.args.self.now c.args.self.now c.args.rest.now (ap (option_map plain_link) (sym c.in-None.is) ∙ c.in_ok-read.ensures)
