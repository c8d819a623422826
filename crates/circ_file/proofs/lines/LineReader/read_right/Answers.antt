use Rattle.std.proofs.Common.{ap, sym, ◌∙◌}
use Rattle.std.specs.Option.{option_map}
use Rattle.circ_proof.specs.Plain.{plain_link}
use Rattle.circ_file.proofs.ReadingLinks.{right_bare, right_read, right_unread}
use Rattle.circ_file.proofs.lines.LineReader.read_right.Goals as goal

pub take_right-requires-clause-bare : goal.take_right-requires-clause-bare
take_right-requires-clause-bare c =
    right_bare c.args.rest.now (plain_link c.in-Some.link) (ap (option_map plain_link) (sym c.in-Some.is) ∙ c.in_ok-read.ensures)

pub returns-in-Some-clause-read : goal.returns-in-Some-clause-read
returns-in-Some-clause-read c =
    right_read c.args.self.now c.take_right.new.self c.args.rest.now (plain_link c.in-Some.link) (ap (option_map plain_link) (sym c.in-Some.is) ∙ c.in_ok-read.ensures)
    c.take_right.result c.take_right.ensures.taken

pub returns-in-None-clause-read : goal.returns-in-None-clause-read
returns-in-None-clause-read c =
    right_unread c.args.self.now c.args.self.now c.args.rest.now (ap (option_map plain_link) (sym c.in-None.is) ∙ c.in_ok-read.ensures)
