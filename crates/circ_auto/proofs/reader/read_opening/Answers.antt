use Rattle.std.proofs.Common.{sym, ◌∙◌}
use Rattle.circ_auto.proofs.Texts.{opening_within}
use Rattle.circ_auto.proofs.reader.read_opening.Goals as goal

pub returns-clause-within : goal.returns-clause-within
returns-clause-within c =
    opening_within c.in-Some.words c.in-Ok.letters.1 c.in-Ok-states.states.1 _ _ _ _ _ _ _ c.in-Ok.ensures c.in-Ok-states.ensures (sym c.in-Some-start_in.ensures)
    (rw c.as_slice.ensures.value at c.in_ok-copies.ensures)
