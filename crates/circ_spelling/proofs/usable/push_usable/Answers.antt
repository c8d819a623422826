use Rattle.std.proofs.Common.{inr}
use Rattle.circ_spelling.proofs.usable.push_usable.Goals as goal

pub returns : goal.returns
returns c = inr (c.in_ok-same.field-0, c.in_ok-same.ensures, c.in_ok-push.ensures.items)
