use Rattle.std.proofs.Common.{refl, sym, append-nil}
use Rattle.circ_top.specs.Delivery.{text_wanted}
use Rattle.circ_top.proofs.command.refuse.Goals as goal

pub returns-in-Err-clause-delivers : goal.returns-in-Err-clause-delivers
returns-in-Err-clause-delivers g c = text_wanted (record { quiet = refl; printed = λ t. sym (append-nil _) })
