use Rattle.std.proofs.Common.{◌≡◌, ◌≢◌, [], ap, Err, true, false}
use Rattle.circ_top.specs.Delivery.{whole, write_failed, memory_wanted}
use Rattle.circ_top.proofs.Printing.{prefix_front}
use Rattle.circ_top.proofs.command.deliver.Goals as goal

pub returns-in-Ok-clause-delivers : goal.returns-in-Ok-clause-delivers
returns-in-Ok-clause-delivers g c = whole (record { quiet = c.in-Ok.ensures.quiet; printed = c.in-Ok.ensures.ok })

pub returns-in-Err-Failed-clause-delivers : goal.returns-in-Err-Failed-clause-delivers
returns-in-Err-Failed-clause-delivers g c =
    let some : c.args.text.now ≢ [] = λ e. let never : false ≡ true = c.in-Err-Failed.ensures.empty_ok e in cc in
    write_failed c.faults.result some c.faults.ensures (c.in-Err-Failed.ensures.failed (ap Err c.in-Err-Failed.field-0-is))
    (λ t. prefix_front _ _ _ (c.in-Err-Failed.ensures.err t))

pub returns-clause-delivers : goal.returns-clause-delivers
returns-clause-delivers g c =
    memory_wanted (c.in-Err-Memory.ensures.memory (ap Err c.in-Err-Memory.field-0-is)) (λ t. prefix_front _ _ _ (c.in-Err-Memory.ensures.err t))
