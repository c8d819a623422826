use Rattle.std.proofs.Common.{ap, ◌∙◌, []}
use Rattle.circ_proof.specs.Plain.{plain_chain}
use Rattle.circ_file.specs.Splits.{tops}
use Rattle.circ_file.specs.View.{now_at, now_of, queue_of}
use Rattle.circ_file.proofs.Links.{same_goes}
use Rattle.circ_file.proofs.machine.Machine.on_same.Goals as goal

pub returns-in_ok-close-in-Reducing : goal.returns-in_ok-close-in-Reducing
returns-in_ok-close-in-Reducing c ts k =
    let old = c.args.self.now in
    let mid = c.take_chain-chain.new.self in
    let new = c.close.new.self in
    let taken = c.take_chain-chain.ensures in
    let closed = c.in_ok-close-in-Reducing.ensures in
    let goes = same_goes ts (tops old.splits.items []) (tops mid.splits.items []) (plain_chain old.chain) (plain_chain c.take_chain-chain.result) (now_of old) (now_of new)
    (queue_of old) (queue_of mid) (queue_of new) (ap (λ m. now_at m old) c.in-Reducing.is) (ap (λ x. tops x []) taken.splits) taken.taken taken.queue closed.next closed.queue in
    record { next = goes.0; queue = goes.1; places = closed.places ∙ taken.places; kept = closed.kept ts }
