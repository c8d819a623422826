use Rattle.std.proofs.Common.{ap, ◌∙◌, []}
use Rattle.circ_proof.specs.Plain.{plain_chain, plain_why, plain_whys, Split_why}
use Rattle.circ_proof.specs.declared.links.Why.{Split}
use Rattle.circ_proof.proofs.Rows.{split_plain}
use Rattle.circ_grammar.specs.Machine.{open_split}
use Rattle.circ_file.specs.Splits.{tops}
use Rattle.circ_file.specs.View.{now_at, now_of, queue_of}
use Rattle.circ_file.specs.declared.machine.Machine.{Machine}
use Rattle.circ_file.specs.declared.splits.OpenSplit.{OpenSplit}
use Rattle.circ_file.proofs.Links.{split_closes, split_opens, kept_among_links}
use Rattle.circ_file.proofs.machine.Machine.on_split.Goals as goal

pub returns-then-count-eq0 : goal.returns-then-count-eq0
returns-then-count-eq0 c ts k =
    let old = c.args.self.now in
    let mid = c.take_chain-chain.new.self in
    let new = c.close.new.self in
    let taken = c.take_chain-chain.ensures in
    let closed = c.in_ok-close-in-Reducing.ensures in
    let chain = c.take_chain-chain.result in
    let whys = c.new-whys.result in
    let goes = split_closes ts (tops old.splits.items []) (tops mid.splits.items []) (plain_chain old.chain) (plain_chain chain) c.args.term c.args.count
    (plain_why (Split chain c.args.term whys)) (now_of old) (now_of new) (queue_of old) (queue_of mid) (queue_of new) (ap (λ m. now_at m old) c.in-Reducing.is)
    (ap (λ x. tops x []) taken.splits) (split_plain chain c.args.term whys ∙ ap (λ x. Split_why (plain_chain chain) c.args.term (plain_whys x)) c.new-whys.ensures.items)
    taken.taken taken.queue c.if-count-eq0.true closed.next closed.queue in
    record { next = goes.0; queue = goes.1; places = closed.places ∙ taken.places; kept = closed.kept ts }

pub returns-in_ok-push-in-Reducing : goal.returns-in_ok-push-in-Reducing
returns-in_ok-push-in-Reducing c ts k =
    let old = c.args.self.now in
    let mid = c.take_chain-chain.new.self in
    let taken = c.take_chain-chain.ensures in
    let new : Machine = record mid { splits = c.push.new.self } in
    let top : OpenSplit = record { chain = c.take_chain-chain.result; term = c.args.term; count = c.args.count; whys = c.new-whys.result } in
    let among = taken.mode ∙ c.in-Reducing.is in
    let goes = split_opens ts mid.splits.items c.push.new.self.items top (tops old.splits.items []) (plain_chain old.chain) (plain_chain mid.chain) c.args.term c.args.count
    (now_of old) (now_of new) (queue_of old) (queue_of mid) (ap (λ m. now_at m old) c.in-Reducing.is) (ap (λ x. tops x []) taken.splits) c.in_ok-push-in-Reducing.ensures.items
    (ap (λ x. open_split x c.args.term c.args.count (plain_whys c.new-whys.result.items)) taken.taken
    ∙ ap (λ x. open_split (plain_chain old.chain) c.args.term c.args.count (plain_whys x)) c.new-whys.ensures.items)
    taken.empty taken.queue c.if-count-eq0.false (ap (λ m. now_at m new) among) in
    record { next = goes.0; queue = goes.1; places = taken.places; kept = kept_among_links new.mode ts new among }
