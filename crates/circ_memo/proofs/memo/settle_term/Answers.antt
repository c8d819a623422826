use Rattle.std.proofs.Common.{refl}
use Rattle.circ_nodes.proofs.Numbers.{named_below, grows_more}
use Rattle.circ_memo.proofs.Stores.{store_later}
use Rattle.circ_memo.proofs.memo.settle_term.Goals as goal

pub settle_number-kept-requires-clause-store : goal.settle_number-kept-requires-clause-store
settle_number-kept-requires-clause-store c = store_later c.args.means.now c.args.store.now _ c.intern.ensures.grows refl c.requires

pub settle_number-kept-requires-clause-there : goal.settle_number-kept-requires-clause-there
settle_number-kept-requires-clause-there c = named_below c.intern.new.self c.in_ok-number.number c.args.term.now c.in_ok-number.ensures.named

pub returns-clause-exact : goal.returns-clause-exact
returns-clause-exact c = c.settle_number-kept.ensures.exact c.args.term.now c.in_ok-number.ensures.named

pub returns-in_err-number-clause-store : goal.returns-in_err-number-clause-store
returns-in_err-number-clause-store c = store_later c.args.means.now c.args.store.now _ c.intern.ensures.grows refl c.requires

pub returns-clause-grows : goal.returns-clause-grows
returns-clause-grows c =
    grows_more c.args.store.now.nodes c.intern.new.self c.settle_number-kept.new.store.nodes c.intern.ensures.grows c.settle_number-kept.ensures.grows
