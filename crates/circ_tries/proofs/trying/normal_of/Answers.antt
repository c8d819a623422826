use Rattle.std.proofs.Common.{refl, arith}
use Rattle.circ_nodes.proofs.Numbers.{named_below}
use Rattle.circ_tries.proofs.Stores.{store_later}
use Rattle.circ_tries.proofs.trying.normal_of.Goals as goal

pub returns-in_err-number-clause-store : goal.returns-in_err-number-clause-store
returns-in_err-number-clause-store c = store_later c.args.means.now c.args.store.now _ c.intern.ensures.grows refl refl c.requires.store

pub settle_whole-settled-requires-clause-ready : goal.settle_whole-settled-requires-clause-ready
settle_whole-settled-requires-clause-ready c = record {
  store = store_later c.args.means.now c.args.store.now _ c.intern.ensures.grows refl refl c.requires.store;
  tries = c.requires.tries;
  fits = omega arith;
}

pub settle_whole-settled-requires-clause-there : goal.settle_whole-settled-requires-clause-there
settle_whole-settled-requires-clause-there c = named_below c.intern.new.self c.in_ok-number.number c.args.term.now c.in_ok-number.ensures.named

pub term-requires-clause-there : goal.term-requires-clause-there
term-requires-clause-there c =
    let h = rw c.in-Ok.is at (c.settle_whole-settled.ensures.exact c.args.term.now c.in_ok-number.ensures.named) in
    named_below c.settle_whole-settled.new.store.nodes c.in-Ok.value h.0 h.1
