use Rattle.std.proofs.Common.{refl, ap, sym, arith}
use Rattle.circ_term.specs.Tree.{size_of}
use Rattle.circ_nodes.specs.Named.{tree_at}
use Rattle.circ_nodes.proofs.Numbers.{named_one}
use Rattle.circ_memo.proofs.Arguments.{arg_is, passing_still, passing_next, get_set_other}
use Rattle.circ_memo.proofs.parts.Passing.pass.Goals as goal

pub returns-then-entry-eq0-clause-passes : goal.returns-then-entry-eq0-clause-passes
returns-then-entry-eq0-clause-passes c = λ due b t a n p at named own f w.
    let nodes = c.args.nodes.now in
    passing_still due nodes b t c.args.place c.args.self.now p a c.args.entry (arg_is due nodes b t c.args.place c.args.self.now p n a at named) f c.if-entry-eq0.true

pub returns-clause-passes : goal.returns-clause-passes
returns-clause-passes c = λ due b t a n p at named own f w.
    let nodes = c.args.nodes.now in
    let value = named_one nodes c.args.entry.value (tree_at nodes c.args.entry.value) f.value c.known_at.ensures.named f.there in
    passing_next due nodes b t c.args.place c.args.self.now p a c.args.entry _ (arg_is due nodes b t c.args.place c.args.self.now p n a at named) f (rw (sym own) w)
    refl refl c.put.ensures (omega (arith, c.requires.own, own, c.size.ensures.exact, ap size_of value)) refl refl (omega (arith, c.max-self.ensures, own)) (omega (arith, c.max-self-2.ensures, c.max.ensures))

pub returns-clause-rest : goal.returns-clause-rest
returns-clause-rest c = λ j l. rw c.put.ensures (get_set_other c.args.self.now.args.items c.args.place j c.args.entry.value (omega (arith, l)))
