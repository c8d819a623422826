use Rattle.std.proofs.Common.{inl, inr, refl, subst}
use Rattle.circ_term.specs.Tree.{App}
use Rattle.circ_nodes.specs.Named.{IsNamed}
use Rattle.circ_memo.proofs.Telling.{way_kept_later}
use Rattle.circ_memo.proofs.Arguments.{unmoved, now_limits, passing_way, no_fault}
use Rattle.circ_memo.proofs.parts.Passing.finish.Goals as goal

pub returns-in-Err-clause-finds : goal.returns-in-Err-clause-finds
returns-in-Err-clause-finds c = λ due b t k left n p counts.
    let now = App c.args.self.op c.args.self.sort p.args in
    rw c.rewrite_fault.ensures
    (no_fault due c.app.new.self b k left t now c.in-Err.fault (now_limits due c.args.nodes.now b t _ c.args.self p) (c.in-Err.ensures.interns p.args p.named))

pub returns-then-count-eq0-clause-finds : goal.returns-then-count-eq0-clause-finds
returns-then-count-eq0-clause-finds c = λ due b t k left n p counts.
    let nodes = c.args.nodes.now in
    let is = unmoved due nodes b t _ c.args.self p c.if-count-eq0.true in
    (App c.args.self.op c.args.self.sort p.args, passing_way due nodes b t _ c.args.self p nodes c.args.number refl (subst (λ x. IsNamed nodes c.args.number x) is n), counts)

pub returns-in-Ok-clause-finds : goal.returns-in-Ok-clause-finds
returns-in-Ok-clause-finds c = λ due b t k left n p counts.
    let made = c.in-Ok.ensures.interns p.args p.named in
    (App c.args.self.op c.args.self.sort p.args, passing_way due c.args.nodes.now b t _ c.args.self p c.app.new.self c.in-Ok.ready refl made.0, counts)

pub returns-then-count-eq0-clause-kept : goal.returns-then-count-eq0-clause-kept
returns-then-count-eq0-clause-kept c = λ es t h. inl refl

pub returns-in-Ok-clause-kept : goal.returns-in-Ok-clause-kept
returns-in-Ok-clause-kept c = λ es t h. way_kept_later es c.args.nodes.now c.app.new.self c.in-Ok.ensures.grows c.args.number t c.in-Ok.ready c.args.self.count (inr h)
