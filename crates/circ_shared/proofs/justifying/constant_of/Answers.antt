use Rattle.std.proofs.Common.{sym, subst}
use Rattle.circ_term.specs.Tree.{none}
use Rattle.circ_nodes.specs.Named.{AreNamed}
use Rattle.circ_shared.proofs.justifying.constant_of.Goals as goal

pub unreachable-requires : goal.unreachable-requires
unreachable-requires c =
    let named = subst (λ ns. AreNamed c.args.nodes.now ns none) (sym c.new.ensures.items) tt in
    let never = (rw c.in-Err-TooBig.field-0-is at c.in-Err-TooBig.ensures.interns) none named in absurd (cc)

pub unreachable-requires-in-Err-TooDeep : goal.unreachable-requires-in-Err-TooDeep
unreachable-requires-in-Err-TooDeep c =
    let named = subst (λ ns. AreNamed c.args.nodes.now ns none) (sym c.new.ensures.items) tt in
    let never = (rw c.in-Err-TooDeep.field-0-is at c.in-Err-TooDeep.ensures.interns) none named in absurd (cc)

pub returns-in-Ok-clause-named : goal.returns-in-Ok-clause-named
returns-in-Ok-clause-named c =
    let named = subst (λ ns. AreNamed c.args.nodes.now ns none) (sym c.new.ensures.items) tt in
    (c.in-Ok.ensures.interns none named).0
