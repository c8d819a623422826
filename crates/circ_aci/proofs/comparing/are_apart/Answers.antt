use Rattle.std.proofs.Common.{◌∙◌, sym}
use Rattle.circ_theory.specs.Operators.{operator_of}
use Rattle.circ_aci.proofs.Sizes.{same_size}
use Rattle.circ_aci.proofs.comparing.are_apart.Goals as goal

pub returns-then-size : goal.returns-then-size
returns-then-size c = λ t e.
    let o = operator_of c.args.decl.now in
    c.if-size.true (c.size.ensures.exact ∙ same_size o c.args.op c.args.a.now c.args.b.now c.if-not-decl.true e ∙ sym c.size-then-not-decl.ensures.exact)
