use Rattle.std.proofs.Common.{[], ◌∙◌}
use Rattle.circ_term.proofs.Instances.{instance-same}
use Rattle.circ_term.specs.Subst.{substitution_of}
use Rattle.circ_theory.specs.Variables.{seen_in}
use Rattle.circ_mixfix.specs.Numbering.{numbering, first_number}
use Rattle.circ_mixfix.proofs.numbering.numbered_anew.Goals as goal

pub returns-in-Ok : goal.returns-in-Ok
returns-in-Ok c =
    let t = c.args.term.now in
    c.in-Ok.ensures.0
    ∙ instance-same (substitution_of c.in_ok-subst.subst) (numbering c.args.hole (first_number c.args.hole) (seen_in t [])) t c.in_ok-subst.ensures
