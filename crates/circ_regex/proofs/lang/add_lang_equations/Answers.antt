use Rattle.std.proofs.Common.{refl, ap, ◌∙◌}
use Rattle.circ_regex.specs.Lang.{bit_equations, unit_equations, acc_equations, da_equations, db_equations}
use Rattle.circ_regex.specs.Making.{equation_sides, with_group, with_lang_equations}
use Rattle.circ_regex.proofs.lang.add_lang_equations.Goals as goal

pub returns : goal.returns
unfolding with_lang_equations
returns c =
    let bits = c.in_ok-add_equations.ensures (equation_sides bit_equations) refl in
    let units = c.in_ok-add_equations-2.ensures (equation_sides unit_equations) refl ∙ ap (λ th. with_group th unit_equations) bits in
    let accs = c.in_ok-add_equations-3.ensures (equation_sides acc_equations) refl ∙ ap (λ th. with_group th acc_equations) units in
    let das = c.in_ok-add_equations-4.ensures (equation_sides da_equations) refl ∙ ap (λ th. with_group th da_equations) accs in
    c.in_ok-add_equations-5.ensures (equation_sides db_equations) refl ∙ ap (λ th. with_group th db_equations) das
