use Rattle.circ_term.specs.Subst.{substitution_of}
use Rattle.circ_theory.specs.Pairs.{plain_pair}
use Rattle.circ_join.specs.Trying.{normaliser_of}
use Rattle.circ_join.proofs.SameForms.{forms_test}
use Rattle.circ_join.proofs.conditions.holds.Goals as goal

pub returns-clause-exact : goal.returns-clause-exact
returns-clause-exact c =
    forms_test (normaliser_of c.args.reducer.now) (substitution_of c.args.subst.now) (plain_pair c.args.cond.now) c.args.budget.now c.in-Ok.ensures.1 c.in-Ok-apply.ensures.1
    c.have_same_form.new.budget c.have_same_form.result (rw (c.in-Ok.ensures.0, c.in-Ok-apply.ensures.0) at c.have_same_form.ensures.exact)
