use Rattle.circ_join.specs.Trying.{normaliser_of}
use Rattle.circ_own_rules.specs.Using.{plain_due}
use Rattle.circ_own_rules.proofs.FirstRule.{first_hinders, first_applies, first_fails}
use Rattle.circ_own_rules.proofs.passing.RulePassing.first_use.Goals as goal

pub returns-in-Err-clause-exact : goal.returns-in-Err-clause-exact
returns-in-Err-clause-exact c =
    first_hinders (normaliser_of c.args.reducer.now) c.args.path.now c.args.term.now c.args.self.now.own.now c.args.self.now.lemmas.now c.args.budget.now c.in-Err.fault
    c.first_use.new.budget c.in-Err.ensures.exact

pub returns-in-Ok-Some-clause-exact : goal.returns-in-Ok-Some-clause-exact
returns-in-Ok-Some-clause-exact c =
    first_applies (normaliser_of c.args.reducer.now) c.args.path.now c.args.term.now c.args.self.now.own.now c.args.self.now.lemmas.now c.args.budget.now (plain_due c.in-Ok-Some.due)
    c.first_use.new.budget (rw c.in-Ok-Some.field-0-is at c.in-Ok-Some.ensures.exact)

pub returns-in-Ok-None-clause-exact : goal.returns-in-Ok-None-clause-exact
returns-in-Ok-None-clause-exact c =
    let fails = first_fails (normaliser_of c.args.reducer.now) c.args.path.now c.args.term.now c.args.self.now.own.now c.args.self.now.lemmas.now c.args.budget.now c.first_use.new.budget
    (rw c.in-Ok-None.field-0-is at c.in-Ok-None.ensures.exact) in
    rw fails (rw c.first_use.ensures.same at c.first_use-in-Ok-None.ensures.exact)
