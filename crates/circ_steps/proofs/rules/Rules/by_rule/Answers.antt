use Rattle.std.proofs.Common.{Bool, length, Result, Ok, sym, subst}
use Rattle.circ_term.specs.Growing.{Grows}
use Rattle.std.specs.declared.alloc.AllocError.{AllocError}
use Rattle.circ_nodes.proofs.Numbers.{grows_self}
use Rattle.circ_proof.specs.declared.proof.Step.TheVariants as step
use Rattle.circ_steps.specs.Judging.{terms_at}
use Rattle.circ_steps.specs.States.{state_at}
use Rattle.circ_steps.proofs.Applied.{named_by, told, still_there, still_told, still_kept}
use Rattle.circ_steps.proofs.rules.Rules.by_rule.Goals as goal

-- ---- what the rules require

pub simplify-requires-clause-in_table : goal.simplify-requires-clause-in_table
simplify-requires-clause-in_table c =
    named_by (length c.args.self.now.table.now) c.args.step.now (step.Simplify c.in-Simplify.chain) c.in-Simplify.is c.requires.in_table

pub reduce-requires-clause-in_table : goal.reduce-requires-clause-in_table
reduce-requires-clause-in_table c =
    named_by (length c.args.self.now.table.now) c.args.step.now (step.Reduce c.in-Reduce.why) c.in-Reduce.is c.requires.in_table

pub cases-requires-clause-in_table : goal.cases-requires-clause-in_table
cases-requires-clause-in_table c =
    named_by (length c.args.self.now.table.now) c.args.step.now (step.Cases c.in-Cases.term) c.in-Cases.is c.requires.in_table

-- ---- what they do

pub returns-in-Simplify-clause-exact : goal.returns-in-Simplify-clause-exact
returns-in-Simplify-clause-exact c =
    let r = c.args.self.now in
    let old = c.args.nodes.now in
    told r.theory.now r.gamma.now (terms_at old r) (state_at old c.args.state.now) (state_at c.simplify.new.nodes c.simplify.new.state) c.simplify.result
    c.args.step.now (step.Simplify c.in-Simplify.chain) c.in-Simplify.is c.simplify.ensures.exact

pub returns-in-Reduce-clause-grows : goal.returns-in-Reduce-clause-grows
returns-in-Reduce-clause-grows c = subst (Grows c.args.nodes.now) (sym c.reduce.ensures.same) (grows_self c.args.nodes.now)

pub returns-in-Reduce-clause-state : goal.returns-in-Reduce-clause-state
returns-in-Reduce-clause-state c = still_there c.args.nodes.now c.reduce.new.nodes c.reduce.ensures.same c.reduce.new.state c.reduce.ensures.state

pub returns-in-Reduce-clause-exact : goal.returns-in-Reduce-clause-exact
returns-in-Reduce-clause-exact c =
    let r = c.args.self.now in
    let old = c.args.nodes.now in
    still_told r.theory.now r.gamma.now old c.reduce.new.nodes c.reduce.ensures.same (terms_at old r) c.args.state.now c.reduce.new.state c.reduce.result
    c.args.step.now (step.Reduce c.in-Reduce.why) c.in-Reduce.is c.reduce.ensures.exact

pub returns-in-Reduce-clause-kept : goal.returns-in-Reduce-clause-kept
returns-in-Reduce-clause-kept c =
    still_kept c.args.nodes.now c.reduce.new.nodes c.reduce.ensures.same c.args.state.now c.reduce.new.state c.reduce.result c.reduce.ensures.kept

pub returns-in-Derive-clause-exact : goal.returns-in-Derive-clause-exact
returns-in-Derive-clause-exact c =
    let r = c.args.self.now in
    let old = c.args.nodes.now in
    told r.theory.now r.gamma.now (terms_at old r) (state_at old c.args.state.now) (state_at c.derive.new.nodes c.derive.new.state) c.derive.result
    c.args.step.now step.Derive c.in-Derive.is c.derive.ensures.exact

pub returns-in-Cases-clause-exact : goal.returns-in-Cases-clause-exact
returns-in-Cases-clause-exact c =
    let r = c.args.self.now in
    let old = c.args.nodes.now in
    told r.theory.now r.gamma.now (terms_at old r) (state_at old c.args.state.now) (state_at c.cases.new.nodes c.cases.new.state) c.cases.result
    c.args.step.now (step.Cases c.in-Cases.term) c.in-Cases.is c.cases.ensures.exact

pub returns-in-Done-clause-exact : goal.returns-in-Done-clause-exact
returns-in-Done-clause-exact c =
    let r = c.args.self.now in
    let old = c.args.nodes.now in
    let there = state_at old c.args.state.now in
    let a : Result Bool AllocError = Ok c.done.result in
    told r.theory.now r.gamma.now (terms_at old r) there there a c.args.step.now step.Done c.in-Done.is (c.done.ensures old)
