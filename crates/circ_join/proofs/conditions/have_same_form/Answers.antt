use Rattle.circ_rewrite.specs.Plain.{plain_traces}
use Rattle.circ_join.specs.Trying.{normaliser_of}
use Rattle.circ_join.proofs.Joins.{not_same, is_same_at}
use Rattle.circ_join.proofs.SameForms.{first_hindered, second_hindered, other_forms, one_form}
use Rattle.circ_join.proofs.conditions.have_same_form.Goals as goal

pub returns-in-Err-clause-exact : goal.returns-in-Err-clause-exact
returns-in-Err-clause-exact c = λ rest.
    first_hindered (normaliser_of c.args.reducer.now) c.args.left.now c.args.right.now c.args.budget.now rest c.in-Err.fault c.normal.new.budget c.in-Err.ensures.exact

pub returns-in-Err-normal-clause-exact : goal.returns-in-Err-normal-clause-exact
returns-in-Err-normal-clause-exact c = λ rest.
    let x = c.in-Ok.normal in
    second_hindered (normaliser_of c.args.reducer.now) c.args.left.now c.args.right.now c.args.budget.now rest x.term (plain_traces x.traces.items) c.normal.new.budget
    c.in-Ok.ensures.exact c.in-Err-normal.fault c.normal-2.new.budget (rw c.normal.ensures.same at c.in-Err-normal.ensures.exact)

pub returns-then-not-same-clause-exact : goal.returns-then-not-same-clause-exact
returns-then-not-same-clause-exact c = λ rest.
    let x = c.in-Ok.normal in
    let y = c.in-Ok-normal.right in
    other_forms (normaliser_of c.args.reducer.now) c.args.left.now c.args.right.now c.args.budget.now rest x.term (plain_traces x.traces.items) c.normal.new.budget
    c.in-Ok.ensures.exact y.term (plain_traces y.traces.items) c.normal-2.new.budget (rw c.normal.ensures.same at c.in-Ok-normal.ensures.exact)
    (not_same c.same.result x.term y.term c.same.ensures c.if-not-same.true)

pub returns-else-not-same-clause-exact : goal.returns-else-not-same-clause-exact
returns-else-not-same-clause-exact c = λ rest.
    let x = c.in-Ok.normal in
    let y = c.in-Ok-normal.right in
    one_form (normaliser_of c.args.reducer.now) c.args.left.now c.args.right.now c.args.budget.now rest x.term (plain_traces x.traces.items) c.normal.new.budget
    c.in-Ok.ensures.exact y.term (plain_traces y.traces.items) c.normal-2.new.budget (rw c.normal.ensures.same at c.in-Ok-normal.ensures.exact)
    (is_same_at x.term y.term (c.same.ensures.0 c.if-not-same.false))
