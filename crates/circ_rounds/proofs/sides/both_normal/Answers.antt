use Rattle.circ_proof.specs.Plain.{plain_links}
use Rattle.circ_rewrite.specs.Plain.{plain_traces}
use Rattle.circ_rounds.proofs.Closing.{right_hindered, both_made}
use Rattle.circ_rounds.proofs.sides.both_normal.Goals as goal

pub returns-in-Err-normal-clause-exact : goal.returns-in-Err-normal-clause-exact
returns-in-Err-normal-clause-exact c =
    let r = c.args.reducer.now in
    right_hindered r.theory r.rules r.assumptions c.args.left.now c.args.right.now c.args.budget.now c.in-Ok.one.term (plain_traces c.in-Ok.one.traces.items)
    c.normal.new.budget c.in-Ok.ensures.exact c.in-Err-normal.fault c.normal-in-Ok.new.budget (rw c.in-Ok.ensures.same at c.in-Err-normal.ensures.exact)

pub returns-in_ok-links_of-in-Ok-normal-2-clause-exact : goal.returns-in_ok-links_of-in-Ok-normal-2-clause-exact
returns-in_ok-links_of-in-Ok-normal-2-clause-exact c =
    let r = c.args.reducer.now in
    let other = c.in-Ok-normal.other in
    both_made r.theory r.rules r.assumptions c.args.left.now c.args.right.now c.args.budget.now c.in-Ok.one.term (plain_traces c.in-Ok.one.traces.items)
    c.normal.new.budget c.in-Ok.ensures.exact other.term (plain_traces other.traces.items) c.normal-in-Ok.new.budget
    (plain_links c.in_ok-links_of-in-Ok-normal.field-0.items) (plain_links c.in_ok-links_of-in-Ok-normal-2.field-0.items)
    (rw c.in-Ok.ensures.same at c.in-Ok-normal.ensures.exact) c.in_ok-links_of-in-Ok-normal.ensures c.in_ok-links_of-in-Ok-normal-2.ensures
