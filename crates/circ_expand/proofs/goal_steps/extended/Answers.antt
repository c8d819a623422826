use Rattle.std.proofs.Common.{ap, ◌∙◌}
use Rattle.circ_theory.specs.Fresh.{fresh_in}
use Rattle.circ_entry.specs.Entries.{derivative_at}
use Rattle.circ_uses.specs.Valuations.{by_of, valued_by}
use Rattle.circ_expand.proofs.Extending.{by_entry}
use Rattle.circ_expand.proofs.goal_steps.extended.Goals as goal

pub returns : goal.returns
returns c =
    let n = c.args.entry.now.number in
    ap by_of c.in_ok-new.ensures.ok
    ∙ by_entry (by_of c.args.by.now) (by_of c.in_ok-next.next) (derivative_at c.args.frame.now.theory.now n) c.in_ok-body_of.field-0 c.fresh.result
    (fresh_in c.args.goal.now) (valued_by c.in_ok-clone.field-0.value) (valued_by c.args.entry.now.params.value) c.in_ok-next.ensures c.in_ok-body_of.ensures
    c.fresh.ensures (ap valued_by c.in_ok-clone.ensures.cases)
