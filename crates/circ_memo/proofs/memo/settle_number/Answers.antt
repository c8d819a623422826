use Rattle.std.proofs.Common.{arith}
use Rattle.circ_term.proofs.Limits.{within_limits}
use Rattle.circ_nodes.specs.Named.{tree_at}
use Rattle.circ_nodes.proofs.Numbers.{named_later}
use Rattle.circ_due.specs.Chosen.{due_by}
use Rattle.circ_memo.proofs.Wholes.{answers_form, answers_fault, no_outgrowth}
use Rattle.circ_memo.proofs.memo.settle_number.Goals as goal

pub settle-requires-clause-inside : goal.settle-requires-clause-inside
settle-requires-clause-inside c =
    let w = within_limits (tree_at c.args.store.now.nodes c.args.number) c.known_at.ensures.within in
    (tree_at c.args.store.now.nodes c.args.number, c.known_at.ensures.named, record { small = w.0; shallow = w.1; big = omega arith; deep = omega arith })

pub unreachable-requires : goal.unreachable-requires
unreachable-requires c =
    no_outgrowth (due_by c.args.means.now) c.settle.new.store.nodes c.args.budget.now c.settle.new.budget (tree_at c.args.store.now.nodes c.args.number) c.in-Err-Outgrows.field-0-0
    (rw c.in-Err-Outgrows.field-0-is at (rw c.in-Err-Outgrows.is at (c.settle.ensures.settles (tree_at c.args.store.now.nodes c.args.number) c.known_at.ensures.named)))

pub returns-in-Ok-clause-exact : goal.returns-in-Ok-clause-exact
returns-in-Ok-clause-exact c = λ t n.
    let kept = c.in-Ok.ensures.settles t n in
    record {
      named = named_later c.args.store.now.nodes c.settle.new.store.nodes c.args.number t c.settle.ensures.worked.extends.grows n;
      there = c.in-Ok.ensures.there;
      form = kept.0.0;
      is = answers_form (due_by c.args.means.now) c.settle.new.store.nodes c.args.budget.now c.settle.new.budget t c.in-Ok.entry kept.0.0 kept.0.1 kept.1;
    }

pub returns-in-Err-Fault-clause-exact : goal.returns-in-Err-Fault-clause-exact
returns-in-Err-Fault-clause-exact c = λ t n.
    answers_fault (due_by c.args.means.now) c.settle.new.store.nodes c.args.budget.now c.settle.new.budget t c.in-Err-Fault.fault
    (rw c.in-Err-Fault.field-0-is at (rw c.in-Err-Fault.is at (c.settle.ensures.settles t n)))
