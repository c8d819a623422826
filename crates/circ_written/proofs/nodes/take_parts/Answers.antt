use Rattle.circ_written.proofs.Ropes.{parts_taken, parts_not_taken}
use Rattle.circ_written.proofs.nodes.take_parts.Goals as goal

pub returns-else-is_row-clause-taken : goal.returns-else-is_row-clause-taken
returns-else-is_row-clause-taken c =
    parts_taken c.args.nodes.now c.args.stack.now.items c.pop.new.self.items c.in-Some.number c.index-nodes-number.result c.is_row.result c.in-Some.ensures.items
    c.requires c.index-nodes-number.is c.is_row.ensures c.if-is_row.false

pub returns-then-is_row-clause-taken : goal.returns-then-is_row-clause-taken
returns-then-is_row-clause-taken c =
    parts_not_taken c.args.nodes.now c.args.stack.now.items c.pop.new.self.items c.in-Some.number c.index-nodes-number.result c.is_row.result
    c.in-Some.ensures.items c.requires c.index-nodes-number.is c.is_row.ensures c.if-is_row.true
