use Rattle.std.proofs.Common.{inr}
use Rattle.circ_script.specs.Refusing.{open_goals, no_work}
use Rattle.circ_script.proofs.Drafts.{some_open, none_open}
use Rattle.circ_script.proofs.reader.unfinished.Goals as goal

pub returns-then-not-is_empty : goal.returns-then-not-is_empty
returns-then-not-is_empty c = λ th. inr (c.if-left.false, open_goals (some_open th c.args.asked.now c.if-not-is_empty.ensures))

pub returns-else-asks : goal.returns-else-asks
returns-else-asks c = λ th. inr (
  c.if-left.false,
  no_work (none_open th c.args.asked.now c.if-not-is_empty.ensures)
      (λ a. let t = (c.if-asks.ensures th).1 a in cc),
)
