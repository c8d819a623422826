use Rattle.std.proofs.Common.{◌≡◌, ◌+◌, ◌-◌, arith}
use Rattle.circ_keeping.proofs.Marked.{marks_none, mark_at}
use Rattle.circ_keeping.proofs.marking.mark.Goals as goal

pub returns-then-number-count : goal.returns-then-number-count
returns-then-number-count c = marks_none (λ i. c.args.number ≡ c.args.count + i) c.args.marks.now (λ i e. omega arith)

pub returns : goal.returns
returns c = mark_at c.args.count c.args.number (c.args.number - c.args.count) c.args.marks.now (omega arith) (omega arith)
