use Rattle.std.proofs.Common.{◌∙◌}
use Rattle.circ_entering.proofs.Working.{with_table, same_state}
use Rattle.circ_entering.proofs.work.Work.by_table.Goals as goal

pub returns-clause-work : goal.returns-clause-work
returns-clause-work c =
    with_table c.args.theory.now c.in_ok-work.work c.in_ok-work.ensures.work c.table_numbers.new.nodes c.in_ok-numbers.ensures.grows c.in_ok-numbers.numbers
    c.in_ok-numbers.ensures.there

pub returns-clause-state : goal.returns-clause-state
returns-clause-state c =
    same_state c.args.theory.now c.in_ok-work.work c.in_ok-work.ensures.work c.table_numbers.new.nodes c.in_ok-numbers.ensures.grows c.in_ok-numbers.numbers
    ∙ c.in_ok-work.ensures.state
