use Rattle.std.proofs.Common.{List, ℕ, sym, subst}
use Rattle.circ_entering.specs.Lines.{HaveNumbers}
use Rattle.circ_entering.proofs.lines.NamedLines.of_table.Goals as goal

pub returns-clause-lines : goal.returns-clause-lines
returns-clause-lines c = c.in_ok-numbers.ensures.numbers

pub returns-clause-stay : goal.returns-clause-stay
returns-clause-stay c =
    let P : List ℕ → Type 0 = HaveNumbers c.first_numbers.new.nodes c.args.table c.in_ok-numbers.numbers.items in
    subst P (sym c.new.ensures.items) c.in_ok-numbers.ensures.numbers
