use Rattle.circ_read.proofs.statement.add_statement.Goals as goal

pub returns-in-Equation : goal.returns-in-Equation
returns-in-Equation c = rw c.in-Equation.is (rw c.deref.ensures.value at c.add_equation.ensures)
