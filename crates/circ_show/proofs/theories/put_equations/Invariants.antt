use Rattle.std.proofs.Common.{◌≡◌, ◌++◌, flat_map, drop}
use Rattle.circ_show.specs.Lines.{equation_line}
use Rattle.circ_show.proofs.theories.put_equations.Given as goal

abbrev pub invariant-loop-n : goal.invariant-loop-n
invariant-loop-n l =
    l.out.items ++ flat_map (equation_line l.theory.signature) (drop l.n l.theory.equations)
    ≡ l.fn.out.items ++ flat_map (equation_line l.theory.signature) l.theory.equations
