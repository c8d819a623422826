use Rattle.std.proofs.Common.{◌≡◌, ◌++◌, flat_map, drop}
use Rattle.circ_show.specs.Lines.{var_line}
use Rattle.circ_show.proofs.theories.put_vars.Given as goal

abbrev pub invariant-loop-n : goal.invariant-loop-n
invariant-loop-n l =
    l.out.items ++ flat_map (var_line l.theory.signature) (drop l.n l.theory.variables)
    ≡ l.fn.out.items ++ flat_map (var_line l.theory.signature) l.theory.variables
