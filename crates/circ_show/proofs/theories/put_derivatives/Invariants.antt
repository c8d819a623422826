use Rattle.std.proofs.Common.{◌≡◌, ◌++◌, flat_map, drop}
use Rattle.circ_show.specs.Lines.{derivative_line}
use Rattle.circ_show.proofs.theories.put_derivatives.Given as goal

abbrev pub invariant-loop-n : goal.invariant-loop-n
invariant-loop-n l =
    l.out.items ++ flat_map (λ d. derivative_line l.theory.signature d.body) (drop l.n l.theory.derivatives)
    ≡ l.fn.out.items ++ flat_map (λ d. derivative_line l.theory.signature d.body) l.theory.derivatives
