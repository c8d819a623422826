use Rattle.std.proofs.Common.{◌≡◌, ◌++◌, flat_map, drop}
use Rattle.circ_show.specs.Lines.{spaced_form}
use Rattle.circ_show.proofs.lines.put_constants.Given as goal

abbrev pub invariant-loop-constant : goal.invariant-loop-constant
invariant-loop-constant l =
    l.out.items ++ flat_map (spaced_form l.theory.signature) (drop l.constant-index l.constants)
    ≡ l.fn.out.items ++ flat_map (spaced_form l.theory.signature) l.constants
