use Rattle.std.proofs.Common.{map, take}
use Rattle.circ_index.specs.Indexed.{HasLefts}
use Rattle.circ_due.specs.Chosen.{left_side}
use Rattle.circ_due.proofs.means.finder_of.Given as goal

abbrev pub invariant-loop-rule : goal.invariant-loop-rule
invariant-loop-rule l = HasLefts l.finder (map left_side (take l.rule-index l.rules))
