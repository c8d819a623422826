use Rattle.std.proofs.Common.{◌≡◌, take}
use Rattle.circ_term.proofs.node.share_all.Given as goal

abbrev pub invariant-loop-term : goal.invariant-loop-term
invariant-loop-term l = l.copy.items ≡ take l.term-index l.terms
