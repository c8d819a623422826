use Rattle.std.proofs.Common.{◌≡◌, drop}
use Rattle.circ_mixfix.specs.Answers.{first_long, lists_in}
use Rattle.circ_mixfix.proofs.parse.first_long.Given as goal

abbrev pub invariant-loop-span : goal.invariant-loop-span
invariant-loop-span l = first_long (lists_in l.tokens (drop l.span-index l.spans)) ≡ first_long (lists_in l.tokens l.spans)
