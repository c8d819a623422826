use Rattle.std.proofs.Common.{◌≡◌, ◌++◌, drop, map}
use Rattle.circ_theory.specs.Rewriting.{named}
use Rattle.circ_tasks.proofs.links.all_named.Given as goal

abbrev pub invariant-loop-number : goal.invariant-loop-number
invariant-loop-number l = l.terms.items ++ map (named l.table) (drop l.number-index l.numbers) ≡ map (named l.table) l.numbers
