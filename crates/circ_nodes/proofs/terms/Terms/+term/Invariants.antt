use Rattle.std.proofs.Common.{◌+◌, ◌*◌, drop}
use Rattle.circ_nodes.specs.Built.{AreBuilt}
use Rattle.circ_nodes.proofs.Adding.{Taken}
use Rattle.circ_nodes.proofs.Building.{above}
use Rattle.circ_nodes.proofs.terms.Terms.+term.Given as goal

-- arguments have lower numbers
abbrev pub decreases-term : goal.decreases-term
decreases-term l = 3 * l.number + 2

abbrev pub decreases-build : goal.decreases-build
decreases-build l = 3 * l.number + 1

abbrev pub decreases-build_all : goal.decreases-build_all
decreases-build_all l = 3 * above l.numbers.now

abbrev pub invariant-build_all-loop-number : goal.invariant-build_all-loop-number
invariant-build_all-loop-number l = record {
  built : AreBuilt l.nodes l.self;
  taken : Taken l.nodes l.numbers (drop l.number-index l.numbers) l.terms.items;
}
