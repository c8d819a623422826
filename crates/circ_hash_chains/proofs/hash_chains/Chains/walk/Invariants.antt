use Rattle.std.proofs.Common.{length}
use Rattle.circ_hash_chains.specs.Chains.{keys_of}
use Rattle.circ_hash_chains.proofs.Walking.{IsWalk}
use Rattle.circ_hash_chains.proofs.hash_chains.Chains.walk.Given as goal

abbrev pub invariant-loop-link : goal.invariant-loop-link
invariant-loop-link l = IsWalk (keys_of l.self.links.items) (length l.self.heads.items) l.key l.start l.link

abbrev pub decreases-loop-link : goal.decreases-loop-link
decreases-loop-link l = l.link
