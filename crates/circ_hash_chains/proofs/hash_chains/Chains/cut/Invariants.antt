use Rattle.std.proofs.Common.{◌≡◌, ◌≤◌, ◌⊎◌, length, take}
use Rattle.circ_hash_chains.specs.Chains.{keys_of, AreChains}
use Rattle.circ_hash_chains.proofs.hash_chains.Chains.cut.Given as goal

abbrev pub invariant-loop-self : goal.invariant-loop-self
invariant-loop-self l = record {
  chains : AreChains l.self;
  keys : keys_of l.self.links.items ≡ take (length l.self.links.items) (keys_of l.initial.self.links.items);
  long : (length l.self.links.items ≡ length l.initial.self.links.items) ⊎ (l.count ≤ length l.self.links.items);
}

abbrev pub decreases-loop-self : goal.decreases-loop-self
decreases-loop-self l = length l.self.links.items
