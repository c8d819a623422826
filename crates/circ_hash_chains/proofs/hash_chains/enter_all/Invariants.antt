use Rattle.std.proofs.Common.{◌≡◌, length}
use Rattle.circ_hash_chains.specs.Chains.{keys_of, IsLinked}
use Rattle.circ_hash_chains.proofs.hash_chains.enter_all.Given as goal

abbrev pub invariant-loop-number : goal.invariant-loop-number
invariant-loop-number l = record {
  linked : IsLinked (keys_of l.links) l.links l.heads l.number;
  keys : keys_of l.links ≡ keys_of l.initial.links;
  long : length l.links ≡ length l.initial.links;
  wide : length l.heads ≡ length l.initial.heads;
}
