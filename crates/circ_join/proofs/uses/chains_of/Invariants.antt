use Rattle.std.proofs.Common.{◌≡◌, ◌++◌, map}
use Rattle.circ_proof.specs.Plain.{plain_chain}
use Rattle.circ_rewrite.proofs.TraceLinks.{chain_by}
use Rattle.circ_join.proofs.uses.chains_of.Given as goal

abbrev pub invariant-loop-pass : goal.invariant-loop-pass
invariant-loop-pass l = map plain_chain l.chains.items ++ map chain_by l.pass-iterator.rest.items ≡ map chain_by l.fn.passes.items
