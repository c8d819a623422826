use Rattle.std.proofs.Common.{◌≡◌, drop}
use Rattle.circ_term.specs.Limits.{IsWithinLimits}
use Rattle.circ_expansion.specs.Expand.{layered, risen}
use Rattle.circ_uses.specs.Uses.{layers_of, first_of}
use Rattle.circ_uses.proofs.uses.layered.Given as goal

abbrev pub invariant-loop-layer : goal.invariant-loop-layer
invariant-loop-layer l = record {
  within : IsWithinLimits l.here;
  same : layered (layers_of l.theory (drop l.layer-index l.layers)) l.here ≡ layered (layers_of l.theory l.layers) l.term;
  limits : first_of (risen (layers_of l.theory (drop l.layer-index l.layers)) l.here) ≡ first_of (risen (layers_of l.theory l.layers) l.term);
}
