use Rattle.std.proofs.Common.{◌≡◌, ◌++◌, ◌∷◌, decimal, flat_map, map, drop}
use Rattle.circ_line.specs.Plain.{Keeps}
use Rattle.circ_line.proofs.writing.put_steps.Given as goal

abbrev pub invariant-loop-step : goal.invariant-loop-step
invariant-loop-step l = record {
  text : l.out.items ++ flat_map (λ w. 46 ∷ w) (map decimal (drop l.step-index l.steps)) ≡ l.fn.out.items ++ flat_map (λ w. 46 ∷ w) (map decimal l.steps);
  keeps : Keeps l.fn.out.items l.out.items;
}
