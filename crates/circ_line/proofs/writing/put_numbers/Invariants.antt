use Rattle.std.proofs.Common.{◌≡◌, ◌++◌, ◌∷◌, decimal, flat_map, map, drop}
use Rattle.circ_line.specs.Plain.{Keeps}
use Rattle.circ_line.proofs.writing.put_numbers.Given as goal

abbrev pub invariant-loop-number : goal.invariant-loop-number
invariant-loop-number l = record {
  text : l.out.items ++ flat_map (λ w. 32 ∷ w) (map decimal (drop l.number-index l.numbers)) ≡ l.fn.out.items ++ flat_map (λ w. 32 ∷ w) (map decimal l.numbers);
  keeps : Keeps l.fn.out.items l.out.items;
}
