use Rattle.std.proofs.Common.{◌≡◌, ◌≤◌, ◌++◌, decimal, map, drop}
use Rattle.std.specs.List.{AllByRecursion}
use Rattle.circ_top.proofs.request.numbers.Given as goal

abbrev pub invariant-loop-word : goal.invariant-loop-word
invariant-loop-word l = record {
  small : AllByRecursion (λ n. n ≤ 4294967295) l.numbers.items;
  words : map decimal l.numbers.items ++ map (λ x. x.now) (drop l.word-index l.words) ≡ map (λ x. x.now) l.words;
}
