use Rattle.std.proofs.Common.{◌≡◌, false}
use Rattle.circ_spelling.specs.Usable.{RulesMarked, StayMarked}
use Rattle.circ_spelling.proofs.usable.mark_rules.Given as goal

abbrev pub invariant-loop-rule : goal.invariant-loop-rule
invariant-loop-rule l = record {
  rules : RulesMarked l.rules l.rule-index l.initial.marks.items l.marks.items;
  stay : StayMarked l.initial.marks.items l.marks.items;
  same : l.any ≡ false → l.marks.items ≡ l.initial.marks.items;
}
