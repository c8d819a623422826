use Rattle.std.proofs.Common.{◌-◌, ◌+◌, ◌*◌, ◌<◌, drop}
use Rattle.circ_chart.specs.Members.{In, IsApart}
use Rattle.circ_chart.specs.Few.{Enough, Or}
use Rattle.circ_chart.specs.Ways.{AnyByRule}
use Rattle.circ_chart.specs.Reader.{IsReady, RulesOver, symbols_of, behind}
use Rattle.circ_chart.proofs.Asking.{Going}
use Rattle.circ_chart.proofs.reader.Reader.+read.Given as goal

-- a call asks for a shorter range, or goes on within one
abbrev pub decreases-terms : goal.decreases-terms
decreases-terms l = 4000 * (l.to - l.from) + 3900

abbrev pub decreases-new_terms : goal.decreases-new_terms
decreases-new_terms l = 4000 * (l.to - l.from) + 3800

abbrev pub decreases-in_parentheses : goal.decreases-in_parentheses
decreases-in_parentheses l = 4000 * (l.to - l.from) + 3700

abbrev pub decreases-by_rules : goal.decreases-by_rules
decreases-by_rules l = 4000 * (l.to - l.from) + 3700

abbrev pub decreases-row : goal.decreases-row
decreases-row l = 4000 * l.within + 8 * (l.to - l.from) + 7

abbrev pub decreases-after_word : goal.decreases-after_word
decreases-after_word l = 4000 * l.within + 8 * (l.to - l.from) + 6

abbrev pub decreases-last_hole : goal.decreases-last_hole
decreases-last_hole l = 4000 * l.within + 8 * (l.to - l.from) + 6

abbrev pub decreases-splits : goal.decreases-splits
decreases-splits l = 4000 * l.within + 8 * (l.to - l.from) + 6

abbrev pub decreases-kept_splits : goal.decreases-kept_splits
decreases-kept_splits l = 4000 * l.within + 8 * (l.to - l.from) + 5

abbrev pub decreases-before_words : goal.decreases-before_words
decreases-before_words l = 4000 * l.within + 8 * (l.to - l.from) + 5

abbrev pub decreases-new_splits : goal.decreases-new_splits
decreases-new_splits l = 4000 * l.within + 8 * (l.to - l.from) + 4

abbrev pub decreases-split : goal.decreases-split
decreases-split l = 4000 * l.within + 8 * (l.to - l.from) + 3

abbrev pub decreases-before_rest : goal.decreases-before_rest
decreases-before_rest l = 4000 * (l.middle - l.from) + 3950

abbrev pub invariant-by_rules-loop-number : goal.invariant-by_rules-loop-number
invariant-by_rules-loop-number l = record {
  enough : Enough (Or (In l.all) (AnyByRule l.self.grammar.now l.self.tokens.now l.wanted.below l.wanted.sort l.from l.to (drop l.number l.self.grammar.now.rules.items))) (Or (In l.fn.out) (RulesOver l.self l.wanted l.from l.to));
  apart : IsApart l.all;
  ready : IsReady l.self l.memo;
}

abbrev pub invariant-new_splits-loop-middle : goal.invariant-new_splits-loop-middle
invariant-new_splits-loop-middle l = record {
  going : Going l.self.grammar.now l.self.tokens.now l.gap.part.rule.now.op l.gap.part.rule.now.sort l.gap.wanted.sort l.gap.wanted.below (symbols_of l.gap.part) (behind l.gap.part) l.from l.to l.out l.middle;
  low : l.from < l.middle;
  ready : IsReady l.self l.memo;
}

abbrev pub decreases-new_splits-loop-middle : goal.decreases-new_splits-loop-middle
decreases-new_splits-loop-middle l = l.to - l.middle
