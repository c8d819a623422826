use Rattle.std.proofs.Common.{List, drop}
use Rattle.circ_spelling.specs.declared.grammar.Rule.{Rule}
use Rattle.circ_mixfix.specs.Coding.{AddsRules}
use Rattle.circ_mixfix.proofs.rules.push_rules.Given as goal

abbrev pub invariant-loop-number : goal.invariant-loop-number
invariant-loop-number l =
    (new : List Rule) → AddsRules l.theory.signature l.words l.most l.least (drop l.number-index l.numbers) l.out.items new → AddsRules l.theory.signature l.words l.most l.least l.numbers l.initial.out.items new
