-- What start terms are rewritten by.
use Rattle.std.specs.Prelude.{[]}
use Rattle.circ_theory.specs.Theory.{Theory}
use Rattle.circ_memo.specs.Value.{Rewriting}
use Rattle.circ_rewrite.specs.TheoryRules.{theory_rules}

-- the theory's rules, without assumptions
abbrev pub by_theory : Theory → Rewriting
by_theory th = record { theory = th; rules = theory_rules th; assumptions = [] }
