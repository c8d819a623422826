use Rattle.std.proofs.Common.{sym, ◌∙◌}
use Rattle.circ_own_rules.proofs.Sweeps.{not_nil, nil_own}
use Rattle.circ_own_rules.proofs.passing.RulePassing.is_empty.Goals as goal

pub returns-then-not-is_empty : goal.returns-then-not-is_empty
returns-then-not-is_empty c = not_nil c.args.self.now.lemmas.now c.args.self.now.own.now (sym c.is_empty.ensures ∙ c.if-not-is_empty.true)

pub returns : goal.returns
returns c = c.is_empty-2.ensures ∙ nil_own c.args.self.now.lemmas.now c.args.self.now.own.now (sym c.is_empty.ensures ∙ c.if-not-is_empty.false)
