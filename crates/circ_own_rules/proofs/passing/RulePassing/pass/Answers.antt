use Rattle.std.proofs.Common.{[], ◌++◌, sym, ◌∙◌}
use Rattle.circ_conditional_search.specs.Joining.{swept_with}
use Rattle.circ_join.specs.Trying.{normaliser_of}
use Rattle.circ_own_rules.proofs.Sweeps.{swept_empty}
use Rattle.circ_own_rules.proofs.passing.RulePassing.pass.Goals as goal

pub returns-then-is_empty-clause-exact : goal.returns-then-is_empty-clause-exact
returns-then-is_empty-clause-exact c =
    rw (c.new.ensures.items, c.in_ok-share.ensures.same)
    (swept_empty (normaliser_of c.args.reducer.now) c.args.self.now.gamma.now (c.args.self.now.lemmas.now ++ c.args.self.now.own.now) [] c.args.term.now (swept_with c.args.term.now [])
    c.args.budget.now (sym c.is_empty.ensures ∙ c.if-is_empty.true))
