use Rattle.std.proofs.Common.{ap, sym, ◌∙◌}
use Rattle.circ_term.specs.Subst.{substitution_of}
use Rattle.circ_term.specs.Substitution.{instance}
use Rattle.circ_rewrite.specs.Plain.{plain_passes}
use Rattle.circ_join.specs.Trying.{normaliser_of}
use Rattle.circ_own_rules.specs.Rules.{plain_rule}
use Rattle.circ_own_rules.proofs.Uses.{not_taken, use_hindered, no_use_made, use_made, rule_terms, goal_given}
use Rattle.circ_own_rules.proofs.rule.HypothesisRule.use_by.Goals as goal

pub returns-then-not-may_take-clause-exact : goal.returns-then-not-may_take-clause-exact
returns-then-not-may_take-clause-exact c =
    not_taken (normaliser_of c.args.reducer.now) (plain_rule c.args.self.now) c.args.path.now c.args.term.now (substitution_of c.args.subst) c.args.budget.now
    (sym c.may_take.ensures ∙ c.if-not-may_take.true)

pub returns-in-Err-clause-exact : goal.returns-in-Err-clause-exact
returns-in-Err-clause-exact c =
    use_hindered (normaliser_of c.args.reducer.now) (plain_rule c.args.self.now) c.args.path.now c.args.term.now (substitution_of c.args.subst) c.args.budget.now
    (sym c.may_take.ensures ∙ c.if-not-may_take.false) c.in-Err.fault c.passes.new.budget (rw c.as_slice-conds.ensures at c.in-Err.ensures.exact)

pub returns-in-Ok-None-clause-exact : goal.returns-in-Ok-None-clause-exact
returns-in-Ok-None-clause-exact c =
    no_use_made (normaliser_of c.args.reducer.now) (plain_rule c.args.self.now) c.args.path.now c.args.term.now (substitution_of c.args.subst) c.args.budget.now
    (sym c.may_take.ensures ∙ c.if-not-may_take.false) c.passes.new.budget (rw (c.in-Ok-None.field-0-is, c.as_slice-conds.ensures) at c.in-Ok-None.ensures.exact)

pub returns-clause-exact : goal.returns-clause-exact
returns-clause-exact c =
    let r = plain_rule c.args.self.now in
    let σ = substitution_of c.args.subst in
    let τ = c.bind_goal.new.subst in
    let bound = c.in_ok-bind_goal.ensures in
    use_made (normaliser_of c.args.reducer.now) r c.args.path.now c.args.term.now σ c.args.budget.now (sym c.may_take.ensures ∙ c.if-not-may_take.false) c.passes.new.budget
    (plain_passes c.in-Ok-Some.passes.items) (rw (c.in-Ok-Some.field-0-is, c.as_slice-conds.ensures) at c.in-Ok-Some.ensures.exact) c.in_ok-from_slice.ensures.ok
    (c.in_ok-terms.ensures.terms ∙ rule_terms r c.args.subst τ c.requires.binds bound c.in_ok-terms.ensures.ordered) c.in_ok-chains_of.ensures
    (ap (λ ρ. instance ρ c.new_side.result.now) (goal_given r.hypothesis c.args.subst τ bound) ∙ ap (instance σ) c.new_side.ensures)
