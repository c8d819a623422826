use Rattle.std.proofs.Common.{◌++◌}
use Rattle.circ_join.specs.Sweeping.{plain_swept}
use Rattle.circ_join.specs.Trying.{normaliser_of}
use Rattle.circ_attempt.specs.Rules.{first_rule_use}
use Rattle.circ_own_rules.proofs.Sweeps.{right_hinders, both_made}
use Rattle.circ_own_rules.proofs.passing.RulePassing.pass_both.Goals as goal

pub returns-in-Ok-pass-clause-exact : goal.returns-in-Ok-pass-clause-exact
returns-in-Ok-pass-clause-exact c =
    let first = first_rule_use (normaliser_of c.args.reducer.now) (c.args.self.now.lemmas.now ++ c.args.self.now.own.now) in
    both_made first c.args.self.now.gamma.now c.args.left.now c.args.right.now c.args.budget.now (plain_swept c.in-Ok.left) c.pass.new.budget c.in-Ok.ensures.exact
    (plain_swept c.in-Ok-pass.right) c.pass-2.new.budget (rw c.pass.ensures.same at c.in-Ok-pass.ensures.exact)

pub returns-in-Err-pass-clause-exact : goal.returns-in-Err-pass-clause-exact
returns-in-Err-pass-clause-exact c =
    let first = first_rule_use (normaliser_of c.args.reducer.now) (c.args.self.now.lemmas.now ++ c.args.self.now.own.now) in
    right_hinders first c.args.self.now.gamma.now c.args.left.now c.args.right.now c.args.budget.now (plain_swept c.in-Ok.left) c.pass.new.budget c.in-Ok.ensures.exact
    c.in-Err-pass.fault c.pass-2.new.budget (rw c.pass.ensures.same at c.in-Err-pass.ensures.exact)
