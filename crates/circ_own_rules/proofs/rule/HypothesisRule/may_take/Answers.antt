use Rattle.std.proofs.Common.{◌≡◌, if◌then◌else◌, ap, sym, ◌∙◌}
use Rattle.std.specs.Prelude.{not}
use Rattle.circ_term.specs.Order.{is_same}
use Rattle.circ_term.specs.Subst.{substitution_of}
use Rattle.circ_term.specs.Substitution.{instance}
use Rattle.circ_attempt.specs.Below.{is_below}
use Rattle.circ_own_rules.specs.Rules.{plain_rule, new_side}
use Rattle.circ_own_rules.proofs.Uses.{told_same}
use Rattle.circ_own_rules.proofs.rule.HypothesisRule.may_take.Goals as goal

pub returns : goal.returns
returns c =
    let t = c.args.term.now in
    let new = instance (substitution_of c.args.subst.now) (new_side (plain_rule c.args.self.now)) in
    let told : c.gives.result ≡ is_same new t = told_same new t c.gives.result (rw c.new_side-2.ensures at c.gives.ensures) in
    ap not told ∙ sym (ap (λ b. if b then is_below new t else not (is_same new t)) c.if-self.false)
