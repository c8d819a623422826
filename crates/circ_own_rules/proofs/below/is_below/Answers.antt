use Rattle.std.proofs.Common.{ap, ◌∙◌}
use Rattle.std.specs.Ordering.{is_lt}
use Rattle.circ_term.specs.Subst.{substitution_of}
use Rattle.circ_term.specs.Substitution.{instance}
use Rattle.circ_own_rules.proofs.TermOrder.{below_stands}
use Rattle.circ_own_rules.proofs.below.is_below.Goals as goal

pub returns : goal.returns
returns c =
    c.is_lt.ensures ∙ ap is_lt c.compare_instance.ensures.order ∙ below_stands (instance (substitution_of c.args.subst.now) c.args.pattern.now) c.args.old.now
