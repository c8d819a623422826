use Rattle.std.proofs.Common.{ap, sym, ◌∙◌, arith}
use Rattle.circ_term.specs.Subst.{substitution_of}
use Rattle.circ_term.specs.Tree.{size_of}
use Rattle.circ_term.proofs.Instances.{instance-is_ground}
use Rattle.circ_term.proofs.Within.{depth_at}
use Rattle.circ_own_rules.proofs.below.+instance_size.Goals as goal

pub instance_size-returns-then-is_ground-clause-size : goal.instance_size-returns-then-is_ground-clause-size
instance_size-returns-then-is_ground-clause-size t c =
    c.size.ensures.exact
    ∙ ap size_of (sym (instance-is_ground (substitution_of c.args.subst.now) c.args.pattern.now (sym c.is_ground.ensures ∙ c.if-is_ground.true)))

pub instance_sizes-instance_size-size-requires : goal.instance_sizes-instance_size-size-requires
instance_sizes-instance_size-size-requires t c =
    (omega (arith, depth_at c.args.patterns.now c.loop-pattern.pattern-index c.pattern-item.result (omega arith) c.pattern-item.is), tt)
