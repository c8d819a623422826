use Rattle.std.proofs.Common.{sym, subst, ◌∙◌}
use Rattle.circ_special.specs.Special.{IsSet}
use Rattle.circ_check.proofs.checker.Checker.special_set.Goals as goal

pub unreachable-requires : goal.unreachable-requires
unreachable-requires c =
    let same = c.in_ok-places.ensures.items ∙ c.places.ensures.value in
    let none = rw c.in-None.is at c.of.ensures in
    none (subst (IsSet c.args.self.now.theory.now) (sym same) c.requires.places)

pub returns : goal.returns
returns c =
    let made = rw c.in-Some.is at c.of.ensures in
    made.0 ∙ c.in_ok-places.ensures.items ∙ c.places.ensures.value
