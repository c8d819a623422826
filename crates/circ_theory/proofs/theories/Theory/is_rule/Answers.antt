use Rattle.std.proofs.Common.{false, ap, ◌∙◌}
use Rattle.std.specs.Option.{option_map_or}
use Rattle.circ_pairs.specs.Rule.{is_rule}
use Rattle.circ_theory.proofs.theories.Theory.is_rule.Goals as goal

pub returns-in-Some : goal.returns-in-Some
returns-in-Some c = c.in-Some.ensures.rule ∙ ap (λ o. option_map_or is_rule o false) c.in-Some.ensures.equation
