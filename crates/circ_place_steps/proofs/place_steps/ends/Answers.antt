use Rattle.std.proofs.Common.{ap, ◌∙◌}
use Rattle.circ_theory.specs.Goal.{Goal}
use Rattle.circ_place_steps.proofs.place_steps.ends.Goals as goal

pub returns-in-Some : goal.returns-in-Some
returns-in-Some c = λ x y same.
    c.ends_of_sides.ensures x y same (ap (λ (g : Goal). g.left) c.in-Some.ensures) (ap (λ (g : Goal). g.right) c.in-Some.ensures)

pub returns-in-None : goal.returns-in-None
returns-in-None c = λ x y same.
    c.ends_of_sides-in-None.ensures x y same (c.var-nothing.ensures ∙ ap (λ (g : Goal). g.left) c.in-None.ensures)
    (c.var-nothing.ensures ∙ ap (λ (g : Goal). g.right) c.in-None.ensures)
