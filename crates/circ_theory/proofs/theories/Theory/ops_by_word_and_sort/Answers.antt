use Rattle.std.proofs.Common.{[], ap, ◌∙◌}
use Rattle.std.specs.Option.{option_map_or}
use Rattle.circ_theory.specs.Inside.{kept_with}
use Rattle.circ_theory.proofs.theories.Theory.ops_by_word_and_sort.Goals as goal

pub returns-in-Some : goal.returns-in-Some
returns-in-Some c =
    rw (← c.self.view_is)
    (c.of_sort.ensures ∙ ap (λ o. option_map_or (λ v. kept_with v c.args.first) o []) (rw c.deref.ensures at c.in-Some.ensures.value)
    ∙ c.self.invariant.by_both c.args.word.now c.args.first)

pub returns-in-None : goal.returns-in-None
returns-in-None c =
    rw (← c.self.view_is)
    (ap (λ o. option_map_or (λ v. kept_with v c.args.first) o []) (rw c.deref.ensures at c.in-None.ensures.value) ∙ c.self.invariant.by_both c.args.word.now c.args.first)
