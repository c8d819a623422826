use Rattle.std.proofs.Common.{[], ap, ◌∙◌}
use Rattle.std.specs.Option.{option_map_or}
use Rattle.circ_theory.proofs.theories.Theory.ops_by_word.Goals as goal

pub returns-in-Some : goal.returns-in-Some
returns-in-Some c =
    rw (← c.self.view_is)
    (c.all.ensures ∙ ap (λ o. option_map_or (λ v. v.all.items) o []) (rw c.deref.ensures at c.in-Some.ensures.value) ∙ c.self.invariant.by_word c.args.word.now)

pub returns-in-None : goal.returns-in-None
returns-in-None c =
    rw (← c.self.view_is) (ap (λ o. option_map_or (λ v. v.all.items) o []) (rw c.deref.ensures at c.in-None.ensures.value) ∙ c.self.invariant.by_word c.args.word.now)
