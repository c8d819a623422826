use Rattle.std.proofs.Common.{◌∷◌, [], ap, ◌∙◌}
use Rattle.circ_theory.specs.Observing.{with_derivative, with_cases}
use Rattle.circ_regex.specs.Lang.{da_term, db_term, lang_var}
use Rattle.circ_regex.specs.Making.{with_lang_observers}
use Rattle.circ_regex.proofs.lang.add_observers.Goals as goal

pub returns : goal.returns
unfolding with_lang_observers
returns c =
    let two = c.in_ok-add_derivative-2.ensures ∙ ap (λ th. with_derivative th (da_term (lang_var 0))) c.in_ok-add_derivative.ensures in
    let three = c.in_ok-add_derivative-3.ensures ∙ ap (λ th. with_derivative th (db_term (lang_var 0))) two in
    c.in_ok-add_cases.ensures.added ∙ ap (λ cs. with_cases c.add_derivative-3.new.theory 0 cs) c.in_ok-vec.ensures.items ∙ ap (λ th. with_cases th 0 (0 ∷ 1 ∷ [])) three
