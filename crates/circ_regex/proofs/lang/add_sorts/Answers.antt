use Rattle.std.proofs.Common.{codes, ap, ◌∙◌}
use Rattle.circ_theory.specs.Adding.{with_sort, with_var}
use Rattle.circ_regex.specs.Making.{with_lang_sorts}
use Rattle.circ_regex.proofs.lang.add_sorts.Goals as goal

pub returns : goal.returns
unfolding with_lang_sorts
returns c =
    let lang = c.in_ok-add_sort-2.ensures.added ∙ ap (λ th. with_sort th (codes "Lang")) c.in_ok-add_sort.ensures.added in
    let x = c.in_ok-add_var.ensures.added ∙ ap (λ th. with_var th (codes "X") 0) lang in
    let r = c.in_ok-add_var-2.ensures.added ∙ ap (λ th. with_var th (codes "R") 1) x in
    c.in_ok-add_var-3.ensures.added ∙ ap (λ th. with_var th (codes "S") 1) r
