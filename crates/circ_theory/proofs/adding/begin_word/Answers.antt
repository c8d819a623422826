use Rattle.std.proofs.Common.{◌≡◌, ◌∷◌, ◌++◌, [], nat_eq, ap, sym, ◌∙◌}
use Rattle.std.specs.Cmp.Lexicographic.{pointwise, bytes_decides}
use Rattle.std.specs.Option.{option_map_or, option_eq}
use Rattle.circ_theory.specs.Inside.{kept_with, kept_under, kept_under_both}
use Rattle.circ_theory.proofs.Noting.{kept-insert, with_more, more_if}
use Rattle.circ_theory.proofs.adding.begin_word.Goals as goal

pub returns-clause-noted : goal.returns-clause-noted
returns-clause-noted c =
    let es = c.args.by_word.now.entries in
    let k = c.args.word in
    let x = c.in_ok-overloads.overloads in
    let n = c.args.number in
    let none = c.requires in
    let is = c.in_ok-insert.ensures.entries in
    with_more es c.insert.new.self.entries k.items x c.args.sort n
    (λ w. ap (λ es. kept_under es w) is ∙ kept-insert (λ k. k.items) (pointwise nat_eq) bytes_decides (λ o. o.all.items) [] k x w es none)
    (λ s w. ap (λ es. kept_under_both es w s) is ∙ kept-insert (λ k. k.items) (pointwise nat_eq) bytes_decides (λ o. kept_with o s) [] k x w es none)
    (c.in_ok-overloads.ensures.all ∙ ap (λ o. option_map_or (λ v. v.all.items) o [] ++ n ∷ []) (sym none))
    (λ s. c.in_ok-overloads.ensures.by_sort s ∙ ap (λ o. more_if (option_eq nat_eq s c.args.sort) n (option_map_or (λ v. kept_with v s) o [])) (sym none))
