use Rattle.std.proofs.Common.{◌≡◌, ◌∷◌, ◌++◌, [], nat_eq, ap, sym, ◌∙◌}
use Rattle.std.specs.Option.{option_map_or, option_eq}
use Rattle.circ_theory.specs.Inside.{kept_at}
use Rattle.circ_theory.proofs.Noting.{kept-insert, changed, sorts_decide}
use Rattle.circ_theory.proofs.overloads.begin_sort.Goals as goal

pub returns-clause-noted : goal.returns-clause-noted
returns-clause-noted c =
    let es = c.args.by_sort.now.entries in
    let x = c.in_ok-numbers.numbers in
    let n = c.args.number in
    let none = c.requires in
    changed (λ k. k) (option_eq nat_eq) sorts_decide (λ v. v.items) [] es c.insert.new.self.entries c.args.sort x.items (λ ns. ns ++ n ∷ [])
    (λ s. ap (λ es. kept_at es s) c.in_ok-insert.ensures.entries ∙ kept-insert (λ k. k) (option_eq nat_eq) sorts_decide (λ v. v.items) [] c.args.sort x s es none)
    (c.in_ok-numbers.ensures.items ∙ ap (λ o. option_map_or (λ v. v.items) o [] ++ n ∷ []) (sym none))
