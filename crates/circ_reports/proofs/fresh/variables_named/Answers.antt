use Rattle.std.proofs.Common.{◌≡◌, List, ℕ, [], ◌++◌, drop, sym, ◌∙◌, ap, append-nil}
use Rattle.circ_reports.specs.Expand.{variables_named}
use Rattle.circ_reports.proofs.FreshNumbers.{no_numbers, no_length}
use Rattle.circ_reports.proofs.fresh.variables_named.Goals as goal

pub returns-in_default : goal.returns-in_default
returns-in_default c =
    let rest = drop c.loop-sort.sort-index c.args.sorts.now in
    let empty : c.loop-sort.left.now ≡ [] = no_length c.loop-sort.left.now c.in_default.ensures.cases in
    sym (append-nil c.loop-sort.made.items) ∙ ap (λ xs. c.loop-sort.made.items ++ xs) (sym (ap (λ ns. variables_named ns rest) empty ∙ no_numbers rest))
    ∙ c.loop-sort.invariant
