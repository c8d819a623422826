use Rattle.std.proofs.Common.{◌<◌, List, ℕ, length, map, ap, sym, subst, ◌∙◌}
use Rattle.std.specs.List.{AllByRecursion}
use Rattle.circ_nodes.specs.Named.{tree_at}
use Rattle.circ_entering.proofs.lines.NamedLines.empty.Goals as goal

pub returns-clause-lines : goal.returns-clause-lines
returns-clause-lines c nodes =
    let P : List ℕ → Type 0 = AllByRecursion (λ n. n < length nodes) in
    c.of_numbers.ensures.lines nodes (subst P (sym c.new.ensures.items) tt)

pub returns-clause-stay : goal.returns-clause-stay
returns-clause-stay c nodes =
    let P : List ℕ → Type 0 = AllByRecursion (λ n. n < length nodes) in
    c.of_numbers.ensures.stay nodes (subst P (sym c.new.ensures.items) tt)

pub returns-clause-terms : goal.returns-clause-terms
returns-clause-terms c nodes = c.of_numbers.ensures.terms nodes ∙ ap (map (tree_at nodes)) c.new.ensures.items
