use Rattle.std.proofs.Common.{◌<◌, List, ℕ, length, ap, sym, subst, ◌∙◌}
use Rattle.std.specs.List.{AllByRecursion}
use Rattle.circ_entering.specs.Lines.{HaveNumbers, line_numbers}
use Rattle.circ_entering.proofs.Renumbering.{late_within, all_forgotten, same_forgotten}
use Rattle.circ_entering.proofs.lines.NamedLines.forget.Goals as goal

pub forget-requires : goal.forget-requires
forget-requires c =
    let l = c.args.self.now in
    let asked = c.as_slice.ensures.value ∙ ap (λ v. v.items) c.swap.ensures.x_after in
    let P : List ℕ → Type 0 = AllByRecursion (λ n. n < length (line_numbers l)) in
    subst P (sym asked) (late_within c.requires.0 l.table (line_numbers l) l.lines.late.items c.requires.1)

pub returns-clause-lines : goal.returns-clause-lines
returns-clause-lines c nodes h =
    let l = c.args.self.now in
    let f = c.forget.ensures in
    let asked = c.as_slice.ensures.value ∙ ap (λ v. v.items) c.swap.ensures.x_after in
    all_forgotten nodes l.table (line_numbers l) c.forget.new.self.numbers.items l.lines.late.items (λ e. f.none (asked ∙ e))
    (λ table k. f.numbers nodes table (let P : List ℕ → Type 0 = HaveNumbers nodes table (line_numbers l) in subst P (sym asked) k)) h

pub returns-clause-late : goal.returns-clause-late
returns-clause-late c = ap (λ v. v.items) c.forget.ensures.late ∙ c.clear.ensures.items

pub returns-clause-terms : goal.returns-clause-terms
returns-clause-terms c nodes h =
    let l = c.args.self.now in
    let asked = c.as_slice.ensures.value ∙ ap (λ v. v.items) c.swap.ensures.x_after in
    same_forgotten nodes l.table (line_numbers l) c.forget.new.self.numbers.items l.lines.late.items (λ e. c.forget.ensures.none (asked ∙ e)) h
