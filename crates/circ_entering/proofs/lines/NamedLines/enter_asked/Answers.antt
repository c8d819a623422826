use Rattle.std.proofs.Common.{ℕ, ◌<◌, [], subst}
use Rattle.std.specs.List.{AllByRecursion}
use Rattle.circ_nodes.proofs.Numbers.{grows_self}
use Rattle.circ_entering.specs.Lines.{line_numbers}
use Rattle.circ_entering.proofs.Renumbering.{of_table, none_named, none_enters, enters_lines, lines_named, ok_to, both_ok}
use Rattle.circ_entering.proofs.lines.NamedLines.enter_asked.Goals as goal

pub returns-in_default-clause-grows : goal.returns-in_default-clause-grows
returns-in_default-clause-grows c = grows_self c.args.nodes.now

pub returns-in_default-clause-entered : goal.returns-in_default-clause-entered
returns-in_default-clause-entered c = none_enters c.args.nodes.now c.args.self.now c.requires.lines

pub returns-in_default-clause-named : goal.returns-in_default-clause-named
returns-in_default-clause-named c = none_named c.args.nodes.now c.args.self.now c.in_default.is c.args.self.now.asked.items

pub enter_all-requires-clause-numbers : goal.enter_all-requires-clause-numbers
enter_all-requires-clause-numbers c =
    let l = c.args.self.now in
    of_table c.args.nodes.now l.table c.in-Some.table (line_numbers l) [] c.in-Some.is c.requires.lines

pub enter_all-requires-clause-in_table : goal.enter_all-requires-clause-in_table
enter_all-requires-clause-in_table c =
    let l = c.args.self.now in
    let h = of_table c.args.nodes.now l.table c.in-Some.table (line_numbers l) [] c.in-Some.is c.requires.lines in
    let P : ℕ → Type 0 = λ k. AllByRecursion (λ n. n < k) l.asked.items in
    rw c.as_slice.ensures.value (subst P h.count c.requires.in_table)

pub returns-clause-entered : goal.returns-clause-entered
returns-clause-entered c =
    ok_to c.enter_all.result
    (λ e. enters_lines c.in-Some.table c.args.nodes.now c.enter_all.new.nodes c.args.self.now c.in-Some.is c.enter_all.new.self e)
    c.enter_all.ensures.entered

pub returns-clause-named : goal.returns-clause-named
returns-clause-named c =
    let l = c.args.self.now in
    let h = of_table c.args.nodes.now l.table c.in-Some.table (line_numbers l) [] c.in-Some.is c.requires.lines in
    let P : ℕ → Type 0 = λ k. AllByRecursion (λ n. n < k) l.asked.items in
    both_ok c.enter_all.result
    (λ e own. lines_named c.in-Some.table c.args.nodes.now c.enter_all.new.nodes l c.in-Some.is c.enter_all.new.self e l.asked.items
    (subst P h.count c.requires.in_table) (rw c.as_slice.ensures.value at own))
    c.enter_all.ensures.entered c.enter_all.ensures.own
