use Rattle.std.proofs.Common.{◌<◌, List, ℕ, sym, subst, arith}
use Rattle.std.specs.List.{AllByRecursion}
use Rattle.circ_nodes.proofs.Numbers.{grows_self, grows_more}
use Rattle.circ_nodes.proofs.Places.{get_there}
use Rattle.circ_table.specs.Line.{numbers_in}
use Rattle.circ_steps.proofs.Lines.{AreLines, lines_none, lines_counted, lines_next, lines_all}
use Rattle.circ_steps.proofs.tables.table_numbers.Goals as goal

pub loop-number-init : goal.loop-number-init
loop-number-init c =
    let table = c.args.table.now in
    let nodes = c.args.nodes.now in
    let P : List ℕ → Type 0 = AreLines table nodes 0 in
    record { grows = grows_self nodes; lines = subst P (sym c.in_ok-numbers.ensures.items) (lines_none table nodes) }

pub enter_line-requires-clause-there : goal.enter_line-requires-clause-there
enter_line-requires-clause-there c = rw c.as_slice.ensures.value c.loop-number.invariant.lines.there

pub enter_line-requires-clause-before : goal.enter_line-requires-clause-before
enter_line-requires-clause-before c =
    let P : ℕ → Type 0 = λ k. AllByRecursion (λ n. n < k) (numbers_in c.line-line.result) in
    rw c.as_slice.ensures.value (subst P (sym c.loop-number.invariant.lines.count) c.line-line.ensures.before)

pub returns-in_err-term-clause-grows : goal.returns-in_err-term-clause-grows
returns-in_err-term-clause-grows c =
    grows_more c.args.nodes.now c.loop-number.nodes c.enter_line.new.nodes c.loop-number.invariant.grows c.enter_line.ensures.grows

pub returns-in_err-push-clause-grows : goal.returns-in_err-push-clause-grows
returns-in_err-push-clause-grows c =
    grows_more c.args.nodes.now c.loop-number.nodes c.enter_line.new.nodes c.loop-number.invariant.grows c.in_ok-term.ensures.grows

pub loop-number-preserved : goal.loop-number-preserved
loop-number-preserved c =
    let table = c.args.table.now in
    let at = c.loop-number in
    let i = at.number in
    let ns = at.numbers.items in
    let g = c.in_ok-term.ensures.grows in
    let found = get_there table i (omega (arith, c.loop-number-test.true, c.len-count.ensures)) in
    let line = c.line-line.ensures.line found.0 found.1 in
    let counted = lines_counted table at.nodes i ns at.invariant.lines in
    let named = c.in_ok-term.ensures.named table found.0 (rw c.as_slice.ensures.value counted) line in
    record {
      grows = grows_more c.args.nodes.now at.nodes c.enter_line.new.nodes at.invariant.grows g;
      lines = lines_next table at.nodes c.enter_line.new.nodes g i c.in_ok-term.term found.0 ns c.push.new.self.items found.1 named c.in_ok-push.ensures.items at.invariant.lines;
    }

pub returns-clause-grows : goal.returns-clause-grows
returns-clause-grows c = c.loop-number.invariant.grows

pub returns-clause-there : goal.returns-clause-there
returns-clause-there c = c.loop-number.invariant.lines.there

pub returns-clause-exact : goal.returns-clause-exact
returns-clause-exact c =
    let at = c.loop-number in
    lines_all c.args.table.now at.nodes at.number at.numbers.items (omega (arith, c.loop-number-test.false, c.len-count.ensures)) at.invariant.lines
