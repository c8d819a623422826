use Rattle.std.proofs.Common.{◌<◌, ℕ, List, length, take, slice_index_or, refl, subst}
use Rattle.std.specs.List.{AllByRecursion}
use Rattle.std.proofs.lemmas.List.{take_all}
use Rattle.circ_nodes.proofs.Numbers.{grows_self, grows_more}
use Rattle.circ_entering.specs.Lines.{HasOwnNumber}
use Rattle.circ_entering.proofs.Renumbering.{place_all, enters_none, enters_more, all_kept, own_next}
use Rattle.circ_entering.proofs.lines.LineNumbers.enter_all.Goals as goal

pub loop-line-init : goal.loop-line-init
loop-line-init c = record {
  grows = grows_self c.args.nodes.now;
  entered = enters_none c.args.table.now c.args.nodes.now c.args.self.now c.requires.numbers;
  own = tt;
}

pub enter-requires-clause-numbers : goal.enter-requires-clause-numbers
enter-requires-clause-numbers c = c.loop-line.invariant.entered.numbers

pub enter-requires-clause-in_table : goal.enter-requires-clause-in_table
enter-requires-clause-in_table c =
    place_all (λ n. n < length c.args.table.now) c.args.lines.now c.loop-line.line-index c.requires.in_table c.loop-line-test.true

pub returns-in_err-enter-clause-grows : goal.returns-in_err-enter-clause-grows
returns-in_err-enter-clause-grows c =
    grows_more c.args.nodes.now c.loop-line.nodes c.enter.new.nodes c.loop-line.invariant.grows c.enter.ensures.grows

pub loop-line-preserved : goal.loop-line-preserved
loop-line-preserved c =
    let at = c.loop-line in
    let table = c.args.table.now in
    let new = c.enter.new.nodes in
    let e = c.in_ok-enter.ensures in
    let lines = c.args.lines.now in
    let i = at.line-index in
    record {
      grows = grows_more c.args.nodes.now at.nodes new at.invariant.grows c.enter.ensures.grows;
      entered = enters_more table c.args.nodes.now at.nodes new c.args.self.now at.self c.enter.new.self at.invariant.entered e.entered;
      own =
          own_next new table c.enter.new.self.numbers.items lines i (slice_index_or lines i 0) c.loop-line-test.true refl
          (all_kept table at.nodes new at.self c.enter.new.self e.entered (take i lines) at.invariant.own) e.own;
    }

pub returns-clause-own : goal.returns-clause-own
returns-clause-own c =
    let at = c.loop-line in
    let P : List ℕ → Type 0 = AllByRecursion (HasOwnNumber at.nodes c.args.table.now at.self.numbers.items) in
    subst P (take_all at.line-index c.args.lines.now c.loop-line-test.false) at.invariant.own
