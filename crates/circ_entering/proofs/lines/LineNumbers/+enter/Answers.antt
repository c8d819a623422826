use Rattle.std.proofs.Common.{◌<◌, ◌∙◌, ℕ, List, length, map, take, slice_index_or, refl, sym, subst, arith}
use Rattle.std.specs.List.{AllByRecursion}
use Rattle.std.proofs.lemmas.List.{take_all}
use Rattle.circ_term.specs.Tree.{trees_of}
use Rattle.circ_theory.specs.Rewriting.{named}
use Rattle.circ_nodes.specs.Named.{AreNamed}
use Rattle.circ_nodes.proofs.Numbers.{grows_self, grows_more, all_below}
use Rattle.circ_entering.proofs.Renumbering.{place_all, line_there, own_read, enters_none, enters_more, put_own, put_enters, args_next, both_ok}
use Rattle.circ_entering.proofs.lines.LineNumbers.+enter.Goals as goal

pub is_entered-requires : goal.is_entered-requires
is_entered-requires m c = omega (arith, c.requires.in_table, c.requires.numbers.count)

pub returns-then-is_entered-clause-grows : goal.returns-then-is_entered-clause-grows
returns-then-is_entered-clause-grows m c = grows_self c.args.nodes.now

pub returns-then-is_entered-clause-entered : goal.returns-then-is_entered-clause-entered
returns-then-is_entered-clause-entered m c = enters_none c.args.table.now c.args.nodes.now c.args.self.now c.requires.numbers

pub returns-then-is_entered-clause-own : goal.returns-then-is_entered-clause-own
returns-then-is_entered-clause-own m c = c.is_entered.ensures.own c.args.nodes.now c.args.table.now c.requires.numbers c.if-is_entered.true

pub loop-arg-init : goal.loop-arg-init
loop-arg-init m c =
    let nodes = c.args.nodes.now in
    let table = c.args.table.now in
    let below = c.lines_below-below.result.now in
    let P : List ℕ → Type 0 = λ ns. AreNamed nodes ns (trees_of (map (named table) (take 0 below))) in
    record {
      grows = grows_self nodes;
      entered = enters_none table nodes c.args.self.now c.requires.numbers;
      named = subst P (sym c.new-args.ensures.items) tt;
    }

pub enter-requires : goal.enter-requires
enter-requires m c =
    let line = c.args.line in
    let before = subst (AllByRecursion (λ n. n < line)) (sym c.lines_below-below.ensures) c.line-root.ensures.before in
    let below = place_all (λ n. n < line) c.lines_below-below.result.now c.loop-arg.arg-index before c.loop-arg-test.true in
    (omega (arith, below, c.decreases), (c.loop-arg.invariant.entered.numbers, omega (arith, below, c.requires.in_table)))

pub index-requires : goal.index-requires
index-requires m c =
    let line = c.args.line in
    let before = subst (AllByRecursion (λ n. n < line)) (sym c.lines_below-below.ensures) c.line-root.ensures.before in
    let below = place_all (λ n. n < line) c.lines_below-below.result.now c.loop-arg.arg-index before c.loop-arg-test.true in
    omega (arith, below, c.requires.in_table, c.in_ok-enter.ensures.entered.numbers.count)

pub returns-in_err-enter-clause-grows : goal.returns-in_err-enter-clause-grows
returns-in_err-enter-clause-grows m c =
    grows_more c.args.nodes.now c.loop-arg.nodes c.enter.new.nodes c.loop-arg.invariant.grows c.enter.ensures.grows

pub returns-in_err-push-clause-grows : goal.returns-in_err-push-clause-grows
returns-in_err-push-clause-grows m c =
    grows_more c.args.nodes.now c.loop-arg.nodes c.enter.new.nodes c.loop-arg.invariant.grows c.enter.ensures.grows

pub loop-arg-preserved : goal.loop-arg-preserved
loop-arg-preserved m c =
    let at = c.loop-arg in
    let table = c.args.table.now in
    let new = c.enter.new.nodes in
    let below = c.lines_below-below.result.now in
    let i = at.arg-index in
    let n = slice_index_or below i 0 in
    let e = c.in_ok-enter.ensures in
    let ms = c.enter.new.self.numbers.items in
    let line = c.args.line in
    let before = subst (AllByRecursion (λ n. n < line)) (sym c.lines_below-below.ensures) c.line-root.ensures.before in
    let lower = place_all (λ n. n < line) below i before c.loop-arg-test.true in
    let there : n < length ms = omega (arith, lower, c.requires.in_table, e.entered.numbers.count) in
    record {
      grows = grows_more c.args.nodes.now at.nodes new at.invariant.grows c.enter.ensures.grows;
      entered = enters_more table c.args.nodes.now at.nodes new c.args.self.now at.self c.enter.new.self at.invariant.entered e.entered;
      named =
          args_next table at.nodes new at.args.items c.push.new.self.items below i n c.index.result.now c.enter.ensures.grows c.loop-arg-test.true refl
          (own_read new table ms n c.index.result.now there c.index.ensures e.own) c.in_ok-push.ensures.ok at.invariant.named;
    }

pub enter_line-requires : goal.enter_line-requires
enter_line-requires m c =
    let at = c.loop-arg in
    all_below at.nodes at.args.items (trees_of (map (named c.args.table.now) (take at.arg-index c.lines_below-below.result.now))) at.invariant.named

pub returns-in_err-number-clause-grows : goal.returns-in_err-number-clause-grows
returns-in_err-number-clause-grows m c =
    grows_more c.args.nodes.now c.loop-arg.nodes c.enter_line.new.nodes c.loop-arg.invariant.grows c.enter_line.ensures.grows

pub put-requires : goal.put-requires
put-requires m c = omega (arith, c.requires.in_table, c.loop-arg.invariant.entered.numbers.count)

pub returns-clause-grows : goal.returns-clause-grows
returns-clause-grows m c =
    grows_more c.args.nodes.now c.loop-arg.nodes c.enter_line.new.nodes c.loop-arg.invariant.grows c.enter_line.ensures.grows

pub returns-clause-own : goal.returns-clause-own
returns-clause-own m c =
    let at = c.loop-arg in
    let table = c.args.table.now in
    let line = c.args.line in
    let below = c.lines_below-below.result.now in
    let P : List ℕ → Type 0 = λ ks. AreNamed at.nodes at.args.items (trees_of (map (named table) ks)) in
    let are = subst P (take_all at.arg-index below c.loop-arg-test.false ∙ c.lines_below-below.ensures) at.invariant.named in
    let is = c.line-root.ensures.line (named table line) (line_there table line c.requires.in_table) in
    let own = c.in_ok-number.ensures.named table (named table line) is are in
    let apart = c.is_entered.ensures.other c.if-is_entered.false in
    both_ok c.put.result
    (λ put late. put_own table at.nodes c.enter_line.new.nodes at.self c.put.new.self line c.in_ok-number.number c.enter_line.ensures.grows
    at.invariant.entered.numbers apart c.requires.in_table own put late)
    c.put.ensures.numbers c.put.ensures.late

pub returns-clause-entered : goal.returns-clause-entered
returns-clause-entered m c =
    let at = c.loop-arg in
    let table = c.args.table.now in
    let line = c.args.line in
    let below = c.lines_below-below.result.now in
    let P : List ℕ → Type 0 = λ ks. AreNamed at.nodes at.args.items (trees_of (map (named table) ks)) in
    let are = subst P (take_all at.arg-index below c.loop-arg-test.false ∙ c.lines_below-below.ensures) at.invariant.named in
    let is = c.line-root.ensures.line (named table line) (line_there table line c.requires.in_table) in
    let own = c.in_ok-number.ensures.named table (named table line) is are in
    let apart = c.is_entered.ensures.other c.if-is_entered.false in
    both_ok c.put.result
    (λ put late. enters_more table c.args.nodes.now at.nodes c.enter_line.new.nodes c.args.self.now at.self c.put.new.self at.invariant.entered
    (put_enters table at.nodes c.enter_line.new.nodes at.self c.put.new.self line c.in_ok-number.number c.enter_line.ensures.grows
    at.invariant.entered.numbers apart c.requires.in_table own put late))
    c.put.ensures.numbers c.put.ensures.late
