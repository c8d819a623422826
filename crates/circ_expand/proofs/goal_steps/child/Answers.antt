use Rattle.std.proofs.Common.{◌≡◌, ◌<◌, ℕ, Option, map, length, take, nat_lt, if◌then◌else◌, Some, None, ap, sym, ◌∙◌, arith}
use Rattle.std.specs.List.{slice_get}
use Rattle.std.specs.Option.{option_map_or}
use Rattle.circ_expansion.specs.Followed.{Open}
use Rattle.circ_book.specs.Histories.{histories_of, history_at}
use Rattle.circ_tasks.specs.Tasks.{earlier_history, holes_before}
use Rattle.circ_expand.proofs.Earlier.{child_none, child_at, earlier_same}
use Rattle.circ_expansion.proofs.Numbers.{got, got_none}
use Rattle.circ_expand.proofs.goal_steps.child.Goals as goal

pub returns-then-derivative-derivative_count : goal.returns-then-derivative-derivative_count
returns-then-derivative-derivative_count c =
    let fr = c.args.frame.now in
    sym (child_none fr.theory.now.derivatives c.args.sort (histories_of (map (earlier_history fr c.args.number) c.args.children.now)) c.args.derivative
    (omega (arith, c.if-derivative-derivative_count.true, c.derivative_count.ensures.count)))

pub returns-in-Some : goal.returns-in-Some
returns-in-Some c =
    let fr = c.args.frame.now in
    let ds = fr.theory.now.derivatives in
    let H = history_at fr.table.now fr.book.now.nodes.items in
    let E = earlier_history fr c.args.number in
    let there = c.in-Some.ensures.lookup in
    let x = c.in-Some.child.now in
    let g = got c.args.children.now c.before-place.result x there.3.0 there.1 in
    let lt : c.args.derivative < length ds = omega (arith, c.if-derivative-derivative_count.false, c.derivative_count.ensures.count) in
    ap (λ o. option_map_or H o Open) c.earlier.ensures ∙ earlier_same fr.table.now fr.book.now.nodes.items c.args.number x c.requires
    ∙ sym (ap (λ o. option_map_or E o Open) g) ∙ ap (λ k. option_map_or E (slice_get c.args.children.now k) Open) c.before-place.ensures
    ∙ sym (child_at E ds c.args.sort c.args.children.now c.args.derivative lt)

pub returns-in-None : goal.returns-in-None
returns-in-None c =
    let fr = c.args.frame.now in
    let ds = fr.theory.now.derivatives in
    let E = earlier_history fr c.args.number in
    let lt : c.args.derivative < length ds = omega (arith, c.if-derivative-derivative_count.false, c.derivative_count.ensures.count) in
    sym (child_at E ds c.args.sort c.args.children.now c.args.derivative lt
    ∙ ap (λ k. option_map_or E (slice_get c.args.children.now k) Open) (sym c.before-place.ensures)
    ∙ ap (λ o. option_map_or E o Open) (got_none c.args.children.now c.before-place.result c.in-None.ensures.lookup.3))
