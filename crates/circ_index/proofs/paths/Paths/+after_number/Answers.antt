use Rattle.std.proofs.Common.{◌≡◌, ◌++◌, ◌∙◌, ap, sym, map, drop, arith, length, ℕ, ◌==◌, true}
use Rattle.std.proofs.lemmas.Bool.{eqb-true}
use Rattle.circ_term.specs.Tree.{trees_of}
use Rattle.circ_nodes.specs.Named.{tree_at}
use Rattle.circ_nodes.proofs.Building.{above_read, above_below, there_read}
use Rattle.circ_nodes.proofs.Located.{tree_named}
use Rattle.circ_nodes.proofs.Numbers.{all_below}
use Rattle.circ_index.proofs.Numbered.{application_at, after_application}
use Rattle.circ_index.proofs.Steps.{nothing_after}
use Rattle.circ_index.proofs.paths.Paths.+after_number.Goals as goal

empty : (n : ℕ) → (n == 0) ≡ true → n ≡ 0
empty n e = eqb-true n 0 e

pub after_number-after_numbers-requires : goal.after_number-after_numbers-requires
after_number-after_numbers-requires t c =
    let nodes = c.args.nodes.now in
    let app = c.in-Application in
    let shape = app.ensures.shape (tree_at nodes c.args.number) (tree_named nodes c.args.number c.requires) in
    (omega (arith, above_below app.args.now c.args.number app.ensures.before), all_below nodes app.args.now shape.0 shape.2)

pub after_number-returns-in_ok-extend_from_slice-in-Application : goal.after_number-returns-in_ok-extend_from_slice-in-Application
after_number-returns-in_ok-extend_from_slice-in-Application t c =
    let nodes = c.args.nodes.now in
    let app = c.in-Application in
    let shape = app.ensures.shape (tree_at nodes c.args.number) (tree_named nodes c.args.number c.requires) in
    after_application c.args.self.now.branches.keys c.args.from.now app.op app.sort (trees_of (map (tree_at nodes) app.args.now)) (tree_at nodes c.args.number)
    c.args.to.now.items c.stay.new.to.items c.go.new.to.items c.go-in-Application.new.to.items c.in_ok-ends-in-Application.ends.items c.extend_from_slice.new.self.items
    (application_at nodes c.args.number app.args.now app.op app.sort shape.0 shape.1 shape.2) c.in_ok-stay.ensures c.in_ok-go.ensures
    (rw c.new-inside.ensures.items at c.in_ok-go-in-Application.ensures) c.in_ok-ends-in-Application.ensures
    (c.in_ok-extend_from_slice-in-Application.ensures.ok ∙ ap (λ xs. c.go.new.to.items ++ xs) c.as_slice.ensures)

pub after_numbers-returns-then-is_empty : goal.after_numbers-returns-then-is_empty
after_numbers-returns-then-is_empty t c =
    nothing_after c.args.self.now.branches.keys c.loop-number.spots.items (trees_of (map (tree_at c.args.nodes.now) (drop c.loop-number.number-index c.args.numbers.now)))
    (empty (length c.loop-number.spots.items) (sym c.is_empty.ensures ∙ c.if-is_empty.true)) ∙ c.loop-number.invariant

pub after_numbers-after_number-requires : goal.after_numbers-after_number-requires
after_numbers-after_number-requires t c = (
  omega (arith, above_read c.args.numbers.now c.loop-number.number-index c.loop-number-test.true),
  there_read c.args.nodes.now c.args.numbers.now c.loop-number.number-index c.requires c.loop-number-test.true,
)
