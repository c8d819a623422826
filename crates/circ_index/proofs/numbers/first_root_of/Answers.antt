use Rattle.std.proofs.Common.{length, ◌∙◌, ◌==◌, ◌≡◌, ◌<◌, ℕ, false, sym, arith}
use Rattle.circ_nodes.specs.Named.{tree_at}
use Rattle.circ_nodes.proofs.Located.{tree_named}
use Rattle.circ_index.proofs.Numbered.{first_root_at}
use Rattle.circ_index.proofs.numbers.first_root_of.Goals as goal

some : (n : ℕ) → (n == 0) ≡ false → 0 < n
some n e = grind (arith)

pub returns-else-is_empty : goal.returns-else-is_empty
returns-else-is_empty c =
    let nodes = c.args.nodes.now in
    let app = c.in-Application in
    let shape = app.ensures.shape (tree_at nodes c.args.number) (tree_named nodes c.args.number c.requires) in
    c.root_of.ensures
    ∙ first_root_at nodes c.args.number app.args.now app.op app.sort shape.0 shape.1 shape.2 (some (length app.args.now) (sym c.is_empty.ensures ∙ c.if-is_empty.false))
