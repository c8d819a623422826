use Rattle.std.proofs.Common.{◌∙◌, ℕ, [], ◌∷◌, ap}
use Rattle.circ_proof.specs.Table.{number_in}
use Rattle.circ_numbering.proofs.Requests.{first_fails, later_too}
use Rattle.circ_numbering.proofs.blocks.pair.Goals as goal

pub returns-in-Err : goal.returns-in-Err
returns-in-Err c =
    let g = c.args.recorded.now in
    first_fails c.args.table.now (g.left ∷ []) (g.right ∷ []) c.in-Err.fault c.in-Err.ensures

pub returns-in-Ok-number : goal.returns-in-Ok-number
returns-in-Ok-number c =
    let g = c.args.recorded.now in
    let pair : ℕ → ℕ → ℕ × ℕ = λ a b. (a, b) in (
      rw c.in-Ok.ensures.0 at c.in-Ok-number.ensures.0,
      λ table a.
          ap (λ x. pair x c.in-Ok-number.right)
          (c.in-Ok.ensures.1 table (later_too c.number.new.table c.number-2.new.table (g.right ∷ []) table c.in-Ok-number.ensures.0 a))
          ∙ ap (pair (number_in table g.left)) (c.in-Ok-number.ensures.1 table a),
    )
