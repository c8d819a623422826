use Rattle.std.proofs.Common.{◌∙◌, ℕ, List, [], ◌∷◌, map, ap}
use Rattle.std.specs.Prelude.{flat_map}
use Rattle.circ_proof.specs.Proof.{GoalNames}
use Rattle.circ_proof.specs.Table.{number_in}
use Rattle.circ_plain_search.specs.Numbering.{side_terms, pair_name}
use Rattle.circ_numbering.proofs.Requests.{first_fails, second_fails, both_asked, later_too}
use Rattle.circ_numbering.proofs.blocks.name.Goals as goal

pub returns-in-Err : goal.returns-in-Err
returns-in-Err c =
    let g = c.args.goal.now in
    first_fails c.args.table.now (g.left ∷ []) (g.right ∷ flat_map side_terms g.conds) c.in-Err.fault c.in-Err.ensures

pub returns-in-Err-number : goal.returns-in-Err-number
returns-in-Err-number c =
    let g = c.args.goal.now in
    second_fails c.args.table.now c.number.new.table (g.left ∷ []) (g.right ∷ flat_map side_terms g.conds) c.in-Err-number.fault c.in-Ok.ensures.0
    (first_fails c.number.new.table (g.right ∷ []) (flat_map side_terms g.conds) c.in-Err-number.fault c.in-Err-number.ensures)

pub returns-in-Err-pairs : goal.returns-in-Err-pairs
returns-in-Err-pairs c =
    let g = c.args.goal.now in
    second_fails c.args.table.now c.number.new.table (g.left ∷ []) (g.right ∷ flat_map side_terms g.conds) c.in-Err-pairs.fault c.in-Ok.ensures.0
    (second_fails c.number.new.table c.number-2.new.table (g.right ∷ []) (flat_map side_terms g.conds) c.in-Err-pairs.fault c.in-Ok-number.ensures.0
    (rw c.as_slice.ensures at c.in-Err-pairs.ensures))

pub returns-in-Ok-pairs : goal.returns-in-Ok-pairs
returns-in-Ok-pairs c =
    let g = c.args.goal.now in
    let conds = rw c.as_slice.ensures at c.in-Ok-pairs.ensures in
    let cs = flat_map side_terms g.conds in
    let N : List (ℕ × ℕ) → ℕ → ℕ → GoalNames = λ e a b. record { conds = e; left = a; right = b } in (
      both_asked c.args.table.now c.number.new.table c.pairs.new.table (g.left ∷ []) (g.right ∷ cs) c.in-Ok.ensures.0
          (both_asked c.number.new.table c.number-2.new.table c.pairs.new.table (g.right ∷ []) cs c.in-Ok-number.ensures.0 conds.0),
      λ table a.
          let b = later_too c.number-2.new.table c.pairs.new.table cs table conds.0 a in
          let d = later_too c.number.new.table c.number-2.new.table (g.right ∷ []) table c.in-Ok-number.ensures.0 b in
          ap (λ e. N e c.in-Ok.left c.in-Ok-number.right) (conds.1 table a)
          ∙ ap (λ x. N (map (pair_name table) g.conds) x c.in-Ok-number.right) (c.in-Ok.ensures.1 table d)
          ∙ ap (N (map (pair_name table) g.conds) (number_in table g.left)) (c.in-Ok-number.ensures.1 table b),
    )
