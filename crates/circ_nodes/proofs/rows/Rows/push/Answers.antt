use Rattle.std.proofs.Common.{◌≡◌, ◌+◌, ◌∙◌, ◌++◌, ◌∷◌, [], length, ap, arith, length-append}
use Rattle.circ_nodes.specs.Rows.{root_of, roots}
use Rattle.circ_nodes.proofs.Laying.{laid_push, roots_push}
use Rattle.circ_nodes.proofs.rows.Rows.push.Goals as goal

pub returns-clause-rows : goal.returns-clause-rows
returns-clause-rows c =
    let rows = c.args.self.now.rows.items in
    let args = c.args.self.now.args.items in
    let ns = c.args_in-args.result.now in
    let r = c.row_of.result in
    let end : r.end ≡ length args + length ns = omega (arith, c.row_of.ensures.end, c.len.ensures, c.args.self.now.args.ok.0) in
    let new_rows : c.push_reserved.new.self.items ≡ rows ++ r ∷ [] = c.push_reserved.ensures.items ∙ ap (λ xs. xs ++ r ∷ []) c.in_ok-reserve.ensures.items in
    let long = length-append args ns in
    rw (new_rows, c.in_ok-extend_from_slice.ensures.items)
    (laid_push 0 rows r (length args) (length (args ++ ns)) c.requires.rows (omega (arith, end, long)) (omega (arith, long)))

pub returns-clause-roots : goal.returns-clause-roots
returns-clause-roots c =
    let rows = c.args.self.now.rows.items in
    let args = c.args.self.now.args.items in
    let ns = c.args_in-args.result.now in
    let r = c.row_of.result in
    let end : r.end ≡ length args + length ns = omega (arith, c.row_of.ensures.end, c.len.ensures, c.args.self.now.args.ok.0) in
    let new_rows : c.push_reserved.new.self.items ≡ rows ++ r ∷ [] = c.push_reserved.ensures.items ∙ ap (λ xs. xs ++ r ∷ []) c.in_ok-reserve.ensures.items in
    let root = ap (root_of r) c.args_in-args.ensures ∙ c.row_of.ensures.root in
    rw (new_rows, c.in_ok-extend_from_slice.ensures.items)
    (roots_push args ns 0 rows r c.requires.rows end ∙ ap (λ p. roots c.args.self.now ++ p ∷ []) root)
