use Rattle.std.proofs.Common.{◌≡◌, ◌≤◌, ◌<◌, if◌then◌else◌, Some, None, length, ap, arith}
use Rattle.std.proofs.lemmas.Bool.{lt-ltb}
use Rattle.circ_term.specs.Tree.{Var}
use Rattle.circ_proof.specs.Table.{term_limit}
use Rattle.circ_line.specs.Line.{Variable_line}
use Rattle.circ_proof_text.specs.TableText.{term_for}
use Rattle.circ_file.proofs.Entering.{is_over}
use Rattle.circ_file.proofs.table.add_variable.Goals as goal

pub returns-then-len-ge-MOST_TERMS : goal.returns-then-len-ge-MOST_TERMS
returns-then-len-ge-MOST_TERMS c =
    let sig = c.args.theory.now.signature in
    let table = c.args.rows.now in
    let n = c.args.number in
    let s = c.args.sort in
    let sort : s < length sig.sorts = omega (arith, c.if-sort-sort_count.false, c.sort_count.ensures.count) in
    let full : term_limit ≤ length table = omega (arith, c.if-len-ge-MOST_TERMS.true, c.len.ensures) in
    let term : term_for sig table (Variable_line n s) ≡ Some (Var n s) = ap (λ b. if b then Some (Var n s) else None) (lt-ltb s (length sig.sorts) sort) in
    is_over sig table table (Variable_line n s) (Var n s) term full
