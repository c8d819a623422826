use Rattle.std.proofs.Common.{◌≡◌, ◌++◌, ◌∷◌, [], ◌∙◌, length, take, ap, arith}
use Rattle.std.proofs.Math.Seq.{take-append_seam}
use Rattle.circ_table.specs.Lines.{plain}
use Rattle.circ_table.proofs.Keyed.{keys_long, rows_more, rows_same}
use Rattle.circ_table.proofs.Placing.{length_trees}
use Rattle.circ_table.proofs.open_table.OpenTable.push.Goals as goal

pub invariant_of-self-in-Err : goal.invariant_of-self-in-Err
invariant_of-self-in-Err c =
    let l = c.self.inside.lines in
    let keys = c.self.inside.chains in
    let key = c.key_of-key.result in
    let long = keys_long l keys c.self.invariant in
    let count : c.len-count.result ≡ length keys = omega (arith, c.len-count.ensures, ap length c.self.view_is, length_trees l.args.items [] 0 l.rows.items, long) in
    rows_same l keys c.self.invariant c.push-2.new.self c.truncate.new.self c.in-Err.ensures.err_rows c.in-Err.ensures.err_args
    (c.truncate.ensures ∙ ap (take c.len-count.result) c.in_ok-push.ensures.pushed ∙ ap (λ n. take n (keys ++ key ∷ [])) count ∙ take-append_seam keys (key ∷ []))

pub invariant_of-self-in_default : goal.invariant_of-self-in_default
invariant_of-self-in_default c =
    let l = c.self.inside.lines in
    rows_more l c.self.inside.chains c.self.invariant c.push-2.new.self c.push.new.self (plain c.args.root) c.key_of-key.result c.in_default.ensures.pushed
    (omega (arith, c.requires.room, ap length c.self.view_is, length_trees l.args.items [] 0 l.rows.items)) c.key_of-key.ensures c.in_ok-push.ensures.pushed
