use Rattle.std.proofs.Common.{refl, get_or}
use Rattle.circ_grammar.specs.Grammar.{lines_of, given_lines}
use Rattle.circ_file.proofs.Written.{item_written, all_written, item_at}
use Rattle.circ_file.proofs.encoding.put_givens.Goals as goal

pub loop-left-preserved : goal.loop-left-preserved
loop-left-preserved c =
    let at = c.loop-left in
    let xs = c.args.conds.now in
    item_written (λ gs. lines_of given_lines gs) given_lines c.args.out.now.items xs at.left-index
    (λ x gs later. refl) at.out.items c.put_made_line.new.out.items (get_or xs at.left-index (0, 0)) c.loop-left-test.true
    (item_at xs at.left-index (0, 0) c.loop-left-test.true) at.invariant c.in_ok-put_made_line.ensures

pub returns : goal.returns
returns c =
    let at = c.loop-left in
    all_written (λ gs. lines_of given_lines gs) given_lines c.args.out.now.items c.args.conds.now at.left-index
    (λ later. refl) at.out.items c.loop-left-test.false at.invariant
