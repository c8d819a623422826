use Rattle.std.proofs.Common.{◌+◌, drop, map, sym, ◌∙◌}
use Rattle.circ_term.proofs.Within.{drop_read}
use Rattle.circ_pairs.specs.Pairs.{plain_pair}
use Rattle.circ_theory.proofs.Conditions.{first_hidden}
use Rattle.circ_theory.proofs.theories.Theory.hidden_condition.Goals as goal

pub returns-then-is_hidden : goal.returns-then-is_hidden
returns-then-is_hidden c =
    let p = c.pair-item.result in
    let i = c.loop-pair.pair-index in
    let read = drop_read c.args.conds.now i p c.loop-pair-test.true c.pair-item.is in
    first_hidden c.args.self.now (plain_pair p) (map plain_pair (drop (i + 1) c.args.conds.now)) c.sort-sort.result c.sort-sort.ensures (sym c.is_hidden.ensures.exact ∙ c.if-is_hidden.true)
    ∙ (rw read at c.loop-pair.invariant)
