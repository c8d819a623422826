use Rattle.std.proofs.Common.{map, sym, ap, ◌∙◌, arith}
use Rattle.circ_term.proofs.Within.{depth_at}
use Rattle.circ_replay.specs.Gathering.{gathered}
use Rattle.circ_replay.proofs.Gathering.{gathered_ground}
use Rattle.circ_uses.specs.Valuations.{variable_of}
use Rattle.circ_uses.specs.declared.valuation.Variable.{Variable}
use Rattle.circ_uses.proofs.Keeping.{inserted}
use Rattle.circ_uses.proofs.variables.+gather.Goals as goal

pub gather_all-gather-requires : goal.gather_all-gather-requires
gather_all-gather-requires t c =
    let below = depth_at c.args.terms.now c.loop-term.term-index c.term-item.result c.loop-term-test.true c.term-item.is in
    (omega arith, tt)

pub gather-returns-then-is_ground : goal.gather-returns-then-is_ground
gather-returns-then-is_ground t c =
    sym (gathered_ground c.args.term.now (map variable_of c.args.variables.now.keys) (sym c.is_ground.ensures ∙ c.if-is_ground.true))

pub gather-returns-in_ok-insert-in-Variable : goal.gather-returns-in_ok-insert-in-Variable
gather-returns-in_ok-insert-in-Variable t c =
    let k : Variable = record { number = c.in-Variable.number; sort = c.in-Variable.sort } in
    let ks = c.args.variables.now.keys in
    ap (map variable_of) c.in_ok-insert-in-Variable.ensures.keys ∙ inserted ks k ∙ ap (λ u. gathered u (map variable_of ks)) c.in-Variable.ensures.value
