use Rattle.std.proofs.Common.{map, ap, ◌∙◌, arith}
use Rattle.circ_term.proofs.Within.{depth_at}
use Rattle.circ_pairs.specs.declared.renumber.Occurring.{Occurring}
use Rattle.circ_pairs.specs.Variables.{seen_in}
use Rattle.circ_pairs.specs.Occurring.{variable_of}
use Rattle.circ_pairs.proofs.Gathering.{inserted}
use Rattle.circ_pairs.proofs.renumber.+gather.Goals as goal

pub gather_all-gather-requires : goal.gather_all-gather-requires
gather_all-gather-requires t c =
    let below = depth_at c.args.terms.now c.loop-term.term-index c.term-item.result c.loop-term-test.true c.term-item.is in
    (omega arith, tt)

pub gather-returns-in_ok-insert-in-Variable : goal.gather-returns-in_ok-insert-in-Variable
gather-returns-in_ok-insert-in-Variable t c =
    let k : Occurring = record { number = c.in-Variable.number; sort = c.in-Variable.sort } in
    let ks = c.args.variables.now.keys in
    ap (map variable_of) c.in_ok-insert-in-Variable.ensures.keys ∙ inserted ks k ∙ ap (λ u. seen_in u (map variable_of ks)) c.in-Variable.ensures.value
