use Rattle.std.proofs.Common.{sym, ◌∙◌, arith}
use Rattle.std.proofs.lemmas.Fmt.{decimal_injective}
use Rattle.circ_top.proofs.request.chain_of.Goals as goal

pub returns-then-number-lt-LEAST_STREAMS : goal.returns-then-number-lt-LEAST_STREAMS
returns-then-number-lt-LEAST_STREAMS c = λ n few most e.
    let number = c.in_ok-number.ensures in
    let same = decimal_injective c.in_ok-number.number n (omega (arith, number.1)) (omega (arith, most)) (sym number.0 ∙ e) in
    omega (arith, few, same, c.if-number-lt-LEAST_STREAMS.true)
