use Rattle.std.proofs.Common.{◌≡◌, ◌<◌, ◌+◌, get_or, arith}
use Rattle.std.proofs.lemmas.Bool.Decides.{nat_tests}
use Rattle.circ_spelling.specs.Limits.{opening}
use Rattle.circ_chart.proofs.Glancing.{nothing_read}
use Rattle.circ_chart.proofs.reader.Reader.is_out.Goals as goal

pub returns : goal.returns
returns c = λ e.
    let a = c.args in
    let r = a.self.now in
    let l : a.from + 1 < a.to = grind (arith, nat_tests) in
    let o : get_or r.tokens.now a.from 0 ≡ opening → ⊥ = grind (arith, nat_tests) in
    nothing_read r.grammar.now r.tokens.now a.wanted.below a.wanted.sort a.from a.to l o (c.spans_none.ensures e)
