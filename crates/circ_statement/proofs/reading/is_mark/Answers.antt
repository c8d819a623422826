use Rattle.std.proofs.Common.{◌≡◌, ◌<◌, [], arith}
use Rattle.std.proofs.lemmas.Bool.{eqb-true, eq-eqb}
use Rattle.circ_lexer.specs.TokenList.{tokens_in}
use Rattle.circ_statement.proofs.Spans.{some_tokens, no_tokens}
use Rattle.circ_statement.proofs.reading.is_mark.Goals as goal

pub returns : goal.returns
returns c =
    let ts = c.args.tokens.now in
    let rest = c.in-Some-after-2.rest in
    let last = c.in-Some-after-2.ensures in
    let end = last.1 in
    let more = c.in-Some-after.ensures.1 in
    let front = c.in-Some.ensures.1 in (
      λ h. let same : rest.from ≡ rest.to = eqb-true rest.from rest.to h in let none = no_tokens ts rest (omega arith) in cc,
      λ e. let none : tokens_in ts rest ≡ [] = cc in let full : rest.from < rest.to → ⊥ = λ l. some_tokens ts rest last.0 l none in eq-eqb rest.from rest.to (omega (arith, last.0.ahead, full)),
    )
