use Rattle.std.proofs.Common.{◌<◌, sym, ◌∙◌, refl, arith}
use Rattle.circ_script.proofs.Places.{another_first, rest_after}
use Rattle.circ_script.proofs.spans.after.Goals as goal

pub returns-then-not-has_word : goal.returns-then-not-has_word
returns-then-not-has_word c =
    let some : c.args.span.from < c.args.span.to = omega (arith, c.requires.ahead, c.if-span.false) in
    another_first c.args.tokens.now c.args.span c.args.word.now c.requires some (sym c.has_word.ensures ∙ c.if-not-has_word.true)

pub returns : goal.returns
returns c =
    let some : c.args.span.from < c.args.span.to = omega (arith, c.requires.ahead, c.if-span.false) in
    rest_after c.args.tokens.now c.args.span c.args.word.now c.requires some _ refl refl (sym c.has_word.ensures ∙ c.if-not-has_word.false)
