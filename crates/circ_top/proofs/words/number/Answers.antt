use Rattle.std.proofs.Common.{◌≡◌, sym, ◌∙◌, arith, true, false}
use Rattle.circ_top.proofs.WordRows.{not_parsed, parsed_other}
use Rattle.circ_top.proofs.words.number.Goals as goal

pub returns-in_default : goal.returns-in_default
returns-in_default c = not_parsed c.args.text.now c.args.most c.in_default.field-0 c.parse.result c.ranges.most.fits c.parse.ensures.value.0 c.in_default.is

pub returns-then-number-most : goal.returns-then-number-most
returns-then-number-most c =
    parsed_other c.args.text.now c.args.most c.in-Ok.number c.parse.result c.ranges.most.fits c.parse.ensures.value.0 c.in-Ok.is
    (λ small _. omega (arith, small, c.if-number-most.true))

pub returns : goal.returns
returns c =
    parsed_other c.args.text.now c.args.most c.in-Ok.number c.parse.result c.ranges.most.fits c.parse.ensures.value.0 c.in-Ok.is
    (λ _ same. let never : false ≡ true = c.if-is_word.ensures.1 (same ∙ sym (c.as_bytes.ensures.value ∙ c.format.ensures.text)) in cc)
