use Rattle.std.proofs.Common.{Bool, subst, arith}
use Rattle.circ_lexer.specs.TokenList.{tokens_of, tokens_in}
use Rattle.circ_mixfix.specs.Found.{KeepsReadings, OneRead}
use Rattle.circ_mixfix.specs.Variables.{vars_in}
use Rattle.circ_mixfix.proofs.Kept.{one_kept}
use Rattle.circ_mixfix.proofs.Parameters.{all_with_parameters}
use Rattle.circ_mixfix.proofs.TokenNumbers.{range_length, few_numbers}
use Rattle.circ_mixfix.proofs.parse.read_one.Goals as goal

pub number_tokens-requires-clause-few_right : goal.number_tokens-requires-clause-few_right
number_tokens-requires-clause-few_right c =
    let n = range_length (tokens_of c.args.tokens.now) c.args.span.to c.args.span.to c.requires.span.within in omega arith

pub read_each_sort-requires-clause-few : goal.read_each_sort-requires-clause-few
read_each_sort-requires-clause-few c =
    let n = c.in_ok-both.ensures.numbered in
    rw (c.deref-3.ensures.value, c.deref-2.ensures) (few_numbers c.number_tokens.new.words c.in_ok-both.both.value.left.items _ n.left _ c.requires.few)

pub returns-clause-reading : goal.returns-clause-reading
returns-clause-reading c =
    let n = c.in_ok-both.ensures.numbered in
    let both = c.in_ok-both.both.value in
    one_kept c.args.scope.now.theory.now.signature (vars_in c.args.scope.now) c.args.scope.now.hole c.number_tokens.new.words n.count n.most both.grammar n.grammar n.begin both.left.items
    (tokens_in c.args.tokens.now c.args.span) c.in_ok-terms.terms.items c.in_ok-readings_of_one.field-0 n.left_below n.left_few n.left
    (rw (c.deref.ensures, c.deref-3.ensures.value, c.deref-2.ensures) at c.in_ok-terms.ensures) (rw c.deref-4.ensures.value at c.in_ok-readings_of_one.ensures)

pub returns-clause-parameters : goal.returns-clause-parameters
returns-clause-parameters c = λ h.
    let found = c.in_ok-readings_of_one.field-0 in
    let terms = c.in_ok-terms.terms.items in
    let P : Bool → Type 0 = λ hole. KeepsReadings found (OneRead hole terms) in
    all_with_parameters found terms (subst P h (rw c.deref-4.ensures.value at c.in_ok-readings_of_one.ensures))
