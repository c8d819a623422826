use Rattle.std.proofs.Common.{Bool, subst}
use Rattle.circ_lexer.specs.TokenList.{tokens_in}
use Rattle.circ_mixfix.specs.Coding.{IsGrammarOf}
use Rattle.circ_mixfix.specs.Variables.{vars_in}
use Rattle.circ_mixfix.proofs.Kept.{both_kept}
use Rattle.circ_mixfix.proofs.TokenNumbers.{few_numbers}
use Rattle.circ_mixfix.proofs.parse.read_both.Goals as goal

pub read_each_sort-requires-clause-few : goal.read_each_sort-requires-clause-few
read_each_sort-requires-clause-few c =
    let n = c.in_ok-both.ensures.numbered in
    rw (c.deref-3.ensures.value, c.deref-2.ensures) (few_numbers c.number_tokens.new.words c.in_ok-both.both.value.left.items _ n.left _ c.requires.few_left)

pub read_each_sort-requires-2-clause-few : goal.read_each_sort-requires-2-clause-few
read_each_sort-requires-2-clause-few c =
    let n = c.in_ok-both.ensures.numbered in
    rw (c.deref-6.ensures.value, c.deref-5.ensures) (few_numbers c.number_tokens.new.words c.in_ok-both.both.value.right.items _ n.right _ c.requires.few_right)

pub returns : goal.returns
returns c =
    let sig = c.args.scope.now.theory.now.signature in
    let vars = vars_in c.args.scope.now in
    let n = c.in_ok-both.ensures.numbered in
    let both = c.in_ok-both.both.value in
    let G : Bool → Type 0 = λ hole. IsGrammarOf sig vars hole c.number_tokens.new.words n.count n.most both.grammar in
    both_kept sig vars c.number_tokens.new.words n.count n.most both.grammar (subst G c.requires.hole n.grammar) both.left.items both.right.items
    (tokens_in c.args.tokens.now c.args.left) (tokens_in c.args.tokens.now c.args.right)
    c.in_ok-lefts.lefts.items c.in_ok-rights.rights.items c.in_ok-readings_of_both.field-0 n.left_below n.right_below n.left_few n.right_few n.left n.right
    (rw (c.deref.ensures, c.deref-3.ensures.value, c.deref-2.ensures) at c.in_ok-lefts.ensures) (rw (c.deref-4.ensures, c.deref-6.ensures.value, c.deref-5.ensures) at c.in_ok-rights.ensures)
    (rw (c.deref-7.ensures.value, c.deref-8.ensures.value) at c.in_ok-readings_of_both.ensures)
