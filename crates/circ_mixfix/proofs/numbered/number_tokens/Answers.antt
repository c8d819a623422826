use Rattle.std.proofs.Common.{ℕ, ◌≤◌, length, sym, subst, arith}
use Rattle.circ_lexer.specs.TokenList.{tokens_in}
use Rattle.circ_mixfix.specs.Coding.{AllBelow}
use Rattle.circ_mixfix.proofs.TokenNumbers.{numbers_kept, few_numbers}
use Rattle.circ_mixfix.proofs.WordLists.{begin_kept}
use Rattle.circ_mixfix.proofs.numbered.number_tokens.Goals as goal

pub grammar-requires-clause-begin : goal.grammar-requires-clause-begin
grammar-requires-clause-begin c =
    begin_kept c.numbers.new.words c.numbers-2.new.words _ c.in_ok-right.ensures.grows (begin_kept c.add_first.new.words c.numbers.new.words _ c.in_ok-left.ensures.grows c.in_ok-add_first.ensures.begin)

pub returns-clause-numbered : goal.returns-clause-numbered
returns-clause-numbered c =
    let count = c.count-count.result in
    let ms = c.in_ok-left.left.items in
    let ns = c.in_ok-right.right.items in
    let ws = c.numbers.new.words in
    let old = c.numbers-2.new.words in
    let new = c.grammar.new.words in
    let m = c.in_ok-left.ensures in
    let n = c.in_ok-right.ensures in
    let g = c.in_ok-grammar.ensures in
    let left = tokens_in c.args.tokens.now c.args.left in
    let right = tokens_in c.args.tokens.now c.args.right in
    let P : ℕ → Type 0 = λ k. AllBelow k ms in
    let Q : ℕ → Type 0 = λ k. AllBelow k ns in
    let a = numbers_kept ws old _ ms left n.grows m.numbers in
    let left_texts = (numbers_kept old new count ms left g.grows a).texts in
    let right_texts = (numbers_kept old new count ns right g.grows n.numbers).texts in
    let few_left : length ms ≤ 256 = few_numbers new ms left left_texts 256 c.requires.few_left in
    let few_right : length ns ≤ 256 = few_numbers new ns right right_texts 256 c.requires.few_right in
    rw c.in_ok-new.ensures.ok (record {
      count = count;
      most = c.greater_count-most.result;
      begin = begin_kept old new count g.grows (begin_kept ws old _ n.grows (begin_kept c.add_first.new.words ws _ m.grows c.in_ok-add_first.ensures.begin));
      grammar = g.grammar;
      left = left_texts;
      left_below = subst P (sym c.count-count.ensures.count) a.below;
      right = right_texts;
      right_below = subst Q (sym c.count-count.ensures.count) n.numbers.below;
      left_few = (rw c.deref.ensures.value at c.greater_count-most.ensures.left) (omega (arith, few_left));
      right_few = (rw c.deref-2.ensures.value at c.greater_count-most.ensures.right) (omega (arith, few_right));
    })

pub returns-clause-words : goal.returns-clause-words
returns-clause-words c = rw c.in_ok-new.ensures.ok c.in_ok-grammar.ensures.words
