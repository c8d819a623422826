use Rattle.std.proofs.Common.{[], ◌∷◌}
use Rattle.std.specs.Option.{option_or}
use Rattle.circ_lexer.specs.TokenList.{tokens_in}
use Rattle.circ_mixfix.specs.Answers.{first_long, long_count, ReadsBoth}
use Rattle.circ_mixfix.specs.Found.{AreTwosSorted, ArePairSorted, AreTwosInOrder, IsPairInOrder}
use Rattle.circ_mixfix.specs.Readings.{ReadsTwos}
use Rattle.circ_mixfix.proofs.Pairs.{gives_through, if_read, long_pair, read_pair, pair_read, pair_sorted, pair_in_order}
use Rattle.circ_mixfix.proofs.parse.parse_pair_declared.Goals as goal

pub returns-clause-reading : goal.returns-clause-reading
returns-clause-reading c =
    let sig = c.args.theory.now.signature in
    let vars = c.args.theory.now.variables in
    let l = tokens_in c.args.tokens.now c.args.left in
    let r = tokens_in c.args.tokens.now c.args.right in
    gives_through c.parse_list_declared.result (first_long (l ∷ r ∷ [])) (option_or (long_count l) (long_count r)) (ReadsTwos sig vars (l ∷ r ∷ [])) (ReadsBoth sig vars l r) (long_pair l r)
    (read_pair sig vars l r) (pair_read sig vars l r) c.parse_list_declared.ensures.reading

pub returns-clause-sorted : goal.returns-clause-sorted
returns-clause-sorted c =
    let sig = c.args.theory.now.signature in
    let vars = c.args.theory.now.variables in
    let l = tokens_in c.args.tokens.now c.args.left in
    let r = tokens_in c.args.tokens.now c.args.right in
    if_read c.parse_list_declared.result (first_long (l ∷ r ∷ [])) (ReadsTwos sig vars (l ∷ r ∷ [])) (AreTwosSorted sig) (ArePairSorted sig)
    (λ ts h s. pair_sorted sig vars l r ts (read_pair sig vars l r ts h) s) c.parse_list_declared.ensures.reading c.parse_list_declared.ensures.sorted

pub returns-clause-in_order : goal.returns-clause-in_order
returns-clause-in_order c =
    let sig = c.args.theory.now.signature in
    let vars = c.args.theory.now.variables in
    let l = tokens_in c.args.tokens.now c.args.left in
    let r = tokens_in c.args.tokens.now c.args.right in
    if_read c.parse_list_declared.result (first_long (l ∷ r ∷ [])) (ReadsTwos sig vars (l ∷ r ∷ [])) AreTwosInOrder IsPairInOrder
    (λ ts h s. pair_in_order sig vars l r ts (read_pair sig vars l r ts h) s) c.parse_list_declared.ensures.reading c.parse_list_declared.ensures.in_order
