use Rattle.std.proofs.Common.{◌-◌, sym, ap, ◌∙◌, arith}
use Rattle.std.proofs.lemmas.Bool.Decides.{nat_tests}
use Rattle.circ_lexer.specs.TokenList.{tokens_of}
use Rattle.circ_read.proofs.Places.{end_first, end_closed, end_opened, end_last, count_left}
use Rattle.circ_read.proofs.text.is_end.Goals as goal

pub returns-then-not-has_word : goal.returns-then-not-has_word
returns-then-not-has_word c = (λ f. absurd (cc), λ e. let h = end_first (tokens_of c.args.tokens.now) c.args.at c.args.opened e in let k = sym c.if-not-has_word.ensures in absurd (cc))

pub returns-then-not-opened : goal.returns-then-not-opened
returns-then-not-opened c =
    let ws = tokens_of c.args.tokens.now in
    rw c.if-not-opened.true (
      λ f. end_closed ws c.args.at (sym c.if-not-has_word.ensures) (ap (λ n. n - c.args.at) (sym c.count.ensures.tokens) ∙ grind (arith, nat_tests)),
      λ e. let l = count_left ws c.args.at _ e in grind (arith, nat_tests),
    )

pub returns-then-rest-eq2 : goal.returns-then-rest-eq2
returns-then-rest-eq2 c =
    let ws = tokens_of c.args.tokens.now in
    rw c.if-not-opened.false (
      λ f. end_opened ws c.args.at (sym c.if-not-has_word.ensures) (ap (λ n. n - c.args.at) (sym c.count.ensures.tokens) ∙ c.if-rest-eq2.true) (sym c.has_word-then-rest-eq2.ensures ∙ f),
      λ e. c.has_word-then-rest-eq2.ensures ∙ end_last ws c.args.at e,
    )

pub returns-else-rest-eq2 : goal.returns-else-rest-eq2
returns-else-rest-eq2 c =
    let ws = tokens_of c.args.tokens.now in
    rw c.if-not-opened.false (λ f. absurd (grind (arith, nat_tests)), λ e. let l = count_left ws c.args.at _ e in absurd (grind (arith, nat_tests)))
