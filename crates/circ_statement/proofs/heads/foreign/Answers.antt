use Rattle.std.proofs.Common.{length, ◌++◌, sym, ap, ◌∙◌, subst, List}
use Rattle.circ_lexer.specs.TokenList.{tokens_in}
use Rattle.circ_statement.specs.Words.{Word}
use Rattle.circ_statement.specs.Heads.{follows_prec}
use Rattle.circ_statement.proofs.Spans.{seen, whole, rest_more, seen_more, all_seen}
use Rattle.circ_statement.proofs.Foreign.{NoneBelow, none_more, flag_more, none_first}
use Rattle.circ_statement.proofs.heads.foreign.Goals as goal

pub loop-first-preserved : goal.loop-first-preserved
loop-first-preserved c =
    let ts = c.args.tokens.now in
    let r = c.loop-first.invariant in
    let is = c.in-Some.ensures in
    let a = seen ts c.args.inside c.loop-first.rest in
    let more = seen_more ts c.args.inside c.loop-first.rest c.in-Some.first r.is_rest is in
    let words = whole ts c.args.inside c.loop-first.rest r.is_rest ∙ ap (λ xs. a ++ xs) is.words in
    record {
      is_rest = rest_more ts c.args.inside c.loop-first.rest c.in-Some.first r.is_rest is;
      flag = c.is_word-is_number.ensures ∙ sym (flag_more (tokens_in ts c.args.inside) a (tokens_in ts c.in-Some.first.rest) c.in-Some.first.word.now words)
          ∙ ap (λ xs. follows_prec (tokens_in ts c.args.inside) (length xs)) (sym more);
      none = subst (λ (xs : List Word). NoneBelow (tokens_in ts c.args.inside) (length xs)) (sym more)
          (none_more (tokens_in ts c.args.inside) a (tokens_in ts c.in-Some.first.rest) c.in-Some.first.word.now words c.loop-first.is_number r.flag (sym c.is_allowed.ensures ∙ c.if-not-is_allowed.false) r.none);
    }

pub returns : goal.returns
returns c =
    let ts = c.args.tokens.now in
    let r = c.loop-first.invariant in
    none_first (tokens_in ts c.args.inside)
    (subst (λ (xs : List Word). NoneBelow (tokens_in ts c.args.inside) (length xs)) (sym (all_seen ts c.args.inside c.loop-first.rest r.is_rest c.in_default.ensures)) r.none)
