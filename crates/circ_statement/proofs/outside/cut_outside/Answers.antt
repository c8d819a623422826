use Rattle.std.proofs.Common.{◌≡◌, ◌==◌, ◌&&◌, ◌∷◌, [], ◌++◌, List, Some, false, sym, ap, ◌∙◌, arith}
use Rattle.std.proofs.lemmas.List.{append-nil}
use Rattle.circ_lexer.specs.TokenList.{tokens_in}
use Rattle.circ_statement.specs.Words.{Word}
use Rattle.circ_statement.specs.Outside.{cut_from, parts_at}
use Rattle.circ_statement.proofs.Spans.{rest_more, seen, seen_more, all_seen}
use Rattle.circ_statement.proofs.Conditions.{behind, passed, opened_few}
use Rattle.circ_statement.proofs.outside.cut_outside.Goals as goal

pub loop-first-preserved : goal.loop-first-preserved
loop-first-preserved c =
    let ts = c.args.tokens.now in
    let span = c.args.span in
    let at = c.args.word.now in
    let r = c.loop-first.invariant in
    let is = c.in-Some.ensures in
    let f = c.in-Some.first in
    let front = seen ts span c.loop-first.rest in
    record {
      is_rest = rest_more ts span c.loop-first.rest f r.is_rest is;
      same = r.same ∙ ap (λ ws. behind front (cut_from at c.loop-first.level ws)) is.words
          ∙ passed at front f.word.now (tokens_in ts f.rest) c.loop-first.level c.in-Some-opened.now (sym c.is_here.ensures ∙ c.if-is_here.false) (sym c.opened.ensures ∙ c.in-Some-opened.is)
          ∙ ap (λ ws. behind ws (cut_from at c.in-Some-opened.now (tokens_in ts f.rest))) (sym (seen_more ts span c.loop-first.rest f r.is_rest is));
      few = omega (arith, r.few, is.from, opened_few c.loop-first.level c.in-Some-opened.now f.word.now (sym c.opened.ensures ∙ c.in-Some-opened.is));
    }

pub returns : goal.returns
returns c =
    let ts = c.args.tokens.now in
    let r = c.loop-first.invariant in
    r.same ∙ ap (λ ws. behind (seen ts c.args.span c.loop-first.rest) (cut_from c.args.word.now c.loop-first.level ws)) c.in_default.ensures
    ∙ ap (λ ws. Some (ws ∷ [])) (append-nil (seen ts c.args.span c.loop-first.rest) ∙ sym (all_seen ts c.args.span c.loop-first.rest r.is_rest c.in_default.ensures))
