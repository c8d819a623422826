use Rattle.std.proofs.Common.{List, ◌∷◌, [], ◌++◌, ap, ◌∙◌, sym, subst, map}
use Rattle.std.proofs.lemmas.List.{map-append}
use Rattle.circ_lexer.specs.TokenList.{tokens_in}
use Rattle.circ_statement.specs.Words.{Word}
use Rattle.circ_statement.specs.Attributes.{Spelled, AreSpelled}
use Rattle.circ_statement.specs.Said.{spelled_of}
use Rattle.circ_statement.proofs.Spans.{seen, whole, rest_more, seen_more, all_seen}
use Rattle.circ_statement.proofs.Spelt.{spelled_more, one_unspelled}
use Rattle.circ_statement.proofs.spellings.spellings.Goals as goal

pub loop-first-preserved : goal.loop-first-preserved
loop-first-preserved c =
    let ts = c.args.tokens.now in
    let r = c.loop-first.invariant in
    let xs = seen ts c.args.front c.loop-first.rest in
    let w = c.in-Some.first.word.now in
    let items = ap (map spelled_of) c.in_ok-push-in-Ok.ensures.items ∙ map-append spelled_of c.loop-first.forms.items (c.in-Ok.form ∷ []) in
    let all = spelled_more c.args.given xs (map spelled_of c.loop-first.forms.items) w (spelled_of c.in-Ok.form) r.spelled c.in-Ok.ensures in
    record {
      is_rest = rest_more ts c.args.front c.loop-first.rest c.in-Some.first r.is_rest c.in-Some.ensures;
      spelled = subst (λ (l : List Word). AreSpelled c.args.given l (map spelled_of c.push.new.self.items)) (sym (seen_more ts c.args.front c.loop-first.rest c.in-Some.first r.is_rest c.in-Some.ensures))
          (subst (λ (l : List Spelled). AreSpelled c.args.given (xs ++ w ∷ []) l) (sym items) all);
    }

pub returns-in-Err : goal.returns-in-Err
returns-in-Err c =
    let ts = c.args.tokens.now in
    let is = c.in-Some.ensures in
    let xs = seen ts c.args.front c.loop-first.rest in
    one_unspelled c.args.given (tokens_in ts c.args.front) xs (tokens_in ts c.in-Some.first.rest) c.in-Some.first.word.now c.in-Err.fault
    (whole ts c.args.front c.loop-first.rest c.loop-first.invariant.is_rest ∙ ap (λ l. xs ++ l) is.words) c.in-Err.ensures

pub returns : goal.returns
returns c =
    let r = c.loop-first.invariant in
    subst (λ (l : List Word). AreSpelled c.args.given l (map spelled_of c.loop-first.forms.items))
    (sym (all_seen c.args.tokens.now c.args.front c.loop-first.rest r.is_rest c.in_default.ensures)) r.spelled
