use Rattle.std.proofs.Common.{sym}
use Rattle.circ_lexer.specs.TokenList.{tokens_in}
use Rattle.circ_statement.proofs.Spans.{some_tokens, no_tokens}
use Rattle.circ_statement.proofs.Adding.{unread, refused, more_added, less_added, added_none}
use Rattle.circ_statement.proofs.attributes.added.Goals as goal

pub returns-in_default : goal.returns-in_default
returns-in_default c = λ b h.
    let r = c.loop-rest.invariant in
    let ws = tokens_in c.args.tokens.now c.loop-rest.rest in
    unread c.loop-rest.given ws (some_tokens c.args.tokens.now c.loop-rest.rest r.within c.loop-rest-test.true) c.in_default.ensures b (r.only b h)

pub returns-in_default-with_attribute : goal.returns-in_default-with_attribute
returns-in_default-with_attribute c = λ b h.
    let r = c.loop-rest.invariant in
    let ts = c.args.tokens.now in
    let some = some_tokens ts c.loop-rest.rest r.within c.loop-rest-test.true in
    refused c.loop-rest.given (tokens_in ts c.loop-rest.rest) c.in-Some.attribute (tokens_in ts c.in-Some.after) some c.in-Some.ensures.3 (sym c.in_default-with_attribute.ensures) b (r.only b h)

pub loop-rest-preserved : goal.loop-rest-preserved
loop-rest-preserved c =
    let r = c.loop-rest.invariant in
    let ts = c.args.tokens.now in
    let some = some_tokens ts c.loop-rest.rest r.within c.loop-rest-test.true in
    let read = c.in-Some.ensures.3 in
    let with = sym c.in-Some-with_attribute.ensures in
    record {
      within = c.in-Some.ensures.0;
      sound = λ b h. r.sound b (more_added c.loop-rest.given (tokens_in ts c.loop-rest.rest) c.in-Some.attribute (tokens_in ts c.in-Some.after) some read c.in-Some-with_attribute.with with b h);
      only = λ b h. less_added c.loop-rest.given (tokens_in ts c.loop-rest.rest) c.in-Some.attribute (tokens_in ts c.in-Some.after) some read c.in-Some-with_attribute.with with b (r.only b h);
    }

pub returns : goal.returns
returns c =
    let r = c.loop-rest.invariant in
    r.sound c.loop-rest.given (added_none c.loop-rest.given (tokens_in c.args.tokens.now c.loop-rest.rest) (no_tokens c.args.tokens.now c.loop-rest.rest c.loop-rest-test.false))
