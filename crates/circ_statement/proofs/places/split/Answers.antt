use Rattle.std.proofs.Common.{sym, ap, ◌∙◌, arith}
use Rattle.circ_statement.specs.Words.{has_word}
use Rattle.circ_statement.proofs.Spans.{rest_more, lacks_next, split_here, all_seen, is_all, none_seen}
use Rattle.circ_statement.proofs.places.split.Goals as goal

pub loop-first-init : goal.loop-first-init
loop-first-init c = record { is_rest = is_all c.args.tokens.now c.args.span c.requires; lacks = ap (has_word c.args.word.now) (none_seen c.args.tokens.now c.args.span) }

pub loop-first-preserved : goal.loop-first-preserved
loop-first-preserved c =
    let r = c.loop-first.invariant in
    record {
      is_rest = rest_more c.args.tokens.now c.args.span c.loop-first.rest c.in-Some.first r.is_rest c.in-Some.ensures;
      lacks = lacks_next c.args.tokens.now c.args.span c.loop-first.rest c.in-Some.first r.is_rest c.in-Some.ensures c.args.word.now r.lacks (sym c.is_word.ensures ∙ c.if-is_word.false);
    }

pub returns-then-is_word : goal.returns-then-is_word
returns-then-is_word c =
    let r = c.loop-first.invariant in
    let is = c.in-Some.ensures in
    let cut = split_here c.args.tokens.now c.args.span c.loop-first.rest c.in-Some.first r.is_rest is c.args.word.now (sym c.is_word.ensures ∙ c.if-is_word.true) in
    rw is.place (
      record { ahead = r.is_rest.from; within = omega (arith, is.some, r.is_rest.to, c.requires.within) },
      is.within,
      cut,
      r.lacks,
      record { from = omega arith; to = omega (arith, is.some, r.is_rest.to) },
      record { from = omega (arith, r.is_rest.from, is.from); to = omega (arith, is.to, r.is_rest.to) },
    )

pub returns : goal.returns
returns c =
    let r = c.loop-first.invariant in
    ap (has_word c.args.word.now) (all_seen c.args.tokens.now c.args.span c.loop-first.rest r.is_rest c.in_default.ensures) ∙ r.lacks
