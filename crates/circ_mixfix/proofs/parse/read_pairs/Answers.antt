use Rattle.std.proofs.Common.{◌+◌, Bool, drop, subst, arith}
use Rattle.circ_lexer.specs.declared.tokens.Span.{Span}
use Rattle.circ_mixfix.specs.Answers.{lists_in}
use Rattle.circ_mixfix.specs.Choices.{ReadsOn}
use Rattle.circ_mixfix.specs.Variables.{vars_in}
use Rattle.circ_mixfix.proofs.Pairs.{long_none, chosen_two, read_up}
use Rattle.circ_mixfix.proofs.parse.read_pairs.Goals as goal

abbrev none_span : Span
none_span = record { from = 0; to = 0 }

pub read_pair-requires-clause-few_left : goal.read_pair-requires-clause-few_left
read_pair-requires-clause-few_left c =
    let t = c.loop-at-test.true in
    long_none c.args.tokens.now c.args.spans.now c.requires.spans c.loop-at.at none_span (omega arith) c.requires.few

pub read_pair-requires-clause-few_right : goal.read_pair-requires-clause-few_right
read_pair-requires-clause-few_right c =
    let t = c.loop-at-test.true in
    long_none c.args.tokens.now c.args.spans.now c.requires.spans (c.loop-at.at + 1) none_span (omega arith) c.requires.few

pub returns-then-not-branch : goal.returns-then-not-branch
returns-then-not-branch c =
    let sig = c.args.scope.now.theory.now.signature in
    let vars = vars_in c.args.scope.now in
    let lists = lists_in c.args.tokens.now c.args.spans.now in
    let at = c.loop-at.at in
    let t = c.loop-at-test.true in
    let l = c.loop-at.invariant.within in
    let begun = chosen_two sig vars c.args.tokens.now c.args.spans.now at none_span c.loop-at.choices (omega arith) c.loop-at.invariant.chosen in
    let P : Bool → Type 0 = ReadsOn sig vars lists (drop (at + 2) lists) c.read_pair.new.choices in
    subst P c.if-not-branch.true (c.in_ok-read_pair.ensures lists (drop (at + 2) lists) begun)

pub loop-at-preserved : goal.loop-at-preserved
loop-at-preserved c =
    let sig = c.args.scope.now.theory.now.signature in
    let vars = vars_in c.args.scope.now in
    let lists = lists_in c.args.tokens.now c.args.spans.now in
    let at = c.loop-at.at in
    let t = c.loop-at-test.true in
    let l = c.loop-at.invariant.within in
    let begun = chosen_two sig vars c.args.tokens.now c.args.spans.now at none_span c.loop-at.choices (omega arith) c.loop-at.invariant.chosen in
    let P : Bool → Type 0 = ReadsOn sig vars lists (drop (at + 2) lists) c.read_pair.new.choices in
    record { within = omega arith; chosen = subst P c.if-not-branch.false (c.in_ok-read_pair.ensures lists (drop (at + 2) lists) begun) }

pub returns : goal.returns
returns c =
    let t = c.loop-at-test.false in
    let l = c.loop-at.invariant.within in
    read_up c.args.scope.now.theory.now.signature (vars_in c.args.scope.now) c.args.tokens.now c.args.spans.now c.loop-at.at none_span c.loop-at.choices l (omega arith) c.loop-at.invariant.chosen
