use Rattle.std.proofs.Common.{◌≡◌, ◌-◌, ◌+◌, sym, length, arith}
use Rattle.std.specs.List.{slice_range}
use Rattle.std.proofs.lemmas.Option.{slice_get_within}
use Rattle.circ_lexer.specs.TokenList.{tokens_of}
use Rattle.circ_mixfix.specs.WordLists.{GrowsTo}
use Rattle.circ_mixfix.proofs.TokenNumbers.{no_numbers, numbers_more, range_none, range_more, range_length}
use Rattle.circ_mixfix.proofs.Written.{text_past}
use Rattle.circ_mixfix.proofs.WordLists.{grows_none, grows_more, grows_chain, grows_with}
use Rattle.circ_mixfix.proofs.tokens.numbers.Goals as goal
use Rattle.circ_mixfix.proofs.tokens.numbers.Goals.{In_ok-add, After-loop-place, in-Some+in_ok-add+in_ok-push, in_default}

grown : (c : In_ok-add) → GrowsTo c.loop-place.words c.add.new.self 1
grown c = rw c.in_ok-add.ensures.added (grows_with c.loop-place.words c.in-Some.token.now)

pub overflow_cast-branch : goal.overflow_cast-branch
overflow_cast-branch c =
    let w = slice_get_within c.add.new.self c.in_ok-add.field-0 c.in-Some.token.now c.in_ok-add.ensures.number in
    let g = (grown c).few in
    let i = c.loop-place.invariant.grows.few in
    let t = c.loop-place-test.true in
    let f = c.loop-place.auto.place in
    let n = range_length (tokens_of c.args.tokens.now) c.args.span.from c.args.span.to c.requires.span.within in
    let r = c.requires.few in
    omega arith

pub loop-place-init : goal.loop-place-init
loop-place-init c = record {
  numbers = no_numbers c.args.words.now c.in_ok-out.out.items (slice_range (tokens_of c.args.tokens.now) c.args.span.from c.args.span.from) c.in_ok-out.ensures.items
      (range_none (tokens_of c.args.tokens.now) c.args.span.from);
  grows = grows_more c.args.words.now c.args.words.now 0 (c.args.span.from - c.args.span.from) (omega arith) (grows_none c.args.words.now);
}

pub loop-place-preserved : goal.loop-place-preserved
loop-place-preserved c =
    let f = c.loop-place.auto.place in
    let toks = tokens_of c.args.tokens.now in
    elim c.match-token.branch [
      | in-Some+in_ok-add+in_ok-push w ↦ (
          let g : GrowsTo c.loop-place.words w.add.new.self 1 = rw w.in_ok-add.ensures.added (grows_with c.loop-place.words w.in-Some.token.now) in
          rw (w.words-is, w.out-is) (record {
            numbers = numbers_more c.loop-place.words w.add.new.self 1 c.loop-place.out.items w.push.new.self.items w.in_ok-add.field-0 (slice_range toks c.args.span.from c.loop-place.place)
                (slice_range toks c.args.span.from (c.loop-place.place + 1)) w.in-Some.token.now g c.loop-place.invariant.numbers w.in_ok-add.ensures.number w.in_ok-push.ensures.items
                (range_more toks c.args.span.from c.loop-place.place w.in-Some.token.now f (sym w.in-Some.ensures));
            grows = grows_more c.args.words.now w.add.new.self (c.loop-place.place - c.args.span.from + 1) (c.loop-place.place + 1 - c.args.span.from) (omega arith)
                (grows_chain c.args.words.now c.loop-place.words w.add.new.self (c.loop-place.place - c.args.span.from) 1 c.loop-place.invariant.grows g);
          }))
      | in_default w ↦ absurd (let k = c.requires.span.within in let t = c.loop-place-test.true in text_past toks c.loop-place.place (sym w.in_default.ensures) (omega arith))
    ]

at_end : (c : After-loop-place) → c.loop-place.place ≡ c.args.span.to
at_end c = let t = c.loop-place-test.false in let e = c.loop-place.auto.place-end c.requires.span.ahead in omega arith

pub returns-clause-numbers : goal.returns-clause-numbers
returns-clause-numbers c = rw (at_end c) at c.loop-place.invariant.numbers

pub returns-clause-grows : goal.returns-clause-grows
returns-clause-grows c =
    let n = range_length (tokens_of c.args.tokens.now) c.args.span.from c.args.span.to c.requires.span.within in
    let e = at_end c in
    grows_more c.args.words.now c.loop-place.words (c.loop-place.place - c.args.span.from) (length (slice_range (tokens_of c.args.tokens.now) c.args.span.from c.args.span.to)) (omega arith)
    c.loop-place.invariant.grows
