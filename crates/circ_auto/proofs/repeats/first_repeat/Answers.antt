use Rattle.std.proofs.Common.{sym, ◌∙◌}
use Rattle.std.proofs.lemmas.List.{drop_more}
use Rattle.circ_auto.proofs.Repeating.{repeat_found, repeat_grown}
use Rattle.circ_auto.proofs.repeats.first_repeat.Goals as goal

pub returns-in-Some : goal.returns-in-Some
returns-in-Some c =
    sym (repeat_found (λ w. w.now) c.loop-word.before.keys c.args.words.now c.loop-word.word-index _ c.in-Some.place
    (drop_more c.args.words.now c.loop-word.word-index _ c.loop-word-test.true) (sym c.in-Some.ensures.index)) ∙ c.loop-word.invariant

pub loop-word-preserved : goal.loop-word-preserved
loop-word-preserved c =
    repeat_grown (λ w. w.now) c.loop-word.before.keys c.insert.new.self.keys c.args.words.now c.loop-word.word-index _
    (drop_more c.args.words.now c.loop-word.word-index _ c.loop-word-test.true) (sym c.in_default.ensures.found) c.in_ok-insert.ensures.keys
    ∙ c.loop-word.invariant
