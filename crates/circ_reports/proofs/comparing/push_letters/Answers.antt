use Rattle.std.proofs.Common.{◌≤◌, length, arith, ◌∙◌}
use Rattle.std.proofs.lemmas.List.{drop_more}
use Rattle.circ_reports.proofs.SameTexts.{letters_step, letters_done}
use Rattle.circ_reports.proofs.comparing.push_letters.Goals as goal

pub loop-letter-preserved : goal.loop-letter-preserved
loop-letter-preserved c =
    letters_step c.args.automaton.now c.args.word.now c.loop-letter.letter-index _ c.loop-letter.out.items c.push_letter.new.out.items
    (drop_more c.args.word.now c.loop-letter.letter-index _ c.loop-letter-test.true) c.in_ok-push_letter.ensures
    ∙ c.loop-letter.invariant

pub returns : goal.returns
returns c =
    let all : length c.args.word.now ≤ c.loop-letter.letter-index = omega (arith, c.loop-letter-test.false) in
    letters_done c.args.automaton.now c.args.word.now c.loop-letter.letter-index c.loop-letter.out.items all ∙ c.loop-letter.invariant
