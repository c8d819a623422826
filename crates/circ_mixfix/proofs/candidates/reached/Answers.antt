use Rattle.std.proofs.Common.{sym, arith}
use Rattle.circ_mixfix.proofs.LeastNumbers.{reached_step}
use Rattle.circ_mixfix.proofs.Written.{text_past}
use Rattle.circ_mixfix.proofs.candidates.reached.Goals as goal
use Rattle.circ_mixfix.proofs.candidates.reached.Goals.{in-Some+in_ok-add_word, in_default}

pub loop-number-preserved : goal.loop-number-preserved
loop-number-preserved c = elim c.match-text.branch [
  | in-Some+in_ok-add_word w ↦ (
      rw w.out-is (reached_step c.args.theory.now.signature c.args.words.now c.args.sorts.now c.loop-number.number w.in-Some.word.now c.loop-number.out.items w.add_word.new.out.items (sym w.in-Some.ensures)
      w.in_ok-add_word.ensures c.loop-number.invariant))
  | in_default w ↦ absurd (let t = c.loop-number-test.true in let n = c.count-number-end.ensures.count in text_past c.args.words.now c.loop-number.number (sym w.in_default.ensures) (omega arith))
]
