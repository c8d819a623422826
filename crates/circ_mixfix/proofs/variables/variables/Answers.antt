use Rattle.std.proofs.Common.{sym, arith}
use Rattle.circ_mixfix.specs.Variables.{vars_in}
use Rattle.circ_mixfix.proofs.Written.{no_variables, has_more, text_past}
use Rattle.circ_mixfix.proofs.WordLists.{grows_none, grows_chain}
use Rattle.circ_mixfix.proofs.variables.variables.Goals as goal
use Rattle.circ_mixfix.proofs.variables.variables.Goals.{in-Some+in_ok-push_variables, in_default}

pub loop-word-init : goal.loop-word-init
loop-word-init c = record {
  variables = no_variables c.args.scope.now.theory.now.signature (vars_in c.args.scope.now) c.args.scope.now.hole c.args.words.now c.new-out.result.items c.new-out.ensures.items;
  grows = grows_none c.args.words.now;
}

pub loop-word-preserved : goal.loop-word-preserved
loop-word-preserved c = elim c.match-text.branch [
  | in-Some+in_ok-push_variables w ↦ (
      let e = w.in_ok-push_variables.ensures in
      rw (w.words-is, w.out-is) (record {
        variables = has_more c.args.scope.now.theory.now.signature (vars_in c.args.scope.now) c.args.scope.now.hole c.loop-word.words w.push_variables.new.words c.loop-word.word w.in-Some.text.now
            c.loop-word.out.items w.push_variables.new.out.items c.loop-word.invariant.variables e.grows (sym w.in-Some.ensures) e.adds;
        grows = grows_chain c.args.words.now c.loop-word.words w.push_variables.new.words c.loop-word.word 1 c.loop-word.invariant.grows e.grows;
      }))
  | in_default w ↦ absurd (let k = c.requires.count in let t = c.loop-word-test.true in let g = c.loop-word.invariant.grows.longer in
      text_past c.loop-word.words c.loop-word.word (sym w.in_default.ensures) (omega arith))
]
