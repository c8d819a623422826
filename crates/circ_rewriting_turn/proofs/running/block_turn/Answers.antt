use Rattle.std.proofs.Common.{◌≡◌, List, [], length, take, ap, sym, subst, ◌∙◌, arith}
use Rattle.std.proofs.lemmas.List.{take_at}
use Rattle.circ_theory.specs.Goal.{Goal}
use Rattle.circ_block.specs.Rules.{IsRulesOf}
use Rattle.circ_attempt.specs.Rules.{lemmas_of}
use Rattle.circ_attempt.specs.Search.{going}
use Rattle.circ_turn.specs.Standing.{standing, plain_limits, manner_of}
use Rattle.circ_turn.proofs.Earlier.{done_earlier}
use Rattle.circ_rewriting_turn.proofs.Going.{block_turned, block_begins}
use Rattle.circ_rewriting_turn.proofs.running.block_turn.Goals as goal

pub done_turn-requires : goal.done_turn-requires
done_turn-requires c = record {
  next = λ y e.
      c.requires.next (going y []) (block_turned c.args.search.now.theory.now c.args.search.now.gamma.now (manner_of c.args.search.now) (standing c.args.state.now) c.args.passed.now y c.requires.none e);
}

pub next_block-requires-clause-few : goal.next_block-requires-clause-few
next_block-requires-clause-few c =
    let d = rw (c.in-Ok-true.is, c.in-Ok-true.field-0-test) at c.done_turn.ensures in
    let y = standing c.done_turn.new.state in
    let small = c.requires.next (going y [])
    (block_turned c.args.search.now.theory.now c.args.search.now.gamma.now (manner_of c.args.search.now) (standing c.args.state.now) c.args.passed.now y c.requires.none d) in
    omega (arith, small.earlier, ap length c.earlier.ensures)

pub next_block-requires-clause-before : goal.next_block-requires-clause-before
next_block-requires-clause-before c =
    let st = standing c.args.state.now in
    let r = c.requires.rules in
    let d = rw (c.in-Ok-true.is, c.in-Ok-true.field-0-test) at c.done_turn.ensures in
    let all = c.earlier.ensures ∙ done_earlier c.args.search.now.theory.now (plain_limits c.args.search.now.limits) st (standing c.done_turn.new.state) d in
    let same = ap (take c.args.rules.now.count) all ∙ take_at st.earlier st.goals c.args.rules.now.count (sym r.count) in
    let P : List Goal → Type 0 = λ E. IsRulesOf c.args.search.now.theory.now E c.args.rules.now in
    subst P (sym same) r

pub next_block-requires-in-Ok-true-clause-few : goal.next_block-requires-in-Ok-true-clause-few
next_block-requires-in-Ok-true-clause-few c =
    let d = rw (c.in-Ok-true.is, c.in-Ok-true.field-0-test) at c.done_turn.ensures in
    let y = standing c.done_turn.new.state in
    let small = c.requires.next (going y [])
    (block_turned c.args.search.now.theory.now c.args.search.now.gamma.now (manner_of c.args.search.now) (standing c.args.state.now) c.args.passed.now y c.requires.none d) in
    small.earlier

pub next_block-requires-in-Ok-true-clause-before : goal.next_block-requires-in-Ok-true-clause-before
next_block-requires-in-Ok-true-clause-before c =
    let th = c.args.search.now.theory.now in
    let st = standing c.args.state.now in
    let d = rw (c.in-Ok-true.is, c.in-Ok-true.field-0-test) at c.done_turn.ensures in
    let y = standing c.done_turn.new.state in
    let begins = block_begins th c.args.search.now.gamma.now (manner_of c.args.search.now) st c.args.passed.now y c.requires.none d in
    let k = c.args.passes.now.count in
    let same = ap (take k) begins.earlier ∙ take_at st.earlier st.goals k (sym c.requires.passes.count) in
    c.requires.passes.rules.lemmas ∙ ap (lemmas_of th 0) (sym same)

pub next_block-requires-in-Ok-true-clause-begun : goal.next_block-requires-in-Ok-true-clause-begun
next_block-requires-in-Ok-true-clause-begun c =
    let d = rw (c.in-Ok-true.is, c.in-Ok-true.field-0-test) at c.done_turn.ensures in
    let y = standing c.done_turn.new.state in
    let begins = block_begins c.args.search.now.theory.now c.args.search.now.gamma.now (manner_of c.args.search.now) (standing c.args.state.now) c.args.passed.now y c.requires.none d in
    begins.hypotheses
