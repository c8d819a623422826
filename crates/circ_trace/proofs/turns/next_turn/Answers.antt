use Rattle.std.proofs.Common.{[], ap, ◌∙◌}
use Rattle.circ_attempt.specs.Search.{Going, going, afresh}
use Rattle.circ_attempt.proofs.Without.{turn_same}
use Rattle.circ_turn.specs.Standing.{standing, conduct_with}
use Rattle.circ_trace.proofs.Turning.{with_rules}
use Rattle.circ_trace.proofs.turns.next_turn.Goals as goal

pub turn-requires-clause-next : goal.turn-requires-clause-next
turn-requires-clause-next c = λ y t.
    let x : Going = going (standing c.args.state.now) c.args.passed.now in
    c.requires.next y (with_rules c.args.search.now.theory.now c.args.search.now.gamma.now (conduct_with c.args.search.now.limits) x c.if-search.true ∙ t)

pub turn-requires-else-search-clause-next : goal.turn-requires-else-search-clause-next
turn-requires-else-search-clause-next c = λ y t.
    let x : Going = going (standing c.args.state.now) c.args.passed.now in
    c.requires.next (going y [])
    (turn_same c.args.search.now.theory.now c.args.search.now.gamma.now (conduct_with c.args.search.now.limits) c.if-search.false x ∙ ap afresh t)
