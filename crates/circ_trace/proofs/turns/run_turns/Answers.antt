use Rattle.std.proofs.Common.{◌∙◌, ap}
use Rattle.std.proofs.lemmas.Result.{err_from_is_err_and}
use Rattle.circ_turn.specs.Standing.{standing, conduct_with}
use Rattle.circ_rewriting_turn.proofs.Going.{memory_ends}
use Rattle.circ_trace.specs.Descents.{given_row}
use Rattle.circ_trace.specs.Telling.{IsTold}
use Rattle.circ_trace.proofs.turns.run_turns.Goals as goal

pub first_turns-done-requires-clause-waiting : goal.first_turns-done-requires-clause-waiting
first_turns-done-requires-clause-waiting c = c.in_ok-waiting.ensures ∙ ap given_row c.as_slice.ensures.value

pub returns-in_err-waiting : goal.returns-in_err-waiting
returns-in_err-waiting c =
    memory_ends (IsTold c.args.search.now.theory.now c.args.search.now.gamma.now (conduct_with c.args.search.now.limits) (standing c.args.state.now)
    c.args.out.now.items c.args.out.now.items) (standing c.args.state.now)
    c.from_residual.result (err_from_is_err_and c.from_residual.result c.from_residual.ensures.1)
