use Rattle.std.proofs.Common.{◌∙◌}
use Rattle.std.proofs.lemmas.Result.{err_from_is_err_and}
use Rattle.circ_turn.specs.Standing.{standing, manner_of, conduct_with}
use Rattle.circ_rewriting_turn.proofs.Going.{memory_ends}
use Rattle.circ_rewriting_turn.proofs.Reading.{first_read}
use Rattle.circ_trace.specs.Telling.{IsTold}
use Rattle.circ_trace.proofs.turns.first_turns.Goals as goal

pub turns-done-requires-clause-rules : goal.turns-done-requires-clause-rules
turns-done-requires-clause-rules c = c.in_ok-rules.ensures.rules

pub turns-done-requires-clause-passes : goal.turns-done-requires-clause-passes
turns-done-requires-clause-passes c = λ _.
    first_read c.args.search.now.theory.now (manner_of c.args.search.now).limits c.requires.start.blocks (standing c.args.state.now) c.new-passes.result
    c.requires.start.start c.new-passes.ensures.lemmas c.new-passes.ensures.own c.new-passes.ensures.count
    (c.new-passes.ensures.script ∙ c.len.ensures ∙ c.args.state.now.goals.ok.0)

pub returns-in_err-rules : goal.returns-in_err-rules
returns-in_err-rules c =
    memory_ends (IsTold c.args.search.now.theory.now c.args.search.now.gamma.now (conduct_with c.args.search.now.limits) (standing c.args.state.now)
    c.args.out.now.items c.args.out.now.items) (standing c.args.state.now)
    c.from_residual.result (err_from_is_err_and c.from_residual.result c.from_residual.ensures.1)
