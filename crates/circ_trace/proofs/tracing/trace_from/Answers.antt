use Rattle.std.proofs.Common.{ℕ, List, [], sym, subst, ◌∙◌}
use Rattle.circ_contexts.specs.Candidates.{plain_lists}
use Rattle.circ_plain_search.specs.Search.{Standing}
use Rattle.circ_attempt.specs.Search.{going, FinishesRewriting}
use Rattle.circ_turn.specs.Standing.{standing, conduct_with}
use Rattle.circ_search.specs.Plain.{plain_found}
use Rattle.circ_search.proofs.Answered.{run_ending}
use Rattle.circ_trace.specs.Telling.{IsTold}
use Rattle.circ_trace.proofs.Telling.{turns_finish}
use Rattle.circ_trace.proofs.Traces.{told_trace}
use Rattle.circ_trace.proofs.tracing.trace_from.Goals as goal

pub answer-requires : goal.answer-requires
answer-requires c = λ p same.
    let th = c.args.theory.now in
    let m = conduct_with c.args.limits.now in
    let it = c.in_ok-found.ensures in
    let st = standing c.args.state.now in
    let lines : List ℕ = c.run_turns-end.new.out.items in
    let Q : List ℕ → Type 0 = λ x. IsTold th c.args.gamma m st x lines it.0 in
    let told : IsTold th c.args.gamma m st [] lines it.0
    = subst Q c.new-lines.ensures.items
    (run_ending (IsTold th c.args.gamma m st c.new-lines.result.items lines) (standing c.run_turns-end.new.state) c.run_turns-end.result it.0 it.1 c.run_turns-end.ensures) in
    let P : Standing → Type 0 = λ x. FinishesRewriting th c.args.gamma m (going x []) it.0 in
    (c.proved_is_accepted.ensures th c.known.ensures c.requires.start.blocks c.requires.start.searchable m p (record {
      places = c.args.gamma;
      traces = plain_lists c.args.traces.items;
      greatest = c.requires.greatest;
      ending = it.0;
      run = subst P c.requires.start.start (turns_finish th c.args.gamma m (going (standing c.args.state.now) []) told.goings it.0 told.turns);
      is = sym same ∙ it.2;
    })).fits

pub returns : goal.returns
returns c = λ bs e.
    let th = c.args.theory.now in
    let m = conduct_with c.args.limits.now in
    let it = c.in_ok-found.ensures in
    let st = standing c.args.state.now in
    let lines : List ℕ = c.run_turns-end.new.out.items in
    let Q : List ℕ → Type 0 = λ x. IsTold th c.args.gamma m st x lines it.0 in
    let told : IsTold th c.args.gamma m st [] lines it.0
    = subst Q c.new-lines.ensures.items
    (run_ending (IsTold th c.args.gamma m st c.new-lines.result.items lines) (standing c.run_turns-end.new.state) c.run_turns-end.result it.0 it.1 c.run_turns-end.ensures) in
    told_trace th m bs c.args.gamma (plain_lists c.args.traces.items) c.requires.greatest (standing c.args.state.now) e c.run_turns-end.new.out.items it.0 told (plain_found c.in_ok-found.found) it.2
    c.answer.result c.answer.ensures
