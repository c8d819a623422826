use Rattle.std.proofs.Common.{[], subst}
use Rattle.circ_contexts.specs.Candidates.{plain_lists}
use Rattle.circ_plain_search.specs.Search.{Standing}
use Rattle.circ_attempt.specs.Search.{FinishesRewriting, going}
use Rattle.circ_turn.specs.Ending.{RunEnds}
use Rattle.circ_turn.specs.Standing.{standing}
use Rattle.circ_search.specs.Plain.{conduct_with}
use Rattle.circ_search.proofs.Answered.{found_searched}
use Rattle.circ_search.proofs.proving.search_from.Goals as goal

pub returns : goal.returns
returns c = λ bs e.
    let th = c.args.theory.now in
    let m = conduct_with c.args.limits.now in
    let st = standing c.run-end.new.state in
    let P : Standing → Type 0 = λ x. RunEnds (FinishesRewriting th c.args.gamma m (going x [])) st c.run-end.result in
    found_searched th bs m c.args.gamma (plain_lists c.args.traces.items) c.requires.greatest st c.run-end.result (subst P e c.run-end.ensures) c.found_at.result c.found_at.ensures
