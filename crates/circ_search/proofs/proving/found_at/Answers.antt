use Rattle.std.proofs.Common.{ap}
use Rattle.circ_contexts.specs.Candidates.{plain_lists}
use Rattle.circ_plain_search.specs.Search.{All_done}
use Rattle.circ_turn.specs.Standing.{standing}
use Rattle.circ_search.specs.Plain.{ending_at, ending_of, special_with}
use Rattle.circ_search.proofs.Answered.{found_there, found_so}
use Rattle.circ_search.proofs.proving.found_at.Goals as goal

pub returns-in-Ok : goal.returns-in-Ok
returns-in-Ok c =
    let st = standing c.args.state.now in
    found_there (special_with c.args.gamma (plain_lists c.args.traces.items)) st c.args.end (All_done st.finished st.derives st.made st.deep)
    (ap (ending_at st) c.in-Ok.is) c.found.result c.found.ensures

pub returns-in-Err : goal.returns-in-Err
returns-in-Err c =
    let st = standing c.args.state.now in
    let s = special_with c.args.gamma (plain_lists c.args.traces.items) in
    found_so s st c.args.end (ending_of c.in-Err.end) (ap (ending_at st) c.in-Err.is) c.ended.result (c.ended.ensures s)
