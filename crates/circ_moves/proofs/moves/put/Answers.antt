use Rattle.std.proofs.Common.{Ok, [], ap, sym, ◌∙◌}
use Rattle.circ_theory.specs.declared.way.Way.TheVariants.{Forth}
use Rattle.circ_plain_search.specs.Joining.{use_with}
use Rattle.circ_join.proofs.PutIn.{put_made, put_stops}
use Rattle.circ_moves.proofs.moves.put.Goals as goal

pub returns-in-Ok : goal.returns-in-Ok
returns-in-Ok c =
    let u = use_with 0 Forth c.args.path.now [] c.args.new.now in
    put_made c.args.whole.now u c.known.ensures c.in-Ok.ensures.1 ∙ ap Ok (sym c.in-Ok.ensures.0)

pub returns-in-Err : goal.returns-in-Err
returns-in-Err c =
    let u = use_with 0 Forth c.args.path.now [] c.args.new.now in
    rw c.of_term.ensures (put_stops c.args.whole.now u c.known.ensures c.in-Err.fault c.in-Err.ensures)
