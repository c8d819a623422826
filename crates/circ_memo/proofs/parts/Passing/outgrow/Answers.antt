use Rattle.std.proofs.Common.{arith}
use Rattle.circ_term.specs.Tree.{App, put_at}
use Rattle.circ_nodes.proofs.Numbers.{are_named_set}
use Rattle.circ_memo.proofs.Arguments.{arg_is, passing_outgrows, passing_past}
use Rattle.circ_memo.proofs.parts.Passing.outgrow.Goals as goal

pub returns-in-Ok-app-clause-stops : goal.returns-in-Ok-app-clause-stops
returns-in-Ok-app-clause-stops c = λ due b t a n k left p at named s.
    let nodes = c.args.nodes.now in
    let self = c.args.self.now in
    let set = are_named_set nodes self.args.items p.args c.args.place c.args.new s.0 p.named s.1 in
    let made = c.in-Ok-app.ensures.interns (put_at p.args c.args.place s.0) (rw (c.put.ensures, c.in-Ok.ensures.ok, c.as_slice.ensures) set) in
    (App self.op self.sort (put_at p.args c.args.place s.0), made.0, passing_outgrows due nodes b t c.args.place self p k left _ a s.0 (arg_is due nodes b t c.args.place self p n a at named) (omega arith) s.2 made.1)

pub returns-in-Err-app-clause-stops : goal.returns-in-Err-app-clause-stops
returns-in-Err-app-clause-stops c = λ due b t a n k left p at named s.
    let nodes = c.args.nodes.now in
    let self = c.args.self.now in
    let set = are_named_set nodes self.args.items p.args c.args.place c.args.new s.0 p.named s.1 in
    let made = c.in-Err-app.ensures.interns (put_at p.args c.args.place s.0) (rw (c.put.ensures, c.in-Ok.ensures.ok, c.as_slice.ensures) set) in
    rw c.rewrite_fault.ensures
    (passing_past due nodes b t c.args.place self p k left _ a s.0 c.in-Err-app.fault (arg_is due nodes b t c.args.place self p n a at named) (omega arith) s.2 made)
