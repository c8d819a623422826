use Rattle.std.proofs.Common.{sym}
use Rattle.circ_theory.specs.Operators.{operator_of}
use Rattle.circ_join.specs.Trying.{normaliser_of}
use Rattle.circ_moves.specs.Parts.{plain_apart}
use Rattle.circ_moves.proofs.OverRests.{rests_none}
use Rattle.circ_moves.proofs.joining.ContentJoining.rests_join.Goals as goal

pub returns-then-not-leaves_rests-clause-exact : goal.returns-then-not-leaves_rests-clause-exact
returns-then-not-leaves_rests-clause-exact c =
    rests_none (normaliser_of c.args.reducer.now) c.args.self.now.theory.now.signature c.args.self.now.gamma.now c.args.self.now.hyps.now.all (operator_of c.args.decl.now) c.args.op
    c.args.path.now.items c.args.a.now c.args.b.now (plain_apart c.args.apart) c.args.budget.now (sym c.if-not-leaves_rests.ensures)
