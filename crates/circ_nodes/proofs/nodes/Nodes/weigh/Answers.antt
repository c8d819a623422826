use Rattle.std.proofs.Common.{subst, sym}
use Rattle.circ_term.specs.Tree.{Tree}
use Rattle.circ_nodes.specs.Roots.{Weighs}
use Rattle.circ_nodes.proofs.Numbers.{all_below}
use Rattle.circ_nodes.proofs.Weighing.{weighs_variable}
use Rattle.circ_nodes.proofs.nodes.Nodes.weigh.Goals as goal

pub returns-in-Variable : goal.returns-in-Variable
returns-in-Variable c = λ t root. weighs_variable _ _ t (rw c.in-Variable.is at root)

pub measure-requires-clause-few : goal.measure-requires-clause-few
measure-requires-clause-few c = let there = rw c.in-Application.is at c.requires in there.1.3

pub measure-requires-clause-there : goal.measure-requires-clause-there
measure-requires-clause-there c =
    let there = rw c.in-Application.is at c.requires in
    all_below c.args.self.now c.in-Application.args.now there.1.0 there.1.2

pub returns-in-Application : goal.returns-in-Application
returns-in-Application c = λ t root.
    let app = rw c.in-Application.is at root in
    let Q : Tree → Type 0 = Weighs c.weight_above.result in
    subst Q (sym app.1) (c.weight_above.ensures c.in-Application.op c.in-Application.sort app.0 (c.measure.ensures.measures app.0 app.2))
