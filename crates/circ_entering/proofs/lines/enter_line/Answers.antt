use Rattle.std.proofs.Common.{subst}
use Rattle.circ_term.specs.Tree.{trees_of}
use Rattle.circ_theory.specs.Rewriting.{named}
use Rattle.circ_nodes.specs.Named.{AreNamed}
use Rattle.circ_entering.proofs.Renumbering.{firsts_named}
use Rattle.circ_entering.proofs.lines.enter_line.Goals as goal

pub returns-in-Variable-clause-named : goal.returns-in-Variable-clause-named
returns-in-Variable-clause-named c = λ table t is are.
    let e = rw c.in-Variable.is at is in rw e c.variable.ensures.named

pub returns-in-Ok-clause-named : goal.returns-in-Ok-clause-named
returns-in-Ok-clause-named c = λ table t line are.
    let app = c.in-Application in
    let is = rw app.is at line in
    let these = rw app.is at are in
    let named_by : AreNamed c.args.nodes.now c.args.args.items (trees_of is.0)
    = subst (λ ts. AreNamed c.args.nodes.now c.args.args.items (trees_of ts)) (firsts_named table app.args.now is.0 is.2) these in
    rw is.1 (c.in-Ok.ensures.interns (trees_of is.0) named_by).0
