use Rattle.std.proofs.Common.{◌<◌, length, slice_index_or, ap, sym, subst, arith}
use Rattle.std.specs.List.{AllByRecursion}
use Rattle.circ_term.specs.Tree.{trees_of}
use Rattle.circ_nodes.specs.Named.{AreNamed}
use Rattle.circ_steps.proofs.Lines.{args_named, all_taken, same_length}
use Rattle.circ_steps.proofs.tables.enter_line.Goals as goal

pub returns-in-Variable-clause-named : goal.returns-in-Variable-clause-named
returns-in-Variable-clause-named c = λ table t terms is.
    let e = rw c.in-Variable.is at is in rw e c.variable.ensures.named

pub app-requires-clause-few : goal.app-requires-clause-few
app-requires-clause-few c =
    let same = ap length c.in_ok-args-in-Application.ensures in
    let long = same_length (λ n. slice_index_or c.args.numbers.now n 0) c.in-Application.args.now in
    omega (arith, same, long, c.if-args-gt-MOST_ARGS.false)

pub app-requires-clause-there : goal.app-requires-clause-there
app-requires-clause-there c =
    subst (AllByRecursion (λ n. n < length c.args.nodes.now)) (sym c.in_ok-args-in-Application.ensures)
    (all_taken (length c.args.nodes.now) c.args.numbers.now c.requires.there c.in-Application.args.now (rw c.in-Application.is at c.requires.before))

pub returns-in-Ok-clause-named : goal.returns-in-Ok-clause-named
returns-in-Ok-clause-named c = λ table t terms line.
    let nodes = c.args.nodes.now in
    let app = c.in-Application in
    let is = rw app.is at line in
    let are : AreNamed nodes c.in_ok-args-in-Application.args.items (trees_of is.0)
    = subst (λ ns. AreNamed nodes ns (trees_of is.0)) (sym c.in_ok-args-in-Application.ensures) (args_named nodes c.args.numbers.now c.requires.there table terms app.args.now is.0 (rw app.is at c.requires.before) is.2) in
    rw is.1 (c.in-Ok.ensures.interns (trees_of is.0) are).0
