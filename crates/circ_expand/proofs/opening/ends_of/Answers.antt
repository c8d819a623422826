use Rattle.std.proofs.Common.{subst}
use Rattle.circ_term.specs.Tree.{Tree}
use Rattle.circ_theory.specs.Goal.{Goal}
use Rattle.circ_entry.specs.Entries.{bare_entries}
use Rattle.circ_uses.specs.Uses.{entries_of}
use Rattle.circ_tasks.specs.Tasks.{EndsIn}
use Rattle.circ_expand.proofs.opening.ends_of.Goals as goal

pub returns-in-Some : goal.returns-in-Some
returns-in-Some c =
    let es = bare_entries (entries_of c.args.frame.now.theory.now c.args.entries.now) in
    let P : Goal → Type 0 = λ g. EndsIn es g.left g.right c.ends_on.result in
    subst P c.in-Some.ensures c.ends_on.ensures

pub returns-in-None : goal.returns-in-None
returns-in-None c =
    let es = bare_entries (entries_of c.args.frame.now.theory.now c.args.entries.now) in
    let P : Goal → Type 0 = λ g. EndsIn es g.left g.right c.ends_on-in-None.result in
    let Q : Tree → Type 0 = λ t. EndsIn es t t c.ends_on-in-None.result in
    subst P c.in-None.ensures (subst Q c.var-nothing.ensures c.ends_on-in-None.ensures)
