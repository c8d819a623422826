use Rattle.std.proofs.Common.{subst, arith}
use Rattle.circ_nodes.specs.Named.{tree_at}
use Rattle.circ_nodes.proofs.Numbers.{named_below, named_one}
use Rattle.circ_due.specs.Chosen.{due_by}
use Rattle.circ_memo.specs.Settling.{IsPastIf}
use Rattle.circ_memo.proofs.Roots.{stops_spent, stops_broken, stops_past}
use Rattle.circ_memo.proofs.advancing.replace.Goals as goal

pub returns-then-budget-eq0-clause-advances : goal.returns-then-budget-eq0-clause-advances
returns-then-budget-eq0-clause-advances c = λ t r n h d x.
    stops_spent (due_by c.args.means.now) c.args.nodes.now c.args.bounds t r h d c.args.budget.now c.if-budget-eq0.true

pub build-requires-clause-chosen : goal.build-requires-clause-chosen
build-requires-clause-chosen c = let x = c.requires.chosen in (x.0, x.2.0, x.2.1)

pub returns-in-Err-clause-advances : goal.returns-in-Err-clause-advances
returns-in-Err-clause-advances c = λ t r n h d x.
    rw c.rewrite_fault.ensures
    (stops_broken (due_by c.args.means.now) c.build.new.nodes c.args.bounds t r h d c.args.budget.now c.in-Err.fault (omega (arith, c.if-budget-eq0.false))
    (c.in-Err.ensures.interns t r n x))

pub known_at-requires : goal.known_at-requires
known_at-requires c =
    let x = c.requires.chosen in
    named_below c.build.new.nodes c.in-Ok.new x.2.0.new (c.in-Ok.ensures.interns x.0 x.2.0 x.1 x.2.1).0

pub returns-then-is_past-clause-advances : goal.returns-then-is_past-clause-advances
returns-then-is_past-clause-advances c = λ t r n h d x.
    let made = c.in-Ok.ensures.interns t r n x in
    let is = named_one c.build.new.nodes c.in-Ok.new (tree_at c.build.new.nodes c.in-Ok.new) r.new c.known_at.ensures.named made.0 in
    let past = subst (λ u. IsPastIf c.args.bounds u c.is_past.result) is c.is_past.ensures in
    (r.new, made.0, stops_past (due_by c.args.means.now) c.build.new.nodes c.args.bounds t r h d c.args.budget.now (omega (arith, c.if-budget-eq0.false)) made.1 (rw c.if-is_past.true at past))

pub returns-clause-advances : goal.returns-clause-advances
returns-clause-advances c = λ t r n h d x.
    let made = c.in-Ok.ensures.interns t r n x in
    let is = named_one c.build.new.nodes c.in-Ok.new (tree_at c.build.new.nodes c.in-Ok.new) r.new c.known_at.ensures.named made.0 in
    let inside = rw c.if-is_past.false at (subst (λ u. IsPastIf c.args.bounds u c.is_past.result) is c.is_past.ensures) in
    (r, d, made.0, inside.0, inside.1, omega (arith, c.if-budget-eq0.false))
