use Rattle.std.proofs.Common.{true, ap, sym, subst}
use Rattle.circ_proof.specs.Parts.{Head}
use Rattle.circ_check.specs.declared.checker.Checker.{Checker}
use Rattle.circ_check.specs.Watching.{failed_of, derived_of, Took}
use Rattle.circ_check.proofs.Watching.{head_taken, on_err}
use Rattle.circ_check.proofs.checker.Checker.begin.Goals as goal

pub returns-clause-took : goal.returns-clause-took
returns-clause-took c =
    let k = c.args.self.now in
    let e = c.enter.new.self in
    let r = c.in_ok-enter.ensures in
    let P : Checker → Type 0 =
    λ x. Took k.theory.now (Head c.args.table c.args.gamma) k
    (record x { gamma = c.args.gamma; due = c.all-self.result; base = c.len-self.result; is_begun = true }) in
    subst P (sym c.enter.ensures.others)
    (head_taken k e.nodes e.equations e.derivatives e.lines c.args.table c.args.gamma c.all-self.result c.len-self.result c.requires c.enter.ensures.grows
    r.knows r.lines r.stay r.table (c.all-self.ensures k.theory.now c.args.gamma) c.len-self.ensures)

pub returns-in_err-enter-clause-kept : goal.returns-in_err-enter-clause-kept
returns-in_err-enter-clause-kept c =
    on_err c.from_residual.result (record { failed = ap failed_of c.enter.ensures.others; derived = ap derived_of c.enter.ensures.others })
