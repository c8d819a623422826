use Rattle.std.proofs.Common.{sym, subst}
use Rattle.circ_theory.specs.Theory.{Theory}
use Rattle.circ_proof.specs.Rules.{IsSortedState}
use Rattle.circ_proof.specs.PlainProof.{plain_step}
use Rattle.circ_entering.specs.Work.{state_of, table_of}
use Rattle.circ_entering.proofs.Working.{table_stays, work_stays, step_in_numbers}
use Rattle.circ_entering.proofs.work.Work.apply.Goals as goal

pub apply-requires-clause-rules : goal.apply-requires-clause-rules
apply-requires-clause-rules c = c.rules-rules.ensures.rules (table_of c.args.self.now) c.args.self.now.nodes c.requires.work.numbered

pub apply-requires-clause-table_sorted : goal.apply-requires-clause-table_sorted
apply-requires-clause-table_sorted c =
    let w = c.args.self.now in
    rw (c.rules-rules.ensures.theory, c.rules-rules.ensures.table (table_of w) w.nodes c.requires.work.numbered) c.requires.table_sorted

pub apply-requires-clause-in_table : goal.apply-requires-clause-in_table
apply-requires-clause-in_table c =
    let w = c.args.self.now in
    step_in_numbers w.nodes (table_of w) c.rules-rules.result (plain_step c.args.step.now)
    (c.rules-rules.ensures.table (table_of w) w.nodes c.requires.work.numbered) c.requires.in_table

pub apply-requires-clause-sorted : goal.apply-requires-clause-sorted
apply-requires-clause-sorted c =
    let P : Theory → Type 0 = λ th. IsSortedState th (state_of c.args.self.now) in subst P (sym c.rules-rules.ensures.theory) c.requires.sorted

pub returns-clause-work : goal.returns-clause-work
returns-clause-work c =
    work_stays c.args.theory.now c.args.self.now c.requires.work c.apply.new.nodes c.apply.ensures.grows c.apply.new.state c.apply.ensures.state

pub returns-clause-table : goal.returns-clause-table
returns-clause-table c = table_stays c.args.theory.now c.args.self.now c.requires.work c.apply.new.nodes c.apply.ensures.grows

pub returns-clause-exact : goal.returns-clause-exact
returns-clause-exact c =
    let w = c.args.self.now in
    rw (c.rules-rules.ensures.theory, c.rules-rules.ensures.gamma, c.rules-rules.ensures.table (table_of w) w.nodes c.requires.work.numbered)
    at c.apply.ensures.exact

pub returns-clause-sorted : goal.returns-clause-sorted
returns-clause-sorted c =
    let P : Theory → Type 0 = λ th. IsSortedState th (state_of (record c.args.self.now { nodes = c.apply.new.nodes; state = c.apply.new.state })) in
    subst P c.rules-rules.ensures.theory c.apply.ensures.sorted
