use Rattle.circ_proof.specs.PlainProof.{plain_proof}
use Rattle.circ_files.proofs.FileFaults.{if_err}
use Rattle.circ_reports.specs.Expand.{expanded, WritesNone, GivesNone, step_fails}
use Rattle.circ_reports.proofs.ExpandEnds.{gives_none}
use Rattle.circ_reports.proofs.expanding.expand_proof.Goals as goal

pub returns-in-Accepted-clause-none : goal.returns-in-Accepted-clause-none
returns-in-Accepted-clause-none c =
    let th = c.args.theory.now in
    let p = plain_proof c.args.proof.now in
    let ks = c.args.derivatives.now in
    let accepted = rw c.in-Accepted.is at c.in_ok-check_by_table.ensures.exact in
    if_err (WritesNone (expanded th p c.args.goal ks)) (GivesNone th p c.args.goal ks) c.expand_accepted.result c.expand_accepted.ensures.none
    (λ s x. gives_none th p c.args.goal ks s accepted x)

pub returns-in-Refused-clause-none : goal.returns-in-Refused-clause-none
returns-in-Refused-clause-none c = step_fails c.in-Refused.step (rw c.in-Refused.is at c.in_ok-check_by_table.ensures.exact)
