use Rattle.std.proofs.lemmas.Result.{err_from_is_err_and}
use Rattle.circ_proof.specs.PlainProof.{plain_proof}
use Rattle.circ_entry.specs.Plain.{plain_entries}
use Rattle.circ_expansion.specs.Machine.{worked_off}
use Rattle.circ_written.specs.Rows.{unit_limit}
use Rattle.circ_expand.proofs.Writings.{memory_ends}
use Rattle.circ_expand.proofs.writing_out.written.Goals as goal

pub returns-in_err-book : goal.returns-in_err-book
returns-in_err-book c =
    memory_ends (worked_off unit_limit c.args.theory.now (plain_proof c.args.proof.now) c.args.goal (plain_entries c.args.entries.now)) c.from_residual.result
    (err_from_is_err_and c.from_residual.result c.from_residual.ensures.1)
