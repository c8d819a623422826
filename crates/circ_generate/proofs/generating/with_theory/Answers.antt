use Rattle.circ_theory.specs.Theory.{Theory}
use Rattle.circ_read.specs.ReadsAs.{ReadsAs}
use Rattle.circ_files.proofs.FileFaults.{if_ok}
use Rattle.circ_status.specs.Ending.{plain_ending}
use Rattle.circ_generate.specs.Chain.{chain_theory}
use Rattle.circ_generate.specs.Generating.{Generates, unread_ending, no_script}
use Rattle.std.proofs.Common.{◌≡◌, subst, sym}
use Rattle.circ_generate.proofs.generating.with_theory.Goals as goal

pub returns-in-Err-Statement : goal.returns-in-Err-Statement
returns-in-Err-Statement c =
    let place = c.in-Err-Statement.place in
    let cause = c.in-Err-Statement.cause in
    if_ok (λ e. plain_ending e ≡ unread_ending 2 place cause) (λ e. Generates c.args.number (plain_ending e)) c.unread.result c.unread.ensures
    (λ e is. no_script (plain_ending e) c.args.theory.now place cause c.requires.reads
    (rw (c.in-Err-Statement.field-0-is, c.as_slice.ensures.value, c.in_ok-text.ensures) at c.in-Err-Statement.ensures.gives) is)

pub with_script-requires-clause-theory : goal.with_script-requires-clause-theory
with_script-requires-clause-theory c =
    let P : Theory → Type 0 = ReadsAs (chain_theory c.args.number) in subst P (sym c.read_script.ensures.kept) c.requires.reads
