use Rattle.circ_files.proofs.FileFaults.{if_ok}
use Rattle.circ_status.specs.Ending.{plain_ending}
use Rattle.circ_generate.specs.Generating.{Generates, unread_ending, no_theory}
use Rattle.std.proofs.Common.{◌≡◌}
use Rattle.circ_generate.proofs.generating.chain.Goals as goal

pub returns-in-Err-Statement : goal.returns-in-Err-Statement
returns-in-Err-Statement c =
    let place = c.in-Err-Statement.place in
    let cause = c.in-Err-Statement.cause in
    if_ok (λ e. plain_ending e ≡ unread_ending 1 place cause) (λ e. Generates c.args.number (plain_ending e)) c.unread.result c.unread.ensures
    (λ e is. no_theory (plain_ending e) place cause (rw (c.in-Err-Statement.field-0-is, c.as_slice.ensures.value, c.in_ok-text.ensures) at c.in-Err-Statement.ensures.gives) is)
