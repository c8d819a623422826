use Rattle.std.proofs.Common.{◌≡◌, ◌∙◌, ap, arith, sym, length, map, []}
use Rattle.circ_file.specs.Splits.{tops}
use Rattle.circ_file.specs.View.{now_at, now_outside, splits_in}
use Rattle.circ_proof.specs.Plain.{plain_chain}
use Rattle.circ_file.proofs.OpenConds.{nested_splits}
use Rattle.circ_file.proofs.Next.{length-tops}
use Rattle.circ_file.proofs.machine.Machine.open_splits.Goals as goal

pub returns-in-Reducing : goal.returns-in-Reducing
returns-in-Reducing c =
    let machine = c.args.self.now in
    let n : c.len.result ≡ length (tops machine.splits.items []) = omega (arith, c.len.ensures, length-tops machine.splits.items []) in
    n ∙ sym (ap (λ m. splits_in (now_at m machine)) c.in-Reducing.is)

pub returns-in-Joining : goal.returns-in-Joining
returns-in-Joining c =
    let machine = c.args.self.now in
    c.splits_outside.ensures ∙ sym (nested_splits (now_outside machine.base machine) (map plain_chain machine.conds.items))
    ∙ sym (ap (λ m. splits_in (now_at m machine)) c.in-Joining.is)
