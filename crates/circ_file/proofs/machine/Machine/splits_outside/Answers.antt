use Rattle.std.proofs.Common.{◌≡◌, ◌∙◌, ap, arith, sym, length, []}
use Rattle.circ_file.specs.Splits.{tops}
use Rattle.circ_file.specs.View.{now_outside, splits_in}
use Rattle.circ_file.proofs.Next.{length-tops}
use Rattle.circ_file.proofs.machine.Machine.splits_outside.Goals as goal

pub returns-in-Reducing : goal.returns-in-Reducing
returns-in-Reducing c =
    let machine = c.args.self.now in
    let n : c.len.result ≡ length (tops machine.splits.items []) = omega (arith, c.len.ensures, length-tops machine.splits.items []) in
    n ∙ sym (ap (λ m. splits_in (now_outside m machine)) c.in-Reducing.is)
