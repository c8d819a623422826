use Rattle.std.proofs.Common.{◌≡◌, ap, ◌∙◌, suc, arith}
use Rattle.circ_expansion.specs.Expand.{Call as Use}
use Rattle.circ_tasks.specs.Tasks.{call_of, assumed}
use Rattle.circ_link_steps.proofs.reason_steps.case_call.Goals as goal

pub returns : goal.returns
returns c =
    let fr = c.args.frame.now in
    let k = c.args.call.now.assumptions in
    let n : c.in-Some.assumptions ≡ suc k = omega (arith, c.in-Some.ensures) in
    ap (call_of fr) c.in_ok-new.ensures.ok
    ∙ (λ i. let d : Use = c.in_ok-next.ensures fr i in record d { whole = c.args.whole; assumptions = assumed (n i) })
