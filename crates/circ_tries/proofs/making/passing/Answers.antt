use Rattle.std.proofs.Common.{◌∙◌, ap, sym}
use Rattle.circ_rewrite.specs.Plain.{plain_trace, plain_passes}
use Rattle.circ_rewrite.specs.Replacement.{Traced}
use Rattle.circ_rewrite.proofs.TraceRows.{rewrite_plain}
use Rattle.circ_tries.specs.Trying.{with_passes}
use Rattle.circ_tries.proofs.making.passing.Goals as goal

pub returns-in-Rewrite : goal.returns-in-Rewrite
returns-in-Rewrite c =
    let x = c.in-Rewrite in
    let e = ap plain_trace x.is ∙ rewrite_plain x.name x.path x.terms x.conds in
    let done : Traced → Traced = λ tr. record { path = tr.path; reason = with_passes (plain_passes c.args.conds.items) tr.reason } in
    rewrite_plain x.name x.path x.terms c.args.conds ∙ sym (ap done e)
