use Rattle.std.proofs.Common.{ap, ◌∙◌}
use Rattle.circ_term.specs.Tree.{App}
use Rattle.circ_proof.specs.Certified.{start_args}
use Rattle.circ_rules.proofs.Starting.{few_start, start_not_past}
use Rattle.circ_uses.proofs.starting.start_application.Goals as goal

pub app-requires : goal.app-requires
app-requires c =
    few_start c.args.place.arg c.args.decl.now.args.items c.in_ok-args.args.items c.requires
    (c.in_ok-args.ensures ∙ ap (start_args c.args.place.arg 1) c.as_slice.ensures.value)

pub unreachable-requires : goal.unreachable-requires
unreachable-requires c =
    start_not_past c.args.place.op c.args.place.arg c.args.decl.now.result c.args.decl.now.args.items c.in_ok-args.args.items _ c.requires
    (c.in_ok-args.ensures ∙ ap (start_args c.args.place.arg 1) c.as_slice.ensures.value) (rw c.in-Err-TooBig.field-0-is at c.in-Err-TooBig.ensures)

pub unreachable-requires-in-Err-TooDeep : goal.unreachable-requires-in-Err-TooDeep
unreachable-requires-in-Err-TooDeep c =
    start_not_past c.args.place.op c.args.place.arg c.args.decl.now.result c.args.decl.now.args.items c.in_ok-args.args.items _ c.requires
    (c.in_ok-args.ensures ∙ ap (start_args c.args.place.arg 1) c.as_slice.ensures.value) (rw c.in-Err-TooDeep.field-0-is at c.in-Err-TooDeep.ensures)

pub returns-in-Ok : goal.returns-in-Ok
returns-in-Ok c =
    c.in-Ok.ensures.0 ∙ ap (App c.args.place.op c.args.decl.now.result) (c.in_ok-args.ensures ∙ ap (start_args c.args.place.arg 1) c.as_slice.ensures.value)
