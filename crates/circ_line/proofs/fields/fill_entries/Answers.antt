use Rattle.std.proofs.Common.{◌∷◌, ◌++◌, ◌^◌, [], sym, ap, ◌∙◌}
use Rattle.circ_line.specs.Front.{marked}
use Rattle.circ_line.proofs.Many.{shorter, run_push, run_items_at}
use Rattle.circ_line.proofs.FieldTexts.{steps_item, steps_follow}
use Rattle.circ_line.proofs.fields.fill_entries.Goals as goal

pub loop-entry-smaller : goal.loop-entry-smaller
loop-entry-smaller c = shorter steps_item steps_follow c.loop-entry.rest.now c.in-Some.entry c.in-Some.more.now c.in-Some.ensures.read

pub loop-entry-preserved : goal.loop-entry-preserved
loop-entry-preserved c =
    let i = c.loop-entry.invariant in (
      i.0 ++ c.in-Some.entry ∷ [],
      c.in_ok-push-2.ensures.ok ∙ ap (λ ps. ps ++ c.in-Some.entry ∷ []) i.1,
      run_push (marked 46 (2 ^ 16)) c.args.bytes.now i.0 c.in-Some.entry c.loop-entry.rest.now c.in-Some.more.now i.2 (sym c.in-Some.ensures.read),
    )

pub returns : goal.returns
returns c =
    let i = c.loop-entry.invariant in
    ap (λ ps. (ps, c.loop-entry.rest.now)) i.1
    ∙ ap (λ p. (c.args.first ∷ p.0, p.1)) (run_items_at steps_item steps_follow c.args.bytes.now i.0 c.loop-entry.rest.now i.2 c.in_default.ensures.read)
