use Rattle.std.proofs.Common.{sym, ap, ◌∙◌, arith}
use Rattle.circ_refute.specs.PlainRefutation.{Told_apart, conclude}
use Rattle.circ_refute.specs.Plain.{entries_by, led_to}
use Rattle.circ_refute.specs.Progress.{progress}
use Rattle.circ_refute.proofs.Turning.{judge_apart, judge_visible}
use Rattle.circ_refute.proofs.refuter.Refuter.judge_visible.Goals as goal

pub returns-then-not-are_two_cases : goal.returns-then-not-are_two_cases
returns-then-not-are_two_cases c =
    let s = c.args.self.now in
    let th = s.theory.now in
    let by = entries_by th (led_to th s.expanded.items) c.args.origin in
    (judge_visible th (progress s) by c.args.left c.args.right c.requires.apart c.requires.visible (sym c.are_two_cases.ensures ∙ c.if-not-are_two_cases.true), c.requires.room, omega arith)

pub returns : goal.returns
returns c =
    let s = c.args.self.now in
    let th = s.theory.now in
    let by = entries_by th (led_to th s.expanded.items) c.args.origin in
    judge_apart th (progress s) by c.args.left c.args.right c.requires.apart c.requires.visible (sym c.are_two_cases.ensures ∙ c.if-not-are_two_cases.false)
    ∙ ap (λ x. conclude (Told_apart x c.args.left c.args.right) s.rewrites s.derives) (sym c.in_ok-entries.ensures)
