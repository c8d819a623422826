use Rattle.std.proofs.Common.{◌≤◌, length}
use Rattle.circ_spelling.proofs.Marked.{alike_both, alike_itself}
use Rattle.circ_spelling.proofs.usable.usable_part.Goals as goal

pub returns-then-are_usable : goal.returns-then-are_usable
returns-then-are_usable c =
    alike_both c.args.grammar.now c.in_ok-worded.worded c.in_ok-worded.worded c.args.tokens.now c.in_ok-worded.ensures
    (alike_itself (λ ts. length ts ≤ length c.args.tokens.now) c.in_ok-worded.worded c.in_ok-worded.ensures.words)

pub returns : goal.returns
returns c =
    alike_both c.args.grammar.now c.in_ok-worded.worded c.in_ok-spelled_part.field-0 c.args.tokens.now c.in_ok-worded.ensures
    (c.in_ok-spelled_part.ensures (length c.args.tokens.now) (rw (c.deref-3.ensures.value) c.in_ok-marks.ensures))
