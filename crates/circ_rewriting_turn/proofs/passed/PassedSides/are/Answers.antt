use Rattle.std.proofs.Common.{◌≡◌, ◌&&◌, Bool, false, true, refl, ap, sym, ◌∙◌}
use Rattle.circ_term.specs.Fingerprint.{fingerprint_of}
use Rattle.circ_term.specs.Order.{is_same}
use Rattle.circ_join.proofs.Joins.{not_same, is_same_at}
use Rattle.circ_rewriting_turn.proofs.Stood.{told, and_false}
use Rattle.circ_rewriting_turn.proofs.passed.PassedSides.are.Goals as goal

pub returns-then-fingerprint : goal.returns-then-fingerprint
returns-then-fingerprint c =
    let r = c.args.right.now in
    let x = c.args.self.now.right in
    let apart = not_same false r x ((λ never. absurd (cc)), (λ e. absurd (c.if-fingerprint.true (c.fingerprint.ensures ∙ ap fingerprint_of e ∙ sym c.fingerprint-2.ensures)))) refl in
    rw apart (and_false (is_same c.args.left.now c.args.self.now.left))

pub returns-then-same : goal.returns-then-same
returns-then-same c =
    let left = is_same_at c.args.left.now c.args.self.now.left (c.same.ensures.0 c.if-same.true) in
    rw left (told c.same-then-same.result c.args.right.now c.args.self.now.right c.same-then-same.ensures)

pub returns-else-same : goal.returns-else-same
returns-else-same c =
    let left = not_same c.same.result c.args.left.now c.args.self.now.left c.same.ensures c.if-same.false in
    rw left c.if-same.false
