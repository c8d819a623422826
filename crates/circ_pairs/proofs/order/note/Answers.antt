use Rattle.std.proofs.Common.{◌≡◌, length, List, [], ◌∷◌, ◌++◌, refl, sym, subst, arith}
use Rattle.std.proofs.lemmas.Option.{slice_get_read, slice_get_within}
use Rattle.circ_pairs.specs.Variables.{Variable, AreNumberedFrom}
use Rattle.circ_pairs.proofs.Numbering.{checks_seen, seen_next, out_of_order, numbered_are}
use Rattle.circ_pairs.proofs.order.note.Goals as goal

pub returns-then-number-len-clause-answer : goal.returns-then-number-len-clause-answer
returns-then-number-len-clause-answer c =
    let ss = c.args.sorts.now.items in
    (checks_seen c.args.number c.args.sort c.index.result.now ss (slice_get_read ss c.len.result c.args.number c.index.result.now (omega arith) c.if-number-len.true c.index.ensures)).answer

pub returns-then-number-len-clause-seen : goal.returns-then-number-len-clause-seen
returns-then-number-len-clause-seen c =
    let ss = c.args.sorts.now.items in
    (checks_seen c.args.number c.args.sort c.index.result.now ss (slice_get_read ss c.len.result c.args.number c.index.result.now (omega arith) c.if-number-len.true c.index.ensures)).seen

pub returns-then-number-len-2-clause-answer : goal.returns-then-number-len-2-clause-answer
returns-then-number-len-2-clause-answer c =
    let ss = c.args.sorts.now.items in
    ((λ never. absurd (cc)), (λ a. absurd (out_of_order c.args.number c.args.sort ss (λ e. absurd (omega arith)) (λ g. let l = slice_get_within ss c.args.number c.args.sort g in absurd (omega arith)) a)))

pub returns-clause-answer : goal.returns-clause-answer
returns-clause-answer c =
    let ss = c.args.sorts.now.items in
    let last : c.args.number ≡ length ss = omega arith in
    let P : List Variable → Type 0 = AreNumberedFrom 0 in
    ((λ _. subst P (sym (seen_next c.args.number c.args.sort ss last)) (numbered_are 0 (ss ++ c.args.sort ∷ []))), (λ _. refl))

pub returns-clause-seen : goal.returns-clause-seen
returns-clause-seen c =
    let ss = c.args.sorts.now.items in
    let last : c.args.number ≡ length ss = omega arith in
    rw c.in_ok-push.ensures.items (sym (seen_next c.args.number c.args.sort ss last))
