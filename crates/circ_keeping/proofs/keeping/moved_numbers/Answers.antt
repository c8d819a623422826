use Rattle.std.proofs.Common.{◌+◌, ◌++◌, ◌∷◌, [], length, map, drop, get_or, ap, sym, ◌∙◌, append_assoc, append-nil}
use Rattle.std.proofs.lemmas.List.{drop_all, drop_more}
use Rattle.circ_keeping.specs.Moved.{moved_number}
use Rattle.circ_keeping.proofs.Marked.{below_read}
use Rattle.circ_keeping.proofs.keeping.moved_numbers.Goals as goal

pub moved_of-requires : goal.moved_of-requires
moved_of-requires c =
    below_read c.args.numbers.now c.loop-number.number-index (c.args.count + length c.args.moved.now) c.requires c.loop-number-test.true

pub loop-number-preserved : goal.loop-number-preserved
loop-number-preserved c =
    let at = c.loop-number in
    let f = moved_number c.args.count c.args.moved.now in
    let numbers = c.args.numbers.now in
    let n = get_or numbers at.number-index 0 in
    let rest = drop (at.number-index + 1) numbers in
    let e = drop_more numbers at.number-index 0 c.loop-number-test.true in
    ap (λ xs. xs ++ map f rest) (c.in_ok-push.ensures.ok ∙ ap (λ x. at.next.items ++ x ∷ []) c.moved_of.ensures)
    ∙ append_assoc at.next.items (f n ∷ []) (map f rest) ∙ ap (λ xs. at.next.items ++ map f xs) (sym e) ∙ at.invariant

pub returns : goal.returns
returns c =
    let at = c.loop-number in
    let f = moved_number c.args.count c.args.moved.now in
    let end = drop_all at.number-index c.args.numbers.now c.loop-number-test.false in
    sym (append-nil at.next.items) ∙ ap (λ xs. at.next.items ++ map f xs) (sym end) ∙ at.invariant
