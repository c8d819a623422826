use Rattle.std.proofs.Common.{◌≡◌, ◌+◌, true, false, List, map, sym, ◌∙◌, subst, arith}
use Rattle.std.specs.List.{list_any}
use Rattle.circ_term.specs.Order.{is_same}
use Rattle.circ_aci.proofs.Finding.{told_same}
use Rattle.circ_refute.specs.PlainRefutation.{Conclusion, is_pair}
use Rattle.circ_refute.specs.Plain.{entries_by, led_to, pair_of}
use Rattle.circ_refute.specs.Progress.{progress, work, GoesOn}
use Rattle.circ_refute.specs.declared.descendant.Descendant.{Descendant}
use Rattle.circ_refute.proofs.Turning.{judge_same, judge_seen, judge_new}
use Rattle.circ_refute.proofs.refuter.Refuter.judge.Goals as goal

pub returns-then-same-clause-goes : goal.returns-then-same-clause-goes
returns-then-same-clause-goes c =
    let s = c.args.self.now in
    let th = s.theory.now in
    let by = entries_by th (led_to th s.expanded.items) c.args.origin in
    let e : is_same c.args.left c.args.right ≡ true = sym (told_same c.args.left c.args.right c.same.result c.same.ensures) ∙ c.if-same.true in
    (judge_same th (progress s) by c.args.left c.args.right e, c.requires.room.rest, omega arith)

pub returns-then-is_hidden-clause-goes : goal.returns-then-is_hidden-clause-goes
returns-then-is_hidden-clause-goes c =
    let s = c.args.self.now in
    let th = s.theory.now in
    let by = entries_by th (led_to th s.expanded.items) c.args.origin in
    let a : is_same c.args.left c.args.right ≡ false = sym (told_same c.args.left c.args.right c.same.result c.same.ensures) ∙ c.if-same.false in
    let h = rw c.sort.ensures at (sym c.is_hidden.ensures.exact ∙ c.if-is_hidden.true) in
    let S : List Descendant → Type 0 = λ xs. list_any (is_pair c.args.left c.args.right) (map pair_of xs) ≡ false in
    let n = subst S c.as_slice.ensures.value (sym c.has_pair.ensures ∙ c.if-has_pair.false) in
    let G : Conclusion → Type 0 = λ x. GoesOn th x (work (progress s) + 1) (progress c.expand.new.self) c.expand.result in
    subst G (sym (judge_new th (progress s) by c.args.left c.args.right a h n)) c.expand.ensures.goes

pub returns-then-has_pair-clause-goes : goal.returns-then-has_pair-clause-goes
returns-then-has_pair-clause-goes c =
    let s = c.args.self.now in
    let th = s.theory.now in
    let by = entries_by th (led_to th s.expanded.items) c.args.origin in
    let a : is_same c.args.left c.args.right ≡ false = sym (told_same c.args.left c.args.right c.same.result c.same.ensures) ∙ c.if-same.false in
    let h = rw c.sort.ensures at (sym c.is_hidden.ensures.exact ∙ c.if-is_hidden.true) in
    let S : List Descendant → Type 0 = λ xs. list_any (is_pair c.args.left c.args.right) (map pair_of xs) ≡ true in
    let n = subst S c.as_slice.ensures.value (sym c.has_pair.ensures ∙ c.if-has_pair.true) in
    (judge_seen th (progress s) by c.args.left c.args.right a h n, c.requires.room.rest, omega arith)

pub judge_visible-requires-clause-apart : goal.judge_visible-requires-clause-apart
judge_visible-requires-clause-apart c = sym (told_same c.args.left c.args.right c.same.result c.same.ensures) ∙ c.if-same.false

pub judge_visible-requires-clause-visible : goal.judge_visible-requires-clause-visible
judge_visible-requires-clause-visible c = rw c.sort.ensures at (sym c.is_hidden.ensures.exact ∙ c.if-is_hidden.false)
