use Rattle.std.proofs.Common.{◌≡◌, ◌+◌, true, false, map, drop, refl, sym, ◌∙◌}
use Rattle.std.specs.List.{list_any}
use Rattle.circ_term.specs.Order.{is_same}
use Rattle.circ_aci.proofs.Finding.{told_same}
use Rattle.circ_refute.specs.PlainRefutation.{is_pair}
use Rattle.circ_refute.specs.Plain.{pair_of}
use Rattle.circ_refute.specs.declared.descendant.Descendant.{Descendant}
use Rattle.circ_refute.proofs.Sameness.{pair_next}
use Rattle.circ_refute.proofs.refuter.has_pair.Goals.{else-same-via-then-same+else-same-2, else-same-via-else-same}
use Rattle.circ_refute.proofs.refuter.has_pair.Goals as goal

pub returns-then-same-2 : goal.returns-then-same-2
returns-then-same-2 c =
    let p = is_pair c.args.left.now c.args.right.now in
    let x : Descendant = c.pair-item.result in
    let next = pair_next p c.args.pairs.now c.loop-pair.pair-index x c.loop-pair-test.true c.pair-item.is in
    let a : is_same c.args.left.now x.left ≡ true = sym (told_same c.args.left.now x.left c.same.result c.same.ensures) ∙ c.if-same.true in
    let b : is_same c.args.right.now x.right ≡ true = sym (told_same c.args.right.now x.right c.same-then-same.result c.same-then-same.ensures) ∙ c.if-same-2.true in
    sym (next ∙ rw (a, b) refl) ∙ c.loop-pair.invariant

pub loop-pair-preserved : goal.loop-pair-preserved
loop-pair-preserved c =
    let p = is_pair c.args.left.now c.args.right.now in
    let x : Descendant = c.pair-item.result in
    let xs = c.args.pairs.now in
    let i = c.loop-pair.pair-index in
    let next = pair_next p xs i x c.loop-pair-test.true c.pair-item.is in
    let apart : p (pair_of x) ≡ false = elim c.else-same.branch [
      | else-same-via-then-same+else-same-2 w ↦
          let a : is_same c.args.left.now x.left ≡ true = sym (told_same c.args.left.now x.left c.same.result c.same.ensures) ∙ w.if-same.true in
          let b : is_same c.args.right.now x.right ≡ false = sym (told_same c.args.right.now x.right w.same-then-same.result w.same-then-same.ensures) ∙ w.if-same-2.false in
          rw (a, b) refl
      | else-same-via-else-same w ↦
          let a : is_same c.args.left.now x.left ≡ false = sym (told_same c.args.left.now x.left c.same.result c.same.ensures) ∙ w.if-same.false in rw a refl
    ] in
    let step : list_any p (map pair_of (drop (i + 1) xs)) ≡ list_any p (map pair_of (drop i xs)) = sym (next ∙ rw apart refl) in
    step ∙ c.loop-pair.invariant
