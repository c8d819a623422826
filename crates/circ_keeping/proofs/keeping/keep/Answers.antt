use Rattle.std.proofs.Common.{◌≡◌, ℕ, ◌+◌, ◌-◌, ◌<◌, List, Bool, length, take, drop, Some, ap, sym, subst, ◌∙◌, arith}
use Rattle.std.proofs.lemmas.List.{take-append-drop, get_or_read}
use Rattle.circ_nodes.specs.Named.{IsNamed, tree_at}
use Rattle.circ_nodes.proofs.Numbers.{grows_more}
use Rattle.circ_keeping.specs.Moved.{MayBecome}
use Rattle.circ_keeping.specs.Taken.{AreTaken}
use Rattle.circ_keeping.proofs.Parted.{takes_read}
use Rattle.circ_keeping.proofs.Entered.{AreEntered, entered_may, entered_next, entered_none}
use Rattle.circ_keeping.proofs.keeping.keep.Goals as goal

pub returns-in_err-marks-clause-grows : goal.returns-in_err-marks-clause-grows
returns-in_err-marks-clause-grows c = (drop c.args.count c.args.nodes.now, sym (take-append-drop c.args.count c.args.nodes.now))

pub returns-in_err-parts-clause-grows : goal.returns-in_err-parts-clause-grows
returns-in_err-parts-clause-grows c = (drop c.args.count c.args.nodes.now, sym (take-append-drop c.args.count c.args.nodes.now))

pub returns-in_err-moved-clause-grows : goal.returns-in_err-moved-clause-grows
returns-in_err-moved-clause-grows c = (drop c.args.count c.args.nodes.now, sym (take-append-drop c.args.count c.args.nodes.now))

pub loop-part-init : goal.loop-part-init
loop-part-init c =
    let old = c.args.nodes.now in
    let marks = c.in_ok-marks.marks.items in
    let P : List ℕ → Type 0 = λ ns. AreEntered old c.args.count c.args.number 0 marks ns c.cut-2.new.self in
    subst P (sym c.in_ok-moved.ensures.items) (entered_none old c.args.count c.args.number marks c.cut-2.new.self c.cut-2.ensures)

pub enter-requires : goal.enter-requires
enter-requires c =
    let old = c.args.nodes.now in
    let at = c.loop-part in
    let marks = c.in_ok-marks.marks.items in
    let P : List Bool → Type 0 = λ bs. AreTaken old c.args.count bs c.in_ok-parts.parts.items in
    let taken = subst P c.as_slice.ensures.value c.in_ok-parts.ensures in
    let takes =
    takes_read old c.args.count marks c.in_ok-parts.parts.items c.deref-part-items.result.now at.part-index c.part-item.result taken c.deref-part-items.ensures.value
    c.loop-part-test.true c.part-item.is in
    let Q : List ℕ → Type 0 = λ ns. MayBecome at.nodes c.args.count ns c.part-item.result in
    subst Q (sym c.as_slice-in-loop-part.ensures.value)
    (entered_may old c.args.count c.args.number at.part-index marks at.moved.items at.nodes c.in_ok-marks.ensures at.invariant c.part-item.result takes)

pub loop-part-preserved : goal.loop-part-preserved
loop-part-preserved c =
    let old = c.args.nodes.now in
    let at = c.loop-part in
    let marks = c.in_ok-marks.marks.items in
    let P : List Bool → Type 0 = λ bs. AreTaken old c.args.count bs c.in_ok-parts.parts.items in
    let taken = subst P c.as_slice.ensures.value c.in_ok-parts.ensures in
    let takes =
    takes_read old c.args.count marks c.in_ok-parts.parts.items c.deref-part-items.result.now at.part-index c.part-item.result taken c.deref-part-items.ensures.value
    c.loop-part-test.true c.part-item.is in
    let entered = rw c.as_slice-in-loop-part.ensures.value at c.in_ok-next.ensures in
    entered_next old c.args.count c.args.number at.part-index marks at.moved.items at.nodes c.in_ok-marks.ensures at.invariant c.part-item.result takes
    c.enter.new.nodes c.in_ok-next.next c.push.new.self.items entered.grows entered.adds entered.one entered.named c.in_ok-push.ensures.items

pub returns-in_err-next-clause-grows : goal.returns-in_err-next-clause-grows
returns-in_err-next-clause-grows c =
    grows_more (take c.args.count c.args.nodes.now) c.loop-part.nodes c.enter.new.nodes c.loop-part.invariant.grows c.enter.ensures.grows

pub returns-in_err-push-clause-grows : goal.returns-in_err-push-clause-grows
returns-in_err-push-clause-grows c =
    grows_more (take c.args.count c.args.nodes.now) c.loop-part.nodes c.enter.new.nodes c.loop-part.invariant.grows c.enter.ensures.grows

pub returns-in_err-next-clause-fewer : goal.returns-in_err-next-clause-fewer
returns-in_err-next-clause-fewer c =
    let long = c.in_ok-parts.ensures.long in
    let all = c.in_ok-marks.ensures.long in
    omega (arith, long, all, ap length c.as_slice.ensures.value, ap length c.deref-part-items.ensures.value, c.loop-part.invariant.few, c.enter.ensures.one)

pub returns-in_err-push-clause-fewer : goal.returns-in_err-push-clause-fewer
returns-in_err-push-clause-fewer c =
    let long = c.in_ok-parts.ensures.long in
    let all = c.in_ok-marks.ensures.long in
    omega (arith, long, all, ap length c.as_slice.ensures.value, ap length c.deref-part-items.ensures.value, c.loop-part.invariant.few, c.enter.ensures.one)

pub index-requires : goal.index-requires
index-requires c =
    let long = c.in_ok-parts.ensures.long in
    let all = c.in_ok-marks.ensures.long in
    omega (arith, long, all, ap length c.as_slice.ensures.value, ap length c.deref-part-items.ensures.value, c.loop-part.invariant.long, c.loop-part.moved.ok.0)

pub returns-clause-grows : goal.returns-clause-grows
returns-clause-grows c = c.loop-part.invariant.grows

pub returns-clause-named : goal.returns-clause-named
returns-clause-named c =
    let at = c.loop-part in
    let j = c.args.number - c.args.count in
    let long = c.in_ok-parts.ensures.long in
    let all = c.in_ok-marks.ensures.long in
    let e : c.args.number ≡ c.args.count + j = omega (arith, c.if-number-count.false) in
    let low : j < at.part-index = omega (arith, long, all, e, ap length c.as_slice.ensures.value, ap length c.deref-part-items.ensures.value) in
    let there = at.invariant.right j low (c.in_ok-marks.ensures.last j e) in
    let read = get_or_read at.moved.items j c.index.result.now (omega (arith, low, at.invariant.long)) c.index.ensures 0 in
    let P : ℕ → Type 0 = λ n. IsNamed at.nodes n (tree_at c.args.nodes.now c.args.number) in
    subst P (sym read) (there ∙ ap (λ n. Some (tree_at c.args.nodes.now n)) (sym e))

pub returns-clause-alone : goal.returns-clause-alone
returns-clause-alone c = c.loop-part.invariant.alone

pub returns-clause-fewer : goal.returns-clause-fewer
returns-clause-fewer c =
    let long = c.in_ok-parts.ensures.long in
    let all = c.in_ok-marks.ensures.long in
    let within = c.loop-part.auto.part-index-end in
    omega (arith, long, all, within, ap length c.as_slice.ensures.value, ap length c.deref-part-items.ensures.value, c.loop-part.invariant.few)
