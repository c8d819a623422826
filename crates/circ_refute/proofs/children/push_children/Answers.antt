use Rattle.std.proofs.Common.{◌≡◌, ◌<◌, ◌==◌, true, false, length, arith, sym, ◌∙◌, subst, ℕ}
use Rattle.std.specs.List.{slice_get}
use Rattle.std.specs.Option.{option_map_or}
use Rattle.circ_term.specs.Limits.{Names}
use Rattle.circ_term.specs.Tree.{sort_of}
use Rattle.circ_refute.specs.PlainRefutation.{first_parameter}
use Rattle.circ_refute.specs.Plain.{descendants, descendants_limit}
use Rattle.circ_refute.proofs.Growing.{stands_taken, stands_passed, stands_stopped}
use Rattle.circ_refute.proofs.children.push_children.Goals.{then-takes+in-Ok+in_ok-push_back-in-Ok, else-takes}
use Rattle.circ_refute.proofs.children.push_children.Goals as goal

pub returns-in-Err : goal.returns-in-Err
returns-in-Err c =
    let ds = c.args.theory.now.derivatives in
    let i = c.loop-derivative.derivative in
    let within : i < length ds = omega (arith, c.loop-derivative-test.true, c.derivative_count-derivative-end.ensures.count) in
    let takes : option_map_or (λ d. d.hole == sort_of c.args.left.now) (slice_get ds i) false ≡ true
    = rw c.sort-sort.ensures at (sym c.takes.ensures ∙ c.if-takes.true) in
    let k = c.max-first.result in
    let first : k ≡ first_parameter c.args.left.now c.args.right.now = omega (arith, c.max-first.ensures, c.max.ensures, c.above.ensures.exact, c.above-2.ensures.exact) in
    let P : ℕ → Type 0 = λ x. Names c.in-Err.fault (descendants_limit (descendants c.args.parent c.args.left.now c.args.right.now x 0 ds)) in
    subst P first
    (stands_stopped ds c.args.parent c.args.left.now c.args.right.now k i c.args.queue.now.items c.loop-derivative.queue.items c.loop-derivative.invariant
    c.in-Err.fault within takes (rw c.in-Err.is at c.child.ensures))

pub loop-derivative-preserved : goal.loop-derivative-preserved
loop-derivative-preserved c =
    let ds = c.args.theory.now.derivatives in
    let i = c.loop-derivative.derivative in
    let within : i < length ds = omega (arith, c.loop-derivative-test.true, c.derivative_count-derivative-end.ensures.count) in
    elim c.if-takes.branch [
      | then-takes+in-Ok+in_ok-push_back-in-Ok w ↦
          let takes : option_map_or (λ d. d.hole == sort_of c.args.left.now) (slice_get ds i) false ≡ true
          = rw c.sort-sort.ensures at (sym c.takes.ensures ∙ w.if-takes.true) in
          let st = stands_taken ds c.args.parent c.args.left.now c.args.right.now c.max-first.result i c.args.queue.now.items c.loop-derivative.queue.items
          c.loop-derivative.invariant w.in-Ok.child within takes (rw w.in-Ok.is at w.child.ensures) in
          rw (w.queue-is, w.in_ok-push_back-in-Ok.ensures.items) st
      | else-takes w ↦
          let takes : option_map_or (λ d. d.hole == sort_of c.args.left.now) (slice_get ds i) false ≡ false
          = rw c.sort-sort.ensures at (sym c.takes.ensures ∙ w.if-takes.false) in
          rw w.queue-is
          (stands_passed ds c.args.parent c.args.left.now c.args.right.now c.max-first.result i c.args.queue.now.items c.loop-derivative.queue.items
          c.loop-derivative.invariant within takes)
    ]
