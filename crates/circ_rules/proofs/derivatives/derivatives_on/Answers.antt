use Rattle.std.proofs.Common.{◌≡◌, ◌<◌, ◌==◌, true, false, length, arith, sym, ◌∙◌}
use Rattle.std.specs.List.{slice_get}
use Rattle.std.specs.Option.{option_map_or}
use Rattle.circ_term.specs.Tree.{sort_of}
use Rattle.circ_rules.proofs.Making.{stands_taken, stands_passed, stands_stopped}
use Rattle.circ_rules.proofs.derivatives.derivatives_on.Goals as goal
use Rattle.circ_rules.proofs.derivatives.derivatives_on.Goals.{then-takes+in-Ok+in_ok-push_back-in-Ok, else-takes}

pub returns-in-Err : goal.returns-in-Err
returns-in-Err c =
    let th = c.args.theory.now in
    let i = c.loop-derivative.derivative in
    let within : i < length th.derivatives = omega (arith, c.loop-derivative-test.true, c.derivative_count-derivative-end.ensures.count) in
    let takes : option_map_or (λ d. d.hole == sort_of c.args.goal.now.left) (slice_get th.derivatives i) false ≡ true
    = rw c.sort-sort.ensures at (sym c.takes.ensures ∙ c.if-takes.true) in
    stands_stopped th c.args.goal.now i c.loop-derivative.derived.items c.in-Err.fault within takes (rw c.in-Err.is at c.derivative_on.ensures)
    c.loop-derivative.invariant

pub loop-derivative-preserved : goal.loop-derivative-preserved
loop-derivative-preserved c =
    let th = c.args.theory.now in
    let i = c.loop-derivative.derivative in
    let hs = c.loop-derivative.derived.items in
    let within : i < length th.derivatives = omega (arith, c.loop-derivative-test.true, c.derivative_count-derivative-end.ensures.count) in
    elim c.if-takes.branch [
      | then-takes+in-Ok+in_ok-push_back-in-Ok w ↦
          let takes : option_map_or (λ d. d.hole == sort_of c.args.goal.now.left) (slice_get th.derivatives i) false ≡ true
          = rw c.sort-sort.ensures at (sym c.takes.ensures ∙ w.if-takes.true) in
          rw (w.derived-is, w.in_ok-push_back-in-Ok.ensures.items)
          (stands_taken th c.args.goal.now i hs w.in-Ok.goal within takes (rw w.in-Ok.is at w.derivative_on.ensures) c.loop-derivative.invariant)
      | else-takes w ↦
          let takes : option_map_or (λ d. d.hole == sort_of c.args.goal.now.left) (slice_get th.derivatives i) false ≡ false
          = rw c.sort-sort.ensures at (sym c.takes.ensures ∙ w.if-takes.false) in
          rw w.derived-is (stands_passed th c.args.goal.now i hs within takes c.loop-derivative.invariant)
    ]
