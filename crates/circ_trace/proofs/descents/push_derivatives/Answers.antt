use Rattle.std.proofs.Common.{◌≡◌, ◌<◌, ◌+◌, ◌==◌, ◌++◌, ◌∷◌, [], List, true, false, length, drop, arith, sym, ap, ◌∙◌}
use Rattle.std.specs.List.{slice_get}
use Rattle.std.specs.Option.{option_map_or}
use Rattle.circ_trace.specs.Descents.{derived_row}
use Rattle.circ_trace.specs.declared.descent.Descent.{Descent}
use Rattle.circ_trace.specs.declared.descent.Descent.TheVariants.{Derived}
use Rattle.circ_trace.proofs.Listing.{derivative_taken, derivative_passed}
use Rattle.circ_trace.proofs.descents.push_derivatives.Goals.{then-takes+in_ok-push_back, else-takes}
use Rattle.circ_trace.proofs.descents.push_derivatives.Goals as goal

pub loop-derivative-preserved : goal.loop-derivative-preserved
loop-derivative-preserved c =
    let ds = c.args.theory.now.derivatives in
    let n = c.args.goal in
    let s = c.args.sort in
    let i = c.loop-derivative.derivative in
    let ps : List Descent = c.loop-derivative.waiting.items in
    let whole : List Descent = c.args.waiting.now.items ++ derived_row n s 0 ds in
    let within : i < length ds = omega (arith, c.loop-derivative-test.true, c.derivative_count-derivative-end.ensures.count) in
    elim c.if-takes.branch [
      | then-takes+in_ok-push_back w ↦
          let takes : option_map_or (λ d. d.hole == s) (slice_get ds i) false ≡ true = sym c.takes.ensures ∙ w.if-takes.true in
          let rest : List Descent = derived_row n s (i + 1) (drop (i + 1) ds) in
          let same : c.if-takes.waiting.items ≡ ps ++ Derived n i ∷ [] = ap (λ v. v.items) w.waiting-is ∙ w.in_ok-push_back.ensures.items in
          ap (λ x. x ++ rest) same ∙ derivative_taken ds n s i within ps whole c.loop-derivative.invariant takes
      | else-takes w ↦
          let takes : option_map_or (λ d. d.hole == s) (slice_get ds i) false ≡ false = sym c.takes.ensures ∙ w.if-takes.false in
          let rest : List Descent = derived_row n s (i + 1) (drop (i + 1) ds) in
          ap (λ v. v.items ++ rest) w.waiting-is ∙ derivative_passed ds n s i within ps whole c.loop-derivative.invariant takes
    ]
