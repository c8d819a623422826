use Rattle.std.proofs.Common.{List, [], Option, ◌<◌, ◌≤◌, ◌+◌, length, refl, ap, arith, sym, subst, ◌∙◌, inl, inr}
use Rattle.std.specs.List.{slice_get}
use Rattle.std.specs.Option.{option_map_or}
use Rattle.std.proofs.lemmas.Bool.{cases_Bool}
use Rattle.circ_theory.specs.Signature.{Operator}
use Rattle.circ_theory.specs.Fresh.{derivatives_of}
use Rattle.circ_proof.proofs.Derivatives.{derivative_at}
use Rattle.circ_special.specs.declared.place.Place.{Place}
use Rattle.circ_contexts.specs.Candidates.{takes}
use Rattle.circ_contexts.proofs.Needing.{NeedsTo, needs_first, needs_taken, needs_passed, needs_missing, needs_last, sort_is}
use Rattle.circ_contexts.proofs.candidates.Means.needs.Goals as goal

pub returns-then-not-goes_on-clause-exact : goal.returns-then-not-goes_on-clause-exact
returns-then-not-goes_on-clause-exact c =
    let th = c.args.self.now.theory.now in
    let b = c.args.self.now.budget in
    let s = c.args.start.now in
    let i = c.loop-derivative.derivative in
    let ps = c.loop-derivative.needs in
    let within : i < length th.derivatives = omega (arith, c.loop-derivative-test.true, c.derivative_count-derivative-end.ensures.count) in
    elim (cases_Bool (takes (slice_get th.derivatives i) s.decl.now.result)) [
      | inl e ↦
          needs_missing th b s.place s.decl.now.result i ps within c.loop-derivative.invariant.needs e s.sort c.add_needs.new.needs
          (rw c.if-not-goes_on.true at (c.in_ok-goes_on.ensures.taken e))
      | inr e ↦ absurd (let p = (c.in_ok-goes_on.ensures.passed e).0 in cc)
    ]

pub loop-derivative-init : goal.loop-derivative-init
loop-derivative-init c =
    let th = c.args.self.now.theory.now in
    let s = c.args.start.now in
    let e = ap (λ (o : Option Operator). option_map_or (λ o. derivatives_of th o.result) o []) c.requires.start.listed in
    record { reducer = refl; needs = rw c.new-needs.ensures (needs_first th c.args.self.now.budget s.place s.decl.now.result e) }

pub loop-derivative-preserved : goal.loop-derivative-preserved
loop-derivative-preserved c =
    let th = c.args.self.now.theory.now in
    let b = c.args.self.now.budget in
    let s = c.args.start.now in
    let i = c.loop-derivative.derivative in
    let ps = c.loop-derivative.needs in
    let qs = c.add_needs.new.needs in
    let within : i < length th.derivatives = omega (arith, c.loop-derivative-test.true, c.derivative_count-derivative-end.ensures.count) in
    let P : List Place → Type 0 = NeedsTo th b s.place s.decl.now.result (i + 1) in
    record {
      reducer = c.add_needs.ensures.same ∙ c.loop-derivative.invariant.reducer;
      needs = elim (cases_Bool (takes (slice_get th.derivatives i) s.decl.now.result)) [
        | inl e ↦
            needs_taken th b s.place s.decl.now.result i ps within c.loop-derivative.invariant.needs e s.sort (sort_is th b s c.requires.start (derivative_at th.derivatives i within).0) qs
            (rw c.if-not-goes_on.false at (c.in_ok-goes_on.ensures.taken e))
        | inr e ↦
            let p = c.in_ok-goes_on.ensures.passed e in
            subst P (sym p.1) (needs_passed th b s.place s.decl.now.result i ps within c.loop-derivative.invariant.needs e)
      ];
    }

pub returns-clause-exact : goal.returns-clause-exact
returns-clause-exact c =
    let th = c.args.self.now.theory.now in
    let i = c.loop-derivative.derivative in
    let past : length th.derivatives ≤ i = omega (arith, c.loop-derivative-test.false, c.derivative_count-derivative-end.ensures.count) in
    needs_last th c.args.self.now.budget c.args.start.now.place c.args.start.now.decl.now.result i c.loop-derivative.needs past c.loop-derivative.invariant.needs
