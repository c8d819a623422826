use Rattle.std.proofs.Common.{◌≡◌, ℕ, subst, inl, inr, arith}
use Rattle.std.proofs.lemmas.Bool.{cases_lt}
use Rattle.std.proofs.lemmas.Option.{slice_get_within}
use Rattle.circ_special.specs.Occurrences.{IsObservedBy}
use Rattle.circ_special.proofs.guard.Asked.is_observed.Goals as goal

pub loop-number-preserved : goal.loop-number-preserved
loop-number-preserved c = λ k l o. elim (cases_lt k c.loop-number.number) [
  | inl h ↦ c.loop-number.invariant k h o
  | inr h ↦
      let e : k ≡ c.loop-number.number = omega arith in
      let P : ℕ → Type 0 = IsObservedBy c.args.self.now c.args.path.now in
      let never = c.if-is_observed_by.ensures.1 (subst P e o) in
      absurd (cc)
]

pub returns : goal.returns
returns c = (
  (λ never. absurd (cc)),
  (λ o.
      let within = slice_get_within c.args.self.now.theory.now.derivatives o.0 o.1.derivative o.1.listed in
      absurd (c.loop-number.invariant o.0 (omega (arith, within, c.loop-number-test.false, c.derivative_count-number-end.ensures.count)) o.1)),
)
