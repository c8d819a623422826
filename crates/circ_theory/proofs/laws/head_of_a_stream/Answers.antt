use Rattle.std.proofs.Common.{◌≡◌, zero, suc, refl, ap, arith}
use Rattle.std.specs.List.{Contains}
use Rattle.circ_theory.specs.Theory.{Derivative}
use Rattle.circ_theory.specs.Examples.{streams}
use Rattle.circ_theory.proofs.laws.head_of_a_stream.Goals as goal

no_bit : (d : Derivative) → Contains streams.derivatives d → d.hole ≡ 0 → ⊥
no_bit d (zero, h, e) hole = let one : 1 ≡ d.hole = ap (λ (x : Derivative). x.hole) e in absurd (omega arith)
no_bit d (suc k, h, e) hole = absurd (omega arith)

pub returns-clause-fits : goal.returns-clause-fits
returns-clause-fits c = ((0, omega arith, refl), refl, (λ n s h. (refl, h)), (λ hidden. no_bit hidden.derivative hidden.listed hidden.hole))
