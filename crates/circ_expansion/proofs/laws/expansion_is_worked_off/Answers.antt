use Rattle.std.proofs.Common.{refl}
use Rattle.circ_expansion.specs.Machine.{all_uses}
use Rattle.circ_expansion.proofs.Ending.{step_down}
use Rattle.circ_expansion.proofs.Working.{worked_right, rest_right}
use Rattle.circ_expansion.proofs.laws.expansion_is_worked_off.Goals as goal

pub returns-clause-begins : goal.returns-clause-begins
returns-clause-begins c = λ k th p n ws. worked_right k th p n ws

pub returns-clause-goes_on : goal.returns-clause-goes_on
returns-clause-goes_on c = λ f j js vs n. rest_right f j js vs n

pub returns-clause-counts_down : goal.returns-clause-counts_down
returns-clause-counts_down c = λ f j js vs n. step_down (all_uses f) f j js vs n

pub returns-clause-ends : goal.returns-clause-ends
returns-clause-ends c = λ f vs n. refl
