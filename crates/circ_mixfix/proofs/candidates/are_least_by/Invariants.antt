use Rattle.std.proofs.Common.{◌≡◌, ◌<◌, ℕ, Some}
use Rattle.std.specs.List.{slice_get}
use Rattle.circ_mixfix.specs.Least.{IsLeastBy}
use Rattle.circ_mixfix.proofs.candidates.are_least_by.Given as goal

abbrev pub invariant-loop-number : goal.invariant-loop-number
invariant-loop-number l = (k f : ℕ) → k < l.number-index → slice_get l.numbers k ≡ Some f → IsLeastBy l.theory.signature l.most l.least f
