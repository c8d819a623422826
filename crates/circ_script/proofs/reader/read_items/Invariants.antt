use Rattle.std.proofs.Common.{◌≡◌, ◌+◌, ◌-◌, ℕ, length}
use Rattle.circ_lexer.specs.TokenList.{tokens_of}
use Rattle.circ_script.specs.Steps.{draft_of, IsButVariables}
use Rattle.circ_script.proofs.Walk.{Walked}
use Rattle.circ_script.proofs.reader.read_items.Given as goal

abbrev pub invariant-loop-stop : goal.invariant-loop-stop
invariant-loop-stop l = record {
  walked : (k : ℕ) × (l.number ≡ k + 1) × Walked l.job (draft_of l.fn.theory l.fn.asked) l.tokens k (draft_of l.theory l.asked) l.rest;
  kept : IsButVariables l.fn.theory l.theory;
}

abbrev pub decreases-loop-stop : goal.decreases-loop-stop
decreases-loop-stop l = length (tokens_of l.tokens) - l.rest.from
