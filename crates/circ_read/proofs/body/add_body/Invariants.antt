use Rattle.std.proofs.Common.{◌≡◌, ◌+◌, ◌-◌, ◌<◌, ℕ, length}
use Rattle.circ_lexer.specs.TokenList.{tokens_of}
use Rattle.circ_read.proofs.Walk.{Walked}
use Rattle.circ_read.proofs.body.add_body.Given as goal

abbrev pub invariant-loop-stop : goal.invariant-loop-stop
invariant-loop-stop g l =
    (k : ℕ) × (l.number ≡ k + 2) × (l.number < l.at) × Walked g.R.Receiver.adds l.fn.receiver (tokens_of l.tokens) l.fn.head.body k l.receiver l.at

abbrev pub decreases-loop-stop : goal.decreases-loop-stop
decreases-loop-stop g l = length (tokens_of l.tokens) - l.at
