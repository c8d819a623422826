-- The graph of pairs of states, whose goals are the pairs of which exactly one accepts.
use Rattle.std.specs.Prelude.{ℕ, ◌+◌, ◌*◌, ◌/◌, ◌%◌, Bool, true, false, not, length}
use Rattle.circ_auto.specs.Graph.{Graph}
use Rattle.circ_auto.specs.Machine.{Machine, states, target, is_accepting}

-- whether exactly one is true
abbrev pub one_of : Bool → Bool → Bool
one_of true d = not d
one_of false d = d

-- the pair of s and t has the number s * (states of the second) + t
abbrev pub pairs : Machine → Machine → Graph
pairs m n = record {
  points = states m * states n;
  letters = length m.letters;
  start = m.start * states n + n.start;
  step = λ p x. target m (p / states n) x * states n + target n (p % states n) x;
  goal = λ p. one_of (is_accepting m (p / states n)) (is_accepting n (p % states n));
}
