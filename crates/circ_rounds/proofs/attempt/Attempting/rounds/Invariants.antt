use Rattle.std.proofs.Common.{◌≡◌, ◌≤◌, ◌-◌, Bool, List, [], ◌∷◌}
use Rattle.circ_theory.specs.Theory.{Pair}
use Rattle.circ_plain_search.specs.Search.{no_links, sides_with}
use Rattle.circ_rounds.specs.Attempting.{AttemptsIn, rounds_in}
use Rattle.circ_rounds.specs.Running.{sides_of, stood_of}
use Rattle.circ_rounds.proofs.attempt.Attempting.rounds.Given as goal

abbrev pub invariant-loop-round : goal.invariant-loop-round
invariant-loop-round l = record {
  less : l.budget ≤ l.fn.budget;
  same : l.reducer ≡ l.fn.reducer;
  goes :
      (A : List Pair) (bs : List Bool) → AttemptsIn l.self bs A l.fn.reducer
      → rounds_in l.self bs A l.most ((l.left, l.right) ∷ []) (sides_with l.left l.right no_links 0) l.fn.budget
      ≡ rounds_in l.self bs A (l.most - l._round) (stood_of l.run) (sides_of l.run) l.budget;
}
