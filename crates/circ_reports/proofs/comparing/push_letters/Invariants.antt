use Rattle.std.proofs.Common.{◌≡◌, ◌∷◌, ◌++◌, drop}
use Rattle.std.specs.Prelude.{flat_map}
use Rattle.circ_reports.specs.Same.{letters_of}
use Rattle.circ_reports.proofs.comparing.push_letters.Given as goal

abbrev pub invariant-loop-letter : goal.invariant-loop-letter
invariant-loop-letter l =
    l.out.items ++ flat_map (λ w. 32 ∷ w) (letters_of l.automaton (drop l.letter-index l.word))
    ≡ l.fn.out.items ++ flat_map (λ w. 32 ∷ w) (letters_of l.automaton l.word)
