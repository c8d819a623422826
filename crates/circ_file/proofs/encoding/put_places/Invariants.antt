use Rattle.std.proofs.Common.{map}
use Rattle.circ_grammar.specs.Grammar.{lines_of, place_lines}
use Rattle.circ_proof_text.specs.ProofText.{place_numbers}
use Rattle.circ_file.proofs.Written.{IsLeft}
use Rattle.circ_file.proofs.encoding.put_places.Given as goal

abbrev pub invariant-loop-place : goal.invariant-loop-place
invariant-loop-place l = IsLeft (λ xs. lines_of place_lines (map place_numbers xs)) l.fn.out.items l.out.items l.places l.place-index
