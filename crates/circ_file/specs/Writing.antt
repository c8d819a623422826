-- Text that is written line by line.
use Rattle.std.specs.Prelude.{◌≡◌, ℕ, List, ◌∷◌, ◌++◌}
use Rattle.circ_line.specs.Line.{Line, simplify_line, reduce_line, derive_line, cases_line, done_line}
use Rattle.circ_grammar.specs.Grammar.{chain_lines, why_lines}
use Rattle.circ_grammar.specs.FirstBad.{file_text}
use Rattle.circ_proof.specs.Rules.{ProofStep, Simplify, Reduce, Derive, Cases, Done}

-- Whatever lines come later: the new text with theirs is the old one with that of the lines that f makes of them.
abbrev pub Writes : (old new : List ℕ) → (List Line → List Line) → Type 0
Writes old new f = (later : List Line) → new ++ file_text later ≡ old ++ file_text (f later)

-- the lines of a step, Done among them, and then the lines k
abbrev pub lines_of_step : ProofStep ℕ → List Line → List Line
lines_of_step (Simplify chain) k = simplify_line ∷ chain_lines chain k
lines_of_step (Reduce why) k = reduce_line ∷ why_lines why k
lines_of_step Derive k = derive_line ∷ k
lines_of_step (Cases term) k = cases_line term ∷ k
lines_of_step Done k = done_line ∷ k
