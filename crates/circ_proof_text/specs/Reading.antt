-- Where a reader stands that is fed a proof's text in pieces, and hands out its parts.
use Rattle.std.specs.Prelude.{◌≡◌, ℕ, ◌+◌, List, [], ◌++◌, map}
use Rattle.circ_theory.specs.Theory.{Theory}
use Rattle.circ_line.specs.Line.{Line}
use Rattle.circ_grammar.specs.Machine.{State}
use Rattle.circ_grammar.specs.Now.{Now, Begin, line_part}
use Rattle.circ_grammar.specs.Feeding.{Kept, IsFed}
use Rattle.circ_grammar.specs.Shown.{shown}
use Rattle.circ_proof_text.specs.Checks.{Seen, nothing, after, after_all}
use Rattle.circ_proof_text.specs.ProofText.{line_tests}
use Rattle.circ_proof_text.specs.Parts.{Part, part_with}

-- What such a reader keeps: the number of whole lines, the bytes after the last line feed, the part under way, what the lines have given, and the parts
-- that are whole and not handed out.
pub record Reading : Type 0 where
  pub lines : ℕ
  pub rest : List ℕ
  pub under_way : Now
  pub seen : Seen
  pub waiting : List Part

abbrev pub kept : Reading → Kept
kept k = record { lines = k.lines; rest = k.rest; under_way = k.under_way }

abbrev pub nothing_read : Reading
nothing_read = record { lines = 0; rest = []; under_way = Begin; seen = nothing; waiting = [] }

-- The reader stands for the bytes, of which it has handed out these parts: the whole lines are good and within the limits, and what is kept and handed out
-- is theirs.
pub record StandsFor (th : Theory) (bytes : List ℕ) (handed : List Part) (k : Reading) : Type 0 where
  pub whole_lines : List Line
  pub state : State
  pub fed : IsFed (line_tests th) bytes whole_lines state (kept k)
  pub seen : k.seen ≡ after_all th nothing whole_lines
  pub parts : map (part_with k.seen.terms) (shown state) ≡ handed ++ k.waiting

-- the parts that the next line shows
abbrev pub line_parts : Reading → Line → List Part
line_parts k l = map (part_with k.seen.terms) (line_part k.seen.terms k.under_way l)

-- what is kept after the next line
abbrev pub after_line : Theory → Reading → Line → Now → Reading
after_line th k l n = record { lines = k.lines + 1; rest = []; under_way = n; seen = after th k.seen l; waiting = k.waiting ++ line_parts k l }
