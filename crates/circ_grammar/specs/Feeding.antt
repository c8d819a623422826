-- What a reader keeps that is fed the bytes in pieces.
use Rattle.std.specs.Prelude.{◌≡◌, ℕ, List, length}
use Rattle.circ_line.specs.Line.{Line}
use Rattle.circ_line.specs.Plain.{NoFeed}
use Rattle.circ_grammar.specs.FirstBad.{LineTests}
use Rattle.circ_grammar.specs.Machine.{State}
use Rattle.circ_grammar.specs.Reading.{At}
use Rattle.circ_grammar.specs.Now.{Now, now}

-- the number of whole lines, the bytes after the last line feed, and the part under way
pub record Kept : Type 0 where
  pub lines : ℕ
  pub rest : List ℕ
  pub under_way : Now

-- The bytes so far are the lines ls, which lead to the state m, and then what is kept of a line that is not whole.
pub record IsFed (r : LineTests) (bytes : List ℕ) (ls : List Line) (m : State) (k : Kept) : Type 0 where
  pub at : At r bytes ls k.rest m
  pub no_feed : NoFeed k.rest
  pub count : k.lines ≡ length ls
  pub part : now m ≡ k.under_way
