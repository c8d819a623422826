-- A run of the program, as it is seen from outside.
use Rattle.std.specs.Prelude.{ℕ, List}
use Rattle.circ_outer.specs.Shelf.{ShelfState}
use Rattle.circ_outer.specs.Sink.{SinkState}

-- What a run was given and what became of it: its words; the shelf, from which it takes files and to which it stores one; the sink, to which it prints.
pub record Run : Type 0 where
  -- the words, of which the first is the program's name
  pub words : List (List ℕ)
  -- the shelf before the run
  pub before : ShelfState
  -- the shelf after it
  pub after : ShelfState
  -- the sink at its start
  pub start : SinkState
  -- the sink at its end
  pub end : SinkState

-- the run that has these words, between these states of the shelf and of the sink
abbrev pub run_of : (words : List (List ℕ)) → (before after : ShelfState) → (start end : SinkState) → Run
run_of words before after start end = record { words = words; before = before; after = after; start = start; end = end }
