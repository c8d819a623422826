-- Where a reader of a proof's text stands.
use Rattle.std.specs.Prelude.{◌≡◌, ℕ, List, [], ◌∷◌, ◌++◌, Some}
use Rattle.circ_line.specs.Line.{Line}
use Rattle.circ_line.specs.Text.{line_text, IsInRange}
use Rattle.circ_grammar.specs.Grammar.{NumberedBlock}
use Rattle.circ_grammar.specs.FirstBad.{LineTests, file_text, AllInRange, AllPass, NoLimit}
use Rattle.circ_grammar.specs.Machine.{Front, State, begin, ended, run}

-- The bytes begin with the lines ls, which are as the tests ask and lead to the state m, and then come the bytes rest.
pub record At (r : LineTests) (bytes : List ℕ) (ls : List Line) (rest : List ℕ) (m : State) : Type 0 where
  pub text : bytes ≡ file_text ls ++ rest
  pub state : run begin ls ≡ Some m
  pub fit : AllInRange ls
  pub pass : AllPass r [] ls
  pub within : NoLimit r [] ls

-- The next line in the bytes is l.
abbrev pub NextLine : List ℕ → Line → List ℕ → Type 0
NextLine rest l after = IsInRange l × (rest ≡ line_text l ++ (10 ∷ after))

abbrev pub IsEnded : State → Type 0
IsEnded m = (f : Front) × (bs : List NumberedBlock) × (m ≡ ended f bs)
