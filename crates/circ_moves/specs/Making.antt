-- What one move makes of a term.
use Rattle.std.specs.Prelude.{ℕ, List, Result}
use Rattle.std.specs.Option.{unwrap_or}
use Rattle.circ_term.specs.Tree.{Tree, replaced}
use Rattle.circ_term.specs.Limits.{first_limit, or_else}
use Rattle.circ_plain_search.specs.Joining.{Stop, within_or}
use Rattle.circ_content_join.specs.Moves.{Move, move_in, move_limit}

-- the term with x at the path, where both are within the limits
abbrev pub put_here : Tree → (q : List ℕ) → (x : Tree) → Result Tree Stop
put_here t q x = within_or (or_else (first_limit x) (first_limit (unwrap_or (replaced t q x) t))) (unwrap_or (replaced t q x) t)

-- the term after the move, where no limit is passed
abbrev pub made : Tree → Move → Result Tree Stop
made t v = within_or (move_limit t v) (move_in t v)
