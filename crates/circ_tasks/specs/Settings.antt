-- What a side's links are read against, as the code keeps it.
use Rattle.std.specs.Prelude.{◌≡◌, ℕ, List, [], map, Option, Some, None, Result, Ok, Err}
use Rattle.std.specs.List.{slice_get}
use Rattle.std.specs.Option.{option_map_or}
use Rattle.circ_term.specs.Tree.{Tree}
use Rattle.circ_term.specs.Limits.{Names}
use Rattle.circ_term.specs.declared.fault.TermFault.{TermFault}
use Rattle.circ_theory.specs.Goal.{Goal}
use Rattle.circ_theory.specs.Pairs.{plain_pair}
use Rattle.circ_proof.specs.Link.{Setting, setting}
use Rattle.circ_expansion.specs.Followed.{no_goal}
use Rattle.circ_book.specs.Book.{kept_at}
use Rattle.circ_book.specs.declared.book.Book.{Book}
use Rattle.circ_book.specs.declared.book.Followed.{Followed}
use Rattle.circ_book.specs.declared.histories.Node.{Node}
use Rattle.circ_tasks.specs.declared.leading.Side.{Side}

-- the goal of a node
abbrev pub goal_at : List Node → ℕ → Goal
goal_at ns k = option_map_or (λ n. n.goal) (slice_get ns k) no_goal

-- the hypotheses at the end of a block, or none
abbrev pub goals_at : Book → Option ℕ → List Goal
goals_at b None = []
goals_at b (Some n) = map (λ (x : Followed). goal_at b.nodes.items x.node) (kept_at b n)

abbrev pub setting_of : Side → Setting
setting_of s = setting s.theory.now s.gamma.now (goals_at s.book.now s.block) (map plain_pair s.assumptions.now)
