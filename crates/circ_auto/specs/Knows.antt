-- What the search of two automata knows.
use Rattle.std.specs.Prelude.{◌≡◌, ℕ, ◌<◌, ◌+◌, List, true, Option, Some, None}
use Rattle.circ_auto.specs.declared.visits.Visit.{Visit}
use Rattle.circ_auto.specs.declared.visits.Walk.{Walk}
use Rattle.circ_auto.specs.declared.pairs.Compared.{Compared}
use Rattle.circ_auto.specs.declared.pairs.Compared.TheVariants.{Same, Differ}
use Rattle.circ_auto.specs.Graph.{Graph, FindsGoal}
use Rattle.circ_auto.specs.Pairs.{pairs}
use Rattle.circ_auto.specs.Search.{IsAt, Searched}

abbrev pub graph_of : Walk → Graph
graph_of s = pairs s.first.now s.second.now

abbrev pub Knows : Walk → (head done : ℕ) → Type 0
Knows s head done = Searched (graph_of s) s.visits.items s.seen.items head done

-- the visit is one step from a visit of the search, and a goal
pub record EndsIn (g : Graph) (visits : List Visit) (head letter : ℕ) (n : Visit) : Type 0 where
  pub before : Visit
  pub there : IsAt visits head before
  pub parent : n.parent ≡ head
  pub letter_is : n.letter ≡ letter
  pub letter_in : letter < g.letters
  pub point : n.point ≡ g.step before.point letter
  pub depth : n.depth ≡ before.depth + 1
  pub goal : g.goal n.point ≡ true

-- what one step does
abbrev pub TakesLetter : Walk → Walk → (head : ℕ) → Visit → (letter : ℕ) → Option Visit → Type 0
TakesLetter old new head visit letter None = Knows new head (letter + 1) × IsAt new.visits.items head visit
TakesLetter old new head visit letter (Some n) = Knows new head letter × EndsIn (graph_of new) new.visits.items head letter n

-- the visit is a goal, one step from the head
abbrev pub EndsAtGoal : Walk → Visit → Type 0
EndsAtGoal s n = (Knows s n.parent 0) × EndsIn (graph_of s) s.visits.items n.parent n.letter n

abbrev pub Expands : Walk → (head : ℕ) → Option Visit → Type 0
Expands new head None = Knows new (head + 1) 0
Expands new head (Some n) = EndsAtGoal new n

abbrev pub Searches : Walk → Option Visit → Type 0
Searches new None = FindsGoal (graph_of new) None
Searches new (Some n) = EndsAtGoal new n

abbrev pub found_word : Compared → Option (List ℕ)
found_word Same = None
found_word (Differ w) = Some w.items
