-- What a breadth-first search knows: the visits in the order in which it came to them, and which points it has seen.
use Rattle.std.specs.Prelude.{◌≡◌, ℕ, ◌<◌, ◌≤◌, ◌+◌, List, [], ◌∷◌, Bool, true, false, ◌⊎◌, length, Some}
use Rattle.std.specs.List.{slice_get}
use Rattle.circ_auto.specs.declared.visits.Visit.{Visit}
use Rattle.circ_auto.specs.Graph.{Graph}

-- the visit in this place
abbrev pub IsAt : List Visit → ℕ → Visit → Type 0
IsAt visits i n = slice_get visits i ≡ Some n

-- the start, or a step from an earlier visit
pub record IsStartVisit (g : Graph) (i : ℕ) (n : Visit) : Type 0 where
  pub place : i ≡ 0
  pub point : n.point ≡ g.start
  pub depth : n.depth ≡ 0

pub record IsNextVisit (g : Graph) (visits : List Visit) (i : ℕ) (n : Visit) : Type 0 where
  pub parent : Visit
  pub there : IsAt visits n.parent parent
  pub earlier : n.parent < i
  pub letter : n.letter < g.letters
  pub point : n.point ≡ g.step parent.point n.letter
  pub depth : n.depth ≡ parent.depth + 1

-- some visit is at the point, with at most this depth
pub record Reached (visits : List Visit) (p d : ℕ) : Type 0 where
  pub place : ℕ
  pub visit : Visit
  pub there : IsAt visits place visit
  pub point : visit.point ≡ p
  pub depth : visit.depth ≤ d

-- how many points are not seen
abbrev pub unseen : List Bool → ℕ
unseen [] = 0
unseen (true ∷ bs) = unseen bs
unseen (false ∷ bs) = unseen bs + 1

-- The steps from the visits before `head` are done, and from the visit at `head` those by the letters before `done`.
abbrev pub IsDone : (head done i x : ℕ) → Type 0
IsDone head done i x = (i < head) ⊎ ((i ≡ head) × (x < done))

pub record Searched (g : Graph) (visits : List Visit) (seen : List Bool) (head done : ℕ) : Type 0 where
  pub points : length seen ≡ g.points
  pub counted : unseen seen + length visits ≡ g.points
  pub inside : (i : ℕ) (n : Visit) → IsAt visits i n → n.point < g.points
  pub shallow : (i : ℕ) (n : Visit) → IsAt visits i n → n.depth ≤ i
  pub rooted : (i : ℕ) (n : Visit) → IsAt visits i n → IsStartVisit g i n ⊎ IsNextVisit g visits i n
  pub started : Reached visits g.start 0
  pub noted : (p : ℕ) → slice_get seen p ≡ Some true → (d : ℕ) → ((i : ℕ) (n : Visit) → IsAt visits i n → n.depth ≤ d) → Reached visits p d
  pub closed : (i x : ℕ) (n : Visit) → IsAt visits i n → IsDone head done i x → x < g.letters → Reached visits (g.step n.point x) (n.depth + 1)
  pub sorted : (i j : ℕ) (n m : Visit) → IsAt visits i n → IsAt visits j m → i ≤ j → n.depth ≤ m.depth
  pub near : (i : ℕ) (h n : Visit) → IsAt visits head h → IsAt visits i n → n.depth ≤ h.depth + 1
  pub none : (i : ℕ) (n : Visit) → IsAt visits i n → g.goal n.point ≡ false
