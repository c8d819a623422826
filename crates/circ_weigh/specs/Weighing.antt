-- Terms that are weighed against each other: how often each leaf stands on the left, and on the right.
use Rattle.std.specs.declared.cmp.Ordering.{Ordering}
use Rattle.std.specs.Ordering.{nat_cmp, ordering_then}
use Rattle.std.specs.BinaryHeap.{IsUpperBound}
use Rattle.std.specs.Prelude.{◌≡◌, ◌⊎◌, ◌↔◌, ℕ, ◌+◌, ◌*◌, ◌<◌, ◌≤◌, ◌==◌, cond, List, [], ◌∷◌, ◌++◌, length, Option, Some, None}
use Rattle.std.specs.List.{sum_by, Contains}
use Rattle.circ_term.specs.Tree.{Tree, App, none, more, size_of}
use Rattle.circ_term.specs.Order.{is_same}
use Rattle.circ_nodes.specs.Named.{tree_at}
use Rattle.circ_aci.specs.Content.{leaves}
use Rattle.circ_weigh.specs.declared.weighing.Part.{Part}

-- how often a term stands in a list
abbrev pub one : Tree → Tree → ℕ
one x y = cond (is_same x y) 1 0

abbrev pub ones : Tree → List Tree → ℕ
ones x [] = 0
ones x (y ∷ ys) = one x y + ones x ys

-- how often t is a leaf of the term of number n
abbrev pub holds : (nodes : List Tree) (f : ℕ) (t : Tree) (n : ℕ) → ℕ
holds nodes f t n = ones t (leaves f (tree_at nodes n))

abbrev pub left_sum : (ℕ → ℕ) → List Part → ℕ
left_sum g ps = sum_by (λ p. p.left * g p.number) ps

abbrev pub right_sum : (ℕ → ℕ) → List Part → ℕ
right_sum g ps = sum_by (λ p. p.right * g p.number) ps

abbrev pub size_sum : List Part → ℕ
size_sum ps = sum_by (λ p. p.size) ps

-- each leaf stands as often on the left as on the right
abbrev pub Balances : (nodes : List Tree) (f : ℕ) → List Part → Type 0
Balances nodes f ps = (t : Tree) → left_sum (holds nodes f t) ps ≡ right_sum (holds nodes f t) ps

-- the same, with one part more
abbrev pub BalancesWith : (nodes : List Tree) (f : ℕ) → Part → List Part → Type 0
BalancesWith nodes f x ps = (t : Tree) → left_sum (holds nodes f t) ps + x.left * holds nodes f t x.number ≡ right_sum (holds nodes f t) ps + x.right * holds nodes f t x.number

-- the term is there, and the part has its size
pub record IsPart (nodes : List Tree) (p : Part) : Type 0 where
  pub there : p.number < length nodes
  pub size : p.size ≡ size_of (tree_at nodes p.number)

abbrev pub AreParts : (nodes : List Tree) → List Part → Type 0
AreParts nodes ps = (p : Part) → Contains ps p → IsPart nodes p

-- the term is there, and is a leaf
pub record IsLeafPart (nodes : List Tree) (f : ℕ) (p : Part) : Type 0 where
  pub there : p.number < length nodes
  pub alone : leaves f (tree_at nodes p.number) ≡ tree_at nodes p.number ∷ []

abbrev pub AreLeafParts : (nodes : List Tree) (f : ℕ) → List Part → Type 0
AreLeafParts nodes f ps = (p : Part) → Contains ps p → IsLeafPart nodes f p

-- one part more, among the sums (old, new) or among the leaves (known, noted)
pub record Adds (nodes : List Tree) (f number left right : ℕ) (old new known noted : List Part) : Type 0 where
  pub left_more : (g : ℕ → ℕ) → left_sum g (new ++ noted) ≡ left * g number + left_sum g (old ++ known)
  pub right_more : (g : ℕ → ℕ) → right_sum g (new ++ noted) ≡ right * g number + right_sum g (old ++ known)
  pub size_more : size_sum new ≤ size_of (tree_at nodes number) + size_sum old
  pub parts : AreParts nodes old → AreParts nodes new
  pub lone : AreLeafParts nodes f known → AreLeafParts nodes f noted

-- the greatest part is taken out, with all of its number
pub record Takes (old new : List Part) (x : Part) : Type 0 where
  pub left_less : (g : ℕ → ℕ) → left_sum g new + x.left * g x.number ≡ left_sum g old
  pub right_less : (g : ℕ → ℕ) → right_sum g new + x.right * g x.number ≡ right_sum g old
  pub size_less : size_sum new + x.size ≤ size_sum old
  pub from : (p : Part) → Contains new p → Contains old p
  pub first : Part
  pub first_there : Contains old first
  pub first_number : first.number ≡ x.number
  pub first_size : first.size ≡ x.size

-- the others are no larger, and have other numbers
abbrev pub IsAbove : Part → List Part → Type 0
IsAbove x ps = (p : Part) → Contains ps p → (p.size ≤ x.size) × (p.number ≡ x.number → ⊥)

abbrev pub TakesWhole : (old new : List Part) → Option Part → Type 0
TakesWhole old new None = old ≡ []
TakesWhole old new (Some x) = Takes old new x × IsAbove x new

-- by size, then number, then weights
abbrev pub part_cmp : Part → Part → Ordering
part_cmp p q =
    ordering_then (nat_cmp p.size q.size)
    (ordering_then (nat_cmp p.number q.number) (ordering_then (nat_cmp p.left q.left) (nat_cmp p.right q.right)))

-- parts of one number are of one size
abbrev pub Agree : List Part → Type 0
Agree ps = (p q : Part) → Contains ps p → Contains ps q → p.number ≡ q.number → p.size ≡ q.size

-- the greatest part, if there is one, has another number
abbrev pub IsPast : (number : ℕ) → List Part → Type 0
IsPast n ps = (ps ≡ []) ⊎ ((q : Part) × (q.number ≡ n → ⊥) × Contains ps q × IsUpperBound part_cmp q ps)

-- the two arguments of f at the top of a term, or that the term is a leaf
abbrev pub TellsTwo : (nodes : List Tree) (f : ℕ) → Tree → Option (ℕ × ℕ) → Type 0
TellsTwo nodes f t None = leaves f t ≡ t ∷ []
TellsTwo nodes f t (Some p) = (s : ℕ) × (t ≡ App f s (more (tree_at nodes p.0) (more (tree_at nodes p.1) none))) × (p.0 < length nodes) × (p.1 < length nodes)

-- the part was gone on with
pub record StepsOn (nodes : List Tree) (f : ℕ) (x : Part) (old new known noted : List Part) : Type 0 where
  pub balance : Balances nodes f (new ++ noted) ↔ BalancesWith nodes f x (old ++ known)
  pub parts : AreParts nodes old → AreParts nodes new
  pub lone : AreLeafParts nodes f known → AreLeafParts nodes f noted
  pub falls : x.size ≡ size_of (tree_at nodes x.number) → size_sum new < size_sum old + x.size

-- both sides weigh the same, whatever each number counts
abbrev pub BalancesOut : List Part → Type 0
BalancesOut ps = (g : ℕ → ℕ) → left_sum g ps ≡ right_sum g ps

-- the number n counts one, and no other counts
abbrev pub only : ℕ → ℕ → ℕ
only n m = cond (n == m) 1 0

-- the number of a part does not weigh the same on both sides
pub record Tilts (ps : List Part) : Type 0 where
  pub part : Part
  pub there : Contains ps part
  pub differs : left_sum (only part.number) ps ≡ right_sum (only part.number) ps → ⊥
