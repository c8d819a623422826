-- What is written out so far, as the code keeps it: nodes by number, each of which names nodes before it, and numbers of nodes, the last one last.
use Rattle.std.specs.Prelude.{◌≡◌, ◌<◌, ℕ, suc, Bool, true, false, List, [], ◌∷◌, ◌++◌, map, length, reverse, Option, Some, None, unwrap_or}
use Rattle.std.specs.List.{slice_get, AllByRecursion}
use Rattle.std.specs.Coded.{×_prop, Unit-prop, le_prop}
use Rattle.circ_term.specs.Tree.{Tree, Var}
use Rattle.circ_theory.specs.declared.way.Way.{Way}
use Rattle.circ_expansion.specs.Pieces.{Piece, Pieces, Parts, Equation_piece, Content_piece, Assumption_piece, Cases_piece, no_piece, more_pieces, no_part}
use Rattle.circ_expansion.specs.Pieces.{more_parts, pieces_joined, turned}
use Rattle.circ_expansion.specs.Expand.{by_way}
use Rattle.circ_expansion.specs.Machine.{Value, In_row, In_parts}
use Rattle.circ_written.specs.Rows.{given_bound}
use Rattle.circ_written.specs.declared.rows.Row.{Row}
use Rattle.circ_written.specs.declared.rows.Row.TheVariants as row
use Rattle.circ_written.specs.declared.nodes.Node.{Node}
use Rattle.circ_written.specs.declared.nodes.Node.TheVariants as node

-- the row is a link
abbrev pub IsLink : Row → Type 0
IsLink (row.Equation number way path terms) = Unit {0}
IsLink (row.Content op path old new by) = Unit {0}
IsLink (row.Assumption number way path) = Unit {0}
IsLink (row.Cases term) = ⊥
IsLink row.Case = ⊥
IsLink row.End = ⊥

-- the piece that is this row, if it is a link
abbrev pub piece_of : Row → Piece
piece_of (row.Equation number way path terms) = Equation_piece number way path.items terms.items
piece_of (row.Content op path old new by) = Content_piece op path.items old new (map given_bound by.items)
piece_of (row.Assumption number way path) = Assumption_piece number way path.items
piece_of (row.Cases term) = Cases_piece term no_part
piece_of row.Case = Cases_piece (Var 0 0) no_part
piece_of row.End = Cases_piece (Var 0 0) no_part

-- the last value is a row, or parts of cases
abbrev pub ends_in_row : List Value → Bool
ends_in_row (In_row v ∷ vs) = true
ends_in_row (In_parts ps ∷ vs) = false
ends_in_row [] = false

abbrev pub ends_in_parts : List Value → Bool
ends_in_parts (In_row v ∷ vs) = false
ends_in_parts (In_parts ps ∷ vs) = true
ends_in_parts [] = false

-- what a node stands for, with all that it names: a row, or parts of cases
pub data Rope : Type 0 where
  Nothing : Rope
  And_link : (first : Rope) (link : Row) → Rope
  And_row : (first : Rope) (way : Way) (next : Rope) → Rope
  Around : (left middle right : Rope) → Rope
  No_parts : Rope
  And_part : (first others : Rope) → Rope
  All_parts : (term : Tree) (parts : Rope) → Rope

abbrev pub rope_with : (ℕ → Rope) → Node → Rope
rope_with h node.Empty = Nothing
rope_with h (node.Link first row) = And_link (h first) row
rope_with h (node.Behind first way next) = And_row (h first) way (h next)
rope_with h (node.Between left middle right) = Around (h left) (h middle) (h right)
rope_with h node.NoPart = No_parts
rope_with h (node.Part first others) = And_part (h first) (h others)
rope_with h (node.Cases term parts) = All_parts term (h parts)

abbrev pub rope_in : List Rope → ℕ → Rope
rope_in rs k = unwrap_or (slice_get rs k) Nothing

-- the ropes of nodes, behind these
abbrev pub ropes_behind : List Rope → List Node → List Rope
ropes_behind rs [] = rs
ropes_behind rs (n ∷ ns) = ropes_behind (rs ++ rope_with (rope_in rs) n ∷ []) ns

abbrev pub rope_at : List Node → ℕ → Rope
rope_at ns k = rope_in (ropes_behind [] ns) k

-- its pieces or parts
abbrev mutual
  pub row_of : Rope → Pieces
  row_of Nothing = no_piece
  row_of (And_link first link) = pieces_joined (row_of first) (more_pieces (piece_of link) no_piece)
  row_of (And_row first way next) = pieces_joined (row_of first) (by_way way (row_of next))
  row_of (Around left middle right) = pieces_joined (row_of left) (pieces_joined (row_of middle) (turned (row_of right)))
  row_of No_parts = no_piece
  row_of (And_part first others) = no_piece
  row_of (All_parts term parts) = more_pieces (Cases_piece term (parts_of parts)) no_piece

  pub parts_of : Rope → Parts
  parts_of Nothing = no_part
  parts_of (And_link first link) = no_part
  parts_of (And_row first way next) = no_part
  parts_of (Around left middle right) = no_part
  parts_of No_parts = no_part
  parts_of (And_part first others) = more_parts (row_of first) (parts_of others)
  parts_of (All_parts term parts) = no_part

abbrev pub value_of : Rope → Value
value_of Nothing = In_row (row_of Nothing)
value_of (And_link first link) = In_row (row_of (And_link first link))
value_of (And_row first way next) = In_row (row_of (And_row first way next))
value_of (Around left middle right) = In_row (row_of (Around left middle right))
value_of No_parts = In_parts (parts_of No_parts)
value_of (And_part first others) = In_parts (parts_of (And_part first others))
value_of (All_parts term parts) = In_row (row_of (All_parts term parts))

abbrev pub values_in : List Node → (stack : List ℕ) → List Value
values_in ns ks = map (λ k. value_of (rope_at ns k)) (reverse ks)

-- it names nodes before it only
abbrev pub IsNodeAt : ℕ → Node → Type 0
IsNodeAt k node.Empty = Unit {0}
IsNodeAt k (node.Link first row) = (first < k) × IsLink row
IsNodeAt k (node.Behind first way next) = (first < k) × (next < k)
IsNodeAt k (node.Between left middle right) = (left < k) × ((middle < k) × (right < k))
IsNodeAt k node.NoPart = Unit {0}
IsNodeAt k (node.Part first others) = (first < k) × (others < k)
IsNodeAt k (node.Cases term parts) = parts < k

abbrev pub AreNodesFrom : ℕ → List Node → Type 0
AreNodesFrom k [] = Unit {0}
AreNodesFrom k (n ∷ ns) = IsNodeAt k n × AreNodesFrom (suc k) ns

abbrev pub AreValues : List Node → (stack : List ℕ) → Type 0
AreValues ns ks = AreNodesFrom 0 ns × AllByRecursion (λ k. k < length ns) ks

-- there is one proof of this at most
IsLink-prop : (r : Row) → IsProp (IsLink r)
IsLink-prop (row.Equation number way path terms) = Unit-prop
IsLink-prop (row.Content op path old new by) = Unit-prop
IsLink-prop (row.Assumption number way path) = Unit-prop
IsLink-prop (row.Cases term) = λ x y. absurd x
IsLink-prop row.Case = λ x y. absurd x
IsLink-prop row.End = λ x y. absurd x

IsNodeAt-prop : (k : ℕ) (n : Node) → IsProp (IsNodeAt k n)
IsNodeAt-prop k node.Empty = Unit-prop
IsNodeAt-prop k (node.Link first row) = ×_prop le_prop (IsLink-prop row)
IsNodeAt-prop k (node.Behind first way next) = ×_prop le_prop le_prop
IsNodeAt-prop k (node.Between left middle right) = ×_prop le_prop (×_prop le_prop le_prop)
IsNodeAt-prop k node.NoPart = Unit-prop
IsNodeAt-prop k (node.Part first others) = ×_prop le_prop le_prop
IsNodeAt-prop k (node.Cases term parts) = le_prop

AreNodesFrom-prop : (k : ℕ) (ns : List Node) → IsProp (AreNodesFrom k ns)
AreNodesFrom-prop k [] = Unit-prop
AreNodesFrom-prop k (n ∷ ns) = ×_prop (IsNodeAt-prop k n) (AreNodesFrom-prop (suc k) ns)

below-prop : (k : ℕ) (ks : List ℕ) → IsProp (AllByRecursion (λ j. j < k) ks)
below-prop k [] = Unit-prop
below-prop k (j ∷ js) = ×_prop le_prop (below-prop k js)

pub AreValues-prop : (ns : List Node) (ks : List ℕ) → IsProp (AreValues ns ks)
AreValues-prop ns ks = ×_prop (AreNodesFrom-prop 0 ns) (below-prop (length ns) ks)

-- the last number was a row's, or that of parts, and is taken away; or it was none
abbrev pub TakesRow : List Node → (old new : List ℕ) → Option ℕ → Type 0
TakesRow ns old new (Some k) = (k < length ns) × (values_in ns old ≡ In_row (row_of (rope_at ns k)) ∷ values_in ns new)
TakesRow ns old new None = ends_in_row (values_in ns old) ≡ false

abbrev pub TakesParts : List Node → (old new : List ℕ) → Option ℕ → Type 0
TakesParts ns old new (Some k) = (k < length ns) × (values_in ns old ≡ In_parts (parts_of (rope_at ns k)) ∷ values_in ns new)
TakesParts ns old new None = ends_in_parts (values_in ns old) ≡ false
