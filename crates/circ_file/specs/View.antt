-- What contracts see of the part under way, and of the parts that are whole.
use Rattle.std.specs.Prelude.{◌≡◌, ◌<◌, ◌^◌, ℕ, length, Bool, true, false, List, [], ◌∷◌, ◌++◌, map, Option, Some, None}
use Rattle.circ_term.specs.Tree.{Tree}
use Rattle.circ_special.specs.Special.{place}
use Rattle.circ_special.specs.declared.place.Place.{Place}
use Rattle.circ_proof.specs.Plain.{ChainOf, plain_links, plain_chain}
use Rattle.circ_line.specs.Line.{Line, head_line, table_line, place_line, certificate_line, block_line, goal_line, given_line, left_line}
use Rattle.circ_line.specs.Line.{right_line, end_line}
use Rattle.circ_grammar.specs.Grammar.{is_bare}
use Rattle.circ_grammar.specs.Now.{Now, Begin, Tabling, Placing, Certifying, Opened, Stepping, Simplifying, Reducing, Joining, Closed, Ended}
use Rattle.circ_grammar.specs.Now.{give_chain_now, next_now, line_part, front_part, step_part, is_step}
use Rattle.circ_proof.specs.PlainProof.{plain_names}
use Rattle.circ_proof.specs.Proof.{goal_at}
pub use Rattle.circ_table.specs.Part.{plain_part}
use Rattle.circ_proof_text.specs.Parts.{Part, part_with}
use Rattle.circ_proof_text.specs.ProofText.{place_numbers}
use Rattle.circ_file.specs.Splits.{tops}
use Rattle.circ_file.specs.Conds.{nested}
use Rattle.circ_table.specs.declared.part.Part.{Part as CodePart}
use Rattle.circ_file.specs.declared.machine.Mode.{Mode}
use Rattle.circ_file.specs.declared.machine.Mode.TheVariants as mode
use Rattle.circ_file.specs.declared.machine.Machine.{Machine}

-- what the conditions of links that are open belong to
abbrev pub now_outside : Mode → Machine → Now
now_outside mode.Certifying m = Certifying (plain_links m.links.items)
now_outside mode.Simplifying m = Simplifying (plain_chain m.chain)
now_outside mode.Reducing m = Reducing (tops m.splits.items []) (plain_chain m.chain)
now_outside _ m = Begin

abbrev pub now_at : Mode → Machine → Now
now_at mode.Begin m = Begin
now_at mode.Tabling m = Tabling
now_at mode.Placing m = Placing (map place_numbers m.places.items)
now_at mode.Certifying m = Certifying (plain_links m.links.items)
now_at mode.Opened m = Opened (map plain_names m.names.items)
now_at mode.Stepping m = Stepping
now_at mode.Simplifying m = Simplifying (plain_chain m.chain)
now_at mode.Reducing m = Reducing (tops m.splits.items []) (plain_chain m.chain)
now_at mode.Joining m = Joining (nested (now_outside m.base m) (map plain_chain m.conds.items)) (plain_chain m.cond)
now_at mode.Closed m = Closed
now_at mode.Ended m = Ended

-- the part under way
abbrev pub now_of : Machine → Now
now_of m = now_at m.mode m

-- the parts that are whole and not handed out
abbrev pub queue_of : Machine → List Part
queue_of m = map plain_part m.queue.items

-- Before the first place there are none, and the goals of a block are those of their numbers.
abbrev pub IsMachineAt : Mode → List Tree → Machine → Type 0
IsMachineAt mode.Begin ts m = m.places.items ≡ []
IsMachineAt mode.Tabling ts m = m.places.items ≡ []
IsMachineAt mode.Opened ts m = m.goals.items ≡ map (goal_at ts) (map plain_names m.names.items)
IsMachineAt _ ts m = Unit {0}

abbrev pub IsMachineOf : List Tree → Machine → Type 0
IsMachineOf ts m = IsMachineAt m.mode ts m

-- the parts that a line shows which begins a certificate or the first block
abbrev pub shown_front_parts : List Tree → Now → List Part
shown_front_parts ts n = map (part_with ts) (front_part ts n)

-- and one that begins a step
abbrev pub shown_step_parts : List Tree → Now → List Part
shown_step_parts ts n = map (part_with ts) (step_part ts n)

-- the parts that a line shows
abbrev pub parts_at : List Tree → Now → Line → List Part
parts_at ts n l = map (part_with ts) (line_part ts n l)

-- the places with the one that a line names
abbrev pub places_with : List Place → Line → List Place
places_with gs (place_line f i) = gs ++ place f i ∷ []
places_with gs _ = gs

-- The line is the next, and what it shows goes last in the queue.
pub record MachineTakes (ts : List Tree) (m : Machine) (l : Line) (n : Machine) : Type 0 where
  pub next : next_now (now_of m) l ≡ Some (now_of n)
  pub queue : queue_of n ≡ queue_of m ++ parts_at ts (now_of m) l
  pub places : n.places.items ≡ places_with m.places.items l
  pub kept : IsMachineOf ts n

-- whether the line was taken, or cannot come here
abbrev pub Moves : Bool → List Tree → Machine → Line → Machine → Type 0
Moves true ts m l n = MachineTakes ts m l n
Moves false ts m l n = next_now (now_of m) l ≡ None

-- The chain of the outermost condition goes to the last link outside; or it can have none.
pub record HasEnded (m : Machine) (c : ChainOf ℕ) (n : Machine) : Type 0 where
  pub next : give_chain_now (now_outside m.base m) c ≡ Some (now_of n)
  pub queue : queue_of n ≡ queue_of m
  pub places : n.places.items ≡ m.places.items
  pub kept : (ts : List Tree) → IsMachineOf ts n

abbrev pub EndsLast : Bool → Machine → ChainOf ℕ → Machine → Type 0
EndsLast true m c n = HasEnded m c n
EndsLast false m c n = give_chain_now (now_outside m.base m) c ≡ None

-- A step may begin, and the part that ends by it goes last in the queue; or none may.
abbrev pub Begins : Bool → List Tree → Machine → Machine → Type 0
Begins true ts m n = (is_step (now_of m) ≡ true) × (queue_of n ≡ queue_of m ++ shown_step_parts ts (now_of m)) × (n.places.items ≡ m.places.items)
Begins false ts m n = is_step (now_of m) ≡ false

-- the first part is taken out, or there is none
abbrev pub Pops : Option CodePart → (old new : List Part) → Type 0
Pops None old new = (old ≡ []) × (new ≡ [])
Pops (Some part) old new = old ≡ plain_part part ∷ new

-- the number of open splits
abbrev pub splits_in : Now → ℕ
splits_in (Reducing ss chain) = length ss
splits_in (Joining n chain) = splits_in n
splits_in _ = 0

-- a place's argument is a number that a place can have, and a link has no chains yet
abbrev pub IsUsable : Line → Type 0
IsUsable (place_line f i) = i < 2 ^ 16
IsUsable (left_line l) = is_bare l ≡ true
IsUsable (right_line l) = is_bare l ≡ true
IsUsable _ = Unit {0}

-- a line that asks nothing of the table, and does not end it
abbrev pub IsFree : Line → Type 0
IsFree (table_line l) = ⊥
IsFree certificate_line = ⊥
IsFree block_line = ⊥
IsFree (goal_line a b) = ⊥
IsFree (given_line a b) = ⊥
IsFree _ = Unit {0}

-- a line of a step or of a certificate
abbrev pub IsInside : Line → Type 0
IsInside (head_line v) = ⊥
IsInside (table_line l) = ⊥
IsInside (place_line f i) = ⊥
IsInside certificate_line = ⊥
IsInside block_line = ⊥
IsInside (goal_line a b) = ⊥
IsInside (given_line a b) = ⊥
IsInside end_line = ⊥
IsInside _ = Unit {0}
