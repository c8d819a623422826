-- The parts of a proof, in the order of its lines, and which of them so many lines show. What stands for the table may be its lines or anything else.
use Rattle.std.specs.Prelude.{if◌then◌else◌, nat_lt, ℕ, ◌+◌, ◌-◌, List, [], ◌∷◌, ◌++◌, length, Bool, true, false}
use Rattle.circ_proof.specs.Plain.{LinkOf}
use Rattle.circ_proof.specs.Proof.{GoalNames}
use Rattle.circ_line.specs.Line.{Line, certificate_line, block_line, simplify_line, reduce_line, derive_line, cases_line, done_line}
use Rattle.circ_grammar.specs.Grammar.{NumberedStep, Simplify_step, Reduce_step, Derive_step, Cases_step, NumberedTable, NumberedBlock, NumberedProof}
use Rattle.circ_grammar.specs.Grammar.{lines_of, head_lines, place_lines, left_lines, goal_lines, chain_lines, why_lines}

pub data PartOf (T : Type 0) : Type 0 where
  Head_part : (table : T) (places : List (ℕ × ℕ)) → PartOf T
  Certificate_part : (links : List (LinkOf ℕ)) → PartOf T
  Goals_part : (goals : List GoalNames) → PartOf T
  Step_part : NumberedStep → PartOf T
  Done_part : PartOf T

abbrev pub NumberedPart : Type 0
NumberedPart = PartOf NumberedTable

abbrev pub step_parts : List NumberedStep → List NumberedPart
step_parts [] = []
step_parts (s ∷ ss) = Step_part s ∷ step_parts ss

abbrev pub certificate_parts : List (List (LinkOf ℕ)) → List NumberedPart
certificate_parts [] = []
certificate_parts (c ∷ cs) = Certificate_part c ∷ certificate_parts cs

abbrev pub block_parts : NumberedBlock → List NumberedPart
block_parts b = Goals_part b.goals ∷ step_parts b.steps ++ Done_part ∷ []

abbrev pub blocks_parts : List NumberedBlock → List NumberedPart
blocks_parts [] = []
blocks_parts (b ∷ bs) = block_parts b ++ blocks_parts bs

-- the parts of a proof: the head, the certificates, and for each block its goals, its steps and its end
abbrev pub parts_of : NumberedProof → List NumberedPart
parts_of p = Head_part p.table p.places ∷ certificate_parts p.certificates ++ blocks_parts p.blocks

-- the lines of a part, and then the lines k
abbrev pub part_lines : NumberedPart → List Line → List Line
part_lines (Head_part es ps) k = head_lines es (lines_of place_lines ps k)
part_lines (Certificate_part ls) k = certificate_line ∷ lines_of left_lines ls k
part_lines (Goals_part gs) k = block_line ∷ lines_of goal_lines gs k
part_lines (Step_part (Simplify_step c)) k = simplify_line ∷ chain_lines c k
part_lines (Step_part (Reduce_step w)) k = reduce_line ∷ why_lines w k
part_lines (Step_part Derive_step) k = derive_line ∷ k
part_lines (Step_part (Cases_step t)) k = cases_line t ∷ k
part_lines Done_part k = done_line ∷ k

-- the part ends where the next one begins, and not by a line of its own
abbrev pub is_open : NumberedPart → Bool
is_open (Head_part es ps) = true
is_open (Certificate_part ls) = true
is_open (Goals_part gs) = true
is_open (Step_part (Simplify_step c)) = true
is_open (Step_part (Reduce_step w)) = false
is_open (Step_part Derive_step) = false
is_open (Step_part (Cases_step t)) = false
is_open Done_part = false

-- The lines that show the end of a part: its own, and for an open one the line that begins the next.
abbrev pub wants : NumberedPart → ℕ
wants x = length (part_lines x []) + (if is_open x then 1 else 0)

-- the parts that n lines show
abbrev pub shown_by : ℕ → List NumberedPart → List NumberedPart
shown_by n [] = []
shown_by n (x ∷ xs) = if nat_lt n (wants x) then [] else x ∷ shown_by (n - length (part_lines x [])) xs
