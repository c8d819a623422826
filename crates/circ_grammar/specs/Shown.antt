-- Which parts are shown where a reader stands, and which the next line shows.
use Rattle.std.specs.Prelude.{ℕ, ◌+◌, List, [], ◌∷◌, ◌++◌, cond, nat_eq}
use Rattle.circ_proof.specs.Plain.{WhyOf, Same_why, Split_why, no_why}
use Rattle.circ_line.specs.Line.{Line, certificate_line, block_line, simplify_line, reduce_line, derive_line, cases_line, done_line, same_line, split_line}
use Rattle.circ_proof.specs.Counting.{why_count}
use Rattle.circ_grammar.specs.Grammar.{Simplify_step, Reduce_step, Derive_step, Cases_step, NumberedBlock}
use Rattle.circ_grammar.specs.Machine.{Front, OpenBlock, OpenSplit, State, begin, tabling, placing, certifying, opened, stepping, simplifying, reducing}
use Rattle.circ_grammar.specs.Machine.{joining, closed, ended, push_why}
use Rattle.circ_grammar.specs.Parts.{Head_part, Certificate_part, Goals_part, Step_part, Done_part, NumberedPart, step_parts, certificate_parts}
use Rattle.circ_grammar.specs.Parts.{blocks_parts}

abbrev pub front_parts : Front → List NumberedPart
front_parts f = Head_part f.table f.places ∷ certificate_parts f.certificates

abbrev pub parts_with : Front → List NumberedBlock → List NumberedPart
parts_with f bs = front_parts f ++ blocks_parts bs

abbrev pub open_parts : OpenBlock → List NumberedPart
open_parts o = parts_with o.front o.blocks ++ Goals_part o.goals ∷ step_parts o.steps

-- The parts that are shown where a reader stands: the table and the places until the next part begins, and a certificate, goals and a Simplify
-- likewise, are not; a Derive, a Done and a Reduce are with their last line.
abbrev pub shown : State → List NumberedPart
shown begin = []
shown (tabling es) = []
shown (placing es ps) = []
shown (certifying f ls) = front_parts f
shown (opened o) = parts_with o.front o.blocks
shown (stepping o) = open_parts o
shown (simplifying o c) = open_parts o
shown (reducing o fs c) = open_parts o
shown (joining m c) = shown m
shown (closed f bs) = parts_with f bs
shown (ended f bs) = parts_with f bs

-- What the next line shows.

-- a line that begins a certificate or the first block
abbrev pub at_front : State → List NumberedPart
at_front (tabling es) = Head_part es [] ∷ []
at_front (placing es ps) = Head_part es ps ∷ []
at_front (certifying f ls) = Certificate_part ls ∷ []
at_front _ = []

-- a line that begins a step
abbrev pub at_step : State → List NumberedPart
at_step (opened o) = Goals_part o.goals ∷ []
at_step (simplifying o c) = Step_part (Simplify_step c) ∷ []
at_step _ = []

-- a line that closes a why
abbrev pub at_why : List OpenSplit → WhyOf ℕ → List NumberedPart
at_why [] w = Step_part (Reduce_step w) ∷ []
at_why (f ∷ fs) w = cond (nat_eq (why_count f.whys + 1) f.count) (at_why fs (Split_why f.chain f.term (push_why f.whys w))) []

abbrev pub at_same : State → List NumberedPart
at_same (reducing o fs c) = at_why fs (Same_why c)
at_same _ = []

abbrev pub at_split : State → ℕ → ℕ → List NumberedPart
at_split (reducing o fs c) t n = cond (nat_eq n 0) (at_why fs (Split_why c t no_why)) []
at_split _ t n = []

abbrev pub brings : State → Line → List NumberedPart
brings m certificate_line = at_front m
brings m block_line = at_front m
brings m simplify_line = at_step m
brings m reduce_line = at_step m
brings m derive_line = at_step m ++ Step_part Derive_step ∷ []
brings m (cases_line t) = at_step m ++ Step_part (Cases_step t) ∷ []
brings m done_line = at_step m ++ Done_part ∷ []
brings m same_line = at_same m
brings m (split_line t n) = at_split m t n
brings m _ = []
