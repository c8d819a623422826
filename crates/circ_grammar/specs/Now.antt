-- What a reader has to keep: the part that is under way, and no part that is whole.
use Rattle.std.specs.Prelude.{ℕ, ◌+◌, List, [], ◌∷◌, ◌++◌, length, Option, Some, None, cond, nat_eq, Bool, true, false}
use Rattle.std.specs.Option.{option_map}
use Rattle.circ_proof.specs.Proof.{GoalNames}
use Rattle.circ_proof.specs.Plain.{LinkOf, ChainOf, WhyOf, Same_why, Split_why, no_why}
use Rattle.circ_line.specs.Line.{Line, head_line, table_line, place_line, certificate_line, block_line, goal_line, given_line, simplify_line, reduce_line}
use Rattle.circ_line.specs.Line.{derive_line, cases_line, done_line, same_line, split_line, if_line, left_line, right_line, end_line}
use Rattle.circ_proof.specs.Counting.{why_count}
use Rattle.circ_grammar.specs.Grammar.{Simplify_step, Reduce_step, Derive_step, Cases_step, is_bare}
use Rattle.circ_grammar.specs.Machine.{OpenSplit, State, begin, tabling, placing, certifying, opened, stepping, simplifying, reducing, joining, closed, ended, empty}
use Rattle.circ_grammar.specs.Machine.{push_why, open_split, add_left, add_right, goal_names, add_given, in_last, in_chain}
use Rattle.circ_grammar.specs.Parts.{PartOf, Head_part, Certificate_part, Goals_part, Step_part, Done_part, NumberedPart}

pub data Now : Type 0 where
  Begin : Now
  Tabling : Now
  Placing : List (ℕ × ℕ) → Now
  Certifying : List (LinkOf ℕ) → Now
  Opened : List GoalNames → Now
  Stepping : Now
  Simplifying : ChainOf ℕ → Now
  Reducing : List OpenSplit → ChainOf ℕ → Now
  Joining : Now → ChainOf ℕ → Now
  Closed : Now
  Ended : Now

-- the part under way of a state
abbrev pub now : State → Now
now begin = Begin
now (tabling es) = Tabling
now (placing es ps) = Placing ps
now (certifying f ls) = Certifying ls
now (opened o) = Opened o.goals
now (stepping o) = Stepping
now (simplifying o c) = Simplifying c
now (reducing o fs c) = Reducing fs c
now (joining m c) = Joining (now m) c
now (closed f bs) = Closed
now (ended f bs) = Ended

abbrev pub give_why_now : List OpenSplit → WhyOf ℕ → Now
give_why_now [] w = Stepping
give_why_now (f ∷ fs) w = cond (nat_eq (why_count f.whys + 1) f.count)
    (give_why_now fs (Split_why f.chain f.term (push_why f.whys w)))
    (Reducing (open_split f.chain f.term f.count (push_why f.whys w) ∷ fs) empty)

abbrev pub is_front : Now → Bool
is_front Tabling = true
is_front (Placing ps) = true
is_front (Certifying ls) = true
is_front _ = false

abbrev pub is_block : Now → Bool
is_block Closed = true
is_block n = is_front n

abbrev pub is_step : Now → Bool
is_step (Opened gs) = cond (nat_eq (length gs) 0) false true
is_step Stepping = true
is_step (Simplifying c) = true
is_step _ = false

abbrev pub next_table : Now → Option Now
next_table Tabling = Some Tabling
next_table _ = None

abbrev pub next_head : Now → Option Now
next_head Begin = Some Tabling
next_head _ = None

abbrev pub next_place : Now → (ℕ × ℕ) → Option Now
next_place Tabling p = Some (Placing (p ∷ []))
next_place (Placing ps) p = Some (Placing (ps ++ p ∷ []))
next_place _ p = None

abbrev pub next_goal : Now → ℕ → ℕ → Option Now
next_goal (Opened gs) a b = Some (Opened (gs ++ goal_names a b ∷ []))
next_goal _ a b = None

abbrev pub next_given : Now → ℕ × ℕ → Option Now
next_given (Opened gs) p = option_map Opened (add_given gs p)
next_given _ p = None

abbrev pub give_chain_now : Now → ChainOf ℕ → Option Now
give_chain_now (Certifying ls) c = option_map Certifying (in_last ls c)
give_chain_now (Simplifying d) c = option_map Simplifying (in_chain d c)
give_chain_now (Reducing fs d) c = option_map (Reducing fs) (in_chain d c)
give_chain_now (Joining n d) c = option_map (Joining n) (in_chain d c)
give_chain_now _ c = None

abbrev pub next_if : Now → Option Now
next_if n = option_map (λ m. Joining n empty) (give_chain_now n empty)

abbrev pub next_same : Now → Option Now
next_same (Reducing fs c) = Some (give_why_now fs (Same_why c))
next_same (Joining n c) = give_chain_now n c
next_same _ = None

abbrev pub next_split : Now → ℕ → ℕ → Option Now
next_split (Reducing fs c) t n = Some (cond (nat_eq n 0) (give_why_now fs (Split_why c t no_why)) (Reducing (open_split c t n no_why ∷ fs) empty))
next_split _ t n = None

abbrev pub next_left : Now → LinkOf ℕ → Option Now
next_left (Certifying ls) l = Some (Certifying (ls ++ l ∷ []))
next_left (Simplifying c) l = option_map Simplifying (add_left c l)
next_left (Reducing fs c) l = option_map (Reducing fs) (add_left c l)
next_left (Joining n c) l = option_map (Joining n) (add_left c l)
next_left _ l = None

abbrev pub next_right : Now → LinkOf ℕ → Option Now
next_right (Simplifying c) l = Some (Simplifying (add_right c l))
next_right (Reducing fs c) l = Some (Reducing fs (add_right c l))
next_right (Joining n c) l = Some (Joining n (add_right c l))
next_right _ l = None

abbrev pub next_end : Now → Option Now
next_end Closed = Some Ended
next_end _ = None

-- what the next line makes of it
abbrev pub next_now : Now → Line → Option Now
next_now n (head_line v) = next_head n
next_now n (table_line e) = next_table n
next_now n (place_line a b) = next_place n (a, b)
next_now n certificate_line = cond (is_front n) (Some (Certifying [])) None
next_now n block_line = cond (is_block n) (Some (Opened [])) None
next_now n (goal_line a b) = next_goal n a b
next_now n (given_line a b) = next_given n (a, b)
next_now n simplify_line = cond (is_step n) (Some (Simplifying empty)) None
next_now n reduce_line = cond (is_step n) (Some (Reducing [] empty)) None
next_now n derive_line = cond (is_step n) (Some Stepping) None
next_now n (cases_line t) = cond (is_step n) (Some Stepping) None
next_now n done_line = cond (is_step n) (Some Closed) None
next_now n same_line = next_same n
next_now n (split_line t k) = next_split n t k
next_now n if_line = next_if n
next_now n (left_line l) = cond (is_bare l) (next_left n l) None
next_now n (right_line l) = cond (is_bare l) (next_right n l) None
next_now n end_line = next_end n

-- The parts that a line shows, by the part under way and what stands for the table.

abbrev pub front_part : {T : Type 0} → T → Now → List (PartOf T)
front_part ts Tabling = Head_part ts [] ∷ []
front_part ts (Placing ps) = Head_part ts ps ∷ []
front_part ts (Certifying ls) = Certificate_part ls ∷ []
front_part ts _ = []

abbrev pub step_part : {T : Type 0} → T → Now → List (PartOf T)
step_part ts (Opened gs) = Goals_part gs ∷ []
step_part ts (Simplifying c) = Step_part (Simplify_step c) ∷ []
step_part ts _ = []

abbrev pub why_part : {T : Type 0} → List OpenSplit → WhyOf ℕ → List (PartOf T)
why_part [] w = Step_part (Reduce_step w) ∷ []
why_part (f ∷ fs) w = cond (nat_eq (why_count f.whys + 1) f.count) (why_part fs (Split_why f.chain f.term (push_why f.whys w))) []

abbrev pub same_part : {T : Type 0} → Now → List (PartOf T)
same_part (Reducing fs c) = why_part fs (Same_why c)
same_part _ = []

abbrev pub split_part : {T : Type 0} → Now → ℕ → ℕ → List (PartOf T)
split_part (Reducing fs c) t n = cond (nat_eq n 0) (why_part fs (Split_why c t no_why)) []
split_part _ t n = []

abbrev pub line_part : {T : Type 0} → T → Now → Line → List (PartOf T)
line_part ts n certificate_line = front_part ts n
line_part ts n block_line = front_part ts n
line_part ts n simplify_line = step_part ts n
line_part ts n reduce_line = step_part ts n
line_part ts n derive_line = step_part ts n ++ Step_part Derive_step ∷ []
line_part ts n (cases_line t) = step_part ts n ++ Step_part (Cases_step t) ∷ []
line_part ts n done_line = step_part ts n ++ Done_part ∷ []
line_part ts n same_line = same_part n
line_part ts n (split_line t k) = split_part n t k
line_part ts n _ = []

-- the part with another table
abbrev pub with_table : {T : Type 0} → T → NumberedPart → PartOf T
with_table t (Head_part table places) = Head_part t places
with_table t (Certificate_part links) = Certificate_part links
with_table t (Goals_part goals) = Goals_part goals
with_table t (Step_part step) = Step_part step
with_table t Done_part = Done_part
