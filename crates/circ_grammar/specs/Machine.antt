-- What is known after some lines, and what the next line makes of it.
use Rattle.std.specs.Prelude.{ℕ, ◌+◌, List, [], ◌∷◌, ◌++◌, length, Option, Some, None, cond, nat_eq}
use Rattle.std.specs.Option.{option_map, option_and_then}
use Rattle.circ_proof.specs.Plain.{LinkOf, ChainsOf, Equation_link, Hypothesis_link, no_chain, more_chains, row_of, ChainOf, WhyOf, WhysOf, Same_why}
use Rattle.circ_proof.specs.Plain.{Split_why, no_why, more_whys}
use Rattle.circ_proof.specs.Proof.{GoalNames}
use Rattle.circ_line.specs.Line.{TableLine, Line, head_line, table_line, place_line, certificate_line, block_line, goal_line, given_line, simplify_line}
use Rattle.circ_line.specs.Line.{reduce_line, derive_line, cases_line, done_line, same_line, split_line, if_line, left_line, right_line, end_line}
use Rattle.circ_proof.specs.Counting.{why_count}
use Rattle.circ_grammar.specs.Grammar.{NumberedStep, Simplify_step, Reduce_step, Derive_step, Cases_step, NumberedBlock, NumberedTable, NumberedProof}
use Rattle.circ_grammar.specs.Grammar.{is_bare}

-- all that comes before the first block
pub record Front : Type 0 where
  pub table : NumberedTable
  pub places : List (ℕ × ℕ)
  pub certificates : List (List (LinkOf ℕ))

-- a block that is being read, after the blocks before it
pub record OpenBlock : Type 0 where
  pub front : Front
  pub blocks : List NumberedBlock
  pub goals : List GoalNames
  pub steps : List NumberedStep

-- a split that waits for whys: how many it wants in all, and those that it has
pub record OpenSplit : Type 0 where
  pub chain : ChainOf ℕ
  pub term : ℕ
  pub count : ℕ
  pub whys : WhysOf ℕ

-- Where a reader stands in the grammar, with all that is known there. In `joining` it is inside an `if`: the state outside has the link of the condition
-- last, and the chain holds the links so far.
pub data State : Type 0 where
  begin : State
  tabling : NumberedTable → State
  placing : NumberedTable → List (ℕ × ℕ) → State
  certifying : Front → List (LinkOf ℕ) → State
  opened : OpenBlock → State
  stepping : OpenBlock → State
  simplifying : OpenBlock → ChainOf ℕ → State
  reducing : OpenBlock → List OpenSplit → ChainOf ℕ → State
  joining : State → ChainOf ℕ → State
  closed : Front → List NumberedBlock → State
  ended : Front → List NumberedBlock → State

abbrev pub empty : ChainOf ℕ
empty = record { left = []; right = [] }

abbrev pub numbered_table : ℕ → List TableLine → NumberedTable
numbered_table version lines = record { version = version; lines = lines }

abbrev pub with_line : NumberedTable → TableLine → NumberedTable
with_line t e = numbered_table t.version (t.lines ++ (e ∷ []))

abbrev pub front : NumberedTable → List (ℕ × ℕ) → List (List (LinkOf ℕ)) → Front
front es ps cs = record { table = es; places = ps; certificates = cs }

abbrev pub with_certificate : Front → List (LinkOf ℕ) → Front
with_certificate f ls = front f.table f.places (f.certificates ++ (ls ∷ []))

abbrev pub open_block : Front → List NumberedBlock → OpenBlock
open_block f bs = record { front = f; blocks = bs; goals = []; steps = [] }

-- a goal without conditions
abbrev pub goal_names : ℕ → ℕ → GoalNames
goal_names a b = record { conds = []; left = a; right = b }

abbrev pub with_goals : OpenBlock → List GoalNames → OpenBlock
with_goals o gs = record { front = o.front; blocks = o.blocks; goals = gs; steps = o.steps }

abbrev pub with_given : GoalNames → ℕ × ℕ → GoalNames
with_given g p = record { conds = g.conds ++ (p ∷ []); left = g.left; right = g.right }

-- with a condition more of the last goal
abbrev pub add_given : List GoalNames → ℕ × ℕ → Option (List GoalNames)
add_given [] p = None
add_given (g ∷ []) p = Some (with_given g p ∷ [])
add_given (g ∷ h ∷ gs) p = option_map (λ r. g ∷ r) (add_given (h ∷ gs) p)

abbrev pub with_goal : OpenBlock → ℕ → ℕ → OpenBlock
with_goal o a b = with_goals o (o.goals ++ (goal_names a b ∷ []))

abbrev pub with_step : OpenBlock → NumberedStep → OpenBlock
with_step o s = record { front = o.front; blocks = o.blocks; goals = o.goals; steps = o.steps ++ (s ∷ []) }

abbrev pub block_of : OpenBlock → NumberedBlock
block_of o = record { goals = o.goals; steps = o.steps }

abbrev pub push_why : WhysOf ℕ → WhyOf ℕ → WhysOf ℕ
push_why no_why w = more_whys w no_why
push_why (more_whys v vs) w = more_whys v (push_why vs w)

abbrev pub open_split : ChainOf ℕ → ℕ → ℕ → WhysOf ℕ → OpenSplit
open_split c t n ws = record { chain = c; term = t; count = n; whys = ws }

-- a why that is whole goes to the split that waits for it, and may make that one whole
abbrev pub give_why : OpenBlock → List OpenSplit → WhyOf ℕ → State
give_why o [] w = stepping (with_step o (Reduce_step w))
give_why o (f ∷ fs) w = cond (nat_eq (why_count f.whys + 1) f.count)
    (give_why o fs (Split_why f.chain f.term (push_why f.whys w)))
    (reducing o (open_split f.chain f.term f.count (push_why f.whys w) ∷ fs) empty)

-- what comes before the next certificate, where one may begin
abbrev pub to_front : State → Option Front
to_front (tabling es) = Some (front es [] [])
to_front (placing es ps) = Some (front es ps [])
to_front (certifying f ls) = Some (with_certificate f ls)
to_front _ = None

-- the next block, without goals and steps, where one may begin
abbrev pub to_block : State → Option OpenBlock
to_block (closed f bs) = Some (open_block f bs)
to_block m = option_map (λ f. open_block f []) (to_front m)

abbrev pub no_steps : OpenBlock → OpenBlock
no_steps o = record { front = o.front; blocks = o.blocks; goals = o.goals; steps = [] }

-- the block with the steps that are whole, where a step may begin
abbrev pub to_step : State → Option OpenBlock
to_step (opened o) = cond (nat_eq (length o.goals) 0) None (Some (no_steps o))
to_step (stepping o) = Some o
to_step (simplifying o c) = Some (with_step o (Simplify_step c))
to_step _ = None

abbrev pub add_left_to : List (LinkOf ℕ) → List (LinkOf ℕ) → LinkOf ℕ → Option (ChainOf ℕ)
add_left_to ls [] l = Some (record { left = ls ++ (l ∷ []); right = [] })
add_left_to ls (r ∷ rs) l = None

abbrev pub add_left : ChainOf ℕ → LinkOf ℕ → Option (ChainOf ℕ)
add_left c l = add_left_to c.left c.right l

abbrev pub add_right : ChainOf ℕ → LinkOf ℕ → ChainOf ℕ
add_right c l = record { left = c.left; right = c.right ++ (l ∷ []) }

abbrev pub on_head : State → ℕ → Option State
on_head begin v = Some (tabling (numbered_table v []))
on_head _ v = None

abbrev pub on_table : State → TableLine → Option State
on_table (tabling es) e = Some (tabling (with_line es e))
on_table _ e = None

abbrev pub on_place : State → (ℕ × ℕ) → Option State
on_place (tabling es) p = Some (placing es (p ∷ []))
on_place (placing es ps) p = Some (placing es (ps ++ (p ∷ [])))
on_place _ p = None

abbrev pub on_goal : State → ℕ → ℕ → Option State
on_goal (opened o) a b = Some (opened (with_goal o a b))
on_goal _ a b = None

abbrev pub on_given : State → ℕ × ℕ → Option State
on_given (opened o) p = option_map (λ gs. opened (with_goals o gs)) (add_given o.goals p)
on_given _ p = None

-- with a chain more, the last
abbrev pub push_chain : ChainsOf ℕ → ChainOf ℕ → ChainsOf ℕ
push_chain no_chain c = more_chains (row_of c.left) (row_of c.right) no_chain
push_chain (more_chains left right rest) c = more_chains left right (push_chain rest c)

-- the link with the chain of one condition more, where links of its kind have conditions
abbrev pub add_chain : LinkOf ℕ → ChainOf ℕ → Option (LinkOf ℕ)
add_chain (Equation_link number way path terms conds) c = Some (Equation_link number way path terms (push_chain conds c))
add_chain (Hypothesis_link number way path terms conds) c = Some (Hypothesis_link number way path terms (push_chain conds c))
add_chain _ c = None

-- the same of the last of some links
abbrev pub in_last : List (LinkOf ℕ) → ChainOf ℕ → Option (List (LinkOf ℕ))
in_last [] c = None
in_last (l ∷ []) c = option_map (λ m. m ∷ []) (add_chain l c)
in_last (l ∷ m ∷ ls) c = option_map (λ r. l ∷ r) (in_last (m ∷ ls) c)

abbrev pub chain_of : List (LinkOf ℕ) → List (LinkOf ℕ) → ChainOf ℕ
chain_of ls rs = record { left = ls; right = rs }

abbrev pub in_right : List (LinkOf ℕ) → List (LinkOf ℕ) → ChainOf ℕ → Option (ChainOf ℕ)
in_right ls [] c = option_map (λ ms. chain_of ms []) (in_last ls c)
in_right ls (r ∷ rs) c = option_map (λ ms. chain_of ls ms) (in_last (r ∷ rs) c)

-- the same of the last link of a chain
abbrev pub in_chain : ChainOf ℕ → ChainOf ℕ → Option (ChainOf ℕ)
in_chain d c = in_right d.left d.right c

-- the same of the last link of what is under way
abbrev pub give_chain : State → ChainOf ℕ → Option State
give_chain (certifying f ls) c = option_map (λ ms. certifying f ms) (in_last ls c)
give_chain (simplifying o d) c = option_map (λ e. simplifying o e) (in_chain d c)
give_chain (reducing o fs d) c = option_map (λ e. reducing o fs e) (in_chain d c)
give_chain (joining m d) c = option_map (λ e. joining m e) (in_chain d c)
give_chain _ c = None

-- the last link can have one condition more
abbrev pub on_if : State → Option State
on_if m = option_map (λ n. joining m empty) (give_chain m empty)

abbrev pub on_same : State → Option State
on_same (reducing o fs c) = Some (give_why o fs (Same_why c))
on_same (joining m c) = give_chain m c
on_same _ = None

abbrev pub on_split : State → ℕ → ℕ → Option State
on_split (reducing o fs c) t n = Some (cond (nat_eq n 0) (give_why o fs (Split_why c t no_why)) (reducing o (open_split c t n no_why ∷ fs) empty))
on_split _ t n = None

abbrev pub on_left : State → LinkOf ℕ → Option State
on_left (certifying f ls) l = Some (certifying f (ls ++ (l ∷ [])))
on_left (simplifying o c) l = option_map (λ d. simplifying o d) (add_left c l)
on_left (reducing o fs c) l = option_map (λ d. reducing o fs d) (add_left c l)
on_left (joining m c) l = option_map (λ d. joining m d) (add_left c l)
on_left _ l = None

abbrev pub on_right : State → LinkOf ℕ → Option State
on_right (simplifying o c) l = Some (simplifying o (add_right c l))
on_right (reducing o fs c) l = Some (reducing o fs (add_right c l))
on_right (joining m c) l = Some (joining m (add_right c l))
on_right _ l = None

abbrev pub on_end : State → Option State
on_end (closed f bs) = Some (ended f bs)
on_end _ = None

-- the state after one more line; None where no proof has this line here
abbrev pub next : State → Line → Option State
next m (head_line v) = on_head m v
next m (table_line e) = on_table m e
next m (place_line a b) = on_place m (a, b)
next m certificate_line = option_map (λ f. certifying f []) (to_front m)
next m block_line = option_map (λ o. opened o) (to_block m)
next m (goal_line a b) = on_goal m a b
next m (given_line a b) = on_given m (a, b)
next m simplify_line = option_map (λ o. simplifying o empty) (to_step m)
next m reduce_line = option_map (λ o. reducing o [] empty) (to_step m)
next m derive_line = option_map (λ o. stepping (with_step o Derive_step)) (to_step m)
next m (cases_line t) = option_map (λ o. stepping (with_step o (Cases_step t))) (to_step m)
next m done_line = option_map (λ o. closed o.front (o.blocks ++ (block_of o ∷ []))) (to_step m)
next m same_line = on_same m
next m (split_line t n) = on_split m t n
next m if_line = on_if m
next m (left_line l) = cond (is_bare l) (on_left m l) None
next m (right_line l) = cond (is_bare l) (on_right m l) None
next m end_line = on_end m

abbrev pub run : State → List Line → Option State
run m [] = Some m
run m (l ∷ ls) = option_and_then (λ n. run n ls) (next m l)

abbrev pub proof_of : Front → List NumberedBlock → NumberedProof
proof_of f bs = record { table = f.table; places = f.places; certificates = f.certificates; blocks = bs }
