-- The part under way goes on as the state does, and tells what a line shows.
use Rattle.std.specs.Prelude.{map, ◌≡◌, ℕ, ◌+◌, List, [], ◌∷◌, ◌++◌, length, refl, Option, Some, None, cond, nat_eq, Bool, true, false}
use Rattle.std.specs.Option.{option_map}
use Rattle.std.proofs.Common.{◌∙◌, ap}
use Rattle.std.proofs.lemmas.List.{map-append}
use Rattle.circ_proof.specs.Plain.{LinkOf, ChainOf, WhyOf, Same_why, Split_why, no_why}
use Rattle.circ_line.specs.Line.{Line, head_line, table_line, place_line, certificate_line, block_line, goal_line, given_line, simplify_line}
use Rattle.circ_line.specs.Line.{reduce_line, derive_line, cases_line, done_line, same_line, split_line, if_line, left_line, right_line, end_line}
use Rattle.circ_proof.specs.Counting.{why_count}
use Rattle.circ_grammar.specs.Grammar.{Derive_step, Cases_step, is_bare}
use Rattle.circ_grammar.specs.Machine.{OpenBlock, OpenSplit, State, begin, tabling, placing, certifying, opened, stepping, simplifying, reducing, joining, closed}
use Rattle.circ_grammar.specs.Machine.{ended, empty, no_steps, with_step, push_why, open_split, give_why, to_step, add_left, next, with_goals, add_given, in_last, in_right, give_chain, on_if, on_left, on_right}
use Rattle.circ_grammar.specs.Parts.{Step_part, Done_part}
use Rattle.circ_grammar.specs.Shown.{at_front, at_step, at_why, at_same, at_split, brings}
use Rattle.circ_grammar.specs.Now.{Now, Certifying, Opened, Stepping, Simplifying, Reducing, Joining, Closed, give_chain_now, next_if, next_left, next_right, now, give_why_now, is_step, next_now, front_part, step_part}
use Rattle.circ_grammar.specs.Now.{why_part, same_part, split_part, line_part, with_table}
use Rattle.circ_grammar.proofs.Spelled.{close_block}

give_why_is : (o : OpenBlock) (fs : List OpenSplit) (w : WhyOf ℕ) → now (give_why o fs w) ≡ give_why_now fs w
give_why_is o [] w = refl
give_why_is o (f ∷ fs) w = go (give_why_is o fs (Split_why f.chain f.term (push_why f.whys w))) (nat_eq (why_count f.whys + 1) f.count)
  where
    go : now (give_why o fs (Split_why f.chain f.term (push_why f.whys w))) ≡ give_why_now fs (Split_why f.chain f.term (push_why f.whys w)) → (b : Bool)
        → now (cond b (give_why o fs (Split_why f.chain f.term (push_why f.whys w)))
        (reducing o (open_split f.chain f.term f.count (push_why f.whys w) ∷ fs) empty))
        ≡ cond b (give_why_now fs (Split_why f.chain f.term (push_why f.whys w))) (Reducing (open_split f.chain f.term f.count (push_why f.whys w) ∷ fs) empty)
    go ih true = ih
    go ih false = refl

map_now : {A : Type 0} (f : A → State) (g : A → Now) → ((x : A) → now (f x) ≡ g x) → (o : Option A) → option_map now (option_map f o) ≡ option_map g o
map_now f g h None = refl
map_now f g h (Some x) = ap (λ y. Some y) (h x)

opened_now : (q : OpenBlock) (f : OpenBlock → State) (n : Now) → ((x : OpenBlock) → now (f x) ≡ n)
    → option_map now (option_map f (to_step (opened q))) ≡ cond (is_step (Opened q.goals)) (Some n) None
opened_now q f n h = go (nat_eq (length q.goals) 0)
  where
    go : (b : Bool) → option_map now (option_map f (cond b None (Some (no_steps q)))) ≡ cond (cond b false true) (Some n) None
    go true = refl
    go false = ap (λ y. Some y) (h (no_steps q))

split_is : (o : OpenBlock) (fs : List OpenSplit) (c : ChainOf ℕ) (t k : ℕ) (b : Bool)
    → now (cond b (give_why o fs (Split_why c t no_why)) (reducing o (open_split c t k no_why ∷ fs) empty))
    ≡ cond b (give_why_now fs (Split_why c t no_why)) (Reducing (open_split c t k no_why ∷ fs) empty)
split_is o fs c t k true = give_why_is o fs (Split_why c t no_why)
split_is o fs c t k false = refl

-- a condition of the last link
chain_is : (m : State) (c : ChainOf ℕ) → option_map now (give_chain m c) ≡ give_chain_now (now m) c
chain_is (certifying f ls) c = map_now (λ ms. certifying f ms) Certifying (λ x. refl) (in_last ls c)
chain_is (simplifying o d) c = map_now (λ e. simplifying o e) Simplifying (λ x. refl) (in_right d.left d.right c)
chain_is (reducing o fs d) c = map_now (λ e. reducing o fs e) (Reducing fs) (λ x. refl) (in_right d.left d.right c)
chain_is (joining m d) c = map_now (λ e. joining m e) (Joining (now m)) (λ x. refl) (in_right d.left d.right c)
chain_is begin c = refl
chain_is (tabling es) c = refl
chain_is (placing es ps) c = refl
chain_is (opened o) c = refl
chain_is (stepping o) c = refl
chain_is (closed f bs) c = refl
chain_is (ended f bs) c = refl

if_is : (m : State) → option_map now (on_if m) ≡ next_if (now m)
if_is m = opens (give_chain m empty) ∙ ap (option_map (λ n. Joining (now m) empty)) (chain_is m empty)
  where
    opens : (o : Option State) → option_map now (option_map (λ n. joining m empty) o) ≡ option_map (λ n. Joining (now m) empty) (option_map now o)
    opens None = refl
    opens (Some q) = refl

left_is : (m : State) (l : LinkOf ℕ) → option_map now (on_left m l) ≡ next_left (now m) l
left_is (simplifying o c) l = map_now (λ d. simplifying o d) Simplifying (λ x. refl) (add_left c l)
left_is (reducing o fs c) l = map_now (λ d. reducing o fs d) (Reducing fs) (λ x. refl) (add_left c l)
left_is (joining m c) l = map_now (λ d. joining m d) (Joining (now m)) (λ x. refl) (add_left c l)
left_is begin l = refl
left_is (tabling es) l = refl
left_is (placing es ps) l = refl
left_is (certifying f ls) l = refl
left_is (opened o) l = refl
left_is (stepping o) l = refl
left_is (closed f bs) l = refl
left_is (ended f bs) l = refl

right_is : (m : State) (l : LinkOf ℕ) → option_map now (on_right m l) ≡ next_right (now m) l
right_is begin l = refl
right_is (tabling es) l = refl
right_is (placing es ps) l = refl
right_is (certifying f ls) l = refl
right_is (opened o) l = refl
right_is (stepping o) l = refl
right_is (simplifying o c) l = refl
right_is (reducing o fs c) l = refl
right_is (joining m c) l = refl
right_is (closed f bs) l = refl
right_is (ended f bs) l = refl

test_is : (b : Bool) (o : Option State) (p : Option Now) → option_map now o ≡ p → option_map now (cond b o None) ≡ cond b p None
test_is true o p e = e
test_is false o p e = refl

-- 1. The part under way goes on as the state step_parts.
pub next_is : (m : State) (l : Line) → option_map now (next m l) ≡ next_now (now m) l
next_is begin (head_line v) = refl
next_is begin (table_line e) = refl
next_is begin (place_line a b) = refl
next_is begin certificate_line = refl
next_is begin block_line = refl
next_is begin (goal_line a b) = refl
next_is begin (given_line a b) = refl
next_is begin simplify_line = refl
next_is begin reduce_line = refl
next_is begin derive_line = refl
next_is begin (cases_line t) = refl
next_is begin done_line = refl
next_is begin same_line = refl
next_is begin (split_line t k) = refl
next_is begin end_line = refl
next_is (tabling es) (head_line v) = refl
next_is (tabling es) (table_line e) = refl
next_is (tabling es) (place_line a b) = refl
next_is (tabling es) certificate_line = refl
next_is (tabling es) block_line = refl
next_is (tabling es) (goal_line a b) = refl
next_is (tabling es) (given_line a b) = refl
next_is (tabling es) simplify_line = refl
next_is (tabling es) reduce_line = refl
next_is (tabling es) derive_line = refl
next_is (tabling es) (cases_line t) = refl
next_is (tabling es) done_line = refl
next_is (tabling es) same_line = refl
next_is (tabling es) (split_line t k) = refl
next_is (tabling es) end_line = refl
next_is (placing es ps) (head_line v) = refl
next_is (placing es ps) (table_line e) = refl
next_is (placing es ps) (place_line a b) = refl
next_is (placing es ps) certificate_line = refl
next_is (placing es ps) block_line = refl
next_is (placing es ps) (goal_line a b) = refl
next_is (placing es ps) (given_line a b) = refl
next_is (placing es ps) simplify_line = refl
next_is (placing es ps) reduce_line = refl
next_is (placing es ps) derive_line = refl
next_is (placing es ps) (cases_line t) = refl
next_is (placing es ps) done_line = refl
next_is (placing es ps) same_line = refl
next_is (placing es ps) (split_line t k) = refl
next_is (placing es ps) end_line = refl
next_is (certifying f ls) (head_line v) = refl
next_is (certifying f ls) (table_line e) = refl
next_is (certifying f ls) (place_line a b) = refl
next_is (certifying f ls) certificate_line = refl
next_is (certifying f ls) block_line = refl
next_is (certifying f ls) (goal_line a b) = refl
next_is (certifying f ls) (given_line a b) = refl
next_is (certifying f ls) simplify_line = refl
next_is (certifying f ls) reduce_line = refl
next_is (certifying f ls) derive_line = refl
next_is (certifying f ls) (cases_line t) = refl
next_is (certifying f ls) done_line = refl
next_is (certifying f ls) same_line = refl
next_is (certifying f ls) (split_line t k) = refl
next_is (certifying f ls) end_line = refl
next_is (opened o) (head_line v) = refl
next_is (opened o) (table_line e) = refl
next_is (opened o) (place_line a b) = refl
next_is (opened o) certificate_line = refl
next_is (opened o) block_line = refl
next_is (opened o) (goal_line a b) = refl
next_is (opened o) (given_line a b) = map_now (λ gs. opened (with_goals o gs)) Opened (λ x. refl) (add_given o.goals (a, b))
next_is (opened o) simplify_line = opened_now o (λ q. simplifying q empty) (Simplifying empty) (λ x. refl)
next_is (opened o) reduce_line = opened_now o (λ q. reducing q [] empty) (Reducing [] empty) (λ x. refl)
next_is (opened o) derive_line = opened_now o (λ q. stepping (with_step q Derive_step)) Stepping (λ x. refl)
next_is (opened o) (cases_line t) = opened_now o (λ q. stepping (with_step q (Cases_step t))) Stepping (λ x. refl)
next_is (opened o) done_line = opened_now o close_block Closed (λ x. refl)
next_is (opened o) same_line = refl
next_is (opened o) (split_line t k) = refl
next_is (opened o) end_line = refl
next_is (stepping o) (head_line v) = refl
next_is (stepping o) (table_line e) = refl
next_is (stepping o) (place_line a b) = refl
next_is (stepping o) certificate_line = refl
next_is (stepping o) block_line = refl
next_is (stepping o) (goal_line a b) = refl
next_is (stepping o) (given_line a b) = refl
next_is (stepping o) simplify_line = refl
next_is (stepping o) reduce_line = refl
next_is (stepping o) derive_line = refl
next_is (stepping o) (cases_line t) = refl
next_is (stepping o) done_line = refl
next_is (stepping o) same_line = refl
next_is (stepping o) (split_line t k) = refl
next_is (stepping o) end_line = refl
next_is (simplifying o c) (head_line v) = refl
next_is (simplifying o c) (table_line e) = refl
next_is (simplifying o c) (place_line a b) = refl
next_is (simplifying o c) certificate_line = refl
next_is (simplifying o c) block_line = refl
next_is (simplifying o c) (goal_line a b) = refl
next_is (simplifying o c) (given_line a b) = refl
next_is (simplifying o c) simplify_line = refl
next_is (simplifying o c) reduce_line = refl
next_is (simplifying o c) derive_line = refl
next_is (simplifying o c) (cases_line t) = refl
next_is (simplifying o c) done_line = refl
next_is (simplifying o c) same_line = refl
next_is (simplifying o c) (split_line t k) = refl
next_is (simplifying o c) end_line = refl
next_is (reducing o fs c) (head_line v) = refl
next_is (reducing o fs c) (table_line e) = refl
next_is (reducing o fs c) (place_line a b) = refl
next_is (reducing o fs c) certificate_line = refl
next_is (reducing o fs c) block_line = refl
next_is (reducing o fs c) (goal_line a b) = refl
next_is (reducing o fs c) (given_line a b) = refl
next_is (reducing o fs c) simplify_line = refl
next_is (reducing o fs c) reduce_line = refl
next_is (reducing o fs c) derive_line = refl
next_is (reducing o fs c) (cases_line t) = refl
next_is (reducing o fs c) done_line = refl
next_is (reducing o fs c) same_line = ap (λ y. Some y) (give_why_is o fs (Same_why c))
next_is (reducing o fs c) (split_line t k) = ap (λ y. Some y) (split_is o fs c t k (nat_eq k 0))
next_is (reducing o fs c) end_line = refl
next_is (joining m c) (head_line v) = refl
next_is (joining m c) (table_line e) = refl
next_is (joining m c) (place_line a b) = refl
next_is (joining m c) certificate_line = refl
next_is (joining m c) block_line = refl
next_is (joining m c) (goal_line a b) = refl
next_is (joining m c) (given_line a b) = refl
next_is (joining m c) simplify_line = refl
next_is (joining m c) reduce_line = refl
next_is (joining m c) derive_line = refl
next_is (joining m c) (cases_line t) = refl
next_is (joining m c) done_line = refl
next_is (joining m c) same_line = chain_is m c
next_is (joining m c) (split_line t k) = refl
next_is (joining m c) end_line = refl
next_is (closed f bs) (head_line v) = refl
next_is (closed f bs) (table_line e) = refl
next_is (closed f bs) (place_line a b) = refl
next_is (closed f bs) certificate_line = refl
next_is (closed f bs) block_line = refl
next_is (closed f bs) (goal_line a b) = refl
next_is (closed f bs) (given_line a b) = refl
next_is (closed f bs) simplify_line = refl
next_is (closed f bs) reduce_line = refl
next_is (closed f bs) derive_line = refl
next_is (closed f bs) (cases_line t) = refl
next_is (closed f bs) done_line = refl
next_is (closed f bs) same_line = refl
next_is (closed f bs) (split_line t k) = refl
next_is (closed f bs) end_line = refl
next_is (ended f bs) (head_line v) = refl
next_is (ended f bs) (table_line e) = refl
next_is (ended f bs) (place_line a b) = refl
next_is (ended f bs) certificate_line = refl
next_is (ended f bs) block_line = refl
next_is (ended f bs) (goal_line a b) = refl
next_is (ended f bs) (given_line a b) = refl
next_is (ended f bs) simplify_line = refl
next_is (ended f bs) reduce_line = refl
next_is (ended f bs) derive_line = refl
next_is (ended f bs) (cases_line t) = refl
next_is (ended f bs) done_line = refl
next_is (ended f bs) same_line = refl
next_is (ended f bs) (split_line t k) = refl
next_is (ended f bs) end_line = refl
next_is m if_line = if_is m
next_is m (left_line l) = test_is (is_bare l) (on_left m l) (next_left (now m) l) (left_is m l)
next_is m (right_line l) = test_is (is_bare l) (on_right m l) (next_right (now m) l) (right_is m l)

why_is : {T : Type 0} (ts : T) (fs : List OpenSplit) (w : WhyOf ℕ) → map (with_table ts) (at_why fs w) ≡ why_part fs w
why_is ts [] w = refl
why_is ts (f ∷ fs) w = go (why_is ts fs (Split_why f.chain f.term (push_why f.whys w))) (nat_eq (why_count f.whys + 1) f.count)
  where
    go : map (with_table ts) (at_why fs (Split_why f.chain f.term (push_why f.whys w))) ≡ why_part fs (Split_why f.chain f.term (push_why f.whys w))
        → (b : Bool)
        → map (with_table ts) (cond b (at_why fs (Split_why f.chain f.term (push_why f.whys w))) [])
        ≡ cond b (why_part fs (Split_why f.chain f.term (push_why f.whys w))) []
    go ih true = ih
    go ih false = refl

split_why : {T : Type 0} (ts : T) (fs : List OpenSplit) (c : ChainOf ℕ) (t : ℕ) (b : Bool)
    → map (with_table ts) (cond b (at_why fs (Split_why c t no_why)) []) ≡ cond b (why_part fs (Split_why c t no_why)) []
split_why ts fs c t true = why_is ts fs (Split_why c t no_why)
split_why ts fs c t false = refl

front_is : {T : Type 0} (ts : T) (m : State) → map (with_table ts) (at_front m) ≡ front_part ts (now m)
front_is ts begin = refl
front_is ts (tabling es) = refl
front_is ts (placing es ps) = refl
front_is ts (certifying f ls) = refl
front_is ts (opened o) = refl
front_is ts (stepping o) = refl
front_is ts (simplifying o c) = refl
front_is ts (reducing o fs c) = refl
front_is ts (joining m c) = refl
front_is ts (closed f bs) = refl
front_is ts (ended f bs) = refl

step_is : {T : Type 0} (ts : T) (m : State) → map (with_table ts) (at_step m) ≡ step_part ts (now m)
step_is ts begin = refl
step_is ts (tabling es) = refl
step_is ts (placing es ps) = refl
step_is ts (certifying f ls) = refl
step_is ts (opened o) = refl
step_is ts (stepping o) = refl
step_is ts (simplifying o c) = refl
step_is ts (reducing o fs c) = refl
step_is ts (joining m c) = refl
step_is ts (closed f bs) = refl
step_is ts (ended f bs) = refl

same_is : {T : Type 0} (ts : T) (m : State) → map (with_table ts) (at_same m) ≡ same_part (now m)
same_is ts begin = refl
same_is ts (tabling es) = refl
same_is ts (placing es ps) = refl
same_is ts (certifying f ls) = refl
same_is ts (opened o) = refl
same_is ts (stepping o) = refl
same_is ts (simplifying o c) = refl
same_is ts (reducing o fs c) = why_is ts fs (Same_why c)
same_is ts (joining m c) = refl
same_is ts (closed f bs) = refl
same_is ts (ended f bs) = refl

split_part_is : {T : Type 0} (ts : T) (m : State) (t k : ℕ) → map (with_table ts) (at_split m t k) ≡ split_part (now m) t k
split_part_is ts begin t k = refl
split_part_is ts (tabling es) t k = refl
split_part_is ts (placing es ps) t k = refl
split_part_is ts (certifying f ls) t k = refl
split_part_is ts (opened o) t k = refl
split_part_is ts (stepping o) t k = refl
split_part_is ts (simplifying o c) t k = refl
split_part_is ts (reducing o fs c) t k = split_why ts fs c t (nat_eq k 0)
split_part_is ts (joining m c) t k = refl
split_part_is ts (closed f bs) t k = refl
split_part_is ts (ended f bs) t k = refl

-- 2. What a line shows is told by the part under way.
pub line_part_is : {T : Type 0} (ts : T) (m : State) (l : Line) → map (with_table ts) (brings m l) ≡ line_part ts (now m) l
line_part_is ts m (head_line v) = refl
line_part_is ts m (table_line e) = refl
line_part_is ts m (place_line a b) = refl
line_part_is ts m certificate_line = front_is ts m
line_part_is ts m block_line = front_is ts m
line_part_is ts m (goal_line a b) = refl
line_part_is ts m (given_line a b) = refl
line_part_is ts m simplify_line = step_is ts m
line_part_is ts m reduce_line = step_is ts m
line_part_is ts m derive_line = map-append (with_table ts) (at_step m) (Step_part Derive_step ∷ []) ∙ ap (λ y. y ++ Step_part Derive_step ∷ []) (step_is ts m)
line_part_is ts m (cases_line t) = map-append (with_table ts) (at_step m) (Step_part (Cases_step t) ∷ [])
    ∙ ap (λ y. y ++ Step_part (Cases_step t) ∷ []) (step_is ts m)
line_part_is ts m done_line = map-append (with_table ts) (at_step m) (Done_part ∷ []) ∙ ap (λ y. y ++ Done_part ∷ []) (step_is ts m)
line_part_is ts m same_line = same_is ts m
line_part_is ts m (split_line t k) = split_part_is ts m t k
line_part_is ts m if_line = refl
line_part_is ts m (left_line l) = refl
line_part_is ts m (right_line l) = refl
line_part_is ts m end_line = refl
