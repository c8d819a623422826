-- What is kept after some lines spells these lines.
use Rattle.std.specs.Prelude.{◌≡◌, ℕ, ◌+◌, List, [], ◌∷◌, ◌++◌, length, refl, Option, Some, None, cond, nat_eq, Bool, true, false}
use Rattle.std.specs.Option.{option_map, option_and_then}
use Rattle.std.proofs.Common.{sym, ◌∙◌, ap}
use Rattle.std.proofs.lemmas.Option.{same_Some}
use Rattle.std.proofs.lemmas.Bool.{eqb-true}
use Rattle.circ_proof.specs.Proof.{GoalNames}
use Rattle.circ_proof.specs.Plain.{LinkOf, ChainsOf, Equation_link, Hypothesis_link, Assumption_link, Content_link, no_chain}
use Rattle.circ_proof.specs.Plain.{more_chains, row_of, ChainOf, WhyOf, WhysOf, Same_why, Split_why, no_why, more_whys}
use Rattle.circ_line.specs.Line.{TableLine, Line, head_line, table_line, place_line, certificate_line, block_line, goal_line, given_line, simplify_line}
use Rattle.circ_line.specs.Line.{reduce_line, derive_line, cases_line, done_line, same_line, split_line, if_line, left_line, right_line, end_line}
use Rattle.circ_proof.specs.Counting.{why_count}
use Rattle.circ_grammar.specs.Grammar.{Simplify_step, Reduce_step, Derive_step, Cases_step, NumberedBlock, lines_of, head_lines, table_lines, place_lines}
use Rattle.circ_grammar.specs.Grammar.{bare, is_bare, conds_lines, left_row, right_row, link_conds, left_lines, right_lines, given_lines, goal_lines, chain_lines, why_lines, whys_lines, step_lines, certificate_lines, block_lines}
use Rattle.circ_grammar.specs.Machine.{Front, OpenBlock, OpenSplit, State, begin, tabling, placing, certifying, opened, stepping, simplifying, reducing}
use Rattle.circ_grammar.specs.Machine.{joining, closed, ended, empty, front, goal_names, with_goals, add_given, push_chain, add_chain, in_last, chain_of, in_right, give_chain, with_certificate, no_steps, open_block, with_step, block_of, push_why, open_split}
use Rattle.circ_grammar.specs.Machine.{give_why, to_front, to_block, to_step, add_left_to, add_left, on_head, on_table, on_place, on_goal, on_given, on_if, on_same}
use Rattle.circ_grammar.specs.Machine.{on_split, on_left, on_right, on_end, next, run}

abbrev pub front_lines : Front → List Line → List Line
front_lines f k = head_lines f.table (lines_of place_lines f.places (lines_of certificate_lines f.certificates k))

abbrev pub blocks_lines : Front → List NumberedBlock → List Line → List Line
blocks_lines f bs k = front_lines f (lines_of block_lines bs k)

abbrev pub open_lines : OpenBlock → List Line → List Line
open_lines o k = blocks_lines o.front o.blocks (block_line ∷ lines_of goal_lines o.goals (lines_of step_lines o.steps k))

abbrev pub stack_lines : List OpenSplit → List Line → List Line
stack_lines [] k = k
stack_lines (f ∷ fs) k = stack_lines fs (chain_lines f.chain (split_line f.term f.count ∷ whys_lines f.whys k))

-- the lines that led to a state
abbrev pub so_far : State → List Line → List Line
so_far begin k = k
so_far (tabling es) k = front_lines (front es [] []) k
so_far (placing es ps) k = front_lines (front es ps []) k
so_far (certifying f ls) k = front_lines f (certificate_lines ls k)
so_far (opened o) k = blocks_lines o.front o.blocks (block_line ∷ lines_of goal_lines o.goals k)
so_far (stepping o) k = open_lines o k
so_far (simplifying o c) k = open_lines o (simplify_line ∷ chain_lines c k)
so_far (reducing o fs c) k = open_lines o (reduce_line ∷ stack_lines fs (chain_lines c k))
so_far (joining m c) k = so_far m (if_line ∷ chain_lines c k)
so_far (closed f bs) k = blocks_lines f bs k
so_far (ended f bs) k = blocks_lines f bs (end_line ∷ k)

pub lines_of-push : {A : Type 0} (f : A → List Line → List Line) (xs : List A) (x : A) (k : List Line) → lines_of f (xs ++ (x ∷ [])) k ≡ lines_of f xs (f x k)
lines_of-push f [] x k = refl
lines_of-push f (y ∷ ys) x k = ap (f y) (lines_of-push f ys x k)

pub whys_lines-push : (ws : WhysOf ℕ) (w : WhyOf ℕ) (k : List Line) → whys_lines (push_why ws w) k ≡ whys_lines ws (why_lines w k)
whys_lines-push no_why w k = refl
whys_lines-push (more_whys v vs) w k = ap (why_lines v) (whys_lines-push vs w k)

pub why_count-push : (ws : WhysOf ℕ) (w : WhyOf ℕ) → why_count (push_why ws w) ≡ why_count ws + 1
why_count-push no_why w = refl
why_count-push (more_whys v vs) w = ap (λ n. n + 1) (why_count-push vs w)

pub option_map_some : {A B : Type 0} (f : A → B) (o : Option A) (y : B) → option_map f o ≡ Some y → (x : A) × (o ≡ Some x) × (f x ≡ y)
option_map_some f None y e = absurd (cc)
option_map_some f (Some x) y e = (x, refl, same_Some (f x) y e)

-- a state that is known, by the lines that led to it
arrived : (x m : State) (k t : List Line) → ◌≡◌ {A = Option State} (Some x) (Some m) → so_far x k ≡ t → so_far m k ≡ t
arrived x m k t e h = sym (ap (λ s. so_far s k) (same_Some x m e)) ∙ h

pub give_why_so_far : (o : OpenBlock) (fs : List OpenSplit) (w : WhyOf ℕ) (k : List Line)
    → so_far (give_why o fs w) k ≡ open_lines o (reduce_line ∷ stack_lines fs (why_lines w k))
give_why_so_far o [] w k = ap (λ r. blocks_lines o.front o.blocks (block_line ∷ lines_of goal_lines o.goals r))
    (lines_of-push step_lines o.steps (Reduce_step w) k)
give_why_so_far o (f ∷ fs) w k = go (give_why_so_far o fs (Split_why f.chain f.term (push_why f.whys w)) k) (nat_eq (why_count f.whys + 1) f.count) refl
  where
    go : so_far (give_why o fs (Split_why f.chain f.term (push_why f.whys w))) k
        ≡ open_lines o (reduce_line ∷ stack_lines fs (why_lines (Split_why f.chain f.term (push_why f.whys w)) k))
        → (b : Bool) → nat_eq (why_count f.whys + 1) f.count ≡ b
        → so_far (cond b (give_why o fs (Split_why f.chain f.term (push_why f.whys w)))
        (reducing o (open_split f.chain f.term f.count (push_why f.whys w) ∷ fs) empty)) k
        ≡ open_lines o (reduce_line ∷ stack_lines fs (chain_lines f.chain (split_line f.term f.count ∷ whys_lines f.whys (why_lines w k))))
    go ih true e = ih
        ∙ (ap (λ n. open_lines o (reduce_line ∷ stack_lines fs (chain_lines f.chain (split_line f.term n ∷ whys_lines (push_why f.whys w) k))))
        (why_count-push f.whys w ∙ eqb-true _ _ e)
        ∙ ap (λ r. open_lines o (reduce_line ∷ stack_lines fs (chain_lines f.chain (split_line f.term f.count ∷ r)))) (whys_lines-push f.whys w k))
    go ih false e = ap (λ r. open_lines o (reduce_line ∷ stack_lines fs (chain_lines f.chain (split_line f.term f.count ∷ r)))) (whys_lines-push f.whys w k)

pub to_front_so_far : (m : State) (f : Front) (k : List Line) → to_front m ≡ Some f → front_lines f k ≡ so_far m k
to_front_so_far (tabling es) f k e = ap (λ x. front_lines x k) (sym (same_Some (front es [] []) f e))
to_front_so_far (placing es ps) f k e = ap (λ x. front_lines x k) (sym (same_Some (front es ps []) f e))
to_front_so_far (certifying g ls) f k e = ap (λ x. front_lines x k) (sym (same_Some (with_certificate g ls) f e))
    ∙ ap (λ r. head_lines g.table (lines_of place_lines g.places r)) (lines_of-push certificate_lines g.certificates ls k)
to_front_so_far _ f k e = absurd (cc)

pub to_block_so_far : (m : State) (o : OpenBlock) (k : List Line) → to_block m ≡ Some o → so_far (opened o) k ≡ so_far m (block_line ∷ k)
to_block_so_far (closed f bs) o k e = sym (ap (λ x. so_far (opened x) k) (same_Some (open_block f bs) o e))
to_block_so_far m o k e = later m o k e
  where
    later : (m : State) (o : OpenBlock) (k : List Line) → option_map (λ f. open_block f []) (to_front m) ≡ Some o
        → so_far (opened o) k ≡ so_far m (block_line ∷ k)
    later m o k e = let p : (f : Front) × (to_front m ≡ Some f) × (open_block f [] ≡ o) = option_map_some (λ f. open_block f []) (to_front m) o e in
        sym (ap (λ x. so_far (opened x) k) p.2) ∙ to_front_so_far m p.0 (block_line ∷ k) p.1

pub to_step_so_far : (m : State) (o : OpenBlock) (k : List Line) → to_step m ≡ Some o → open_lines o k ≡ so_far m k
to_step_so_far (opened q) o k e = go (nat_eq (length q.goals) 0) e
  where
    go : (b : Bool) → cond b None (Some (no_steps q)) ≡ Some o → open_lines o k ≡ blocks_lines q.front q.blocks (block_line ∷ lines_of goal_lines q.goals k)
    go true e = absurd (cc)
    go false e = ap (λ x. open_lines x k) (sym (same_Some (no_steps q) o e))
to_step_so_far (stepping q) o k e = ap (λ x. open_lines x k) (sym (same_Some q o e))
to_step_so_far (simplifying q c) o k e = ap (λ x. open_lines x k) (sym (same_Some (with_step q (Simplify_step c)) o e))
    ∙ ap (λ r. blocks_lines q.front q.blocks (block_line ∷ lines_of goal_lines q.goals r)) (lines_of-push step_lines q.steps (Simplify_step c) k)
to_step_so_far _ o k e = absurd (cc)

add_left_lines : (xs ys : List (LinkOf ℕ)) (l : LinkOf ℕ) (d : ChainOf ℕ) (k : List Line) → add_left_to xs ys l ≡ Some d
    → chain_lines d k ≡ lines_of left_lines xs (lines_of right_lines ys (left_lines l k))
add_left_lines xs [] l d k e = ap (λ x. chain_lines x k) (sym (same_Some _ d e)) ∙ lines_of-push left_lines xs l k
add_left_lines xs (y ∷ ys) l d k e = absurd (cc)

on_left_so_far : (m n : State) (l : LinkOf ℕ) (k : List Line) → on_left m l ≡ Some n → so_far n k ≡ so_far m (left_lines l k)
on_left_so_far (certifying f ls) n l k e = arrived _ n k _ e (ap (λ r. front_lines f (certificate_line ∷ r)) (lines_of-push left_lines ls l k))
on_left_so_far (simplifying o c) n l k e = let p : (d : ChainOf ℕ) × (add_left c l ≡ Some d) × (simplifying o d ≡ n) =
    option_map_some (λ d. simplifying o d) (add_left c l) n e in
    sym (ap (λ x. so_far x k) p.2) ∙ ap (λ r. open_lines o (simplify_line ∷ r)) (add_left_lines c.left c.right l p.0 k p.1)
on_left_so_far (reducing o fs c) n l k e = let p : (d : ChainOf ℕ) × (add_left c l ≡ Some d) × (reducing o fs d ≡ n) =
    option_map_some (λ d. reducing o fs d) (add_left c l) n e in
    sym (ap (λ x. so_far x k) p.2) ∙ ap (λ r. open_lines o (reduce_line ∷ stack_lines fs r)) (add_left_lines c.left c.right l p.0 k p.1)
on_left_so_far (joining m c) n l k e = let p : (d : ChainOf ℕ) × (add_left c l ≡ Some d) × (joining m d ≡ n) =
    option_map_some (λ d. joining m d) (add_left c l) n e in
    sym (ap (λ x. so_far x k) p.2) ∙ ap (λ r. so_far m (if_line ∷ r)) (add_left_lines c.left c.right l p.0 k p.1)
on_left_so_far _ n l k e = absurd (cc)

on_right_so_far : (m n : State) (l : LinkOf ℕ) (k : List Line) → on_right m l ≡ Some n → so_far n k ≡ so_far m (right_lines l k)
on_right_so_far (simplifying o c) n l k e = arrived _ n k _ e
    (ap (λ r. open_lines o (simplify_line ∷ lines_of left_lines c.left r)) (lines_of-push right_lines c.right l k))
on_right_so_far (reducing o fs c) n l k e = arrived _ n k _ e
    (ap (λ r. open_lines o (reduce_line ∷ stack_lines fs (lines_of left_lines c.left r))) (lines_of-push right_lines c.right l k))
on_right_so_far (joining m c) n l k e = arrived _ n k _ e
    (ap (λ r. so_far m (if_line ∷ lines_of left_lines c.left r)) (lines_of-push right_lines c.right l k))
on_right_so_far _ n l k e = absurd (cc)

-- a bare link has its own line alone
pub bare_is : (l : LinkOf ℕ) → is_bare l ≡ true → bare l ≡ l
bare_is (Equation_link n w p ts no_chain) e = refl
bare_is (Equation_link n w p ts (more_chains x y z)) e = absurd (cc)
bare_is (Hypothesis_link n w p ts no_chain) e = refl
bare_is (Hypothesis_link n w p ts (more_chains x y z)) e = absurd (cc)
bare_is (Assumption_link n w p) e = refl
bare_is (Content_link f p t) e = refl

pub no_conds : (l : LinkOf ℕ) (k : List Line) → is_bare l ≡ true → link_conds l k ≡ k
no_conds (Equation_link n w p ts no_chain) k e = refl
no_conds (Equation_link n w p ts (more_chains x y z)) k e = absurd (cc)
no_conds (Hypothesis_link n w p ts no_chain) k e = refl
no_conds (Hypothesis_link n w p ts (more_chains x y z)) k e = absurd (cc)
no_conds (Assumption_link n w p) k e = refl
no_conds (Content_link f p t) k e = refl

pub left_line_is : (l : LinkOf ℕ) (k : List Line) → is_bare l ≡ true → left_lines l k ≡ left_line l ∷ k
left_line_is l k e = λ i. left_line (bare_is l e i) ∷ no_conds l k e i

pub right_line_is : (l : LinkOf ℕ) (k : List Line) → is_bare l ≡ true → right_lines l k ≡ right_line l ∷ k
right_line_is l k e = λ i. right_line (bare_is l e i) ∷ no_conds l k e i

-- what is the case of a line that is taken under a test
pub under_test : {X P : Type 0} (b : Bool) (o : Option X) (x : X) → cond b o None ≡ Some x → (b ≡ true → o ≡ Some x → P) → P
under_test true o x e f = f refl e
under_test false o x e f = absurd (cc)

-- the chains of a link's conditions

left_row_is : (ls : List (LinkOf ℕ)) (k : List Line) → left_row (row_of ls) k ≡ lines_of left_lines ls k
left_row_is [] k = refl
left_row_is (l ∷ ls) k = ap (left_lines l) (left_row_is ls k)

right_row_is : (ls : List (LinkOf ℕ)) (k : List Line) → right_row (row_of ls) k ≡ lines_of right_lines ls k
right_row_is [] k = refl
right_row_is (l ∷ ls) k = ap (right_lines l) (right_row_is ls k)

abbrev pub cond_lines : ChainOf ℕ → List Line → List Line
cond_lines c k = if_line ∷ chain_lines c (same_line ∷ k)

push_chain_lines : (cs : ChainsOf ℕ) (c : ChainOf ℕ) (k : List Line) → conds_lines (push_chain cs c) k ≡ conds_lines cs (cond_lines c k)
push_chain_lines no_chain c k =
    ap (λ r. if_line ∷ r) (left_row_is c.left (right_row (row_of c.right) (same_line ∷ k))
    ∙ ap (lines_of left_lines c.left) (right_row_is c.right (same_line ∷ k)))
push_chain_lines (more_chains l r cs) c k = ap (λ x. if_line ∷ left_row l (right_row r (same_line ∷ x))) (push_chain_lines cs c k)

add_chain_left : (l m : LinkOf ℕ) (c : ChainOf ℕ) (k : List Line) → add_chain l c ≡ Some m → left_lines m k ≡ left_lines l (cond_lines c k)
add_chain_left (Equation_link n w p ts cs) m c k e = ap (λ x. left_lines x k) (sym (same_Some _ m e))
    ∙ ap (λ r. left_line (Equation_link n w p ts no_chain) ∷ r) (push_chain_lines cs c k)
add_chain_left (Hypothesis_link n w p ts cs) m c k e = ap (λ x. left_lines x k) (sym (same_Some _ m e))
    ∙ ap (λ r. left_line (Hypothesis_link n w p ts no_chain) ∷ r) (push_chain_lines cs c k)
add_chain_left _ m c k e = absurd (cc)

add_chain_right : (l m : LinkOf ℕ) (c : ChainOf ℕ) (k : List Line) → add_chain l c ≡ Some m → right_lines m k ≡ right_lines l (cond_lines c k)
add_chain_right (Equation_link n w p ts cs) m c k e = ap (λ x. right_lines x k) (sym (same_Some _ m e))
    ∙ ap (λ r. right_line (Equation_link n w p ts no_chain) ∷ r) (push_chain_lines cs c k)
add_chain_right (Hypothesis_link n w p ts cs) m c k e = ap (λ x. right_lines x k) (sym (same_Some _ m e))
    ∙ ap (λ r. right_line (Hypothesis_link n w p ts no_chain) ∷ r) (push_chain_lines cs c k)
add_chain_right _ m c k e = absurd (cc)

-- the last link with a chain more has that chain's lines last
in_last_lines : (f : LinkOf ℕ → List Line → List Line) (c : ChainOf ℕ)
    → ((l m : LinkOf ℕ) (k : List Line) → add_chain l c ≡ Some m → f m k ≡ f l (cond_lines c k))
    → (ls ms : List (LinkOf ℕ)) (k : List Line) → in_last ls c ≡ Some ms → lines_of f ms k ≡ lines_of f ls (cond_lines c k)
in_last_lines f c h [] ms k e = absurd (cc)
in_last_lines f c h (l ∷ []) ms k e = let p : (m : LinkOf ℕ) × (add_chain l c ≡ Some m) × (m ∷ [] ≡ ms) = option_map_some (λ m. m ∷ []) (add_chain l c) ms e in
    sym (ap (λ x. lines_of f x k) p.2) ∙ h l p.0 k p.1
in_last_lines f c h (l ∷ m ∷ ls) ms k e = let p : (r : List (LinkOf ℕ)) × (in_last (m ∷ ls) c ≡ Some r) × (l ∷ r ≡ ms) =
    option_map_some (λ r. l ∷ r) (in_last (m ∷ ls) c) ms e in
    sym (ap (λ x. lines_of f x k) p.2) ∙ ap (f l) (in_last_lines f c h (m ∷ ls) p.0 k p.1)

lefts_given : (ls ms : List (LinkOf ℕ)) (c : ChainOf ℕ) (k : List Line) → in_last ls c ≡ Some ms → lines_of left_lines ms k ≡ lines_of left_lines ls (cond_lines c k)
lefts_given ls ms c k e = in_last_lines left_lines c (λ l m k e. add_chain_left l m c k e) ls ms k e

rights_given : (ls ms : List (LinkOf ℕ)) (c : ChainOf ℕ) (k : List Line) → in_last ls c ≡ Some ms → lines_of right_lines ms k ≡ lines_of right_lines ls (cond_lines c k)
rights_given ls ms c k e = in_last_lines right_lines c (λ l m k e. add_chain_right l m c k e) ls ms k e

in_chain_lines : (ls rs : List (LinkOf ℕ)) (c d : ChainOf ℕ) (k : List Line) → in_right ls rs c ≡ Some d
    → chain_lines d k ≡ chain_lines (chain_of ls rs) (cond_lines c k)
in_chain_lines ls [] c d k e = let p : (ms : List (LinkOf ℕ)) × (in_last ls c ≡ Some ms) × (chain_of ms [] ≡ d) =
    option_map_some (λ ms. chain_of ms []) (in_last ls c) d e in
    sym (ap (λ x. chain_lines x k) p.2) ∙ lefts_given ls p.0 c k p.1
in_chain_lines ls (r ∷ rs) c d k e = let p : (ms : List (LinkOf ℕ)) × (in_last (r ∷ rs) c ≡ Some ms) × (chain_of ls ms ≡ d) =
    option_map_some (λ ms. chain_of ls ms) (in_last (r ∷ rs) c) d e in
    sym (ap (λ x. chain_lines x k) p.2) ∙ ap (lines_of left_lines ls) (rights_given (r ∷ rs) p.0 c k p.1)

pub give_chain_so_far : (m n : State) (c : ChainOf ℕ) (k : List Line) → give_chain m c ≡ Some n → so_far n k ≡ so_far m (cond_lines c k)
give_chain_so_far (certifying f ls) n c k e = let p : (ms : List (LinkOf ℕ)) × (in_last ls c ≡ Some ms) × (certifying f ms ≡ n) =
    option_map_some (λ ms. certifying f ms) (in_last ls c) n e in
    sym (ap (λ x. so_far x k) p.2) ∙ ap (λ r. front_lines f (certificate_line ∷ r)) (lefts_given ls p.0 c k p.1)
give_chain_so_far (simplifying o d) n c k e = let p : (x : ChainOf ℕ) × (in_right d.left d.right c ≡ Some x) × (simplifying o x ≡ n) =
    option_map_some (λ x. simplifying o x) (in_right d.left d.right c) n e in
    sym (ap (λ x. so_far x k) p.2) ∙ ap (λ r. open_lines o (simplify_line ∷ r)) (in_chain_lines d.left d.right c p.0 k p.1)
give_chain_so_far (reducing o fs d) n c k e = let p : (x : ChainOf ℕ) × (in_right d.left d.right c ≡ Some x) × (reducing o fs x ≡ n) =
    option_map_some (λ x. reducing o fs x) (in_right d.left d.right c) n e in
    sym (ap (λ x. so_far x k) p.2) ∙ ap (λ r. open_lines o (reduce_line ∷ stack_lines fs r)) (in_chain_lines d.left d.right c p.0 k p.1)
give_chain_so_far (joining m d) n c k e = let p : (x : ChainOf ℕ) × (in_right d.left d.right c ≡ Some x) × (joining m x ≡ n) =
    option_map_some (λ x. joining m x) (in_right d.left d.right c) n e in
    sym (ap (λ x. so_far x k) p.2) ∙ ap (λ r. so_far m (if_line ∷ r)) (in_chain_lines d.left d.right c p.0 k p.1)
give_chain_so_far _ n c k e = absurd (cc)

on_if_so_far : (m n : State) (k : List Line) → on_if m ≡ Some n → so_far n k ≡ so_far m (if_line ∷ k)
on_if_so_far m n k e = let p : (q : State) × (give_chain m empty ≡ Some q) × (joining m empty ≡ n) =
    option_map_some (λ q. joining m empty) (give_chain m empty) n e in sym (ap (λ x. so_far x k) p.2)

-- the condition of a goal goes to the last goal
given_lines_are : (gs hs : List GoalNames) (p : ℕ × ℕ) (k : List Line) → add_given gs p ≡ Some hs
    → lines_of goal_lines hs k ≡ lines_of goal_lines gs (given_line p.0 p.1 ∷ k)
given_lines_are [] hs p k e = absurd (cc)
given_lines_are (g ∷ []) hs p k e = ap (λ x. lines_of goal_lines x k) (sym (same_Some _ hs e))
    ∙ ap (λ r. goal_line g.left g.right ∷ r) (lines_of-push given_lines g.conds p k)
given_lines_are (g ∷ h ∷ gs) hs p k e = let q : (r : List GoalNames) × (add_given (h ∷ gs) p ≡ Some r) × (g ∷ r ≡ hs) =
    option_map_some (λ r. g ∷ r) (add_given (h ∷ gs) p) hs e in
    sym (ap (λ x. lines_of goal_lines x k) q.2) ∙ ap (goal_lines g) (given_lines_are (h ∷ gs) q.0 p k q.1)

on_head_so_far : (m n : State) (v : ℕ) (k : List Line) → on_head m v ≡ Some n → so_far n k ≡ so_far m (head_line v ∷ k)
on_head_so_far begin n v k e = arrived _ n k _ e refl
on_head_so_far _ n v k e = absurd (cc)

on_table_so_far : (m n : State) (x : TableLine) (k : List Line) → on_table m x ≡ Some n → so_far n k ≡ so_far m (table_line x ∷ k)
on_table_so_far (tabling es) n x k e = arrived _ n k _ e (ap (λ r. head_line es.version ∷ r) (lines_of-push table_lines es.lines x k))
on_table_so_far _ n x k e = absurd (cc)

on_place_so_far : (m n : State) (p : ℕ × ℕ) (k : List Line) → on_place m p ≡ Some n → so_far n k ≡ so_far m (place_line p.0 p.1 ∷ k)
on_place_so_far (tabling es) n p k e = arrived _ n k _ e refl
on_place_so_far (placing es ps) n p k e = arrived _ n k _ e (ap (λ r. head_lines es r) (lines_of-push place_lines ps p k))
on_place_so_far _ n p k e = absurd (cc)

on_goal_so_far : (m n : State) (a b : ℕ) (k : List Line) → on_goal m a b ≡ Some n → so_far n k ≡ so_far m (goal_line a b ∷ k)
on_goal_so_far (opened o) n a b k e = arrived _ n k _ e (ap (λ r. blocks_lines o.front o.blocks (block_line ∷ r)) (lines_of-push goal_lines o.goals (goal_names a b) k))
on_goal_so_far _ n a b k e = absurd (cc)

on_given_so_far : (m n : State) (p : ℕ × ℕ) (k : List Line) → on_given m p ≡ Some n → so_far n k ≡ so_far m (given_line p.0 p.1 ∷ k)
on_given_so_far (opened o) n p k e = let q : (gs : List GoalNames) × (add_given o.goals p ≡ Some gs) × (opened (with_goals o gs) ≡ n) =
    option_map_some (λ gs. opened (with_goals o gs)) (add_given o.goals p) n e in
    sym (ap (λ x. so_far x k) q.2) ∙ ap (λ r. blocks_lines o.front o.blocks (block_line ∷ r)) (given_lines_are o.goals q.0 p k q.1)
on_given_so_far _ n p k e = absurd (cc)

on_same_so_far : (m n : State) (k : List Line) → on_same m ≡ Some n → so_far n k ≡ so_far m (same_line ∷ k)
on_same_so_far (reducing o fs c) n k e = arrived _ n k _ e (give_why_so_far o fs (Same_why c) k)
on_same_so_far (joining m c) n k e = give_chain_so_far m n c k e
on_same_so_far _ n k e = absurd (cc)

on_split_so_far : (m n : State) (t c : ℕ) (k : List Line) → on_split m t c ≡ Some n → so_far n k ≡ so_far m (split_line t c ∷ k)
on_split_so_far (reducing o fs d) n t c k e = arrived _ n k _ e (go (nat_eq c 0) refl)
  where
    go : (b : Bool) → nat_eq c 0 ≡ b → so_far (cond b (give_why o fs (Split_why d t no_why)) (reducing o (open_split d t c no_why ∷ fs) empty)) k
        ≡ so_far (reducing o fs d) (split_line t c ∷ k)
    go true z = give_why_so_far o fs (Split_why d t no_why) k
        ∙ ap (λ i. open_lines o (reduce_line ∷ stack_lines fs (chain_lines d (split_line t i ∷ k)))) (sym (eqb-true c 0 z))
    go false z = refl
on_split_so_far _ n t c k e = absurd (cc)

on_end_so_far : (m n : State) (k : List Line) → on_end m ≡ Some n → so_far n k ≡ so_far m (end_line ∷ k)
on_end_so_far (closed f bs) n k e = arrived _ n k _ e refl
on_end_so_far _ n k e = absurd (cc)

abbrev pub close_block : OpenBlock → State
close_block o = closed o.front (o.blocks ++ (block_of o ∷ []))

-- one line more
pub next_so_far : (m n : State) (l : Line) (k : List Line) → next m l ≡ Some n → so_far n k ≡ so_far m (l ∷ k)
next_so_far m n (head_line v) k e = on_head_so_far m n v k e
next_so_far m n (table_line x) k e = on_table_so_far m n x k e
next_so_far m n (place_line a b) k e = on_place_so_far m n (a, b) k e
next_so_far m n certificate_line k e = let p : (f : Front) × (to_front m ≡ Some f) × (certifying f [] ≡ n) =
    option_map_some (λ f. certifying f []) (to_front m) n e in
    sym (ap (λ x. so_far x k) p.2) ∙ to_front_so_far m p.0 (certificate_line ∷ k) p.1
next_so_far m n block_line k e = let p : (o : OpenBlock) × (to_block m ≡ Some o) × (opened o ≡ n) = option_map_some (λ o. opened o) (to_block m) n e in
    sym (ap (λ x. so_far x k) p.2) ∙ to_block_so_far m p.0 k p.1
next_so_far m n (goal_line a b) k e = on_goal_so_far m n a b k e
next_so_far m n (given_line a b) k e = on_given_so_far m n (a, b) k e
next_so_far m n simplify_line k e = let p : (o : OpenBlock) × (to_step m ≡ Some o) × (simplifying o empty ≡ n) =
    option_map_some (λ o. simplifying o empty) (to_step m) n e in
    sym (ap (λ x. so_far x k) p.2) ∙ to_step_so_far m p.0 (simplify_line ∷ k) p.1
next_so_far m n reduce_line k e = let p : (o : OpenBlock) × (to_step m ≡ Some o) × (reducing o [] empty ≡ n) =
    option_map_some (λ o. reducing o [] empty) (to_step m) n e in
    sym (ap (λ x. so_far x k) p.2) ∙ to_step_so_far m p.0 (reduce_line ∷ k) p.1
next_so_far m n derive_line k e = let p : (o : OpenBlock) × (to_step m ≡ Some o) × (stepping (with_step o Derive_step) ≡ n) =
    option_map_some (λ o. stepping (with_step o Derive_step)) (to_step m) n e in
    sym (ap (λ x. so_far x k) p.2) ∙ (ap (λ r. blocks_lines p.0.front p.0.blocks (block_line ∷ lines_of goal_lines p.0.goals r))
    (lines_of-push step_lines p.0.steps Derive_step k) ∙ to_step_so_far m p.0 (derive_line ∷ k) p.1)
next_so_far m n (cases_line t) k e = let p : (o : OpenBlock) × (to_step m ≡ Some o) × (stepping (with_step o (Cases_step t)) ≡ n) =
    option_map_some (λ o. stepping (with_step o (Cases_step t))) (to_step m) n e in
    sym (ap (λ x. so_far x k) p.2) ∙ (ap (λ r. blocks_lines p.0.front p.0.blocks (block_line ∷ lines_of goal_lines p.0.goals r))
    (lines_of-push step_lines p.0.steps (Cases_step t) k) ∙ to_step_so_far m p.0 (cases_line t ∷ k) p.1)
next_so_far m n done_line k e = let p : (o : OpenBlock) × (to_step m ≡ Some o) × (close_block o ≡ n) = option_map_some close_block (to_step m) n e in
    sym (ap (λ x. so_far x k) p.2) ∙ (ap (front_lines p.0.front) (lines_of-push block_lines p.0.blocks (block_of p.0) k)
    ∙ to_step_so_far m p.0 (done_line ∷ k) p.1)
next_so_far m n same_line k e = on_same_so_far m n k e
next_so_far m n (split_line t c) k e = on_split_so_far m n t c k e
next_so_far m n if_line k e = on_if_so_far m n k e
next_so_far m n (left_line l) k e = under_test (is_bare l) (on_left m l) n e (λ b e. on_left_so_far m n l k e ∙ ap (so_far m) (left_line_is l k b))
next_so_far m n (right_line l) k e = under_test (is_bare l) (on_right m l) n e (λ b e. on_right_so_far m n l k e ∙ ap (so_far m) (right_line_is l k b))
next_so_far m n end_line k e = on_end_so_far m n k e

pub run_so_far : (m n : State) (ls k : List Line) → run m ls ≡ Some n → so_far n k ≡ so_far m (ls ++ k)
run_so_far m n [] k e = sym (ap (λ x. so_far x k) (same_Some m n e))
run_so_far m n (l ∷ ls) k e = go (next m l) refl e (λ q. run_so_far q n ls k)
  where
    go : (o : Option State) → next m l ≡ o → option_and_then (λ q. run q ls) o ≡ Some n
        → ((q : State) → run q ls ≡ Some n → so_far n k ≡ so_far q (ls ++ k)) → so_far n k ≡ so_far m (l ∷ (ls ++ k))
    go None f e ih = absurd (cc)
    go (Some q) f e ih = ih q e ∙ next_so_far m q l (ls ++ k) f
