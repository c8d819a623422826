-- A reader's state shows just the parts that so many lines show.
use Rattle.std.specs.Prelude.{if◌then◌else◌, ◌≡◌, ℕ, ◌+◌, ◌-◌, ◌<◌, ◌≤◌, ◌⊎◌, List, [], ◌∷◌, ◌++◌, length, refl, Option, Some, None, cond, nat_eq, Bool}
use Rattle.std.specs.Prelude.{true, false}
use Rattle.std.specs.Option.{option_map, option_and_then}
use Rattle.std.specs.List.{AllByRecursion}
use Rattle.std.proofs.Common.{sym, ◌∙◌, ap, arith, append_assoc, append-nil, length-append, inl, inr, subst}
use Rattle.std.proofs.lemmas.Option.{same_Some}
use Rattle.std.proofs.lemmas.List.{append_cancel_left}
use Rattle.std.proofs.lemmas.Bool.{lt-ltb, le-ltb, true≢false}
use Rattle.circ_proof.specs.Proof.{GoalNames}
use Rattle.circ_proof.specs.Plain.{LinkOf, LinksOf, ChainsOf, Equation_link, Hypothesis_link, Assumption_link, Content_link, no_link, more_links, no_chain}
use Rattle.circ_proof.specs.Plain.{more_chains, ChainOf, WhyOf, WhysOf, Same_why, Split_why, no_why, more_whys}
use Rattle.circ_line.specs.Line.{TableLine, Line, head_line, table_line, place_line, certificate_line, block_line, goal_line, given_line, simplify_line}
use Rattle.circ_line.specs.Line.{reduce_line, derive_line, cases_line, done_line, same_line, split_line, if_line, left_line, right_line, end_line}
use Rattle.circ_proof.specs.Counting.{why_count}
use Rattle.circ_grammar.specs.Grammar.{NumberedStep, Simplify_step, Reduce_step, Derive_step, Cases_step, NumberedBlock, NumberedProof, lines_of}
use Rattle.circ_grammar.specs.Grammar.{bare, is_bare, conds_lines, left_row, right_row, link_conds, head_lines, given_lines}
use Rattle.circ_grammar.specs.Grammar.{table_lines, place_lines, left_lines, right_lines, goal_lines, chain_lines, why_lines, whys_lines, step_lines}
use Rattle.circ_grammar.specs.Grammar.{certificate_lines, block_lines, proof_lines, HasParts}
use Rattle.circ_grammar.specs.Machine.{Front, OpenBlock, OpenSplit, State, begin, tabling, placing, certifying, opened, stepping, simplifying, reducing}
use Rattle.circ_grammar.specs.Machine.{joining, closed, with_goals, add_given, in_last, in_right, give_chain, on_given, on_if, ended, empty, front, with_step, push_why, open_split, give_why, to_front, to_block, to_step, add_left}
use Rattle.circ_grammar.specs.Machine.{on_head, on_table, on_place, on_goal, on_same, on_split, on_left, on_right, on_end, next, run}
use Rattle.circ_grammar.specs.Parts.{Head_part, Certificate_part, Goals_part, Step_part, Done_part, NumberedPart, step_parts, certificate_parts}
use Rattle.circ_grammar.specs.Parts.{block_parts, blocks_parts, parts_of, part_lines, is_open, wants, shown_by}
use Rattle.circ_grammar.specs.Shown.{front_parts, parts_with, open_parts, shown}
use Rattle.circ_grammar.proofs.Spelled.{front_lines, stack_lines, so_far, run_so_far, option_map_some, close_block, under_test}
use Rattle.circ_grammar.proofs.Complete.{run-front, why_run}
use Rattle.circ_grammar.proofs.Finish.{IsSound, run_sound}
use Rattle.circ_grammar.proofs.Shown.{shown_first}

-- lines before k

lines_before : {A : Type 0} (f : A → List Line → List Line) → ((x : A) (k : List Line) → f x k ≡ f x [] ++ k) → (xs : List A) (k : List Line)
    → lines_of f xs k ≡ lines_of f xs [] ++ k
lines_before f h [] k = refl
lines_before f h (x ∷ xs) k =
    ap (f x) (lines_before f h xs k) ∙ h x (lines_of f xs [] ++ k) ∙ sym (append_assoc (f x []) (lines_of f xs []) k)
    ∙ ap (λ y. y ++ k) (sym (h x (lines_of f xs [])))

mutual
  conds_before : (cs : ChainsOf ℕ) (k : List Line) → conds_lines cs k ≡ conds_lines cs [] ++ k
  conds_before no_chain k = refl
  conds_before (more_chains l r cs) k = ap (λ y. if_line ∷ y)
      (ap (λ y. left_row l (right_row r (same_line ∷ y))) (conds_before cs k)
      ∙ ap (left_row l) (right_row_before r (same_line ∷ (conds_lines cs [] ++ k)))
      ∙ left_row_before l (right_row r [] ++ (same_line ∷ (conds_lines cs [] ++ k)))
      ∙ ap (λ y. left_row l [] ++ y) (sym (append_assoc (right_row r []) (same_line ∷ conds_lines cs []) k))
      ∙ sym (append_assoc (left_row l []) (right_row r [] ++ (same_line ∷ conds_lines cs [])) k)
      ∙ ap (λ y. y ++ k) (sym (left_row_before l (right_row r [] ++ (same_line ∷ conds_lines cs [])))
      ∙ ap (left_row l) (sym (right_row_before r (same_line ∷ conds_lines cs [])))))

  link_before : (l : LinkOf ℕ) (k : List Line) → link_conds l k ≡ link_conds l [] ++ k
  link_before (Equation_link n w p ts cs) k = conds_before cs k
  link_before (Hypothesis_link n w p ts cs) k = conds_before cs k
  link_before (Assumption_link n w p) k = refl
  link_before (Content_link f p t) k = refl

  left_row_before : (r : LinksOf ℕ) (k : List Line) → left_row r k ≡ left_row r [] ++ k
  left_row_before no_link k = refl
  left_row_before (more_links l ls) k =
      ap (left_lines l) (left_row_before ls k) ∙ ap (λ y. left_line (bare l) ∷ y) (link_before l (left_row ls [] ++ k)
      ∙ sym (append_assoc (link_conds l []) (left_row ls []) k) ∙ ap (λ y. y ++ k) (sym (link_before l (left_row ls []))))

  right_row_before : (r : LinksOf ℕ) (k : List Line) → right_row r k ≡ right_row r [] ++ k
  right_row_before no_link k = refl
  right_row_before (more_links l ls) k =
      ap (right_lines l) (right_row_before ls k) ∙ ap (λ y. right_line (bare l) ∷ y) (link_before l (right_row ls [] ++ k)
      ∙ sym (append_assoc (link_conds l []) (right_row ls []) k) ∙ ap (λ y. y ++ k) (sym (link_before l (right_row ls []))))

left_before : (l : LinkOf ℕ) (k : List Line) → left_lines l k ≡ left_lines l [] ++ k
left_before l k = ap (λ y. left_line (bare l) ∷ y) (link_before l k)

right_before : (l : LinkOf ℕ) (k : List Line) → right_lines l k ≡ right_lines l [] ++ k
right_before l k = ap (λ y. right_line (bare l) ∷ y) (link_before l k)

goal_before : (g : GoalNames) (k : List Line) → goal_lines g k ≡ goal_lines g [] ++ k
goal_before g k = ap (λ y. goal_line g.left g.right ∷ y) (lines_before given_lines (λ x k. refl) g.conds k)

chain_before : (c : ChainOf ℕ) (k : List Line) → chain_lines c k ≡ chain_lines c [] ++ k
chain_before c k =
    ap (lines_of left_lines c.left) (lines_before right_lines right_before c.right k)
    ∙ lines_before left_lines left_before c.left (lines_of right_lines c.right [] ++ k)
    ∙ sym (append_assoc (lines_of left_lines c.left []) (lines_of right_lines c.right []) k)
    ∙ ap (λ y. y ++ k) (sym (lines_before left_lines left_before c.left (lines_of right_lines c.right [])))

mutual
  why_before : (w : WhyOf ℕ) (k : List Line) → why_lines w k ≡ why_lines w [] ++ k
  why_before (Same_why c) k = chain_before c (same_line ∷ k) ∙ sym (append_assoc (chain_lines c []) (same_line ∷ []) k)
      ∙ ap (λ y. y ++ k) (sym (chain_before c (same_line ∷ [])))
  why_before (Split_why c t ws) k =
      ap (λ y. chain_lines c (split_line t (why_count ws) ∷ y)) (whys_before ws k)
      ∙ chain_before c (split_line t (why_count ws) ∷ (whys_lines ws [] ++ k))
      ∙ sym (append_assoc (chain_lines c []) (split_line t (why_count ws) ∷ whys_lines ws []) k)
      ∙ ap (λ y. y ++ k) (sym (chain_before c (split_line t (why_count ws) ∷ whys_lines ws [])))

  whys_before : (ws : WhysOf ℕ) (k : List Line) → whys_lines ws k ≡ whys_lines ws [] ++ k
  whys_before no_why k = refl
  whys_before (more_whys w ws) k =
      ap (why_lines w) (whys_before ws k) ∙ why_before w (whys_lines ws [] ++ k) ∙ sym (append_assoc (why_lines w []) (whys_lines ws []) k)
      ∙ ap (λ y. y ++ k) (sym (why_before w (whys_lines ws [])))

part_before : (x : NumberedPart) (k : List Line) → part_lines x k ≡ part_lines x [] ++ k
part_before (Head_part es ps) k = ap (λ y. head_line es.version ∷ y)
    (ap (lines_of table_lines es.lines) (lines_before place_lines (λ x k. refl) ps k)
    ∙ lines_before table_lines (λ x k. refl) es.lines (lines_of place_lines ps [] ++ k)
    ∙ sym (append_assoc (lines_of table_lines es.lines []) (lines_of place_lines ps []) k)
    ∙ ap (λ y. y ++ k) (sym (lines_before table_lines (λ x k. refl) es.lines (lines_of place_lines ps []))))
part_before (Certificate_part ls) k = ap (λ y. certificate_line ∷ y) (lines_before left_lines left_before ls k)
part_before (Goals_part gs) k = ap (λ y. block_line ∷ y) (lines_before goal_lines goal_before gs k)
part_before (Step_part (Simplify_step c)) k = ap (λ y. simplify_line ∷ y) (chain_before c k)
part_before (Step_part (Reduce_step w)) k = ap (λ y. reduce_line ∷ y) (why_before w k)
part_before (Step_part Derive_step) k = refl
part_before (Step_part (Cases_step t)) k = refl
part_before Done_part k = refl

parts_before : (xs : List NumberedPart) (k : List Line) → lines_of part_lines xs k ≡ lines_of part_lines xs [] ++ k
parts_before xs k = lines_before part_lines part_before xs k

parts-append : (xs ys : List NumberedPart) (k : List Line) → lines_of part_lines (xs ++ ys) k ≡ lines_of part_lines xs (lines_of part_lines ys k)
parts-append [] ys k = refl
parts-append (x ∷ xs) ys k = ap (part_lines x) (parts-append xs ys k)

-- the lines of a proof are those of its parts

certificates_lines_are : (cs : List (List (LinkOf ℕ))) (k : List Line) → lines_of part_lines (certificate_parts cs) k ≡ lines_of certificate_lines cs k
certificates_lines_are [] k = refl
certificates_lines_are (c ∷ cs) k = ap (λ y. certificate_line ∷ lines_of left_lines c y) (certificates_lines_are cs k)

steps_lines : (ss : List NumberedStep) (k : List Line) → lines_of part_lines (step_parts ss) k ≡ lines_of step_lines ss k
steps_lines [] k = refl
steps_lines (Simplify_step c ∷ ss) k = ap (λ y. simplify_line ∷ chain_lines c y) (steps_lines ss k)
steps_lines (Reduce_step w ∷ ss) k = ap (λ y. reduce_line ∷ why_lines w y) (steps_lines ss k)
steps_lines (Derive_step ∷ ss) k = ap (λ y. derive_line ∷ y) (steps_lines ss k)
steps_lines (Cases_step t ∷ ss) k = ap (λ y. cases_line t ∷ y) (steps_lines ss k)

blocks_lines_are : (bs : List NumberedBlock) (k : List Line) → lines_of part_lines (blocks_parts bs) k ≡ lines_of block_lines bs k
blocks_lines_are [] k = refl
blocks_lines_are (b ∷ bs) k =
    parts-append (block_parts b) (blocks_parts bs) k
    ∙ ap (λ y. block_line ∷ lines_of goal_lines b.goals y) (parts-append (step_parts b.steps) (Done_part ∷ []) (lines_of part_lines (blocks_parts bs) k)
    ∙ steps_lines b.steps (done_line ∷ lines_of part_lines (blocks_parts bs) k) ∙ ap (λ y. lines_of step_lines b.steps (done_line ∷ y)) (blocks_lines_are bs k))

front_lines_are : (f : Front) (k : List Line) → lines_of part_lines (front_parts f) k ≡ front_lines f k
front_lines_are f k = ap (λ y. head_lines f.table (lines_of place_lines f.places y)) (certificates_lines_are f.certificates k)

with_lines_are : (f : Front) (bs : List NumberedBlock) (k : List Line) → lines_of part_lines (parts_with f bs) k ≡ front_lines f (lines_of block_lines bs k)
with_lines_are f bs k = parts-append (front_parts f) (blocks_parts bs) k ∙ ap (lines_of part_lines (front_parts f)) (blocks_lines_are bs k)
    ∙ front_lines_are f (lines_of block_lines bs k)

proof_lines_are : (p : NumberedProof) → lines_of part_lines (parts_of p) (end_line ∷ []) ≡ proof_lines p
proof_lines_are p = with_lines_are (front p.table p.places p.certificates) p.blocks (end_line ∷ [])

open_lines_are : (o : OpenBlock) (k : List Line) → lines_of part_lines (open_parts o) k
    ≡ front_lines o.front (lines_of block_lines o.blocks (block_line ∷ lines_of goal_lines o.goals (lines_of step_lines o.steps k)))
open_lines_are o k =
    parts-append (parts_with o.front o.blocks) (Goals_part o.goals ∷ step_parts o.steps) k
    ∙ with_lines_are o.front o.blocks (block_line ∷ lines_of goal_lines o.goals (lines_of part_lines (step_parts o.steps) k))
    ∙ ap (λ y. front_lines o.front (lines_of block_lines o.blocks (block_line ∷ lines_of goal_lines o.goals y))) (steps_lines o.steps k)

-- the lines of the part that is under way, and then the lines k
abbrev pending : State → List Line → List Line
pending begin k = k
pending (tabling es) k = head_lines es k
pending (placing es ps) k = head_lines es (lines_of place_lines ps k)
pending (certifying f ls) k = certificate_line ∷ lines_of left_lines ls k
pending (opened o) k = block_line ∷ lines_of goal_lines o.goals k
pending (stepping o) k = k
pending (simplifying o c) k = simplify_line ∷ chain_lines c k
pending (reducing o fs c) k = reduce_line ∷ stack_lines fs (chain_lines c k)
pending (joining m c) k = pending m (if_line ∷ chain_lines c k)
pending (closed f bs) k = k
pending (ended f bs) k = end_line ∷ k

so_far_is : (m : State) (k : List Line) → so_far m k ≡ lines_of part_lines (shown m) (pending m k)
so_far_is begin k = refl
so_far_is (tabling es) k = refl
so_far_is (placing es ps) k = refl
so_far_is (certifying f ls) k = sym (front_lines_are f (certificate_line ∷ lines_of left_lines ls k))
so_far_is (opened o) k = sym (with_lines_are o.front o.blocks (block_line ∷ lines_of goal_lines o.goals k))
so_far_is (stepping o) k = sym (open_lines_are o k)
so_far_is (simplifying o c) k = sym (open_lines_are o (simplify_line ∷ chain_lines c k))
so_far_is (reducing o fs c) k = sym (open_lines_are o (reduce_line ∷ stack_lines fs (chain_lines c k)))
so_far_is (joining m c) k = so_far_is m (if_line ∷ chain_lines c k)
so_far_is (closed f bs) k = sym (with_lines_are f bs k)
so_far_is (ended f bs) k = sym (with_lines_are f bs (end_line ∷ k))

-- lines that begin a part, or end the proof

abbrev begins_part : Line → Bool
begins_part (head_line v) = true
begins_part certificate_line = true
begins_part block_line = true
begins_part simplify_line = true
begins_part reduce_line = true
begins_part derive_line = true
begins_part (cases_line t) = true
begins_part done_line = true
begins_part end_line = true
begins_part _ = false

abbrev Inner : List Line → Type 0
Inner ls = AllByRecursion (λ l. begins_part l ≡ false) ls

inner_rows : {A : Type 0} (f : A → List Line → List Line) → ((x : A) (k : List Line) → Inner k → Inner (f x k)) → (xs : List A) (k : List Line) → Inner k
    → Inner (lines_of f xs k)
inner_rows f h [] k i = i
inner_rows f h (x ∷ xs) k i = h x (lines_of f xs k) (inner_rows f h xs k i)

mutual
  inner_conds : (cs : ChainsOf ℕ) (k : List Line) → Inner k → Inner (conds_lines cs k)
  inner_conds no_chain k i = i
  inner_conds (more_chains l r cs) k i =
      (refl, inner_lefts l (right_row r (same_line ∷ conds_lines cs k)) (inner_rights r (same_line ∷ conds_lines cs k) (refl, inner_conds cs k i)))

  inner_link : (l : LinkOf ℕ) (k : List Line) → Inner k → Inner (link_conds l k)
  inner_link (Equation_link n w p ts cs) k i = inner_conds cs k i
  inner_link (Hypothesis_link n w p ts cs) k i = inner_conds cs k i
  inner_link (Assumption_link n w p) k i = i
  inner_link (Content_link f p t) k i = i

  inner_lefts : (r : LinksOf ℕ) (k : List Line) → Inner k → Inner (left_row r k)
  inner_lefts no_link k i = i
  inner_lefts (more_links l ls) k i = (refl, inner_link l (left_row ls k) (inner_lefts ls k i))

  inner_rights : (r : LinksOf ℕ) (k : List Line) → Inner k → Inner (right_row r k)
  inner_rights no_link k i = i
  inner_rights (more_links l ls) k i = (refl, inner_link l (right_row ls k) (inner_rights ls k i))

inner_chain : (c : ChainOf ℕ) (k : List Line) → Inner k → Inner (chain_lines c k)
inner_chain c k i = inner_rows left_lines (λ x k i. (refl, inner_link x k i)) c.left (lines_of right_lines c.right k)
    (inner_rows right_lines (λ x k i. (refl, inner_link x k i)) c.right k i)

mutual
  inner_why : (w : WhyOf ℕ) (k : List Line) → Inner k → Inner (why_lines w k)
  inner_why (Same_why c) k i = inner_chain c (same_line ∷ k) (refl, i)
  inner_why (Split_why c t ws) k i = inner_chain c (split_line t (why_count ws) ∷ whys_lines ws k) (refl, inner_whys ws k i)

  inner_whys : (ws : WhysOf ℕ) (k : List Line) → Inner k → Inner (whys_lines ws k)
  inner_whys no_why k i = i
  inner_whys (more_whys w ws) k i = inner_why w (whys_lines ws k) (inner_whys ws k i)

inner_stack : (fs : List OpenSplit) (k : List Line) → Inner k → Inner (stack_lines fs k)
inner_stack [] k i = i
inner_stack (f ∷ fs) k i = inner_stack fs (chain_lines f.chain (split_line f.term f.count ∷ whys_lines f.whys k))
    (inner_chain f.chain (split_line f.term f.count ∷ whys_lines f.whys k) (refl, inner_whys f.whys k i))

abbrev Opening : List Line → Type 0
Opening [] = Unit {0}
Opening (l ∷ ls) = Inner ls

inner_opening : (k : List Line) → Inner k → Opening k
inner_opening [] i = tt
inner_opening (l ∷ k) i = i.1

pending_opening : (m : State) (k : List Line) → Inner k → Opening (pending m k)
pending_opening begin k i = inner_opening k i
pending_opening (tabling es) k i = inner_rows table_lines (λ x k i. (refl, i)) es.lines k i
pending_opening (placing es ps) k i = inner_rows table_lines (λ x k i. (refl, i)) es.lines (lines_of place_lines ps k)
    (inner_rows place_lines (λ x k i. (refl, i)) ps k i)
pending_opening (certifying f ls) k i = inner_rows left_lines (λ x k i. (refl, inner_link x k i)) ls k i
pending_opening (opened o) k i = inner_rows goal_lines (λ x k i. (refl, inner_rows given_lines (λ x k i. (refl, i)) x.conds k i)) o.goals k i
pending_opening (stepping o) k i = inner_opening k i
pending_opening (simplifying o c) k i = inner_chain c k i
pending_opening (reducing o fs c) k i = inner_stack fs (chain_lines c k) (inner_chain c k i)
pending_opening (joining m c) k i = pending_opening m (if_line ∷ chain_lines c k) (refl, inner_chain c k i)
pending_opening (closed f bs) k i = inner_opening k i
pending_opening (ended f bs) k i = i

-- there is a line of it where there is one after it
some_pending : (m : State) (k : List Line) → 0 < length k → 0 < length (pending m k)
some_pending begin k h = h
some_pending (tabling es) k h = omega arith
some_pending (placing es ps) k h = omega arith
some_pending (certifying f ls) k h = omega arith
some_pending (opened o) k h = omega arith
some_pending (stepping o) k h = h
some_pending (simplifying o c) k h = omega arith
some_pending (reducing o fs c) k h = omega arith
some_pending (joining m c) k h = some_pending m (if_line ∷ chain_lines c k) (omega arith)
some_pending (closed f bs) k h = h
some_pending (ended f bs) k h = omega arith

-- after a part comes a line that begins one, or the end
first_begins : (xs : List NumberedPart) → (l : Line) × (k : List Line) × (lines_of part_lines xs (end_line ∷ []) ≡ l ∷ k) × (begins_part l ≡ true)
first_begins [] = (end_line, [], refl, refl)
first_begins (Head_part es ps ∷ xs) =
    (head_line es.version, lines_of table_lines es.lines (lines_of place_lines ps (lines_of part_lines xs (end_line ∷ []))), refl, refl)
first_begins (Certificate_part ls ∷ xs) = (certificate_line, lines_of left_lines ls (lines_of part_lines xs (end_line ∷ [])), refl, refl)
first_begins (Goals_part gs ∷ xs) = (block_line, lines_of goal_lines gs (lines_of part_lines xs (end_line ∷ [])), refl, refl)
first_begins (Step_part (Simplify_step c) ∷ xs) = (simplify_line, chain_lines c (lines_of part_lines xs (end_line ∷ [])), refl, refl)
first_begins (Step_part (Reduce_step w) ∷ xs) = (reduce_line, why_lines w (lines_of part_lines xs (end_line ∷ [])), refl, refl)
first_begins (Step_part Derive_step ∷ xs) = (derive_line, lines_of part_lines xs (end_line ∷ []), refl, refl)
first_begins (Step_part (Cases_step t) ∷ xs) = (cases_line t, lines_of part_lines xs (end_line ∷ []), refl, refl)
first_begins (Done_part ∷ xs) = (done_line, lines_of part_lines xs (end_line ∷ []), refl, refl)

inner_short : (a t : List Line) (l : Line) (k rest : List Line) → Inner t → begins_part l ≡ true → a ++ l ∷ k ≡ t ++ rest → length t ≤ length a
inner_short a [] l k rest i b e = omega arith
inner_short [] (c ∷ t) l k rest i b e = let s : l ≡ c = cc in absurd (true≢false (sym b ∙ ap begins_part s ∙ i.0))
inner_short (d ∷ a) (c ∷ t) l k rest i b e = omega (arith, inner_short a t l k rest i.1 b (cc))

opening_short : (a t : List Line) (l : Line) (k rest : List Line) → 0 < length a → Opening t → begins_part l ≡ true → a ++ l ∷ k ≡ t ++ rest
    → length t ≤ length a
opening_short a [] l k rest z o b e = omega arith
opening_short [] (c ∷ t) l k rest z o b e = absurd (omega arith)
opening_short (d ∷ a) (c ∷ t) l k rest z o b e = omega (arith, inner_short a t l k rest o b (cc))

-- a state between steps has a last step that its own lines close

abbrev IsClosedStep : NumberedStep → Type 0
IsClosedStep (Simplify_step c) = ⊥
IsClosedStep (Reduce_step w) = Unit {0}
IsClosedStep Derive_step = Unit {0}
IsClosedStep (Cases_step t) = Unit {0}

abbrev LastClosed : List NumberedStep → Type 0
LastClosed [] = ⊥
LastClosed (s ∷ []) = IsClosedStep s
LastClosed (s ∷ t ∷ ss) = LastClosed (t ∷ ss)

abbrev IsShut : State → Type 0
IsShut (stepping o) = LastClosed o.steps
IsShut _ = Unit {0}

last_push : (ss : List NumberedStep) (s : NumberedStep) → IsClosedStep s → LastClosed (ss ++ s ∷ [])
last_push [] s c = c
last_push (t ∷ []) s c = c
last_push (t ∷ u ∷ ss) s c = last_push (u ∷ ss) s c

shut : (x n : State) → ◌≡◌ {A = Option State} (Some x) (Some n) → IsShut x → IsShut n
shut x n e h = subst IsShut (same_Some x n e) h

give_shut : (o : OpenBlock) (fs : List OpenSplit) (w : WhyOf ℕ) → IsShut (give_why o fs w)
give_shut o [] w = last_push o.steps (Reduce_step w) tt
give_shut o (f ∷ fs) w = go (give_shut o fs (Split_why f.chain f.term (push_why f.whys w))) (nat_eq (why_count f.whys + 1) f.count)
  where
    go : IsShut (give_why o fs (Split_why f.chain f.term (push_why f.whys w))) → (b : Bool)
        → IsShut (cond b (give_why o fs (Split_why f.chain f.term (push_why f.whys w)))
        (reducing o (open_split f.chain f.term f.count (push_why f.whys w) ∷ fs) empty))
    go ih true = ih
    go ih false = tt

head_shut : (m n : State) (v : ℕ) → on_head m v ≡ Some n → IsShut n
head_shut begin n v e = shut _ n e tt
head_shut _ n v e = absurd (cc)

table_shut : (m n : State) (x : TableLine) → on_table m x ≡ Some n → IsShut n
table_shut (tabling es) n x e = shut _ n e tt
table_shut _ n x e = absurd (cc)

place_shut : (m n : State) (p : ℕ × ℕ) → on_place m p ≡ Some n → IsShut n
place_shut (tabling es) n p e = shut _ n e tt
place_shut (placing es ps) n p e = shut _ n e tt
place_shut _ n p e = absurd (cc)

goal_shut : (m n : State) (a b : ℕ) → on_goal m a b ≡ Some n → IsShut n
goal_shut (opened o) n a b e = shut _ n e tt
goal_shut _ n a b e = absurd (cc)

given_shut : (m n : State) (p : ℕ × ℕ) → on_given m p ≡ Some n → IsShut n
given_shut (opened o) n p e = let q : (gs : List GoalNames) × (add_given o.goals p ≡ Some gs) × (opened (with_goals o gs) ≡ n) =
    option_map_some (λ gs. opened (with_goals o gs)) (add_given o.goals p) n e in subst IsShut q.2 tt
given_shut _ n p e = absurd (cc)

chain_shut : (m n : State) (c : ChainOf ℕ) → give_chain m c ≡ Some n → IsShut n
chain_shut (certifying f ls) n c e = let p : (ms : List (LinkOf ℕ)) × (in_last ls c ≡ Some ms) × (certifying f ms ≡ n) =
    option_map_some (λ ms. certifying f ms) (in_last ls c) n e in subst IsShut p.2 tt
chain_shut (simplifying o x) n c e = let p : (y : ChainOf ℕ) × (in_right x.left x.right c ≡ Some y) × (simplifying o y ≡ n) =
    option_map_some (λ y. simplifying o y) (in_right x.left x.right c) n e in subst IsShut p.2 tt
chain_shut (reducing o fs x) n c e = let p : (y : ChainOf ℕ) × (in_right x.left x.right c ≡ Some y) × (reducing o fs y ≡ n) =
    option_map_some (λ y. reducing o fs y) (in_right x.left x.right c) n e in subst IsShut p.2 tt
chain_shut (joining m x) n c e = let p : (y : ChainOf ℕ) × (in_right x.left x.right c ≡ Some y) × (joining m y ≡ n) =
    option_map_some (λ y. joining m y) (in_right x.left x.right c) n e in subst IsShut p.2 tt
chain_shut _ n c e = absurd (cc)

if_shut : (m n : State) → on_if m ≡ Some n → IsShut n
if_shut m n e = let p : (q : State) × (give_chain m empty ≡ Some q) × (joining m empty ≡ n) =
    option_map_some (λ q. joining m empty) (give_chain m empty) n e in subst IsShut p.2 tt

same_shut : (m n : State) → on_same m ≡ Some n → IsShut n
same_shut (reducing o fs c) n e = shut _ n e (give_shut o fs (Same_why c))
same_shut (joining m c) n e = chain_shut m n c e
same_shut _ n e = absurd (cc)

split_shut : (m n : State) (t k : ℕ) → on_split m t k ≡ Some n → IsShut n
split_shut (reducing o fs d) n t k e = shut _ n e (go (nat_eq k 0))
  where
    go : (b : Bool) → IsShut (cond b (give_why o fs (Split_why d t no_why)) (reducing o (open_split d t k no_why ∷ fs) empty))
    go true = give_shut o fs (Split_why d t no_why)
    go false = tt
split_shut _ n t k e = absurd (cc)

left_shut : (m n : State) (l : LinkOf ℕ) → on_left m l ≡ Some n → IsShut n
left_shut (certifying f ls) n l e = shut _ n e tt
left_shut (simplifying o c) n l e = let p : (d : ChainOf ℕ) × (add_left c l ≡ Some d) × (simplifying o d ≡ n) =
    option_map_some (λ d. simplifying o d) (add_left c l) n e in subst IsShut p.2 tt
left_shut (reducing o fs c) n l e = let p : (d : ChainOf ℕ) × (add_left c l ≡ Some d) × (reducing o fs d ≡ n) =
    option_map_some (λ d. reducing o fs d) (add_left c l) n e in subst IsShut p.2 tt
left_shut (joining m c) n l e = let p : (d : ChainOf ℕ) × (add_left c l ≡ Some d) × (joining m d ≡ n) =
    option_map_some (λ d. joining m d) (add_left c l) n e in subst IsShut p.2 tt
left_shut _ n l e = absurd (cc)

right_shut : (m n : State) (l : LinkOf ℕ) → on_right m l ≡ Some n → IsShut n
right_shut (simplifying o c) n l e = shut _ n e tt
right_shut (reducing o fs c) n l e = shut _ n e tt
right_shut (joining m c) n l e = shut _ n e tt
right_shut _ n l e = absurd (cc)

end_shut : (m n : State) → on_end m ≡ Some n → IsShut n
end_shut (closed f bs) n e = shut _ n e tt
end_shut _ n e = absurd (cc)

next_shut : (m n : State) (l : Line) → next m l ≡ Some n → IsShut n
next_shut m n (head_line v) e = head_shut m n v e
next_shut m n (table_line x) e = table_shut m n x e
next_shut m n (place_line a b) e = place_shut m n (a, b) e
next_shut m n certificate_line e = let p : (f : Front) × (to_front m ≡ Some f) × (certifying f [] ≡ n) =
    option_map_some (λ f. certifying f []) (to_front m) n e in subst IsShut p.2 tt
next_shut m n block_line e = let p : (o : OpenBlock) × (to_block m ≡ Some o) × (opened o ≡ n) = option_map_some (λ o. opened o) (to_block m) n e in
    subst IsShut p.2 tt
next_shut m n (goal_line a b) e = goal_shut m n a b e
next_shut m n (given_line a b) e = given_shut m n (a, b) e
next_shut m n simplify_line e = let p : (o : OpenBlock) × (to_step m ≡ Some o) × (simplifying o empty ≡ n) =
    option_map_some (λ o. simplifying o empty) (to_step m) n e in subst IsShut p.2 tt
next_shut m n reduce_line e = let p : (o : OpenBlock) × (to_step m ≡ Some o) × (reducing o [] empty ≡ n) =
    option_map_some (λ o. reducing o [] empty) (to_step m) n e in subst IsShut p.2 tt
next_shut m n derive_line e = let p : (o : OpenBlock) × (to_step m ≡ Some o) × (stepping (with_step o Derive_step) ≡ n) =
    option_map_some (λ o. stepping (with_step o Derive_step)) (to_step m) n e in
    subst IsShut p.2 (last_push p.0.steps Derive_step tt)
next_shut m n (cases_line t) e = let p : (o : OpenBlock) × (to_step m ≡ Some o) × (stepping (with_step o (Cases_step t)) ≡ n) =
    option_map_some (λ o. stepping (with_step o (Cases_step t))) (to_step m) n e in
    subst IsShut p.2 (last_push p.0.steps (Cases_step t) tt)
next_shut m n done_line e = let p : (o : OpenBlock) × (to_step m ≡ Some o) × (close_block o ≡ n) = option_map_some close_block (to_step m) n e in
    subst IsShut p.2 tt
next_shut m n same_line e = same_shut m n e
next_shut m n (split_line t k) e = split_shut m n t k e
next_shut m n if_line e = if_shut m n e
next_shut m n (left_line l) e = under_test (is_bare l) (on_left m l) n e (λ b e. left_shut m n l e)
next_shut m n (right_line l) e = under_test (is_bare l) (on_right m l) n e (λ b e. right_shut m n l e)
next_shut m n end_line e = end_shut m n e

run_shut : (m n : State) (ls : List Line) → IsShut m → run m ls ≡ Some n → IsShut n
run_shut m n [] h e = subst IsShut (same_Some m n e) h
run_shut m n (l ∷ ls) h e = go (next m l) refl e (λ q k. run_shut q n ls k)
  where
    go : (o : Option State) → next m l ≡ o → option_and_then (λ q. run q ls) o ≡ Some n → ((q : State) → IsShut q → run q ls ≡ Some n → IsShut n) → IsShut n
    go None f e ih = absurd (cc)
    go (Some q) f e ih = ih q (next_shut m q l f) e

-- counting lines

abbrev total : List NumberedPart → ℕ
total [] = 0
total (x ∷ xs) = length (part_lines x []) + total xs

total_lines : (xs : List NumberedPart) (k : List Line) → length (lines_of part_lines xs k) ≡ total xs + length k
total_lines [] k = omega arith
total_lines (x ∷ xs) k = omega (
  arith,
  ap length (part_before x (lines_of part_lines xs k)),
  length-append (part_lines x []) (lines_of part_lines xs k),
  total_lines xs k,
)

some_line : (x : NumberedPart) → 0 < length (part_lines x [])
some_line (Head_part es ps) = omega arith
some_line (Certificate_part ls) = omega arith
some_line (Goals_part gs) = omega arith
some_line (Step_part (Simplify_step c)) = omega arith
some_line (Step_part (Reduce_step w)) = omega arith
some_line (Step_part Derive_step) = omega arith
some_line (Step_part (Cases_step t)) = omega arith
some_line Done_part = omega arith

wants_most : (x : NumberedPart) → wants x ≤ length (part_lines x []) + 1
wants_most x = go (is_open x)
  where
    go : (b : Bool) → length (part_lines x []) + (if b then 1 else 0) ≤ length (part_lines x []) + 1
    go true = omega arith
    go false = omega arith

-- where an open part comes last, there are lines after it
abbrev EndsWell : List NumberedPart → ℕ → Type 0
EndsWell [] k = Unit {0}
EndsWell (x ∷ []) k = wants x ≤ length (part_lines x []) + k
EndsWell (x ∷ y ∷ xs) k = EndsWell (y ∷ xs) k

ends_some : (xs : List NumberedPart) (k : ℕ) → 0 < k → EndsWell xs k
ends_some [] k z = tt
ends_some (x ∷ []) k z = let w : wants x ≤ length (part_lines x []) + 1 = wants_most x in omega arith
ends_some (x ∷ y ∷ xs) k z = ends_some (y ∷ xs) k z

ends_after : (xs ys : List NumberedPart) (y : NumberedPart) (k : ℕ) → EndsWell (y ∷ ys) k → EndsWell (xs ++ y ∷ ys) k
ends_after [] ys y k h = h
ends_after (x ∷ []) ys y k h = h
ends_after (x ∷ z ∷ xs) ys y k h = ends_after (z ∷ xs) ys y k h

shown_by_front : (xs ys : List NumberedPart) (n k : ℕ) → n ≡ total xs + k → EndsWell xs k → shown_by n (xs ++ ys) ≡ xs ++ shown_by k ys
shown_by_front [] ys n k e h = let f : n ≡ k = omega (arith, e) in ap (λ m. shown_by m ys) f
shown_by_front (x ∷ []) ys n k e h =
    let f : n - length (part_lines x []) ≡ k = omega (arith, e) in
    ap (λ b. if b then [] else x ∷ shown_by (n - length (part_lines x [])) ys) (le-ltb n (wants x) (omega (arith, e, h))) ∙ ap (λ m. x ∷ shown_by m ys) f
shown_by_front (x ∷ y ∷ xs) ys n k e h =
    let w : wants x ≤ length (part_lines x []) + 1 = wants_most x in
    let s : 0 < length (part_lines y []) = some_line y in
    let f : n - length (part_lines x []) ≡ total (y ∷ xs) + k = omega (arith, e) in
    ap (λ b. if b then [] else x ∷ shown_by (n - length (part_lines x [])) ((y ∷ xs) ++ ys)) (le-ltb n (wants x) (omega (arith, e)))
    ∙ ap (λ z. x ∷ z) (shown_by_front (y ∷ xs) ys (n - length (part_lines x [])) k f h)

-- what a state shows ends well

done_ends : (b : NumberedBlock) (bs : List NumberedBlock) (xs : List NumberedPart) (k : ℕ) → EndsWell (xs ++ blocks_parts (b ∷ bs)) k
done_ends b [] xs k =
    let e : xs ++ blocks_parts (b ∷ []) ≡ (xs ++ Goals_part b.goals ∷ step_parts b.steps) ++ Done_part ∷ []
    = ap (λ y. xs ++ y) (append-nil (block_parts b)) ∙ sym (append_assoc xs (Goals_part b.goals ∷ step_parts b.steps) (Done_part ∷ [])) in
    subst (λ y. EndsWell y k) (sym e) (ends_after (xs ++ Goals_part b.goals ∷ step_parts b.steps) [] Done_part k (omega arith))
done_ends b (c ∷ bs) xs k = subst (λ y. EndsWell y k) (append_assoc xs (block_parts b) (blocks_parts (c ∷ bs))) (done_ends c bs (xs ++ block_parts b) k)

step_ends : (ss : List NumberedStep) (xs : List NumberedPart) (k : ℕ) → LastClosed ss → EndsWell (xs ++ step_parts ss) k
step_ends [] xs k h = absurd h
step_ends (Simplify_step c ∷ []) xs k h = absurd h
step_ends (Reduce_step w ∷ []) xs k h = ends_after xs [] (Step_part (Reduce_step w)) k (omega arith)
step_ends (Derive_step ∷ []) xs k h = ends_after xs [] (Step_part Derive_step) k (omega arith)
step_ends (Cases_step t ∷ []) xs k h = ends_after xs [] (Step_part (Cases_step t)) k (omega arith)
step_ends (s ∷ t ∷ ss) xs k h = subst (λ y. EndsWell y k) (append_assoc xs (Step_part s ∷ []) (step_parts (t ∷ ss)))
    (step_ends (t ∷ ss) (xs ++ Step_part s ∷ []) k h)

shown_ends : (m : State) → IsSound m → IsShut m → EndsWell (shown m) (length (pending m []))
shown_ends begin f s = tt
shown_ends (tabling es) f s = tt
shown_ends (placing es ps) f s = tt
shown_ends (certifying g ls) f s = ends_some (front_parts g) (length (pending (certifying g ls) [])) (omega arith)
shown_ends (opened o) f s = ends_some (shown (opened o)) (length (pending (opened o) [])) (omega arith)
shown_ends (stepping o) f s = subst (λ y. EndsWell y 0) (append_assoc (parts_with o.front o.blocks) (Goals_part o.goals ∷ []) (step_parts o.steps))
    (step_ends o.steps (parts_with o.front o.blocks ++ Goals_part o.goals ∷ []) 0 s)
shown_ends (simplifying o c) f s = ends_some (open_parts o) (length (pending (simplifying o c) [])) (omega arith)
shown_ends (reducing o fs c) f s = ends_some (open_parts o) (length (pending (reducing o fs c) [])) (omega arith)
shown_ends (joining m c) f s = ends_some (shown m) (length (pending m (if_line ∷ chain_lines c []))) (some_pending m (if_line ∷ chain_lines c []) (omega arith))
shown_ends (closed g bs) f s = go bs f.0
  where
    go : (bs : List NumberedBlock) → 0 < length bs → EndsWell (parts_with g bs) 0
    go [] z = absurd (omega arith)
    go (b ∷ bs) z = done_ends b bs (front_parts g) 0
shown_ends (ended g bs) f s = ends_some (parts_with g bs) 1 (omega arith)

-- a state between steps
abbrev IsBetween : State → Type 0
IsBetween (stepping o) = Unit {0}
IsBetween _ = ⊥

-- a reduce that is under way is not whole
not_whole : (ls before : List Line) (m : State) (w : WhyOf ℕ) → (IsBetween m → ⊥) → run begin ls ≡ Some m → ls ≡ before ++ (reduce_line ∷ why_lines w []) → ⊥
not_whole ls before m w under e f =
    let r : (q : State) × (run begin before ≡ Some q) × (run q (reduce_line ∷ why_lines w []) ≡ Some m)
    = run-front begin m before (reduce_line ∷ why_lines w []) (ap (run begin) (sym f) ∙ e) in
    go (to_step r.0) r.2
  where
    go : (s : Option OpenBlock) → option_and_then (λ n. run n (why_lines w [])) (option_map (λ o. reducing o [] empty) s) ≡ Some m → ⊥
    go None g = absurd (cc)
    go (Some q) g = let h : ◌≡◌ {A = Option State} (Some (stepping (with_step q (Reduce_step w)))) (Some m) = sym (why_run q [] w []) ∙ g in
        let P : State → Type 0 = IsBetween in under (subst P (same_Some (stepping (with_step q (Reduce_step w))) m h) tt)

less_or_same : (a b : ℕ) → a ≤ b → (a < b) ⊎ (a ≡ b)
less_or_same a b h = grind arith

same_front_lines : (a b c d : List Line) → length a ≡ length b → a ++ c ≡ b ++ d → a ≡ b
same_front_lines [] [] c d l e = refl
same_front_lines [] (y ∷ b) c d l e = absurd (omega arith)
same_front_lines (x ∷ a) [] c d l e = absurd (omega arith)
same_front_lines (x ∷ a) (y ∷ b) c d l e = let h : x ≡ y = cc in let r : a ≡ b = same_front_lines a b c d (omega arith) (cc) in cc

reduce_short : (ls : List Line) (m : State) (w : WhyOf ℕ) (xs : List NumberedPart) (rest : List Line) → (IsBetween m → ⊥) → run begin ls ≡ Some m
    → ls ≡ lines_of part_lines (shown m) (pending m [])
    → part_lines (Step_part (Reduce_step w)) [] ++ lines_of part_lines xs (end_line ∷ []) ≡ pending m [] ++ rest
    → length (pending m []) ≤ length (part_lines (Step_part (Reduce_step w)) []) → length (pending m []) < wants (Step_part (Reduce_step w))
reduce_short ls m w xs rest under e f g s = cases (less_or_same (length (pending m [])) (length (part_lines (Step_part (Reduce_step w)) [])) s)
  where
    cases : (length (pending m []) < length (part_lines (Step_part (Reduce_step w)) []))
        ⊎ (length (pending m []) ≡ length (part_lines (Step_part (Reduce_step w)) []))
        → length (pending m []) < wants (Step_part (Reduce_step w))
    cases (inl h) = omega arith
    cases (inr h) =
        let same_lines : pending m [] ≡ part_lines (Step_part (Reduce_step w)) []
        = same_front_lines (pending m []) (part_lines (Step_part (Reduce_step w)) []) rest (lines_of part_lines xs (end_line ∷ [])) h (sym g) in
        absurd (not_whole ls (lines_of part_lines (shown m) []) m w under e
        (f ∙ ap (lines_of part_lines (shown m)) same_lines ∙ parts_before (shown m) (reduce_line ∷ why_lines w [])))

-- no part that is under way begins with a line that is a whole part
abbrev is_part : Line → Bool
is_part derive_line = true
is_part (cases_line t) = true
is_part done_line = true
is_part _ = false

first_pending : (m : State) (k : List Line) → (l : Line) × (ls : List Line) × (pending m (if_line ∷ k) ≡ l ∷ ls) × (is_part l ≡ false)
first_pending begin k = (_, _, refl, refl)
first_pending (tabling es) k = (_, _, refl, refl)
first_pending (placing es ps) k = (_, _, refl, refl)
first_pending (certifying f ls) k = (_, _, refl, refl)
first_pending (opened o) k = (_, _, refl, refl)
first_pending (stepping o) k = (_, _, refl, refl)
first_pending (simplifying o c) k = (_, _, refl, refl)
first_pending (reducing o fs c) k = (_, _, refl, refl)
first_pending (joining m c) k = first_pending m (chain_lines c (if_line ∷ k))
first_pending (closed f bs) k = (_, _, refl, refl)
first_pending (ended f bs) k = (_, _, refl, refl)

no_part : (m : State) (k a b : List Line) (x : Line) → is_part x ≡ true → x ∷ a ≡ pending m (if_line ∷ k) ++ b → ⊥
no_part m k a b x p e =
    let f : (l : Line) × (ls : List Line) × (pending m (if_line ∷ k) ≡ l ∷ ls) × (is_part l ≡ false) = first_pending m k in
    let g : x ∷ a ≡ f.0 ∷ (f.1 ++ b) = e ∙ ap (λ y. y ++ b) f.2 in
    let h : x ≡ f.0 = cc g in
    true≢false (sym p ∙ ap is_part h ∙ f.3)

-- the next part is not shown
not_shown : (ls : List Line) (m : State) (x : NumberedPart) (xs : List NumberedPart) (rest : List Line) → run begin ls ≡ Some m
    → ls ≡ lines_of part_lines (shown m) (pending m [])
    → part_lines x [] ++ lines_of part_lines xs (end_line ∷ []) ≡ pending m [] ++ rest → length (pending m []) < wants x
not_shown ls m x xs rest e f g =
    let b : (l : Line) × (k : List Line) × (lines_of part_lines xs (end_line ∷ []) ≡ l ∷ k) × (begins_part l ≡ true) = first_begins xs in
    let short : length (pending m []) ≤ length (part_lines x [])
    = opening_short (part_lines x []) (pending m []) b.0 b.1 rest (some_line x) (pending_opening m [] tt) b.3
    (ap (λ y. part_lines x [] ++ y) (sym b.2) ∙ g) in
    go x m e f g short
  where
    go : (x : NumberedPart) (m : State) → run begin ls ≡ Some m → ls ≡ lines_of part_lines (shown m) (pending m [])
        → part_lines x [] ++ lines_of part_lines xs (end_line ∷ []) ≡ pending m [] ++ rest
        → length (pending m []) ≤ length (part_lines x []) → length (pending m []) < wants x
    go (Head_part es ps) m e f g s = omega arith
    go (Certificate_part ls) m e f g s = omega arith
    go (Goals_part gs) m e f g s = omega arith
    go (Step_part (Simplify_step c)) m e f g s = omega arith
    go (Step_part Derive_step) begin e f g s = omega arith
    go (Step_part Derive_step) (stepping o) e f g s = omega arith
    go (Step_part Derive_step) (closed a bs) e f g s = omega arith
    go (Step_part Derive_step) (joining m c) e f g s = absurd (no_part m (chain_lines c []) _ rest derive_line refl g)
    go (Step_part Derive_step) _ e f g s = absurd (cc)
    go (Step_part (Cases_step t)) begin e f g s = omega arith
    go (Step_part (Cases_step t)) (stepping o) e f g s = omega arith
    go (Step_part (Cases_step t)) (closed a bs) e f g s = omega arith
    go (Step_part (Cases_step t)) (joining m c) e f g s = absurd (no_part m (chain_lines c []) _ rest (cases_line t) refl g)
    go (Step_part (Cases_step t)) _ e f g s = absurd (cc)
    go Done_part begin e f g s = omega arith
    go Done_part (stepping o) e f g s = omega arith
    go Done_part (closed a bs) e f g s = omega arith
    go Done_part (joining m c) e f g s = absurd (no_part m (chain_lines c []) _ rest done_line refl g)
    go Done_part _ e f g s = absurd (cc)
    go (Step_part (Reduce_step w)) begin e f g s = omega arith
    go (Step_part (Reduce_step w)) (stepping o) e f g s = omega arith
    go (Step_part (Reduce_step w)) (closed a bs) e f g s = omega arith
    go (Step_part (Reduce_step w)) (reducing o fs c) e f g s = reduce_short ls (reducing o fs c) w xs rest (λ z. z) e f g s
    go (Step_part (Reduce_step w)) (joining m c) e f g s = reduce_short ls (joining m c) w xs rest (λ z. z) e f g s
    go (Step_part (Reduce_step w)) _ e f g s = absurd (cc)

-- A reader's state shows just the parts that so many lines show, of each proof whose lines begin with these.
pub shown_is : (ls rest : List Line) (m : State) (p : NumberedProof) → run begin ls ≡ Some m → HasParts p → proof_lines p ≡ ls ++ rest
    → shown m ≡ shown_by (length ls) (parts_of p)
shown_is ls rest m p e h f =
    let x : (xs : List NumberedPart) × (parts_of p ≡ shown m ++ xs) = shown_first ls rest m p e h f in
    let is : ls ≡ lines_of part_lines (shown m) (pending m []) = sym (append-nil ls) ∙ sym (run_so_far begin m ls [] e) ∙ so_far_is m [] in
    let n : length ls ≡ total (shown m) + length (pending m []) = ap length is ∙ total_lines (shown m) (pending m []) in
    let rest_is : lines_of part_lines x.0 (end_line ∷ []) ≡ pending m [] ++ rest =
    append_cancel_left (lines_of part_lines (shown m) []) (lines_of part_lines x.0 (end_line ∷ [])) (pending m [] ++ rest)
    (sym (parts_before (shown m) (lines_of part_lines x.0 (end_line ∷ []))) ∙ sym (parts-append (shown m) x.0 (end_line ∷ []))
    ∙ ap (λ y. lines_of part_lines y (end_line ∷ [])) (sym x.1)
    ∙ proof_lines_are p ∙ f ∙ ap (λ y. y ++ rest) (is ∙ parts_before (shown m) (pending m []))
    ∙ append_assoc (lines_of part_lines (shown m) []) (pending m []) rest) in
    sym (ap (shown_by (length ls)) x.1 ∙ shown_by_front (shown m) x.0 (length ls) (length (pending m [])) n
    (shown_ends m (run_sound begin m ls tt e) (run_shut begin m ls tt e))
    ∙ ap (λ y. shown m ++ y) (none_more x.0 is rest_is) ∙ append-nil (shown m))
  where
    none_more : (xs : List NumberedPart) → ls ≡ lines_of part_lines (shown m) (pending m []) → lines_of part_lines xs (end_line ∷ []) ≡ pending m [] ++ rest
        → shown_by (length (pending m [])) xs ≡ []
    none_more [] is g = refl
    none_more (x ∷ xs) is g =
        ap (λ b. if b then [] else x ∷ shown_by (length (pending m []) - length (part_lines x [])) xs)
        (lt-ltb (length (pending m [])) (wants x) (not_shown ls m x xs rest e is (sym (part_before x (lines_of part_lines xs (end_line ∷ []))) ∙ g)))
