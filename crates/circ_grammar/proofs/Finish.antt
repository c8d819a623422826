-- What is kept can always be led to an end, so a list of lines that is read begins a proof's text.
use Rattle.std.specs.Prelude.{◌≡◌, ℕ, ◌+◌, ◌-◌, ◌<◌, ◌⊎◌, List, [], ◌∷◌, ◌++◌, length, refl, Option, Some, None, cond, nat_eq, Bool, true, false, zero, suc}
use Rattle.std.specs.Option.{option_map, option_and_then}
use Rattle.std.specs.List.{AllByRecursion}
use Rattle.std.proofs.Common.{sym, ◌∙◌, ap, arith, append-nil, length-append, inl, inr, subst}
use Rattle.std.proofs.lemmas.Option.{same_Some}
use Rattle.std.proofs.lemmas.Bool.{true≢false, eqb-false, eq-eqb}
use Rattle.circ_proof.specs.Proof.{GoalNames}
use Rattle.circ_proof.specs.Plain.{LinkOf, Equation_link, Hypothesis_link, ChainOf, WhyOf, WhysOf, Same_why, Split_why, no_why}
use Rattle.circ_line.specs.Line.{TableLine, Line, head_line, table_line, place_line, certificate_line, block_line, goal_line, given_line, simplify_line}
use Rattle.circ_line.specs.Line.{reduce_line, derive_line, cases_line, done_line, same_line, split_line, if_line, left_line, right_line, end_line}
use Rattle.circ_proof.specs.Counting.{why_count}
use Rattle.circ_grammar.specs.Grammar.{Simplify_step, Reduce_step, Derive_step, Cases_step, is_bare, NumberedBlock, NumberedProof, proof_lines, HasGoals, HasParts}
use Rattle.circ_grammar.specs.Machine.{Front, OpenBlock, OpenSplit, State, begin, tabling, placing, certifying, opened, stepping, simplifying, reducing}
use Rattle.circ_grammar.specs.Machine.{joining, closed, ended, empty, numbered_table, with_goals, add_given, add_chain, in_last, chain_of, in_right, give_chain, goal_names, no_steps, open_block, with_goal, with_step, block_of, push_why, open_split, give_why, to_front}
use Rattle.circ_grammar.specs.Machine.{to_block, to_step, add_left, on_head, on_table, on_place, on_goal, on_given, on_if, on_same, on_split, on_left, on_right, on_end}
use Rattle.circ_grammar.specs.Machine.{next, run, proof_of}
use Rattle.circ_line.specs.Text.{IsInRange}
use Rattle.circ_grammar.proofs.Spelled.{why_count-push, run_so_far, close_block, option_map_some, under_test}
use Rattle.circ_grammar.proofs.Complete.{not_empty, not_eq}

-- each open split waits for a why
abbrev pub Waits : OpenSplit → Type 0
Waits f = why_count f.whys < f.count

abbrev pub HasWholeBlocks : OpenBlock → Type 0
HasWholeBlocks o = AllByRecursion HasGoals o.blocks

abbrev pub HasWholeGoals : OpenBlock → Type 0
HasWholeGoals o = AllByRecursion HasGoals o.blocks × (0 < length o.goals)

-- the last link of what is under way can have a condition more
abbrev pub Takes : State → Type 0
Takes m = (n : State) × (give_chain m empty ≡ Some n)

-- what holds of each state that lines lead to
abbrev pub IsSound : State → Type 0
IsSound begin = Unit {0}
IsSound (tabling es) = Unit {0}
IsSound (placing es ps) = Unit {0}
IsSound (certifying f ls) = Unit {0}
IsSound (opened o) = HasWholeBlocks o
IsSound (stepping o) = HasWholeGoals o
IsSound (simplifying o c) = HasWholeGoals o
IsSound (reducing o fs c) = HasWholeGoals o × AllByRecursion Waits fs
IsSound (joining m c) = IsSound m × Takes m
IsSound (closed f bs) = (0 < length bs) × AllByRecursion HasGoals bs
IsSound (ended f bs) = (0 < length bs) × AllByRecursion HasGoals bs

-- some of the lines that have no number above 0
abbrev pub is_plain : Line → Bool
is_plain (head_line (suc zero)) = true
is_plain block_line = true
is_plain (goal_line zero zero) = true
is_plain same_line = true
is_plain done_line = true
is_plain end_line = true
is_plain _ = false

pub plain_in_range : (l : Line) → is_plain l ≡ true → IsInRange l
plain_in_range (head_line (suc zero)) e = (omega arith, omega arith)
plain_in_range block_line e = tt
plain_in_range (goal_line zero zero) e = (omega arith, (omega arith, tt))
plain_in_range same_line e = tt
plain_in_range done_line e = tt
plain_in_range end_line e = tt
plain_in_range _ e = absurd (true≢false (sym e))

-- Some plain lines lead to an end.
abbrev pub Ends : State → Type 0
Ends m = (k : List Line) × (f : Front) × (bs : List NumberedBlock) × (run m k ≡ Some (ended f bs)) × AllByRecursion (λ l. is_plain l ≡ true) k

pub ends_next : (m n : State) (l : Line) → is_plain l ≡ true → next m l ≡ Some n → Ends n → Ends m
ends_next m n l p e (k, f, bs, r, ps) = (l ∷ k, f, bs, ap (λ o. option_and_then (λ q. run q k) o) e ∙ r, (p, ps))

closed_ends : (f : Front) (bs : List NumberedBlock) → Ends (closed f bs)
closed_ends f bs = (end_line ∷ [], f, bs, refl, (refl, tt))

step_ends : (m : State) (o : OpenBlock) → to_step m ≡ Some o → Ends m
step_ends m o e = ends_next m (close_block o) done_line refl (ap (option_map close_block) e) (closed_ends _ _)

block_ends : (m : State) (o : OpenBlock) → to_block m ≡ Some o → Ends m
block_ends m o e = ends_next m (opened o) block_line refl (ap (option_map (λ o. opened o)) e)
    (ends_next (opened o) (opened (with_goal o 0 0)) (goal_line 0 0) refl refl (step_ends (opened (with_goal o 0 0)) _
    (ap (λ z. cond z None (Some (no_steps (with_goal o 0 0))))
    (not_empty (length (o.goals ++ (goal_names 0 0 ∷ []))) (omega (arith, length-append o.goals (goal_names 0 0 ∷ [])))))))

-- An open split gets `same` until it is whole.
frame_ends : (o : OpenBlock) (fs : List OpenSplit) (c : ChainOf ℕ) (t m : ℕ) → ((w : WhyOf ℕ) → Ends (give_why o fs w))
    → (n : ℕ) (ds : WhysOf ℕ) (w : WhyOf ℕ) → why_count ds + n + 1 ≡ m → Ends (give_why o (open_split c t m ds ∷ fs) w)
frame_ends o fs c t m ih zero ds w e =
    let P : State → Type 0 = Ends in
    subst P (ap (λ b. cond b (give_why o fs (Split_why c t (push_why ds w))) (reducing o (open_split c t m (push_why ds w) ∷ fs) empty))
    (sym (eq-eqb (why_count ds + 1) m (omega arith)))) (ih (Split_why c t (push_why ds w)))
frame_ends o fs c t m ih (suc n) ds w e =
    let P : State → Type 0 = Ends in
    subst P (ap (λ b. cond b (give_why o fs (Split_why c t (push_why ds w))) (reducing o (open_split c t m (push_why ds w) ∷ fs) empty))
    (sym (not_eq (why_count ds + 1) m (omega arith))))
    (ends_next (reducing o (open_split c t m (push_why ds w) ∷ fs) empty)
    (give_why o (open_split c t m (push_why ds w) ∷ fs) (Same_why empty)) same_line refl refl
    (frame_ends o fs c t m ih n (push_why ds w) (Same_why empty) (omega (arith, why_count-push ds w))))

give_why_ends : (o : OpenBlock) (fs : List OpenSplit) → AllByRecursion Waits fs → (w : WhyOf ℕ) → Ends (give_why o fs w)
give_why_ends o [] hs w = step_ends (stepping (with_step o (Reduce_step w))) _ refl
give_why_ends o (f ∷ fs) hs w = let h : why_count f.whys < f.count = hs.0 in
    frame_ends o fs f.chain f.term f.count (give_why_ends o fs hs.1) (f.count - why_count f.whys - 1) f.whys w (omega arith)

-- Whether the last link can have a condition more does not depend on the chain of it.

chain_again : (l m : LinkOf ℕ) (c d : ChainOf ℕ) → add_chain l c ≡ Some m → (n : LinkOf ℕ) × (add_chain l d ≡ Some n)
chain_again (Equation_link n w p ts cs) m c d e = (_, refl)
chain_again (Hypothesis_link n w p ts cs) m c d e = (_, refl)
chain_again _ m c d e = absurd (cc)

last_again : (ls ms : List (LinkOf ℕ)) (c d : ChainOf ℕ) → in_last ls c ≡ Some ms → (ns : List (LinkOf ℕ)) × (in_last ls d ≡ Some ns)
last_again [] ms c d e = absurd (cc)
last_again (l ∷ []) ms c d e = let p : (m : LinkOf ℕ) × (add_chain l c ≡ Some m) × (m ∷ [] ≡ ms) = option_map_some (λ m. m ∷ []) (add_chain l c) ms e in
    let q : (n : LinkOf ℕ) × (add_chain l d ≡ Some n) = chain_again l p.0 c d p.1 in
    (q.0 ∷ [], ap (option_map (λ m. m ∷ [])) q.1)
last_again (l ∷ m ∷ ls) ms c d e = let p : (r : List (LinkOf ℕ)) × (in_last (m ∷ ls) c ≡ Some r) × (l ∷ r ≡ ms) =
    option_map_some (λ r. l ∷ r) (in_last (m ∷ ls) c) ms e in
    let q : (r : List (LinkOf ℕ)) × (in_last (m ∷ ls) d ≡ Some r) = last_again (m ∷ ls) p.0 c d p.1 in
    (l ∷ q.0, ap (option_map (λ r. l ∷ r)) q.1)

right_again : (ls rs : List (LinkOf ℕ)) (x c d : ChainOf ℕ) → in_right ls rs c ≡ Some x → (y : ChainOf ℕ) × (in_right ls rs d ≡ Some y)
right_again ls [] x c d e = let p : (ms : List (LinkOf ℕ)) × (in_last ls c ≡ Some ms) × (chain_of ms [] ≡ x) =
    option_map_some (λ ms. chain_of ms []) (in_last ls c) x e in
    let q : (ms : List (LinkOf ℕ)) × (in_last ls d ≡ Some ms) = last_again ls p.0 c d p.1 in
    (chain_of q.0 [], ap (option_map (λ ms. chain_of ms [])) q.1)
right_again ls (r ∷ rs) x c d e = let p : (ms : List (LinkOf ℕ)) × (in_last (r ∷ rs) c ≡ Some ms) × (chain_of ls ms ≡ x) =
    option_map_some (λ ms. chain_of ls ms) (in_last (r ∷ rs) c) x e in
    let q : (ms : List (LinkOf ℕ)) × (in_last (r ∷ rs) d ≡ Some ms) = last_again (r ∷ rs) p.0 c d p.1 in
    (chain_of ls q.0, ap (option_map (λ ms. chain_of ls ms)) q.1)

pub give_again : (m n : State) (c d : ChainOf ℕ) → give_chain m c ≡ Some n → (q : State) × (give_chain m d ≡ Some q)
give_again (certifying f ls) n c d e = let p : (ms : List (LinkOf ℕ)) × (in_last ls c ≡ Some ms) × (certifying f ms ≡ n) =
    option_map_some (λ ms. certifying f ms) (in_last ls c) n e in
    let q : (ms : List (LinkOf ℕ)) × (in_last ls d ≡ Some ms) = last_again ls p.0 c d p.1 in
    (certifying f q.0, ap (option_map (λ ms. certifying f ms)) q.1)
give_again (simplifying o x) n c d e = let p : (y : ChainOf ℕ) × (in_right x.left x.right c ≡ Some y) × (simplifying o y ≡ n) =
    option_map_some (λ y. simplifying o y) (in_right x.left x.right c) n e in
    let q : (y : ChainOf ℕ) × (in_right x.left x.right d ≡ Some y) = right_again x.left x.right p.0 c d p.1 in
    (simplifying o q.0, ap (option_map (λ y. simplifying o y)) q.1)
give_again (reducing o fs x) n c d e = let p : (y : ChainOf ℕ) × (in_right x.left x.right c ≡ Some y) × (reducing o fs y ≡ n) =
    option_map_some (λ y. reducing o fs y) (in_right x.left x.right c) n e in
    let q : (y : ChainOf ℕ) × (in_right x.left x.right d ≡ Some y) = right_again x.left x.right p.0 c d p.1 in
    (reducing o fs q.0, ap (option_map (λ y. reducing o fs y)) q.1)
give_again (joining m x) n c d e = let p : (y : ChainOf ℕ) × (in_right x.left x.right c ≡ Some y) × (joining m y ≡ n) =
    option_map_some (λ y. joining m y) (in_right x.left x.right c) n e in
    let q : (y : ChainOf ℕ) × (in_right x.left x.right d ≡ Some y) = right_again x.left x.right p.0 c d p.1 in
    (joining m q.0, ap (option_map (λ y. joining m y)) q.1)
give_again _ n c d e = absurd (cc)

-- a condition that ends leaves a state of the same kind, which is sound too
pub give_chain_sound : (m n : State) (c : ChainOf ℕ) → IsSound m → give_chain m c ≡ Some n → IsSound n
give_chain_sound (certifying f ls) n c h e = let p : (ms : List (LinkOf ℕ)) × (in_last ls c ≡ Some ms) × (certifying f ms ≡ n) =
    option_map_some (λ ms. certifying f ms) (in_last ls c) n e in
    let P : State → Type 0 = IsSound in subst P p.2 tt
give_chain_sound (simplifying o x) n c h e = let p : (y : ChainOf ℕ) × (in_right x.left x.right c ≡ Some y) × (simplifying o y ≡ n) =
    option_map_some (λ y. simplifying o y) (in_right x.left x.right c) n e in
    let P : State → Type 0 = IsSound in subst P p.2 h
give_chain_sound (reducing o fs x) n c h e = let p : (y : ChainOf ℕ) × (in_right x.left x.right c ≡ Some y) × (reducing o fs y ≡ n) =
    option_map_some (λ y. reducing o fs y) (in_right x.left x.right c) n e in
    let P : State → Type 0 = IsSound in subst P p.2 h
give_chain_sound (joining m x) n c h e = let p : (y : ChainOf ℕ) × (in_right x.left x.right c ≡ Some y) × (joining m y ≡ n) =
    option_map_some (λ y. joining m y) (in_right x.left x.right c) n e in
    let P : State → Type 0 = IsSound in subst P p.2 h
give_chain_sound _ n c h e = absurd (cc)

-- What a condition ends in can go on to an end: each `if` that is open gets `same`.
given_ends : (m n : State) (c : ChainOf ℕ) → IsSound m → give_chain m c ≡ Some n → Ends n
given_ends (certifying f ls) n c h e = let p : (ms : List (LinkOf ℕ)) × (in_last ls c ≡ Some ms) × (certifying f ms ≡ n) =
    option_map_some (λ ms. certifying f ms) (in_last ls c) n e in
    let P : State → Type 0 = Ends in subst P p.2 (block_ends (certifying f p.0) _ refl)
given_ends (simplifying o x) n c h e = let p : (y : ChainOf ℕ) × (in_right x.left x.right c ≡ Some y) × (simplifying o y ≡ n) =
    option_map_some (λ y. simplifying o y) (in_right x.left x.right c) n e in
    let P : State → Type 0 = Ends in subst P p.2 (step_ends (simplifying o p.0) _ refl)
given_ends (reducing o fs x) n c h e = let p : (y : ChainOf ℕ) × (in_right x.left x.right c ≡ Some y) × (reducing o fs y ≡ n) =
    option_map_some (λ y. reducing o fs y) (in_right x.left x.right c) n e in
    let P : State → Type 0 = Ends in
    subst P p.2 (ends_next (reducing o fs p.0) (give_why o fs (Same_why p.0)) same_line refl refl (give_why_ends o fs h.1 (Same_why p.0)))
given_ends (joining m x) n c h e = let p : (y : ChainOf ℕ) × (in_right x.left x.right c ≡ Some y) × (joining m y ≡ n) =
    option_map_some (λ y. joining m y) (in_right x.left x.right c) n e in
    let P : State → Type 0 = Ends in
    let q : (q : State) × (give_chain m p.0 ≡ Some q) = give_again m h.1.0 empty p.0 h.1.1 in
    subst P p.2 (ends_next (joining m p.0) q.0 same_line refl q.1 (given_ends m q.0 p.0 h.0 q.1))
given_ends _ n c h e = absurd (cc)

-- Every state but the end itself can go on to an end.
pub sound_ends : (m : State) → IsSound m → (Ends m) ⊎ ((f : Front) × (bs : List NumberedBlock) × (m ≡ ended f bs))
sound_ends begin h = inl (ends_next begin (tabling (numbered_table 1 [])) (head_line 1) refl refl (block_ends (tabling (numbered_table 1 [])) _ refl))
sound_ends (tabling es) h = inl (block_ends (tabling es) _ refl)
sound_ends (placing es ps) h = inl (block_ends (placing es ps) _ refl)
sound_ends (certifying f ls) h = inl (block_ends (certifying f ls) _ refl)
sound_ends (opened o) h = inl (ends_next (opened o) (opened (with_goal o 0 0)) (goal_line 0 0) refl refl (step_ends (opened (with_goal o 0 0)) _
    (ap (λ z. cond z None (Some (no_steps (with_goal o 0 0))))
    (not_empty (length (o.goals ++ (goal_names 0 0 ∷ []))) (omega (arith, length-append o.goals (goal_names 0 0 ∷ [])))))))
sound_ends (stepping o) h = inl (step_ends (stepping o) o refl)
sound_ends (simplifying o c) h = inl (step_ends (simplifying o c) _ refl)
sound_ends (reducing o fs c) h = inl (ends_next (reducing o fs c) (give_why o fs (Same_why c)) same_line refl refl (give_why_ends o fs h.1 (Same_why c)))
sound_ends (joining m c) h = let q : (q : State) × (give_chain m c ≡ Some q) = give_again m h.1.0 empty c h.1.1 in
    inl (ends_next (joining m c) q.0 same_line refl q.1 (given_ends m q.0 c h.0 q.1))
sound_ends (closed f bs) h = inl (closed_ends f bs)
sound_ends (ended f bs) h = inr (f, bs, refl)

all-push : {A : Type 0} (P : A → Type 0) (xs : List A) (x : A) → AllByRecursion P xs → P x → AllByRecursion P (xs ++ (x ∷ []))
all-push P [] x hs h = (h, tt)
all-push P (y ∷ ys) x hs h = (hs.0, all-push P ys x hs.1 h)

-- a fact about a state that is known
found : (P : State → Type 0) (x n : State) → ◌≡◌ {A = Option State} (Some x) (Some n) → P x → P n
found P x n e h = subst P (same_Some x n e) h

give_sound : (o : OpenBlock) (fs : List OpenSplit) (w : WhyOf ℕ) → HasWholeGoals o → AllByRecursion Waits fs → IsSound (give_why o fs w)
give_sound o [] w h hs = h
give_sound o (f ∷ fs) w h hs = go (give_sound o fs (Split_why f.chain f.term (push_why f.whys w)) h hs.1) (nat_eq (why_count f.whys + 1) f.count) refl
  where
    go : IsSound (give_why o fs (Split_why f.chain f.term (push_why f.whys w))) → (b : Bool) → nat_eq (why_count f.whys + 1) f.count ≡ b
        → IsSound (cond b (give_why o fs (Split_why f.chain f.term (push_why f.whys w)))
        (reducing o (open_split f.chain f.term f.count (push_why f.whys w) ∷ fs) empty))
    go ih true e = ih
    go ih false e = let below : why_count f.whys < f.count = hs.0 in
        let other : why_count f.whys + 1 ≡ f.count → ⊥ = eqb-false (why_count f.whys + 1) f.count e in
        (h, (omega (arith, why_count-push f.whys w), hs.1))

to_block_sound : (m : State) (o : OpenBlock) → IsSound m → to_block m ≡ Some o → HasWholeBlocks o
to_block_sound (closed f bs) o h e = let P : OpenBlock → Type 0 = HasWholeBlocks in subst P (same_Some (open_block f bs) o e) h.1
to_block_sound m o h e = later m o e
  where
    later : (m : State) (o : OpenBlock) → option_map (λ f. open_block f []) (to_front m) ≡ Some o → HasWholeBlocks o
    later m o e = let p : (f : Front) × (to_front m ≡ Some f) × (open_block f [] ≡ o) = option_map_some (λ f. open_block f []) (to_front m) o e in
        let P : OpenBlock → Type 0 = HasWholeBlocks in subst P p.2 tt

to_step_sound : (m : State) (o : OpenBlock) → IsSound m → to_step m ≡ Some o → HasWholeGoals o
to_step_sound (opened q) o h e = go (nat_eq (length q.goals) 0) refl e
  where
    go : (b : Bool) → nat_eq (length q.goals) 0 ≡ b → cond b None (Some (no_steps q)) ≡ Some o → HasWholeGoals o
    go true z e = absurd (cc)
    go false z e = let P : OpenBlock → Type 0 = HasWholeGoals in
        let other : length q.goals ≡ 0 → ⊥ = eqb-false (length q.goals) 0 z in
        subst P (same_Some (no_steps q) o e) (h, omega arith)
to_step_sound (stepping q) o h e = let P : OpenBlock → Type 0 = HasWholeGoals in subst P (same_Some q o e) h
to_step_sound (simplifying q c) o h e = let P : OpenBlock → Type 0 = HasWholeGoals in subst P (same_Some (with_step q (Simplify_step c)) o e) h
to_step_sound _ o h e = absurd (cc)

on_left_sound : (m n : State) (l : LinkOf ℕ) → IsSound m → on_left m l ≡ Some n → IsSound n
on_left_sound (certifying f ls) n l h e = found IsSound _ n e tt
on_left_sound (simplifying o c) n l h e = let p : (d : ChainOf ℕ) × (add_left c l ≡ Some d) × (simplifying o d ≡ n) =
    option_map_some (λ d. simplifying o d) (add_left c l) n e in
    let P : State → Type 0 = IsSound in subst P p.2 h
on_left_sound (reducing o fs c) n l h e = let p : (d : ChainOf ℕ) × (add_left c l ≡ Some d) × (reducing o fs d ≡ n) =
    option_map_some (λ d. reducing o fs d) (add_left c l) n e in
    let P : State → Type 0 = IsSound in subst P p.2 h
on_left_sound (joining m c) n l h e = let p : (d : ChainOf ℕ) × (add_left c l ≡ Some d) × (joining m d ≡ n) =
    option_map_some (λ d. joining m d) (add_left c l) n e in
    let P : State → Type 0 = IsSound in subst P p.2 h
on_left_sound _ n l h e = absurd (cc)

on_right_sound : (m n : State) (l : LinkOf ℕ) → IsSound m → on_right m l ≡ Some n → IsSound n
on_right_sound (simplifying o c) n l h e = found IsSound _ n e h
on_right_sound (reducing o fs c) n l h e = found IsSound _ n e h
on_right_sound (joining m c) n l h e = found IsSound _ n e h
on_right_sound _ n l h e = absurd (cc)

on_head_sound : (m n : State) (v : ℕ) → on_head m v ≡ Some n → IsSound n
on_head_sound begin n v e = found IsSound _ n e tt
on_head_sound _ n v e = absurd (cc)

on_table_sound : (m n : State) (x : TableLine) → on_table m x ≡ Some n → IsSound n
on_table_sound (tabling es) n x e = found IsSound _ n e tt
on_table_sound _ n x e = absurd (cc)

on_place_sound : (m n : State) (p : ℕ × ℕ) → on_place m p ≡ Some n → IsSound n
on_place_sound (tabling es) n p e = found IsSound _ n e tt
on_place_sound (placing es ps) n p e = found IsSound _ n e tt
on_place_sound _ n p e = absurd (cc)

on_goal_sound : (m n : State) (a b : ℕ) → IsSound m → on_goal m a b ≡ Some n → IsSound n
on_goal_sound (opened o) n a b h e = found IsSound _ n e h
on_goal_sound _ n a b h e = absurd (cc)

on_given_sound : (m n : State) (p : ℕ × ℕ) → IsSound m → on_given m p ≡ Some n → IsSound n
on_given_sound (opened o) n p h e = let q : (gs : List GoalNames) × (add_given o.goals p ≡ Some gs) × (opened (with_goals o gs) ≡ n) =
    option_map_some (λ gs. opened (with_goals o gs)) (add_given o.goals p) n e in
    let P : State → Type 0 = IsSound in subst P q.2 h
on_given_sound _ n p h e = absurd (cc)

on_if_sound : (m n : State) → IsSound m → on_if m ≡ Some n → IsSound n
on_if_sound m n h e = let p : (q : State) × (give_chain m empty ≡ Some q) × (joining m empty ≡ n) =
    option_map_some (λ q. joining m empty) (give_chain m empty) n e in
    let P : State → Type 0 = IsSound in subst P p.2 (h, (p.0, p.1))

on_same_sound : (m n : State) → IsSound m → on_same m ≡ Some n → IsSound n
on_same_sound (reducing o fs c) n h e = found IsSound _ n e (give_sound o fs (Same_why c) h.0 h.1)
on_same_sound (joining m c) n h e = give_chain_sound m n c h.0 e
on_same_sound _ n h e = absurd (cc)

on_split_sound : (m n : State) (t c : ℕ) → IsSound m → on_split m t c ≡ Some n → IsSound n
on_split_sound (reducing o fs d) n t c h e = found IsSound _ n e (go (nat_eq c 0) refl)
  where
    go : (b : Bool) → nat_eq c 0 ≡ b → IsSound (cond b (give_why o fs (Split_why d t no_why)) (reducing o (open_split d t c no_why ∷ fs) empty))
    go true z = give_sound o fs (Split_why d t no_why) h.0 h.1
    go false z = let other : c ≡ 0 → ⊥ = eqb-false c 0 z in (h.0, (omega arith, h.1))
on_split_sound _ n t c h e = absurd (cc)

on_end_sound : (m n : State) → IsSound m → on_end m ≡ Some n → IsSound n
on_end_sound (closed f bs) n h e = found IsSound _ n e h
on_end_sound _ n h e = absurd (cc)

pub next_sound : (m n : State) (l : Line) → IsSound m → next m l ≡ Some n → IsSound n
next_sound m n (head_line v) h e = on_head_sound m n v e
next_sound m n (table_line x) h e = on_table_sound m n x e
next_sound m n (place_line a b) h e = on_place_sound m n (a, b) e
next_sound m n certificate_line h e = let p : (f : Front) × (to_front m ≡ Some f) × (certifying f [] ≡ n) =
    option_map_some (λ f. certifying f []) (to_front m) n e in
    let P : State → Type 0 = IsSound in subst P p.2 tt
next_sound m n block_line h e = let p : (o : OpenBlock) × (to_block m ≡ Some o) × (opened o ≡ n) = option_map_some (λ o. opened o) (to_block m) n e in
    let P : State → Type 0 = IsSound in subst P p.2 (to_block_sound m p.0 h p.1)
next_sound m n (goal_line a b) h e = on_goal_sound m n a b h e
next_sound m n (given_line a b) h e = on_given_sound m n (a, b) h e
next_sound m n simplify_line h e = let p : (o : OpenBlock) × (to_step m ≡ Some o) × (simplifying o empty ≡ n) =
    option_map_some (λ o. simplifying o empty) (to_step m) n e in
    let P : State → Type 0 = IsSound in subst P p.2 (to_step_sound m p.0 h p.1)
next_sound m n reduce_line h e = let p : (o : OpenBlock) × (to_step m ≡ Some o) × (reducing o [] empty ≡ n) =
    option_map_some (λ o. reducing o [] empty) (to_step m) n e in
    let P : State → Type 0 = IsSound in subst P p.2 (to_step_sound m p.0 h p.1, tt)
next_sound m n derive_line h e = let p : (o : OpenBlock) × (to_step m ≡ Some o) × (stepping (with_step o Derive_step) ≡ n) =
    option_map_some (λ o. stepping (with_step o Derive_step)) (to_step m) n e in
    let P : State → Type 0 = IsSound in subst P p.2 (to_step_sound m p.0 h p.1)
next_sound m n (cases_line t) h e = let p : (o : OpenBlock) × (to_step m ≡ Some o) × (stepping (with_step o (Cases_step t)) ≡ n) =
    option_map_some (λ o. stepping (with_step o (Cases_step t))) (to_step m) n e in
    let P : State → Type 0 = IsSound in subst P p.2 (to_step_sound m p.0 h p.1)
next_sound m n done_line h e = let p : (o : OpenBlock) × (to_step m ≡ Some o) × (close_block o ≡ n) = option_map_some close_block (to_step m) n e in
    let P : State → Type 0 = IsSound in let s : HasWholeGoals p.0 = to_step_sound m p.0 h p.1 in
    subst P p.2 (omega (arith, length-append p.0.blocks (block_of p.0 ∷ [])), all-push HasGoals p.0.blocks (block_of p.0) s.0 s.1)
next_sound m n same_line h e = on_same_sound m n h e
next_sound m n (split_line t c) h e = on_split_sound m n t c h e
next_sound m n if_line h e = on_if_sound m n h e
next_sound m n (left_line l) h e = under_test (is_bare l) (on_left m l) n e (λ b e. on_left_sound m n l h e)
next_sound m n (right_line l) h e = under_test (is_bare l) (on_right m l) n e (λ b e. on_right_sound m n l h e)
next_sound m n end_line h e = on_end_sound m n h e

pub run_sound : (m n : State) (ls : List Line) → IsSound m → run m ls ≡ Some n → IsSound n
run_sound m n [] h e = found IsSound m n e h
run_sound m n (l ∷ ls) h e = go (next m l) refl (λ q. run_sound q n ls) e
  where
    go : (o : Option State) → next m l ≡ o → ((q : State) → IsSound q → run q ls ≡ Some n → IsSound n) → option_and_then (λ q. run q ls) o ≡ Some n → IsSound n
    go None f ih e = absurd (cc)
    go (Some q) f ih e = ih q (next_sound m q l h f) e

pub run-append : (m q n : State) (a b : List Line) → run m a ≡ Some q → run q b ≡ Some n → run m (a ++ b) ≡ Some n
run-append m q n [] b e f = ap (λ x. run x b) (same_Some m q e) ∙ f
run-append m q n (l ∷ a) b e f = go (next m l) (λ x. run-append x q n a b) e
  where
    go : (o : Option State) → ((x : State) → run x a ≡ Some q → run q b ≡ Some n → run x (a ++ b) ≡ Some n) → option_and_then (λ x. run x a) o ≡ Some q
        → option_and_then (λ x. run x (a ++ b)) o ≡ Some n
    go None ih e = absurd (cc)
    go (Some x) ih e = ih x e f

-- What is read can go on, by plain lines, to a proof's text.
pub run_begins : (ls : List Line) (m : State) → run begin ls ≡ Some m
    → (p : NumberedProof) × (rest : List Line) × HasParts p × (proof_lines p ≡ ls ++ rest) × AllByRecursion (λ l. is_plain l ≡ true) rest
run_begins ls m e = go (sound_ends m (run_sound begin m ls tt e))
  where
    whole : (k : List Line) (f : Front) (bs : List NumberedBlock) → run m k ≡ Some (ended f bs) → AllByRecursion (λ l. is_plain l ≡ true) k
        → (p : NumberedProof) × (rest : List Line) × HasParts p × (proof_lines p ≡ ls ++ rest) × AllByRecursion (λ l. is_plain l ≡ true) rest
    whole k f bs r ps = let all : run begin (ls ++ k) ≡ Some (ended f bs) = run-append begin m (ended f bs) ls k e r in
        (proof_of f bs, k, run_sound begin (ended f bs) (ls ++ k) tt all, run_so_far begin (ended f bs) (ls ++ k) [] all ∙ append-nil (ls ++ k), ps)

    go : (Ends m) ⊎ ((f : Front) × (bs : List NumberedBlock) × (m ≡ ended f bs)) → (p : NumberedProof) × (rest : List Line) × HasParts p
        × (proof_lines p ≡ ls ++ rest) × AllByRecursion (λ l. is_plain l ≡ true) rest
    go (inl (k, f, bs, r, ps)) = whole k f bs r ps
    go (inr (f, bs, q)) = whole [] f bs (ap (λ x. Some x) q) tt

-- What leads to an end is the whole text.
pub run_whole : (ls : List Line) (f : Front) (bs : List NumberedBlock) → run begin ls ≡ Some (ended f bs) → HasParts (proof_of f bs)
    × (proof_lines (proof_of f bs) ≡ ls)
run_whole ls f bs e = (run_sound begin (ended f bs) ls tt e, run_so_far begin (ended f bs) ls [] e ∙ append-nil ls)
