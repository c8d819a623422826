-- Each line shows its parts, and what lines show are the first parts of each proof that begins with them.
use Rattle.std.specs.Prelude.{◌≡◌, ℕ, ◌+◌, List, [], ◌∷◌, ◌++◌, length, refl, Option, Some, None, cond, nat_eq, Bool, true, false}
use Rattle.std.specs.Option.{option_map, option_and_then}
use Rattle.std.proofs.Common.{sym, ◌∙◌, ap, append_assoc, append-nil, subst}
use Rattle.std.proofs.lemmas.Option.{same_Some}
use Rattle.circ_proof.specs.Proof.{GoalNames}
use Rattle.circ_proof.specs.Plain.{LinkOf, ChainOf, WhyOf, Same_why, Split_why, no_why}
use Rattle.circ_line.specs.Line.{TableLine, Line, head_line, table_line, place_line, certificate_line, block_line, goal_line, given_line, simplify_line}
use Rattle.circ_line.specs.Line.{reduce_line, derive_line, cases_line, done_line, same_line, split_line, if_line, left_line, right_line, end_line}
use Rattle.circ_proof.specs.Counting.{why_count}
use Rattle.circ_grammar.specs.Grammar.{NumberedStep, Simplify_step, Reduce_step, Derive_step, Cases_step, is_bare, NumberedBlock, NumberedProof, proof_lines}
use Rattle.circ_grammar.specs.Grammar.{HasParts}
use Rattle.circ_grammar.specs.Machine.{Front, OpenBlock, OpenSplit, State, begin, tabling, placing, certifying, opened, stepping, simplifying, reducing}
use Rattle.circ_grammar.specs.Machine.{joining, closed, with_goals, add_given, in_last, in_right, give_chain, on_given, on_if, ended, empty, front, with_certificate, no_steps, open_block, with_step, block_of, push_why, open_split}
use Rattle.circ_grammar.specs.Machine.{give_why, to_front, to_block, to_step, add_left, on_head, on_table, on_place, on_goal, on_same, on_split, on_left}
use Rattle.circ_grammar.specs.Machine.{on_right, on_end, next, run}
use Rattle.circ_grammar.specs.Parts.{Head_part, Certificate_part, Goals_part, Step_part, Done_part, NumberedPart, step_parts, certificate_parts}
use Rattle.circ_grammar.specs.Parts.{block_parts, blocks_parts, parts_of}
use Rattle.circ_grammar.specs.Shown.{front_parts, parts_with, open_parts, shown, at_front, at_step, at_why, at_same, at_split, brings}
use Rattle.circ_grammar.proofs.Spelled.{option_map_some, close_block, under_test}
use Rattle.circ_grammar.proofs.Complete.{proof_run, run-front}

step_parts-push : (ss : List NumberedStep) (s : NumberedStep) → step_parts (ss ++ s ∷ []) ≡ step_parts ss ++ Step_part s ∷ []
step_parts-push [] s = refl
step_parts-push (x ∷ ss) s = ap (λ r. Step_part x ∷ r) (step_parts-push ss s)

certificate_parts-push : (cs : List (List (LinkOf ℕ))) (c : List (LinkOf ℕ))
    → certificate_parts (cs ++ c ∷ []) ≡ certificate_parts cs ++ Certificate_part c ∷ []
certificate_parts-push [] c = refl
certificate_parts-push (x ∷ cs) c = ap (λ r. Certificate_part x ∷ r) (certificate_parts-push cs c)

blocks_parts-push : (bs : List NumberedBlock) (b : NumberedBlock) → blocks_parts (bs ++ b ∷ []) ≡ blocks_parts bs ++ block_parts b
blocks_parts-push [] b = append-nil (block_parts b)
blocks_parts-push (x ∷ bs) b = ap (λ r. block_parts x ++ r) (blocks_parts-push bs b) ∙ sym (append_assoc (block_parts x) (blocks_parts bs) (block_parts b))

with_step-push : (o : OpenBlock) (s : NumberedStep) → open_parts (with_step o s) ≡ open_parts o ++ Step_part s ∷ []
with_step-push o s = ap (λ r. parts_with o.front o.blocks ++ Goals_part o.goals ∷ r) (step_parts-push o.steps s)
    ∙ sym (append_assoc (parts_with o.front o.blocks) (Goals_part o.goals ∷ step_parts o.steps) (Step_part s ∷ []))

done-push : (o : OpenBlock) → parts_with o.front (o.blocks ++ block_of o ∷ []) ≡ open_parts o ++ Done_part ∷ []
done-push o =
    let a : List NumberedPart = front_parts o.front in
    let b : List NumberedPart = blocks_parts o.blocks in
    ap (λ r. a ++ r) (blocks_parts-push o.blocks (block_of o)) ∙ sym (append_assoc a b (block_parts (block_of o)))
    ∙ sym (append_assoc (a ++ b) (Goals_part o.goals ∷ step_parts o.steps) (Done_part ∷ []))

-- a state that is known
found : (x n : State) (t : List NumberedPart) → ◌≡◌ {A = Option State} (Some x) (Some n) → shown x ≡ t → shown n ≡ t
found x n t e h = ap shown (sym (same_Some x n e)) ∙ h

to_front_shown : (m : State) (f : Front) → to_front m ≡ Some f → front_parts f ≡ shown m ++ at_front m
to_front_shown (tabling es) f e = ap front_parts (sym (same_Some (front es [] []) f e))
to_front_shown (placing es ps) f e = ap front_parts (sym (same_Some (front es ps []) f e))
to_front_shown (certifying g ls) f e = ap front_parts (sym (same_Some (with_certificate g ls) f e))
    ∙ ap (λ r. Head_part g.table g.places ∷ r) (certificate_parts-push g.certificates ls)
to_front_shown _ f e = absurd (cc)

to_block_shown : (m : State) (o : OpenBlock) → to_block m ≡ Some o → shown (opened o) ≡ shown m ++ at_front m
to_block_shown (closed f bs) o e = ap (λ x. shown (opened x)) (sym (same_Some (open_block f bs) o e)) ∙ sym (append-nil (parts_with f bs))
to_block_shown m o e = later m o e
  where
    later : (m : State) (o : OpenBlock) → option_map (λ f. open_block f []) (to_front m) ≡ Some o → shown (opened o) ≡ shown m ++ at_front m
    later m o e = let p : (f : Front) × (to_front m ≡ Some f) × (open_block f [] ≡ o) = option_map_some (λ f. open_block f []) (to_front m) o e in
        ap (λ x. shown (opened x)) (sym p.2) ∙ append-nil (front_parts p.0) ∙ to_front_shown m p.0 p.1

to_step_shown : (m : State) (o : OpenBlock) → to_step m ≡ Some o → open_parts o ≡ shown m ++ at_step m
to_step_shown (opened q) o e = go (nat_eq (length q.goals) 0) e
  where
    go : (b : Bool) → cond b None (Some (no_steps q)) ≡ Some o → open_parts o ≡ parts_with q.front q.blocks ++ Goals_part q.goals ∷ []
    go true e = absurd (cc)
    go false e = ap open_parts (sym (same_Some (no_steps q) o e))
to_step_shown (stepping q) o e = ap open_parts (sym (same_Some q o e)) ∙ sym (append-nil (open_parts q))
to_step_shown (simplifying q c) o e = ap open_parts (sym (same_Some (with_step q (Simplify_step c)) o e)) ∙ with_step-push q (Simplify_step c)
to_step_shown _ o e = absurd (cc)

give_why_shown : (o : OpenBlock) (fs : List OpenSplit) (w : WhyOf ℕ) → shown (give_why o fs w) ≡ open_parts o ++ at_why fs w
give_why_shown o [] w = with_step-push o (Reduce_step w)
give_why_shown o (f ∷ fs) w = go (give_why_shown o fs (Split_why f.chain f.term (push_why f.whys w))) (nat_eq (why_count f.whys + 1) f.count)
  where
    go : shown (give_why o fs (Split_why f.chain f.term (push_why f.whys w))) ≡ open_parts o ++ at_why fs (Split_why f.chain f.term (push_why f.whys w))
        → (b : Bool)
        → shown (cond b (give_why o fs (Split_why f.chain f.term (push_why f.whys w)))
        (reducing o (open_split f.chain f.term f.count (push_why f.whys w) ∷ fs) empty))
        ≡ open_parts o ++ cond b (at_why fs (Split_why f.chain f.term (push_why f.whys w))) []
    go ih true = ih
    go ih false = sym (append-nil (open_parts o))

nil : (xs : List NumberedPart) → xs ≡ xs ++ []
nil xs = sym (append-nil xs)

left_shown : (m n : State) (l : LinkOf ℕ) → on_left m l ≡ Some n → shown n ≡ shown m
left_shown (certifying f ls) n l e = found _ n _ e refl
left_shown (simplifying o c) n l e = let p : (d : ChainOf ℕ) × (add_left c l ≡ Some d) × (simplifying o d ≡ n) =
    option_map_some (λ d. simplifying o d) (add_left c l) n e in ap shown (sym p.2)
left_shown (reducing o fs c) n l e = let p : (d : ChainOf ℕ) × (add_left c l ≡ Some d) × (reducing o fs d ≡ n) =
    option_map_some (λ d. reducing o fs d) (add_left c l) n e in ap shown (sym p.2)
left_shown (joining m c) n l e = let p : (d : ChainOf ℕ) × (add_left c l ≡ Some d) × (joining m d ≡ n) =
    option_map_some (λ d. joining m d) (add_left c l) n e in ap shown (sym p.2)
left_shown _ n l e = absurd (cc)

right_shown : (m n : State) (l : LinkOf ℕ) → on_right m l ≡ Some n → shown n ≡ shown m
right_shown (simplifying o c) n l e = found _ n _ e refl
right_shown (reducing o fs c) n l e = found _ n _ e refl
right_shown (joining m c) n l e = found _ n _ e refl
right_shown _ n l e = absurd (cc)

chain_shown : (m n : State) (c : ChainOf ℕ) → give_chain m c ≡ Some n → shown n ≡ shown m
chain_shown (certifying f ls) n c e = let p : (ms : List (LinkOf ℕ)) × (in_last ls c ≡ Some ms) × (certifying f ms ≡ n) =
    option_map_some (λ ms. certifying f ms) (in_last ls c) n e in ap shown (sym p.2)
chain_shown (simplifying o x) n c e = let p : (y : ChainOf ℕ) × (in_right x.left x.right c ≡ Some y) × (simplifying o y ≡ n) =
    option_map_some (λ y. simplifying o y) (in_right x.left x.right c) n e in ap shown (sym p.2)
chain_shown (reducing o fs x) n c e = let p : (y : ChainOf ℕ) × (in_right x.left x.right c ≡ Some y) × (reducing o fs y ≡ n) =
    option_map_some (λ y. reducing o fs y) (in_right x.left x.right c) n e in ap shown (sym p.2)
chain_shown (joining m x) n c e = let p : (y : ChainOf ℕ) × (in_right x.left x.right c ≡ Some y) × (joining m y ≡ n) =
    option_map_some (λ y. joining m y) (in_right x.left x.right c) n e in ap shown (sym p.2)
chain_shown _ n c e = absurd (cc)

if_shown : (m n : State) → on_if m ≡ Some n → shown n ≡ shown m
if_shown m n e = let p : (q : State) × (give_chain m empty ≡ Some q) × (joining m empty ≡ n) =
    option_map_some (λ q. joining m empty) (give_chain m empty) n e in ap shown (sym p.2)

head_shown : (m n : State) (v : ℕ) → on_head m v ≡ Some n → shown n ≡ shown m
head_shown begin n v e = found _ n _ e refl
head_shown _ n v e = absurd (cc)

table_shown : (m n : State) (x : TableLine) → on_table m x ≡ Some n → shown n ≡ shown m
table_shown (tabling es) n x e = found _ n _ e refl
table_shown _ n x e = absurd (cc)

place_shown : (m n : State) (p : ℕ × ℕ) → on_place m p ≡ Some n → shown n ≡ shown m
place_shown (tabling es) n p e = found _ n _ e refl
place_shown (placing es ps) n p e = found _ n _ e refl
place_shown _ n p e = absurd (cc)

goal_shown : (m n : State) (a b : ℕ) → on_goal m a b ≡ Some n → shown n ≡ shown m
goal_shown (opened o) n a b e = found _ n _ e refl
goal_shown _ n a b e = absurd (cc)

given_shown : (m n : State) (p : ℕ × ℕ) → on_given m p ≡ Some n → shown n ≡ shown m
given_shown (opened o) n p e = let q : (gs : List GoalNames) × (add_given o.goals p ≡ Some gs) × (opened (with_goals o gs) ≡ n) =
    option_map_some (λ gs. opened (with_goals o gs)) (add_given o.goals p) n e in ap shown (sym q.2)
given_shown _ n p e = absurd (cc)

end_shown : (m n : State) → on_end m ≡ Some n → shown n ≡ shown m
end_shown (closed f bs) n e = found _ n _ e refl
end_shown _ n e = absurd (cc)

same_shown : (m n : State) → on_same m ≡ Some n → shown n ≡ shown m ++ at_same m
same_shown (reducing o fs c) n e = found _ n _ e (give_why_shown o fs (Same_why c))
same_shown (joining m c) n e = chain_shown m n c e ∙ nil (shown m)
same_shown _ n e = absurd (cc)

split_shown : (m n : State) (t k : ℕ) → on_split m t k ≡ Some n → shown n ≡ shown m ++ at_split m t k
split_shown (reducing o fs d) n t k e = found _ n _ e (go (nat_eq k 0))
  where
    go : (b : Bool) → shown (cond b (give_why o fs (Split_why d t no_why)) (reducing o (open_split d t k no_why ∷ fs) empty))
        ≡ open_parts o ++ cond b (at_why fs (Split_why d t no_why)) []
    go true = give_why_shown o fs (Split_why d t no_why)
    go false = nil (open_parts o)
split_shown _ n t k e = absurd (cc)

-- 1. Each line shows what it brings, and nothing that was shown is taken back.
pub next_shown : (m n : State) (l : Line) → next m l ≡ Some n → shown n ≡ shown m ++ brings m l
next_shown m n (head_line v) e = head_shown m n v e ∙ nil (shown m)
next_shown m n (table_line x) e = table_shown m n x e ∙ nil (shown m)
next_shown m n (place_line a b) e = place_shown m n (a, b) e ∙ nil (shown m)
next_shown m n certificate_line e = let p : (f : Front) × (to_front m ≡ Some f) × (certifying f [] ≡ n) =
    option_map_some (λ f. certifying f []) (to_front m) n e in ap shown (sym p.2) ∙ to_front_shown m p.0 p.1
next_shown m n block_line e = let p : (o : OpenBlock) × (to_block m ≡ Some o) × (opened o ≡ n) = option_map_some (λ o. opened o) (to_block m) n e in
    ap shown (sym p.2) ∙ to_block_shown m p.0 p.1
next_shown m n (goal_line a b) e = goal_shown m n a b e ∙ nil (shown m)
next_shown m n (given_line a b) e = given_shown m n (a, b) e ∙ nil (shown m)
next_shown m n simplify_line e = let p : (o : OpenBlock) × (to_step m ≡ Some o) × (simplifying o empty ≡ n) =
    option_map_some (λ o. simplifying o empty) (to_step m) n e in ap shown (sym p.2) ∙ to_step_shown m p.0 p.1
next_shown m n reduce_line e = let p : (o : OpenBlock) × (to_step m ≡ Some o) × (reducing o [] empty ≡ n) =
    option_map_some (λ o. reducing o [] empty) (to_step m) n e in ap shown (sym p.2) ∙ to_step_shown m p.0 p.1
next_shown m n derive_line e = let p : (o : OpenBlock) × (to_step m ≡ Some o) × (stepping (with_step o Derive_step) ≡ n) =
    option_map_some (λ o. stepping (with_step o Derive_step)) (to_step m) n e in
    ap shown (sym p.2) ∙ with_step-push p.0 Derive_step ∙ ap (λ r. r ++ Step_part Derive_step ∷ []) (to_step_shown m p.0 p.1)
    ∙ append_assoc (shown m) (at_step m) (Step_part Derive_step ∷ [])
next_shown m n (cases_line t) e = let p : (o : OpenBlock) × (to_step m ≡ Some o) × (stepping (with_step o (Cases_step t)) ≡ n) =
    option_map_some (λ o. stepping (with_step o (Cases_step t))) (to_step m) n e in
    ap shown (sym p.2) ∙ with_step-push p.0 (Cases_step t) ∙ ap (λ r. r ++ Step_part (Cases_step t) ∷ []) (to_step_shown m p.0 p.1)
    ∙ append_assoc (shown m) (at_step m) (Step_part (Cases_step t) ∷ [])
next_shown m n done_line e = let p : (o : OpenBlock) × (to_step m ≡ Some o) × (close_block o ≡ n) = option_map_some close_block (to_step m) n e in
    ap shown (sym p.2) ∙ done-push p.0 ∙ ap (λ r. r ++ Done_part ∷ []) (to_step_shown m p.0 p.1) ∙ append_assoc (shown m) (at_step m) (Done_part ∷ [])
next_shown m n same_line e = same_shown m n e
next_shown m n (split_line t k) e = split_shown m n t k e
next_shown m n if_line e = if_shown m n e ∙ nil (shown m)
next_shown m n (left_line l) e = under_test (is_bare l) (on_left m l) n e (λ b e. left_shown m n l e) ∙ nil (shown m)
next_shown m n (right_line l) e = under_test (is_bare l) (on_right m l) n e (λ b e. right_shown m n l e) ∙ nil (shown m)
next_shown m n end_line e = end_shown m n e ∙ nil (shown m)

pub run_shown : (m n : State) (ls : List Line) → run m ls ≡ Some n → (xs : List NumberedPart) × (shown n ≡ shown m ++ xs)
run_shown m n [] e = ([], ap shown (sym (same_Some m n e)) ∙ nil (shown m))
run_shown m n (l ∷ ls) e = go (next m l) refl e (λ q. run_shown q n ls)
  where
    go : (o : Option State) → next m l ≡ o → option_and_then (λ q. run q ls) o ≡ Some n
        → ((q : State) → run q ls ≡ Some n → (xs : List NumberedPart) × (shown n ≡ shown q ++ xs)) → (xs : List NumberedPart) × (shown n ≡ shown m ++ xs)
    go None f e ih = absurd (cc)
    go (Some q) f e ih = let r : (xs : List NumberedPart) × (shown n ≡ shown q ++ xs) = ih q e in
        (brings m l ++ r.0, r.1 ∙ ap (λ x. x ++ r.0) (next_shown m q l f) ∙ append_assoc (shown m) (brings m l) r.0)

-- 2. What lines show are the first parts of every proof whose lines begin with them.
pub shown_first : (ls rest : List Line) (m : State) (p : NumberedProof) → run begin ls ≡ Some m → HasParts p → proof_lines p ≡ ls ++ rest
    → (xs : List NumberedPart) × (parts_of p ≡ shown m ++ xs)
shown_first ls rest m p e h f =
    let a : (q : State) × (run begin ls ≡ Some q) × (run q rest ≡ Some (ended (front p.table p.places p.certificates) p.blocks))
    = run-front begin (ended (front p.table p.places p.certificates) p.blocks) ls rest (ap (run begin) (sym f) ∙ proof_run p h) in
    let s : a.0 ≡ m = same_Some a.0 m (sym a.1 ∙ e) in
    let P : State → Type 0 = λ x. run x rest ≡ Some (ended (front p.table p.places p.certificates) p.blocks) in
    run_shown m (ended (front p.table p.places p.certificates) p.blocks) rest (subst P s a.2)
