-- Every line of a proof's text is read.
use Rattle.std.specs.Prelude.{◌≡◌, ℕ, ◌+◌, ◌<◌, List, [], ◌∷◌, ◌++◌, length, refl, Option, Some, None, cond, nat_eq, Bool, true, false}
use Rattle.std.specs.Option.{option_map, option_and_then}
use Rattle.std.specs.List.{AllByRecursion}
use Rattle.std.proofs.Common.{sym, ◌∙◌, ap, arith, append_assoc, append-nil, zero-add}
use Rattle.std.proofs.lemmas.Bool.{eq-eqb}
use Rattle.circ_proof.specs.Proof.{GoalNames}
use Rattle.circ_proof.specs.Plain.{LinkOf, LinksOf, ChainsOf, Equation_link, Hypothesis_link, Assumption_link, Content_link, no_link, more_links, no_chain}
use Rattle.circ_proof.specs.Plain.{more_chains, links_in, row_of, ChainOf, WhyOf, WhysOf, Same_why, Split_why, no_why, more_whys}
use Rattle.circ_line.specs.Line.{TableLine, Line, certificate_line, block_line, given_line}
use Rattle.circ_line.specs.Line.{simplify_line, reduce_line, derive_line, cases_line, done_line, same_line, split_line, if_line, left_line, right_line, end_line}
use Rattle.circ_proof.specs.Counting.{why_count}
use Rattle.circ_grammar.specs.Grammar.{NumberedStep, Simplify_step, Reduce_step, Derive_step, Cases_step, NumberedTable, NumberedBlock, NumberedProof, lines_of}
use Rattle.circ_grammar.specs.Grammar.{bare, is_bare, conds_lines, left_row, right_row, link_conds, head_lines, given_lines}
use Rattle.circ_grammar.specs.Grammar.{table_lines, place_lines, left_lines, right_lines, goal_lines, chain_lines, why_lines, whys_lines, step_lines}
use Rattle.circ_grammar.specs.Grammar.{certificate_lines, block_lines, proof_lines, HasGoals, HasParts, BeginsProof}
use Rattle.circ_grammar.specs.Machine.{Front, OpenBlock, OpenSplit, State, begin, tabling, placing, certifying, opened, stepping, simplifying, reducing}
use Rattle.circ_grammar.specs.Machine.{joining, closed, ended, empty, front, numbered_table, no_steps, open_block, with_goals, with_given, add_given, with_step, push_why}
use Rattle.circ_grammar.specs.Machine.{push_chain, add_chain, in_last, in_right, give_chain, chain_of, add_left, add_right, open_split, give_why, to_front}
use Rattle.circ_grammar.specs.Machine.{to_block, to_step, next, run}
use Rattle.circ_grammar.proofs.Spelled.{why_count-push, close_block}

-- one line
step : (m n : State) (l : Line) (k : List Line) → next m l ≡ Some n → run m (l ∷ k) ≡ run n k
step m n l k e = ap (λ o. option_and_then (λ q. run q k) o) e

abbrev pub join : WhysOf ℕ → WhysOf ℕ → WhysOf ℕ
join no_why vs = vs
join (more_whys w ws) vs = more_whys w (join ws vs)

join-push : (ds : WhysOf ℕ) (w : WhyOf ℕ) (vs : WhysOf ℕ) → join (push_why ds w) vs ≡ join ds (more_whys w vs)
join-push no_why w vs = refl
join-push (more_whys d ds) w vs = ap (more_whys d) (join-push ds w vs)

push-join : (ds : WhysOf ℕ) (w : WhyOf ℕ) → push_why ds w ≡ join ds (more_whys w no_why)
push-join no_why w = refl
push-join (more_whys d ds) w = ap (more_whys d) (push-join ds w)

table_run : (v : ℕ) (es xs : List TableLine) (k : List Line)
    → run (tabling (numbered_table v es)) (lines_of table_lines xs k) ≡ run (tabling (numbered_table v (es ++ xs))) k
table_run v es [] k = ap (λ r. run (tabling (numbered_table v r)) k) (sym (append-nil es))
table_run v es (x ∷ xs) k = table_run v (es ++ (x ∷ [])) xs k ∙ ap (λ r. run (tabling (numbered_table v r)) k) (append_assoc es (x ∷ []) xs)

places_more : (es : NumberedTable) (ps xs : List (ℕ × ℕ)) (k : List Line) → run (placing es ps) (lines_of place_lines xs k) ≡ run (placing es (ps ++ xs)) k
places_more es ps [] k = ap (λ r. run (placing es r) k) (sym (append-nil ps))
places_more es ps (x ∷ xs) k = places_more es (ps ++ (x ∷ [])) xs k ∙ ap (λ r. run (placing es r) k) (append_assoc ps (x ∷ []) xs)

abbrev placed : NumberedTable → List (ℕ × ℕ) → State
placed es [] = tabling es
placed es (p ∷ ps) = placing es (p ∷ ps)

places_run : (es : NumberedTable) (xs : List (ℕ × ℕ)) (k : List Line) → run (tabling es) (lines_of place_lines xs k) ≡ run (placed es xs) k
places_run es [] k = refl
places_run es (x ∷ xs) k = places_more es (x ∷ []) xs k

placed_front : (es : NumberedTable) (ps : List (ℕ × ℕ)) → to_front (placed es ps) ≡ Some (front es ps [])
placed_front es [] = refl
placed_front es (p ∷ ps) = refl

-- Links of conditions, each with its chains. A place of links holds those that have come: the next line of its side puts one last, and the chain of a
-- condition goes to the last of them.

pub record Holds (line : LinkOf ℕ → Line) (put : List (LinkOf ℕ) → State) : Type 0 where
  pub takes : (xs : List (LinkOf ℕ)) (l : LinkOf ℕ) → is_bare l ≡ true → next (put xs) (line l) ≡ Some (put (xs ++ (l ∷ [])))
  pub gives : (x : LinkOf ℕ) (xs : List (LinkOf ℕ)) (c : ChainOf ℕ) → give_chain (put (x ∷ xs)) c ≡ option_map put (in_last (x ∷ xs) c)

twice : {A B C : Type 0} (f : B → C) (g : A → B) (o : Option A) → option_map f (option_map g o) ≡ option_map (λ x. f (g x)) o
twice f g None = refl
twice f g (Some x) = refl

tested : {X : Type 0} (b : Bool) (o : Option X) → b ≡ true → cond b o None ≡ o
tested b o e = ap (λ x. cond x o None) e

certificate_holds : (f : Front) → Holds left_line (λ ls. certifying f ls)
certificate_holds f = record { takes = λ xs l b. tested (is_bare l) _ b; gives = λ x xs c. refl }

-- links on the left, and then those on the right, of a chain that stands so
left_holds : (at : ChainOf ℕ → State) → ((c : ChainOf ℕ) (l : LinkOf ℕ) → next (at c) (left_line l) ≡ cond (is_bare l) (option_map at (add_left c l)) None)
    → ((d c : ChainOf ℕ) → give_chain (at d) c ≡ option_map at (in_right d.left d.right c)) → Holds left_line (λ ls. at (chain_of ls []))
left_holds at n g = record {
  takes = λ xs l b. n (chain_of xs []) l ∙ tested (is_bare l) _ b;
  gives = λ x xs c. g (chain_of (x ∷ xs) []) c ∙ twice at (λ ms. chain_of ms []) (in_last (x ∷ xs) c);
}

right_holds : (at : ChainOf ℕ → State) (ls : List (LinkOf ℕ))
    → ((c : ChainOf ℕ) (l : LinkOf ℕ) → next (at c) (right_line l) ≡ cond (is_bare l) (Some (at (add_right c l))) None)
    → ((d c : ChainOf ℕ) → give_chain (at d) c ≡ option_map at (in_right d.left d.right c)) → Holds right_line (λ rs. at (chain_of ls rs))
right_holds at ls n g = record {
  takes = λ xs l b. n (chain_of ls xs) l ∙ tested (is_bare l) _ b;
  gives = λ x xs c. g (chain_of ls (x ∷ xs)) c ∙ twice at (λ ms. chain_of ls ms) (in_last (x ∷ xs) c);
}

bare_bare : (l : LinkOf ℕ) → is_bare (bare l) ≡ true
bare_bare (Equation_link n w p ts cs) = refl
bare_bare (Hypothesis_link n w p ts cs) = refl
bare_bare (Assumption_link n w p) = refl
bare_bare (Content_link f p t) = refl

abbrev join_chains : ChainsOf ℕ → ChainsOf ℕ → ChainsOf ℕ
join_chains no_chain cs = cs
join_chains (more_chains l r ds) cs = more_chains l r (join_chains ds cs)

row_again : (r : LinksOf ℕ) → row_of (links_in r) ≡ r
row_again no_link = refl
row_again (more_links l ls) = ap (more_links l) (row_again ls)

join_pushed : (ds : ChainsOf ℕ) (l r : LinksOf ℕ) (cs : ChainsOf ℕ)
    → join_chains (push_chain ds (chain_of (links_in l) (links_in r))) cs ≡ join_chains ds (more_chains l r cs)
join_pushed no_chain l r cs = λ i. more_chains (row_again l i) (row_again r i) cs
join_pushed (more_chains x y ds) l r cs = ap (more_chains x y) (join_pushed ds l r cs)

join_none : (ds : ChainsOf ℕ) → join_chains ds no_chain ≡ ds
join_none no_chain = refl
join_none (more_chains l r ds) = ap (more_chains l r) (join_none ds)

-- the last of links takes a chain, whatever comes before it
last_given : (xs : List (LinkOf ℕ)) (l m : LinkOf ℕ) (c : ChainOf ℕ) → add_chain l c ≡ Some m → in_last (xs ++ (l ∷ [])) c ≡ Some (xs ++ (m ∷ []))
last_given [] l m c e = ap (option_map (λ x. x ∷ [])) e
last_given (x ∷ []) l m c e = ap (option_map (λ r. x ∷ r)) (last_given [] l m c e)
last_given (x ∷ y ∷ xs) l m c e = ap (option_map (λ r. x ∷ r)) (last_given (y ∷ xs) l m c e)

module _ (line : LinkOf ℕ → Line) (put : List (LinkOf ℕ) → State) (h : Holds line put) where
  -- the last link has a chain more
  put_given : (xs : List (LinkOf ℕ)) (l m : LinkOf ℕ) (c : ChainOf ℕ) → add_chain l c ≡ Some m
      → give_chain (put (xs ++ (l ∷ []))) c ≡ Some (put (xs ++ (m ∷ [])))
  put_given [] l m c e = h.gives l [] c ∙ ap (option_map put) (last_given [] l m c e)
  put_given (x ∷ xs) l m c e = h.gives x (xs ++ (l ∷ [])) c ∙ ap (option_map put) (last_given (x ∷ xs) l m c e)

  if_opens : (xs : List (LinkOf ℕ)) (l m : LinkOf ℕ) → add_chain l empty ≡ Some m
      → next (put (xs ++ (l ∷ []))) if_line ≡ Some (joining (put (xs ++ (l ∷ []))) empty)
  if_opens xs l m e = ap (option_map (λ n. joining (put (xs ++ (l ∷ []))) empty)) (put_given xs l m empty e)

joining_left : (m : State) → Holds left_line (λ ls. joining m (chain_of ls []))
joining_left m = left_holds (λ c. joining m c) (λ c l. refl) (λ d c. refl)

joining_right : (m : State) (ls : List (LinkOf ℕ)) → Holds right_line (λ rs. joining m (chain_of ls rs))
joining_right m ls = right_holds (λ c. joining m c) ls (λ c l. refl) (λ d c. refl)

-- the kinds of links with conditions
abbrev WithConds : (ChainsOf ℕ → LinkOf ℕ) → Type 0
WithConds at = (ds : ChainsOf ℕ) (c : ChainOf ℕ) → add_chain (at ds) c ≡ Some (at (push_chain ds c))

mutual
  conds_run : (line : LinkOf ℕ → Line) (put : List (LinkOf ℕ) → State) → Holds line put → (at : ChainsOf ℕ → LinkOf ℕ) → WithConds at
      → (xs : List (LinkOf ℕ)) (ds cs : ChainsOf ℕ) (k : List Line)
      → run (put (xs ++ (at ds ∷ []))) (conds_lines cs k) ≡ run (put (xs ++ (at (join_chains ds cs) ∷ []))) k
  conds_run line put h at w xs ds no_chain k = ap (λ c. run (put (xs ++ (at c ∷ []))) k) (sym (join_none ds))
  conds_run line put h at w xs ds (more_chains l r cs) k =
      let m : State = put (xs ++ (at ds ∷ [])) in
      let c : ChainOf ℕ = chain_of (links_in l) (links_in r) in
      step m (joining m empty) if_line _ (if_opens line put h xs (at ds) (at (push_chain ds empty)) (w ds empty))
      ∙ left_row_run m [] l (right_row r (same_line ∷ conds_lines cs k))
      ∙ right_row_run m (links_in l) [] r (same_line ∷ conds_lines cs k)
      ∙ step (joining m c) (put (xs ++ (at (push_chain ds c) ∷ []))) same_line _ (put_given line put h xs (at ds) (at (push_chain ds c)) c (w ds c))
      ∙ conds_run line put h at w xs (push_chain ds c) cs k
      ∙ ap (λ z. run (put (xs ++ (at z ∷ []))) k) (join_pushed ds l r cs)

  link_run : (line : LinkOf ℕ → Line) (put : List (LinkOf ℕ) → State) → Holds line put → (xs : List (LinkOf ℕ)) (l : LinkOf ℕ) (k : List Line)
      → run (put xs) (line (bare l) ∷ link_conds l k) ≡ run (put (xs ++ (l ∷ []))) k
  link_run line put h xs (Equation_link n w p ts cs) k =
      step (put xs) (put (xs ++ (Equation_link n w p ts no_chain ∷ []))) (line (Equation_link n w p ts no_chain)) _
      (h.takes xs (Equation_link n w p ts no_chain) refl)
      ∙ conds_run line put h (Equation_link n w p ts) (λ ds c. refl) xs no_chain cs k
  link_run line put h xs (Hypothesis_link n w p ts cs) k =
      step (put xs) (put (xs ++ (Hypothesis_link n w p ts no_chain ∷ []))) (line (Hypothesis_link n w p ts no_chain)) _
      (h.takes xs (Hypothesis_link n w p ts no_chain) refl)
      ∙ conds_run line put h (Hypothesis_link n w p ts) (λ ds c. refl) xs no_chain cs k
  link_run line put h xs (Assumption_link n w p) k =
      step (put xs) (put (xs ++ (Assumption_link n w p ∷ []))) (line (Assumption_link n w p)) k (h.takes xs (Assumption_link n w p) refl)
  link_run line put h xs (Content_link f p t) k =
      step (put xs) (put (xs ++ (Content_link f p t ∷ []))) (line (Content_link f p t)) k (h.takes xs (Content_link f p t) refl)

  left_row_run : (m : State) (xs : List (LinkOf ℕ)) (r : LinksOf ℕ) (k : List Line)
      → run (joining m (chain_of xs [])) (left_row r k) ≡ run (joining m (chain_of (xs ++ links_in r) [])) k
  left_row_run m xs no_link k = ap (λ z. run (joining m (chain_of z [])) k) (sym (append-nil xs))
  left_row_run m xs (more_links l ls) k =
      link_run left_line (λ ls. joining m (chain_of ls [])) (joining_left m) xs l (left_row ls k)
      ∙ left_row_run m (xs ++ (l ∷ [])) ls k ∙ ap (λ z. run (joining m (chain_of z [])) k) (append_assoc xs (l ∷ []) (links_in ls))

  right_row_run : (m : State) (ls xs : List (LinkOf ℕ)) (r : LinksOf ℕ) (k : List Line)
      → run (joining m (chain_of ls xs)) (right_row r k) ≡ run (joining m (chain_of ls (xs ++ links_in r))) k
  right_row_run m ls xs no_link k = ap (λ z. run (joining m (chain_of ls z)) k) (sym (append-nil xs))
  right_row_run m ls xs (more_links l rs) k =
      link_run right_line (λ rs. joining m (chain_of ls rs)) (joining_right m ls) xs l (right_row rs k)
      ∙ right_row_run m ls (xs ++ (l ∷ [])) rs k ∙ ap (λ z. run (joining m (chain_of ls z)) k) (append_assoc xs (l ∷ []) (links_in rs))

-- links that are read where they stand
links_run : (line : LinkOf ℕ → Line) (put : List (LinkOf ℕ) → State) → Holds line put → (xs ys : List (LinkOf ℕ)) (k : List Line)
    → run (put xs) (lines_of (λ l k. line (bare l) ∷ link_conds l k) ys k) ≡ run (put (xs ++ ys)) k
links_run line put h xs [] k = ap (λ r. run (put r) k) (sym (append-nil xs))
links_run line put h xs (y ∷ ys) k = link_run line put h xs y _ ∙ links_run line put h (xs ++ (y ∷ [])) ys k
    ∙ ap (λ r. run (put r) k) (append_assoc xs (y ∷ []) ys)

certificate_run : (f : Front) (ls xs : List (LinkOf ℕ)) (k : List Line) → run (certifying f ls) (lines_of left_lines xs k) ≡ run (certifying f (ls ++ xs)) k
certificate_run f ls xs k = links_run left_line (λ ls. certifying f ls) (certificate_holds f) ls xs k

certificates_run : (m : State) (es : NumberedTable) (ps : List (ℕ × ℕ)) (cs xs : List (List (LinkOf ℕ))) (k : List Line) → to_front m ≡ Some (front es ps cs)
    → (n : State) × (to_front n ≡ Some (front es ps (cs ++ xs))) × (run m (lines_of certificate_lines xs k) ≡ run n k)
certificates_run m es ps cs [] k e = (m, e ∙ ap (λ r. Some (front es ps r)) (sym (append-nil cs)), refl)
certificates_run m es ps cs (x ∷ xs) k e =
    let r : (n : State) × (to_front n ≡ Some (front es ps ((cs ++ (x ∷ [])) ++ xs)))
    × (run (certifying (front es ps cs) x) (lines_of certificate_lines xs k) ≡ run n k) =
    certificates_run (certifying (front es ps cs) x) es ps (cs ++ (x ∷ [])) xs k refl in (
      r.0,
      r.1 ∙ ap (λ c. Some (front es ps c)) (append_assoc cs (x ∷ []) xs),
      step m (certifying (front es ps cs) []) certificate_line _ (ap (λ o. option_map (λ f. certifying f []) o) e)
          ∙ (certificate_run (front es ps cs) [] x _ ∙ r.2),
    )

chain_reduce : (o : OpenBlock) (fs : List OpenSplit) (c : ChainOf ℕ) (k : List Line) → run (reducing o fs empty) (chain_lines c k) ≡ run (reducing o fs c) k
chain_reduce o fs c k =
    links_run left_line (λ ls. reducing o fs (chain_of ls [])) (left_holds (λ c. reducing o fs c) (λ c l. refl) (λ d c. refl)) [] c.left
    (lines_of right_lines c.right k)
    ∙ links_run right_line (λ rs. reducing o fs (chain_of c.left rs)) (right_holds (λ c. reducing o fs c) c.left (λ c l. refl) (λ d c. refl)) [] c.right k

chain_simplify : (o : OpenBlock) (c : ChainOf ℕ) (k : List Line) → run (simplifying o empty) (chain_lines c k) ≡ run (simplifying o c) k
chain_simplify o c k =
    links_run left_line (λ ls. simplifying o (chain_of ls [])) (left_holds (λ c. simplifying o c) (λ c l. refl) (λ d c. refl)) [] c.left
    (lines_of right_lines c.right k)
    ∙ links_run right_line (λ rs. simplifying o (chain_of c.left rs)) (right_holds (λ c. simplifying o c) c.left (λ c l. refl) (λ d c. refl)) [] c.right k

pub no_zero : (n : ℕ) → nat_eq (n + 1) 0 ≡ false
no_zero n = grind arith

pub not_eq : (a b : ℕ) → a < b → nat_eq a b ≡ false
not_eq a b h = grind arith

-- what is left of a split's whys after one
whys_rest : (o : OpenBlock) (fs : List OpenSplit) (c : ChainOf ℕ) (t n : ℕ) (ds : WhysOf ℕ) (w : WhyOf ℕ) (vs : WhysOf ℕ) (k : List Line)
    → why_count ds + (why_count vs + 1) ≡ n
    → (0 < why_count vs → run (reducing o (open_split c t n (push_why ds w) ∷ fs) empty) (whys_lines vs k)
    ≡ run (give_why o fs (Split_why c t (join (push_why ds w) vs))) k)
    → run (give_why o (open_split c t n ds ∷ fs) w) (whys_lines vs k) ≡ run (give_why o fs (Split_why c t (join ds (more_whys w vs)))) k
whys_rest o fs c t n ds w no_why k e ih =
    ap (λ b. run (cond b (give_why o fs (Split_why c t (push_why ds w))) (reducing o (open_split c t n (push_why ds w) ∷ fs) empty)) k)
    (eq-eqb (why_count ds + 1) n (omega arith))
    ∙ ap (λ r. run (give_why o fs (Split_why c t r)) k) (push-join ds w)
whys_rest o fs c t n ds w (more_whys v vs) k e ih =
    ap (λ b. run (cond b (give_why o fs (Split_why c t (push_why ds w))) (reducing o (open_split c t n (push_why ds w) ∷ fs) empty))
    (why_lines v (whys_lines vs k))) (not_eq (why_count ds + 1) n (omega arith))
    ∙ (ih (omega arith) ∙ ap (λ r. run (give_why o fs (Split_why c t r)) k) (join-push ds w (more_whys v vs)))

split_rest : (o : OpenBlock) (fs : List OpenSplit) (c : ChainOf ℕ) (t : ℕ) (ws : WhysOf ℕ) (k : List Line)
    → (0 < why_count ws → run (reducing o (open_split c t (why_count ws) no_why ∷ fs) empty) (whys_lines ws k) ≡ run (give_why o fs (Split_why c t ws)) k)
    → run (reducing o fs c) (split_line t (why_count ws) ∷ whys_lines ws k) ≡ run (give_why o fs (Split_why c t ws)) k
split_rest o fs c t no_why k ih = refl
split_rest o fs c t (more_whys w vs) k ih = step (reducing o fs c) (reducing o (open_split c t (why_count vs + 1) no_why ∷ fs) empty)
    (split_line t (why_count vs + 1)) (why_lines w (whys_lines vs k))
    (ap (λ b. Some (cond b (give_why o fs (Split_why c t no_why)) (reducing o (open_split c t (why_count vs + 1) no_why ∷ fs) empty))) (no_zero (why_count vs)))
    ∙ ih (omega arith)

pub not_empty : (n : ℕ) → 0 < n → nat_eq n 0 ≡ false
not_empty n h = grind arith

mutual
  pub why_run : (o : OpenBlock) (fs : List OpenSplit) (w : WhyOf ℕ) (k : List Line) → run (reducing o fs empty) (why_lines w k) ≡ run (give_why o fs w) k
  why_run o fs (Same_why c) k = chain_reduce o fs c (same_line ∷ k)
  why_run o fs (Split_why c t ws) k = chain_reduce o fs c (split_line t (why_count ws) ∷ whys_lines ws k)
      ∙ split_rest o fs c t ws k (λ h. whys_run o fs c t (why_count ws) no_why ws k h (zero-add (why_count ws)))

  pub whys_run : (o : OpenBlock) (fs : List OpenSplit) (c : ChainOf ℕ) (t n : ℕ) (ds : WhysOf ℕ) (ws : WhysOf ℕ) (k : List Line) → 0 < why_count ws
      → why_count ds + why_count ws ≡ n
      → run (reducing o (open_split c t n ds ∷ fs) empty) (whys_lines ws k) ≡ run (give_why o fs (Split_why c t (join ds ws))) k
  whys_run o fs c t n ds no_why k h e = absurd (omega arith)
  whys_run o fs c t n ds (more_whys w vs) k h e = why_run o (open_split c t n ds ∷ fs) w (whys_lines vs k)
      ∙ whys_rest o fs c t n ds w vs k e (λ z. whys_run o fs c t n (push_why ds w) vs k z (omega (arith, why_count-push ds w)))

abbrev pub with_steps : OpenBlock → List NumberedStep → OpenBlock
with_steps o ss = record { front = o.front; blocks = o.blocks; goals = o.goals; steps = o.steps ++ ss }

abbrev goals_with : OpenBlock → List GoalNames → OpenBlock
goals_with o gs = with_goals o (o.goals ++ gs)

last_with : (gs : List GoalNames) (g : GoalNames) (p : ℕ × ℕ) → add_given (gs ++ (g ∷ [])) p ≡ Some (gs ++ (with_given g p ∷ []))
last_with [] g p = refl
last_with (x ∷ []) g p = refl
last_with (x ∷ y ∷ gs) g p = ap (option_map (λ r. x ∷ r)) (last_with (y ∷ gs) g p)

abbrev names_with : List (ℕ × ℕ) → ℕ → ℕ → GoalNames
names_with ps a b = record { conds = ps; left = a; right = b }

-- the conditions of the last goal
givens_run : (o : OpenBlock) (gs : List GoalNames) (a b : ℕ) (ps qs : List (ℕ × ℕ)) (k : List Line)
    → run (opened (with_goals o (gs ++ (names_with ps a b ∷ [])))) (lines_of given_lines qs k) ≡ run (opened (with_goals o (gs ++ (names_with (ps ++ qs) a b ∷ [])))) k
givens_run o gs a b ps [] k = ap (λ r. run (opened (with_goals o (gs ++ (names_with r a b ∷ [])))) k) (sym (append-nil ps))
givens_run o gs a b ps (q ∷ qs) k =
    step (opened (with_goals o (gs ++ (names_with ps a b ∷ [])))) (opened (with_goals o (gs ++ (names_with (ps ++ (q ∷ [])) a b ∷ [])))) (given_line q.0 q.1) _
    (ap (option_map (λ r. opened (with_goals o r))) (last_with gs (names_with ps a b) q))
    ∙ givens_run o gs a b (ps ++ (q ∷ [])) qs k
    ∙ ap (λ r. run (opened (with_goals o (gs ++ (names_with r a b ∷ [])))) k) (append_assoc ps (q ∷ []) qs)

goals_run : (o : OpenBlock) (gs : List GoalNames) (k : List Line) → run (opened o) (lines_of goal_lines gs k) ≡ run (opened (goals_with o gs)) k
goals_run o [] k = ap (λ r. run (opened (with_goals o r)) k) (sym (append-nil o.goals))
goals_run o (g ∷ gs) k =
    givens_run o o.goals g.left g.right [] g.conds (lines_of goal_lines gs k)
    ∙ goals_run (with_goals o (o.goals ++ (g ∷ []))) gs k ∙ ap (λ r. run (opened (with_goals o r)) k) (append_assoc o.goals (g ∷ []) gs)

one_step : (m : State) (o : OpenBlock) (s : NumberedStep) (k : List Line) → to_step m ≡ Some o → (n : State) × (to_step n ≡ Some (with_step o s))
    × (run m (step_lines s k) ≡ run n k)
one_step m o (Simplify_step c) k e = (
  simplifying o c,
  refl,
  step m (simplifying o empty) simplify_line _ (ap (λ r. option_map (λ q. simplifying q empty) r) e) ∙ chain_simplify o c k,
)
one_step m o (Reduce_step w) k e = (
  stepping (with_step o (Reduce_step w)),
  refl,
  step m (reducing o [] empty) reduce_line _ (ap (λ r. option_map (λ q. reducing q [] empty) r) e) ∙ why_run o [] w k,
)
one_step m o Derive_step k e = (
  stepping (with_step o Derive_step),
  refl,
  step m (stepping (with_step o Derive_step)) derive_line k (ap (λ r. option_map (λ q. stepping (with_step q Derive_step)) r) e),
)
one_step m o (Cases_step t) k e = (
  stepping (with_step o (Cases_step t)),
  refl,
  step m (stepping (with_step o (Cases_step t))) (cases_line t) k (ap (λ r. option_map (λ q. stepping (with_step q (Cases_step t))) r) e),
)

steps_run : (m : State) (o : OpenBlock) (ss : List NumberedStep) (k : List Line) → to_step m ≡ Some o → (n : State) × (to_step n ≡ Some (with_steps o ss))
    × (run m (lines_of step_lines ss k) ≡ run n k)
steps_run m o [] k e = (m, e ∙ ap (λ r. Some (record { front = o.front; blocks = o.blocks; goals = o.goals; steps = r })) (sym (append-nil o.steps)), refl)
steps_run m o (s ∷ ss) k e =
    let a : (n : State) × (to_step n ≡ Some (with_step o s)) × (run m (step_lines s (lines_of step_lines ss k)) ≡ run n (lines_of step_lines ss k)) =
    one_step m o s (lines_of step_lines ss k) e in
    let b : (n : State) × (to_step n ≡ Some (with_steps (with_step o s) ss)) × (run a.0 (lines_of step_lines ss k) ≡ run n k) =
    steps_run a.0 (with_step o s) ss k a.1 in
    (b.0, b.1 ∙ ap (λ r. Some (record { front = o.front; blocks = o.blocks; goals = o.goals; steps = r })) (append_assoc o.steps (s ∷ []) ss), a.2 ∙ b.2)

block_run : (m : State) (f : Front) (bs : List NumberedBlock) (b : NumberedBlock) (k : List Line) → HasGoals b → to_block m ≡ Some (open_block f bs)
    → run m (block_lines b k) ≡ run (closed f (bs ++ (b ∷ []))) k
block_run m f bs b k h e = step m (opened (open_block f bs)) block_line _ (ap (λ r. option_map (λ o. opened o) r) e)
    ∙ (goals_run (open_block f bs) b.goals (lines_of step_lines b.steps (done_line ∷ k))
    ∙ (a.2 ∙ step a.0 (closed f (bs ++ (b ∷ []))) done_line k (ap (λ r. option_map close_block r) a.1)))
  where
    a : (n : State) × (to_step n ≡ Some (with_steps (no_steps (goals_with (open_block f bs) b.goals)) b.steps))
        × (run (opened (goals_with (open_block f bs) b.goals)) (lines_of step_lines b.steps (done_line ∷ k)) ≡ run n (done_line ∷ k))
    a = steps_run (opened (goals_with (open_block f bs) b.goals)) (no_steps (goals_with (open_block f bs) b.goals)) b.steps (done_line ∷ k)
        (ap (λ z. cond z None (Some (no_steps (goals_with (open_block f bs) b.goals)))) (not_empty (length b.goals) h))

blocks_run : (m : State) (f : Front) (bs : List NumberedBlock) (b : NumberedBlock) (xs : List NumberedBlock) (k : List Line) → HasGoals b
    → AllByRecursion HasGoals xs → to_block m ≡ Some (open_block f bs)
    → run m (lines_of block_lines (b ∷ xs) k) ≡ run (closed f (bs ++ (b ∷ xs))) k
blocks_run m f bs b [] k h hs e = block_run m f bs b k h e
blocks_run m f bs b (x ∷ xs) k h hs e = block_run m f bs b (lines_of block_lines (x ∷ xs) k) h e
    ∙ (blocks_run (closed f (bs ++ (b ∷ []))) f (bs ++ (b ∷ [])) x xs k hs.0 hs.1 refl
    ∙ ap (λ r. run (closed f r) k) (append_assoc bs (b ∷ []) (x ∷ xs)))

front_block : (m : State) (f : Front) → to_front m ≡ Some f → to_block m ≡ Some (open_block f [])
front_block (tabling es) f e = ap (option_map (λ f. open_block f [])) e
front_block (placing es ps) f e = ap (option_map (λ f. open_block f [])) e
front_block (certifying g ls) f e = ap (option_map (λ f. open_block f [])) e
front_block _ f e = absurd (cc)

parts_run : (es : NumberedTable) (ps : List (ℕ × ℕ)) (cs : List (List (LinkOf ℕ))) (bs : List NumberedBlock) → 0 < length bs → AllByRecursion HasGoals bs
    → run begin (head_lines es (lines_of place_lines ps (lines_of certificate_lines cs (lines_of block_lines bs (end_line ∷ [])))))
    ≡ Some (ended (front es ps cs) bs)
parts_run es ps cs [] h hs = absurd (omega arith)
parts_run es ps cs (b ∷ xs) h hs =
    let r : (n : State) × (to_front n ≡ Some (front es ps cs))
    × (run (placed es ps) (lines_of certificate_lines cs (lines_of block_lines (b ∷ xs) (end_line ∷ [])))
    ≡ run n (lines_of block_lines (b ∷ xs) (end_line ∷ [])))
    = certificates_run (placed es ps) es ps [] cs _ (placed_front es ps) in
    table_run es.version [] es.lines _ ∙ (places_run es ps _ ∙ (r.2 ∙ blocks_run r.0 (front es ps cs) [] b xs (end_line ∷ []) hs.0 hs.1 (front_block r.0 (front es ps cs) r.1)))

-- The lines of a proof lead to that proof.
pub proof_run : (p : NumberedProof) → HasParts p → run begin (proof_lines p) ≡ Some (ended (front p.table p.places p.certificates) p.blocks)
proof_run p h = parts_run p.table p.places p.certificates p.blocks h.0 h.1

-- The first lines of what is read are read.
pub run-front : (m n : State) (a b : List Line) → run m (a ++ b) ≡ Some n → (q : State) × (run m a ≡ Some q) × (run q b ≡ Some n)
run-front m n [] b e = (m, refl, e)
run-front m n (l ∷ a) b e = go (next m l) (λ q. run-front q n a b) e
  where
    go : (o : Option State) → ((q : State) → run q (a ++ b) ≡ Some n → (r : State) × (run q a ≡ Some r) × (run r b ≡ Some n))
        → option_and_then (λ q. run q (a ++ b)) o ≡ Some n
        → (r : State) × (option_and_then (λ q. run q a) o ≡ Some r) × (run r b ≡ Some n)
    go None ih e = absurd (cc)
    go (Some q) ih e = ih q e

pub begins_run : (ls : List Line) → BeginsProof ls → (m : State) × (run begin ls ≡ Some m)
begins_run ls (p, rest, h, e) =
    let r : (q : State) × (run begin ls ≡ Some q) × (run q rest ≡ Some (ended (front p.table p.places p.certificates) p.blocks)) =
    run-front begin _ ls rest (ap (run begin) (sym e) ∙ proof_run p h) in (r.0, r.1)
