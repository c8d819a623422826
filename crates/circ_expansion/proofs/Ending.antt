-- Each step counts a unit or leaves tasks that weigh less, so that the pending ends.
use Rattle.std.proofs.Common.{◌≡◌, ◌≤◌, ◌<◌, ℕ, ◌+◌, List, [], ◌∷◌, ◌++◌, zero, suc, map, unwrap_or, Option, Some, None, refl, arith, inl, inr}
use Rattle.std.specs.Option.{option_map_or}
use Rattle.circ_term.specs.Tree.{Tree, Trees, at}
use Rattle.circ_term.specs.Limits.{Limit, first_limit}
use Rattle.circ_term.specs.Substitution.{instance}
use Rattle.circ_theory.specs.Theory.{CaseList}
use Rattle.circ_theory.specs.Rewriting.{by_terms}
use Rattle.circ_theory.specs.declared.way.Way.TheVariants.{Forth}
use Rattle.circ_theory.specs.declared.way.Way.{Way}
use Rattle.circ_special.specs.declared.place.Place.{Place}
use Rattle.circ_special.specs.Special.{place}
use Rattle.circ_proof.specs.Plain.{LinkOf, Equation_link, Hypothesis_link, Assumption_link, Content_link, WhyOf, WhysOf, Same_why, Split_why, no_why}
use Rattle.circ_proof.specs.Plain.{more_whys}
use Rattle.circ_entry.specs.Entries.{Numbered}
use Rattle.circ_expansion.specs.Followed.{History, Simplified, Reduced_by, Derived, Open, Followed, goal_in, put_or_same, led, led_all}
use Rattle.circ_expansion.specs.Pieces.{Piece, Pieces, Equation_piece, Content_piece, Assumption_piece, no_piece, more_pieces, pieces_joined}
use Rattle.circ_expansion.specs.Expand.{Spending, Yields, Long, Past, Stopped, continued, counted, tested, all_tested, Layer, At_place, By_entry, Background}
use Rattle.circ_expansion.specs.Expand.{Call, Expander, Basis}
use Rattle.circ_expansion.specs.Expand.{Case, Visible_case, Place_case, Hidden_case, No_case, guard_case, occurrence_call, base, whole_with, around, followed_at}
use Rattle.circ_expansion.specs.Expand.{link_setting, bounds_of, hypothesis_call, basis_in, stood, link_terms, trail, place_terms}
use Rattle.circ_expansion.specs.Machine.{Value, In_row, In_parts, Task, Links, Give_reason, Give_reasons, Begin_use, Enter_use, Occurrences, Empty_row, Put_behind, Put_between}
use Rattle.circ_expansion.specs.Machine.{Add_part}
use Rattle.circ_expansion.specs.Machine.{Begin_split, End_split, Pending, pending, put_behind, put_between, add_part, end_split, links_step, reason_step, reasons_step}
use Rattle.circ_expansion.specs.Machine.{goal_step}
use Rattle.circ_expansion.specs.Machine.{place_step, along_step, use_step, case_step, occurrences_step, task_step, reason_weight, reasons_weight, goal_weight}
use Rattle.circ_expansion.specs.Machine.{tasks_weight, CountsDown}

-- what is behind a counted unit keeps the units that are left
abbrev Keeps : (n : ℕ) → Spending Pending → Type 0
Keeps n (Yields u m) = m ≡ n
Keeps n Long = Unit {0}
Keeps n (Past l) = Unit {0}
Keeps n Stopped = Unit {0}

fewer : (n k w : ℕ) → k < n → (o : Spending Pending) → Keeps k o → CountsDown n w o
fewer n k w l (Yields u m) e = inl (omega (arith, l, e))
fewer n k w l Long e = tt
fewer n k w l (Past x) e = tt
fewer n k w l Stopped e = tt

counted_down : (n w : ℕ) (F : ℕ → Spending Pending) → ((k : ℕ) → Keeps k (F k)) → CountsDown n w (counted n F)
counted_down zero w F h = tt
counted_down (suc n) w F h = fewer (suc n) n w (omega arith) (F n) (h n)

tested_keeps : (n : ℕ) (t : Tree) (o : Spending Pending) → Keeps n o → Keeps n (tested t o)
tested_keeps n t o k = go (first_limit t)
  where
    go : (l : Option Limit) → Keeps n (option_map_or Past l o)
    go None = k
    go (Some l) = tt

all_tested_keep : (n : ℕ) (ts : List Tree) (o : Spending Pending) → Keeps n o → Keeps n (all_tested ts o)
all_tested_keep n [] o k = k
all_tested_keep n (t ∷ ts) o k = tested_keeps n t (all_tested ts o) (all_tested_keep n ts o k)

-- the unit and the tests of a link
link_down : (n w : ℕ) (ts : List Tree) (t : Tree) (u : Pending) → CountsDown n w (counted n (λ m. all_tested ts (tested t (Yields u m))))
link_down n w ts t u = counted_down n w (λ m. all_tested ts (tested t (Yields u m)))
    (λ k. all_tested_keep k ts (tested t (Yields u k)) (tested_keeps k t (Yields u k) refl))

-- terms that are tested before a step count nothing
tested_down : (n w : ℕ) (t : Tree) (o : Spending Pending) → CountsDown n w o → CountsDown n w (tested t o)
tested_down n w t o k = go (first_limit t)
  where
    go : (l : Option Limit) → CountsDown n w (option_map_or Past l o)
    go None = k
    go (Some l) = tt

all_tested_down : (n w : ℕ) (ts : List Tree) (o : Spending Pending) → CountsDown n w o → CountsDown n w (all_tested ts o)
all_tested_down n w [] o k = k
all_tested_down n w (t ∷ ts) o k = tested_down n w t (all_tested ts o) (all_tested_down n w ts o k)

-- values are put together without a unit
values_down : (js : List Task) (n w : ℕ) → tasks_weight js < w → (o : Spending (List Value)) → ((vs : List Value) (m : ℕ) → o ≡ Yields vs m → m ≡ n)
    → CountsDown n w (continued o (λ vs m. Yields (pending js vs) m))
values_down js n w l (Yields vs m) h = inr (h vs m refl, l)
values_down js n w l Long h = tt
values_down js n w l (Past x) h = tt
values_down js n w l Stopped h = tt

module _ (run : Expander) (f : Background) where
  links_down : (c : Call) (b : Basis) (ls : List (LinkOf Tree)) (t : Tree) (js : List Task) (v : Pieces) (vs : List Value) (n : ℕ)
      → CountsDown n (1 + tasks_weight js) (links_step run f c b ls t js v vs n)
  links_down c b [] t js v vs n = inr (refl, omega arith)
  links_down c b (Equation_link number way path terms conds ∷ ls) t js v vs n =
      let u : Tree = led (link_setting f b) (Equation_link number way path terms conds) t in
      let ts : List Tree = map (instance c.by) terms in
      let x : Piece = Equation_piece number way (base c ++ path) ts in
      let next : Pending = pending (Links c b ls u ∷ js) (In_row (pieces_joined v (more_pieces x no_piece)) ∷ vs) in
      all_tested_down n (1 + tasks_weight js) (link_terms (link_setting f b) (Equation_link number way path terms conds) t)
      (counted n (λ m. all_tested ts (tested (around c u) (Yields next m)))) (link_down n (1 + tasks_weight js) ts (around c u) next)
  links_down c b (Content_link op path term ∷ ls) t js v vs n =
      let u : Tree = led (link_setting f b) (Content_link op path term) t in
      let old : Tree = unwrap_or (at t path) t in
      let x : Piece = Content_piece op (base c ++ path) old term (bounds_of c.by old term) in
      let next : Pending = pending (Links c b ls u ∷ js) (In_row (pieces_joined v (more_pieces x no_piece)) ∷ vs) in
      all_tested_down n (1 + tasks_weight js) (link_terms (link_setting f b) (Content_link op path term) t)
      (counted n (λ m. tested (instance c.by term) (tested (around c u) (Yields next m))))
      (link_down n (1 + tasks_weight js) (instance c.by term ∷ []) (around c u) next)
  links_down c b (Assumption_link number way path ∷ ls) t js v vs n =
      let u : Tree = led (link_setting f b) (Assumption_link number way path) t in
      let x : Piece = Assumption_piece (b.raised + number) way (base c ++ path) in
      let next : Pending = pending (Links c b ls u ∷ js) (In_row (pieces_joined v (more_pieces x no_piece)) ∷ vs) in
      all_tested_down n (1 + tasks_weight js) (link_terms (link_setting f b) (Assumption_link number way path) t)
      (counted n (λ m. tested (around c u) (Yields next m))) (link_down n (1 + tasks_weight js) [] (around c u) next)
  links_down c b (Hypothesis_link number way path terms conds ∷ ls) t js v vs n =
      let u : Tree = led (link_setting f b) (Hypothesis_link number way path terms conds) t in
      let ts : List Tree = map (instance c.by) terms in
      let h : Followed = followed_at b.hypotheses number in
      let d : Call = hypothesis_call f c h way path t u (by_terms (goal_in h.history) ts) in
      let next : Pending = pending (Enter_use d ∷ Put_behind way ∷ Links c b ls u ∷ js) (In_row v ∷ vs) in
      all_tested_down n (1 + tasks_weight js) (link_terms (link_setting f b) (Hypothesis_link number way path terms conds) t ++ stood c t)
      (counted n (λ m. all_tested ts (tested (around c u) (Yields next m)))) (link_down n (1 + tasks_weight js) ts (around c u) next)

  reason_down : (c : Call) (b : Basis) (w : WhyOf Tree) (s t : Tree) (js : List Task) (vs : List Value) (n : ℕ)
      → CountsDown n (reason_weight w + tasks_weight js) (reason_step run f c b w s t js vs n)
  reason_down c b (Same_why chain) s t js vs n = inr (refl, omega arith)
  reason_down c b (Split_why chain term ws) s t js vs n =
      all_tested_down n (reason_weight (Split_why chain term ws) + tasks_weight js)
      (trail (link_setting f b) chain.left s ++ trail (link_setting f b) chain.right t) _ (inr (refl, omega arith))

  reasons_down : (c : Call) (b : Basis) (ws : WhysOf Tree) (v : Tree) (l : CaseList) (ks : List ℕ) (s t : Tree) (js : List Task) (vs : List Value) (n : ℕ)
      → CountsDown n (reasons_weight ws + tasks_weight js) (reasons_step run f c b ws v l ks s t js vs n)
  reasons_down c b no_why v l ks s t js vs n = inr (refl, omega arith)
  reasons_down c b (more_whys w ws) v l [] s t js vs n = inr (refl, omega arith)
  reasons_down c b (more_whys w ws) v l (k ∷ ks) s t js vs n =
      all_tested_down n (reasons_weight (more_whys w ws) + tasks_weight js) (instance c.by v ∷ stood c s) _ (inr (refl, omega arith))

  goal_down : (c : Call) (h : History) (cs : List Numbered) (js : List Task) (vs : List Value) (n : ℕ)
      → CountsDown n (goal_weight h + tasks_weight js) (goal_step run f c h cs js vs n)
  goal_down c Open cs js vs n = tt
  goal_down c (Simplified g chain h) cs js vs n =
      let S = link_setting f (basis_in run f c) in
      all_tested_down n (goal_weight (Simplified g chain h) + tasks_weight js) (trail S chain.left g.left) _
      (inr (refl, omega arith))
  goal_down c (Reduced_by g why) cs js vs n = inr (refl, omega arith)
  goal_down c (Derived g children) [] js vs n = tt
  goal_down c (Derived g children) (e ∷ cs) js vs n = inr (refl, omega arith)

  place_down : (c : Call) (g : Place) (s : ℕ) (ts : Trees) (xs : List Layer) (cs : List Numbered) (js : List Task) (vs : List Value) (n w : ℕ) → 7 ≤ w
      → CountsDown n (w + tasks_weight js) (place_step run f c g s ts xs cs js vs n)
  place_down c g s ts xs [] js vs n w l = tt
  place_down c g s ts xs (e ∷ cs) js vs n w l =
      all_tested_down n (w + tasks_weight js) (place_terms run f c g s ts xs e) _ (inr (refl, omega (arith, l)))

  along_down : (c : Call) (xs : List Layer) (js : List Task) (vs : List Value) (n w : ℕ) → 7 ≤ w
      → CountsDown n (w + tasks_weight js) (along_step run f c xs js vs n)
  along_down c [] js vs n w l = inr (refl, omega (arith, l))
  along_down c (By_entry e ∷ xs) js vs n w l = inr (refl, omega (arith, l))
  along_down c (At_place g s i ts ∷ xs) js vs n w l = place_down c (place g i) s ts xs c.entries js vs n w l

  seven : (h : History) → 7 ≤ goal_weight h
  seven Open = omega arith
  seven (Simplified g chain h) = omega arith
  seven (Reduced_by g why) = omega arith
  seven (Derived g children) = omega arith

  use_down : (c : Call) (o : Option (List Layer)) (js : List Task) (vs : List Value) (n : ℕ)
      → CountsDown n (goal_weight c.goal.history + tasks_weight js) (use_step run f c o js vs n)
  use_down c None js vs n = goal_down c c.goal.history c.entries js vs n
  use_down c (Some xs) js vs n = along_down c xs js vs n (goal_weight c.goal.history) (seven c.goal.history)

  case_keeps : (x : Case) (d : Call) (js : List Task) (vs : List Value) (n : ℕ) → Keeps n (case_step run f x d js vs n)
  case_keeps (Visible_case k q) d js vs n = refl
  case_keeps Place_case d js vs n = refl
  case_keeps (Hidden_case k q) d js vs n = refl
  case_keeps No_case d js vs n = tt

  occurrences_down : (c : Call) (xs : List Layer) (b last : Tree) (ps : List (List ℕ)) (here : Tree) (js : List Task) (v : Pieces) (vs : List Value) (n : ℕ)
      → CountsDown n (1 + tasks_weight js) (occurrences_step run f c xs b last ps here js v vs n)
  occurrences_down c xs b last [] here js v vs n = inr (refl, omega arith)
  occurrences_down c xs b last (p ∷ ps) here js v vs n =
      let k : Case = guard_case f.theory f.places last p in
      let u : Tree = put_or_same here p b in
      let next : ℕ → Spending Pending = λ m. case_step run f k (occurrence_call run f c xs here p k) (Put_behind Forth ∷ Occurrences c xs b last ps u ∷ js)
      (In_row v ∷ vs) m in
      all_tested_down n (1 + tasks_weight js) (here ∷ whole_with c here ∷ []) (counted n (λ m. tested u (tested (whole_with c u) (next m))))
      (counted_down n (1 + tasks_weight js) (λ m. tested u (tested (whole_with c u) (next m))) (λ m.
      tested_keeps m u (tested (whole_with c u) (next m)) (tested_keeps m (whole_with c u) (next m) (case_keeps k (occurrence_call run f c xs here p k) (Put_behind Forth ∷ Occurrences c xs b last ps u ∷ js)
      (In_row v ∷ vs) m))))

  behind_keeps : (way : Way) (vs us : List Value) (n m : ℕ) → put_behind run f way vs n ≡ Yields us m → m ≡ n
  behind_keeps way (In_row x ∷ In_row v ∷ vs) us n m e = cc
  behind_keeps way (In_row x ∷ In_parts ps ∷ vs) us n m e = absurd (cc)
  behind_keeps way (In_row x ∷ []) us n m e = absurd (cc)
  behind_keeps way (In_parts ps ∷ vs) us n m e = absurd (cc)
  behind_keeps way [] us n m e = absurd (cc)

  between_keeps : (vs us : List Value) (n m : ℕ) → put_between run f vs n ≡ Yields us m → m ≡ n
  between_keeps (In_row z ∷ In_row r ∷ In_row l ∷ vs) us n m e = cc
  between_keeps (In_row z ∷ In_row r ∷ In_parts ps ∷ vs) us n m e = absurd (cc)
  between_keeps (In_row z ∷ In_row r ∷ []) us n m e = absurd (cc)
  between_keeps (In_row z ∷ In_parts ps ∷ vs) us n m e = absurd (cc)
  between_keeps (In_row z ∷ []) us n m e = absurd (cc)
  between_keeps (In_parts ps ∷ vs) us n m e = absurd (cc)
  between_keeps [] us n m e = absurd (cc)

  part_keeps : (vs us : List Value) (n m : ℕ) → add_part run f vs n ≡ Yields us m → m ≡ n
  part_keeps (In_parts ps ∷ In_row p ∷ vs) us n m e = cc
  part_keeps (In_parts ps ∷ In_parts qs ∷ vs) us n m e = absurd (cc)
  part_keeps (In_parts ps ∷ []) us n m e = absurd (cc)
  part_keeps (In_row p ∷ vs) us n m e = absurd (cc)
  part_keeps [] us n m e = absurd (cc)

  split_keeps : (u : Tree) (vs us : List Value) (n m : ℕ) → end_split run f u vs n ≡ Yields us m → m ≡ n
  split_keeps u (In_parts ps ∷ vs) us n m e = cc
  split_keeps u (In_row p ∷ vs) us n m e = absurd (cc)
  split_keeps u [] us n m e = absurd (cc)

  pub step_down : (j : Task) (js : List Task) (vs : List Value) (n : ℕ) → CountsDown n (tasks_weight (j ∷ js)) (task_step run f j js vs n)
  step_down (Links c b ls t) js [] n = tt
  step_down (Links c b ls t) js (In_parts ps ∷ vs) n = tt
  step_down (Links c b ls t) js (In_row v ∷ vs) n = links_down c b ls t js v vs n
  step_down (Give_reason c b w s t) js vs n = reason_down c b w s t js vs n
  step_down (Give_reasons c b ws v l ks s t) js vs n = reasons_down c b ws v l ks s t js vs n
  step_down (Begin_use c) js vs n = counted_down n (1 + tasks_weight js) (λ m. Yields (pending (Enter_use c ∷ js) vs) m) (λ k. refl)
  step_down (Enter_use c) js vs n =
      tested_down n (tasks_weight (Enter_use c ∷ js)) c.whole (use_step run f c c.along js vs n) (use_down c c.along js vs n)
  step_down (Occurrences c xs b last ps here) js [] n = tt
  step_down (Occurrences c xs b last ps here) js (In_parts qs ∷ vs) n = tt
  step_down (Occurrences c xs b last ps here) js (In_row v ∷ vs) n = occurrences_down c xs b last ps here js v vs n
  step_down Empty_row js vs n = inr (refl, omega arith)
  step_down (Put_behind way) js vs n = values_down js n (1 + tasks_weight js) (omega arith) (put_behind run f way vs n)
      (λ us m e. behind_keeps way vs us n m e)
  step_down Put_between js vs n = values_down js n (1 + tasks_weight js) (omega arith) (put_between run f vs n) (λ us m e. between_keeps vs us n m e)
  step_down Add_part js vs n = values_down js n (1 + tasks_weight js) (omega arith) (add_part run f vs n) (λ us m e. part_keeps vs us n m e)
  step_down (Begin_split u) js vs n = counted_down n (1 + tasks_weight js) (λ m. tested u (Yields (pending js vs) m))
      (λ k. tested_keeps k u (Yields (pending js vs) k) refl)
  step_down (End_split u) js vs n = values_down js n (1 + tasks_weight js) (omega arith) (end_split run f u vs n) (λ us m e. split_keeps u vs us n m e)
