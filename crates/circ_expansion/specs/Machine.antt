-- The expansion worked off a stack: tasks, the next one first, and the values that are written so far, the last one first.
use Rattle.std.specs.Prelude.{◌≡◌, ◌⊎◌, ◌<◌, ℕ, ◌+◌, List, [], ◌∷◌, ◌++◌, suc, map, Option, Some, None, unwrap_or}
use Rattle.circ_term.specs.Tree.{Tree, Trees, Var, sort_of, at}
use Rattle.circ_term.specs.Substitution.{instance}
use Rattle.circ_theory.specs.Theory.{Theory, CaseList}
use Rattle.circ_theory.specs.Experiment.{on}
use Rattle.circ_theory.specs.Derivable.{is_case}
use Rattle.circ_theory.specs.Rewriting.{by_terms}
use Rattle.circ_theory.specs.declared.way.Way.{Way}
use Rattle.circ_theory.specs.declared.way.Way.TheVariants.{Forth, Back}
use Rattle.circ_rewrite.specs.Matching.{matching}
use Rattle.circ_special.specs.declared.place.Place.{Place}
use Rattle.circ_special.specs.Special.{place}
use Rattle.circ_proof.specs.Plain.{LinkOf, Equation_link, Hypothesis_link, Assumption_link, Content_link, WhyOf, WhysOf, Same_why, Split_why, no_why}
use Rattle.circ_proof.specs.Plain.{more_whys}
use Rattle.circ_proof.specs.Proof.{Proof}
use Rattle.circ_entry.specs.Entries.{Written, Numbered, numbered_entries, bare_entries}
use Rattle.circ_expansion.specs.Followed.{History, Simplified, Reduced_by, Derived, Open, goal_in, put_or_same, led, led_all, goals_of}
use Rattle.circ_expansion.specs.Pieces.{Pieces, Parts, Equation_piece, Content_piece, Assumption_piece, Cases_piece, no_piece, more_pieces, no_part, more_parts}
use Rattle.circ_expansion.specs.Pieces.{pieces_joined, turned}
use Rattle.circ_expansion.specs.Expand.{Spending, Yields, Long, Past, Stopped, continued, counted, tested, all_tested, Layer, At_place, By_entry, Background}
use Rattle.circ_expansion.specs.Expand.{Call, Expander}
use Rattle.circ_expansion.specs.Expand.{base, whole_with, around, by_way, followed_at, Basis, link_setting, bounds_of, hypothesis_call, links_written, cases_at}
use Rattle.circ_expansion.specs.Expand.{case_basis}
use Rattle.circ_expansion.specs.Expand.{case_call, whys_written, each_why, derive_call, simplified_call, basis_in, Case, Visible_case, Place_case, Hidden_case}
use Rattle.circ_expansion.specs.Expand.{No_case, guard_case, paths_of, arg_sort, start_at, occurrence_call, occurrences_written, derived_place, certified_call}
use Rattle.circ_expansion.specs.Expand.{no_basis, stood, link_terms, trail, stages, place_terms}
use Rattle.circ_expansion.specs.Expand.{left_here, right_here, uses, background_of}

-- what is written so far: pieces in a row, or parts of cases
pub data Value : Type 0 where
  In_row : (pieces : Pieces) → Value
  In_parts : (parts : Parts) → Value

-- Links go behind the last row. A reason, a use (before or after its unit is counted) and an empty row give one row more, and the reasons of cases one value
-- more. Occurrences go behind the last row. The last row, in a way, goes behind the one before it; or it goes between the two before it, of which the second
-- is turned. A row becomes the first part of the parts before it. A split is counted and tested, and its parts become a row.
pub data Task : Type 0 where
  Links : (c : Call) (b : Basis) (ls : List (LinkOf Tree)) (t : Tree) → Task
  Give_reason : (c : Call) (b : Basis) (why : WhyOf Tree) (s t : Tree) → Task
  Give_reasons : (c : Call) (b : Basis) (ws : WhysOf Tree) (v : Tree) (l : CaseList) (ks : List ℕ) (s t : Tree) → Task
  Begin_use : (c : Call) → Task
  Enter_use : (c : Call) → Task
  Occurrences : (c : Call) (xs : List Layer) (b last : Tree) (ps : List (List ℕ)) (here : Tree) → Task
  Empty_row : Task
  Put_behind : (way : Way) → Task
  Put_between : Task
  Add_part : Task
  Begin_split : (term : Tree) → Task
  End_split : (term : Tree) → Task

-- the tasks that are left, and the values
pub record Pending : Type 0 where
  pub tasks : List Task
  pub values : List Value

abbrev pub pending : List Task → List Value → Pending
pending js vs = record { tasks = js; values = vs }

-- with the last row, and the values before it
abbrev pub on_row : {A : Type 0} → List Value → (Pieces → List Value → Spending A) → Spending A
on_row (In_row v ∷ vs) h = h v vs
on_row (In_parts ps ∷ vs) h = Stopped
on_row [] h = Stopped

-- pieces go behind the last row
abbrev pub with_behind : Pieces → List Value → Spending Pieces → Spending (List Value)
with_behind v vs o = continued o (λ xs m. Yields (In_row (pieces_joined v xs) ∷ vs) m)

module _ (run : Expander) (f : Background) where
  -- ---- one task at once, by all uses

  -- what becomes of the values
  abbrev pub put_behind : Way → List Value → ℕ → Spending (List Value)
  put_behind w (In_row x ∷ In_row v ∷ vs) n = Yields (In_row (pieces_joined v (by_way w x)) ∷ vs) n
  put_behind w (In_row x ∷ In_parts ps ∷ vs) n = Stopped
  put_behind w (In_row x ∷ []) n = Stopped
  put_behind w (In_parts ps ∷ vs) n = Stopped
  put_behind w [] n = Stopped

  abbrev pub put_between : List Value → ℕ → Spending (List Value)
  put_between (In_row z ∷ In_row r ∷ In_row l ∷ vs) n = Yields (In_row (pieces_joined l (pieces_joined z (turned r))) ∷ vs) n
  put_between (In_row z ∷ In_row r ∷ In_parts ps ∷ vs) n = Stopped
  put_between (In_row z ∷ In_row r ∷ []) n = Stopped
  put_between (In_row z ∷ In_parts ps ∷ vs) n = Stopped
  put_between (In_row z ∷ []) n = Stopped
  put_between (In_parts ps ∷ vs) n = Stopped
  put_between [] n = Stopped

  abbrev pub add_part : List Value → ℕ → Spending (List Value)
  add_part (In_parts ps ∷ In_row p ∷ vs) n = Yields (In_parts (more_parts p ps) ∷ vs) n
  add_part (In_parts ps ∷ In_parts qs ∷ vs) n = Stopped
  add_part (In_parts ps ∷ []) n = Stopped
  add_part (In_row p ∷ vs) n = Stopped
  add_part [] n = Stopped

  abbrev pub end_split : Tree → List Value → ℕ → Spending (List Value)
  end_split u (In_parts ps ∷ vs) n = Yields (In_row (more_pieces (Cases_piece u ps) no_piece) ∷ vs) n
  end_split u (In_row p ∷ vs) n = Stopped
  end_split u [] n = Stopped

  abbrev pub with_row : List Value → Spending Pieces → Spending (List Value)
  with_row vs o = continued o (λ xs m. Yields (In_row xs ∷ vs) m)

  abbrev pub done_at_once : Task → List Value → ℕ → Spending (List Value)
  done_at_once (Links c b ls t) vs n = on_row vs (λ v us. with_behind v us (links_written run f c b ls t n))
  done_at_once (Give_reason c b why s t) vs n = with_row vs (whys_written run f c b why s t n)
  done_at_once (Give_reasons c b ws v l ks s t) vs n = continued (each_why run f c b ws v l ks s t n) (λ ps m. Yields (In_parts ps ∷ vs) m)
  done_at_once (Begin_use c) vs n = counted n (λ m. with_row vs (run c m))
  done_at_once (Enter_use c) vs n = with_row vs (run c n)
  done_at_once (Occurrences c xs b last ps here) vs n = on_row vs (λ v us. with_behind v us (occurrences_written run f c xs b last ps here n))
  done_at_once Empty_row vs n = Yields (In_row no_piece ∷ vs) n
  done_at_once (Put_behind way) vs n = put_behind way vs n
  done_at_once Put_between vs n = put_between vs n
  done_at_once Add_part vs n = add_part vs n
  done_at_once (Begin_split u) vs n = counted n (λ m. tested u (Yields vs m))
  done_at_once (End_split u) vs n = end_split u vs n

  -- all tasks, one after another
  abbrev pub all_done : List Task → List Value → ℕ → Spending (List Value)
  all_done [] vs n = Yields vs n
  all_done (j ∷ js) vs n = continued (done_at_once j vs n) (all_done js)

  -- ---- one step of a task

  abbrev pub with_values : List Task → Spending (List Value) → Spending Pending
  with_values js o = continued o (λ vs n. Yields (pending js vs) n)

  abbrev pub links_step : Call → Basis → List (LinkOf Tree) → Tree → List Task → (last : Pieces) → List Value → ℕ → Spending Pending
  links_step c b [] t js v vs n = Yields (pending js (In_row v ∷ vs)) n
  links_step c b (Equation_link number way path terms conds ∷ ls) t js v vs n =
      let u = led (link_setting f b) (Equation_link number way path terms conds) t in
      let ts = map (instance c.by) terms in
      let x = Equation_piece number way (base c ++ path) ts in
      all_tested (link_terms (link_setting f b) (Equation_link number way path terms conds) t)
      (counted n (λ m. all_tested ts (tested (around c u) (Yields (pending (Links c b ls u ∷ js) (In_row (pieces_joined v (more_pieces x no_piece)) ∷ vs)) m))))
  links_step c b (Content_link op path term ∷ ls) t js v vs n =
      let u = led (link_setting f b) (Content_link op path term) t in
      let old = unwrap_or (at t path) t in
      let x = Content_piece op (base c ++ path) old term (bounds_of c.by old term) in
      all_tested (link_terms (link_setting f b) (Content_link op path term) t)
      (counted n (λ m. tested (instance c.by term) (tested (around c u)
      (Yields (pending (Links c b ls u ∷ js) (In_row (pieces_joined v (more_pieces x no_piece)) ∷ vs)) m))))
  links_step c b (Assumption_link number way path ∷ ls) t js v vs n =
      let u = led (link_setting f b) (Assumption_link number way path) t in
      let x = Assumption_piece (b.raised + number) way (base c ++ path) in
      all_tested (link_terms (link_setting f b) (Assumption_link number way path) t)
      (counted n (λ m. tested (around c u) (Yields (pending (Links c b ls u ∷ js) (In_row (pieces_joined v (more_pieces x no_piece)) ∷ vs)) m)))
  links_step c b (Hypothesis_link number way path terms conds ∷ ls) t js v vs n =
      let u = led (link_setting f b) (Hypothesis_link number way path terms conds) t in
      let ts = map (instance c.by) terms in
      let h = followed_at b.hypotheses number in
      let d = hypothesis_call f c h way path t u (by_terms (goal_in h.history) ts) in
      all_tested (link_terms (link_setting f b) (Hypothesis_link number way path terms conds) t ++ stood c t)
      (counted n (λ m. all_tested ts (tested (around c u) (Yields (pending (Enter_use d ∷ Put_behind way ∷ Links c b ls u ∷ js) (In_row v ∷ vs)) m))))

  abbrev pub reason_step : Call → Basis → WhyOf Tree → (s t : Tree) → List Task → List Value → ℕ → Spending Pending
  reason_step c b (Same_why chain) s t js vs n =
      Yields (pending (Links c b chain.left s ∷ Empty_row ∷ Links c b chain.right t ∷ Put_behind Back ∷ js) (In_row no_piece ∷ vs)) n
  reason_step c b (Split_why chain term ws) s t js vs n =
      let l = cases_at run f (sort_of term) in
      let y = led_all (link_setting f b) chain.left s in
      let z = led_all (link_setting f b) chain.right t in
      let u = instance c.by term in
      let split = Begin_split u ∷ Give_reasons c b ws term l l.constants y z ∷ End_split u ∷ Put_between ∷ js in
      all_tested (trail (link_setting f b) chain.left s ++ trail (link_setting f b) chain.right t)
      (Yields (pending (Links c b chain.left s ∷ Empty_row ∷ Links c b chain.right t ∷ split) (In_row no_piece ∷ vs)) n)

  abbrev pub reasons_step : Call → Basis → WhysOf Tree → Tree → CaseList → List ℕ → (s t : Tree) → List Task → List Value → ℕ → Spending Pending
  reasons_step c b no_why v l ks s t js vs n = Yields (pending js (In_parts no_part ∷ vs)) n
  reasons_step c b (more_whys w ws) v l [] s t js vs n = Yields (pending js (In_parts no_part ∷ vs)) n
  reasons_step c b (more_whys w ws) v l (k ∷ ks) s t js vs n =
      let d = case_call run f c s (is_case (instance c.by v) l k) in
      let e = case_basis run f b (is_case v l k) in
      all_tested (instance c.by v ∷ stood c s) (Yields (pending (Give_reason d e w s t ∷ Give_reasons c b ws v l ks s t ∷ Add_part ∷ js) vs) n)

  abbrev pub goal_step : Call → History → List Numbered → List Task → List Value → ℕ → Spending Pending
  goal_step c Open cs js vs n = Stopped
  goal_step c (Simplified g chain h) cs js vs n =
      let b = basis_in run f c in
      let s = led_all (link_setting f b) chain.left g.left in
      let d = simplified_call run f c s h in
      all_tested (trail (link_setting f b) chain.left g.left)
      (Yields (pending (Links c b chain.left g.left ∷ Empty_row ∷ Links c b chain.right g.right ∷ Begin_use d ∷ Put_between ∷ js) (In_row no_piece ∷ vs)) n)
  goal_step c (Reduced_by g why) cs js vs n = Yields (pending (Give_reason c (basis_in run f c) why g.left g.right ∷ js) vs) n
  goal_step c (Derived g children) [] js vs n = Stopped
  goal_step c (Derived g children) (e ∷ cs) js vs n = Yields (pending (Begin_use (derive_call run f c g children e cs) ∷ js) vs) n

  abbrev pub place_step : Call → Place → (sort : ℕ) → Trees → List Layer → List Numbered → List Task → List Value → ℕ → Spending Pending
  place_step c g s ts xs [] js vs n = Stopped
  place_step c g s ts xs (e ∷ cs) js vs n =
      let start = start_at f.theory g e.entry.derivative in
      let ls = f.certificate g e.number in
      let σ = matching start (derived_place run f g s ts e.entry (left_here run f c xs)) in
      let τ = matching start (derived_place run f g s ts e.entry (right_here run f c xs)) in
      let b = no_basis run f in
      let last = led_all (link_setting f b) ls start in
      let paths = paths_of 0 (arg_sort f.theory g) last in
      let middle = Occurrences (record c { entries = cs }) xs (right_here run f c xs) last paths (instance σ last) in
      let both = Links (certified_call run f c cs σ) b ls start ∷ Empty_row ∷ Links (certified_call run f c cs τ) b ls start ∷ Empty_row ∷ [] in
      all_tested (place_terms run f c g s ts xs e) (Yields (pending (both ++ middle ∷ Put_between ∷ js) (In_row no_piece ∷ vs)) n)

  abbrev pub along_step : Call → List Layer → List Task → List Value → ℕ → Spending Pending
  along_step c [] js vs n = Yields (pending (Begin_use (record c { along = None }) ∷ js) vs) n
  along_step c (By_entry e ∷ xs) js vs n = Yields (pending (Begin_use (record c { entries = e ∷ c.entries; along = Some xs }) ∷ js) vs) n
  along_step c (At_place g s i ts ∷ xs) js vs n = place_step c (place g i) s ts xs c.entries js vs n

  abbrev pub use_step : Call → Option (List Layer) → List Task → List Value → ℕ → Spending Pending
  use_step c None js vs n = goal_step c c.goal.history c.entries js vs n
  use_step c (Some xs) js vs n = along_step c xs js vs n

  abbrev pub case_step : Case → Call → List Task → List Value → ℕ → Spending Pending
  case_step (Visible_case k q) c js vs n = Yields (pending (Enter_use c ∷ js) vs) n
  case_step Place_case c js vs n = Yields (pending (Enter_use c ∷ js) vs) n
  case_step (Hidden_case k q) c js vs n = Yields (pending (Enter_use c ∷ js) vs) n
  case_step No_case c js vs n = Stopped

  abbrev pub occurrences_step : Call → List Layer → (b last : Tree) → List (List ℕ) → (here : Tree) → List Task → (last_row : Pieces) → List Value → ℕ
      → Spending Pending
  occurrences_step c xs b last [] here js v vs n = Yields (pending js (In_row v ∷ vs)) n
  occurrences_step c xs b last (p ∷ ps) here js v vs n =
      let k = guard_case f.theory f.places last p in
      let u = put_or_same here p b in
      all_tested (here ∷ whole_with c here ∷ [])
      (counted n (λ m. tested u (tested (whole_with c u)
      (case_step k (occurrence_call run f c xs here p k) (Put_behind Forth ∷ Occurrences c xs b last ps u ∷ js) (In_row v ∷ vs) m))))

  abbrev pub task_step : Task → List Task → List Value → ℕ → Spending Pending
  task_step (Links c b ls t) js vs n = on_row vs (λ v us. links_step c b ls t js v us n)
  task_step (Give_reason c b why s t) js vs n = reason_step c b why s t js vs n
  task_step (Give_reasons c b ws v l ks s t) js vs n = reasons_step c b ws v l ks s t js vs n
  task_step (Begin_use c) js vs n = counted n (λ m. Yields (pending (Enter_use c ∷ js) vs) m)
  task_step (Enter_use c) js vs n = tested c.whole (use_step c c.along js vs n)
  task_step (Occurrences c xs b last ps here) js vs n = on_row vs (λ v us. occurrences_step c xs b last ps here js v us n)
  task_step Empty_row js vs n = Yields (pending js (In_row no_piece ∷ vs)) n
  task_step (Put_behind way) js vs n = with_values js (put_behind way vs n)
  task_step Put_between js vs n = with_values js (put_between vs n)
  task_step Add_part js vs n = with_values js (add_part vs n)
  task_step (Begin_split u) js vs n = counted n (λ m. tested u (Yields (pending js vs) m))
  task_step (End_split u) js vs n = with_values js (end_split u vs n)

-- ---- from the beginning to the end

-- what all uses come to, whatever the units
abbrev pub all_uses : Background → Expander
all_uses f = λ c n. uses (suc n) f c n

-- the one row that is left at the end
abbrev pub last_row : List Value → ℕ → Spending Pieces
last_row (In_row xs ∷ []) n = Yields xs n
last_row (In_row xs ∷ v ∷ vs) n = Stopped
last_row (In_parts ps ∷ vs) n = Stopped
last_row [] n = Stopped

-- what is left of pending tasks
abbrev pub rest_done : Background → Pending → ℕ → Spending (List Value)
rest_done f w n = all_done (all_uses f) f w.tasks w.values n

-- the use with which it begins
abbrev pub opening_use : Theory → Proof → (goal : ℕ) → List Written → Call
opening_use th p goal ws =
    let g = followed_at (goals_of th p 0 [] p.blocks) goal in
    let cs = numbered_entries th ws in
    record { whole = on (bare_entries cs) (goal_in g.history).left; path = []; entries = cs; along = None; goal = g; by = Var; assumptions = [] }

-- The two starting terms are tested, and then one task is done.
abbrev pub worked_off : (units : ℕ) → Theory → Proof → (goal : ℕ) → List Written → Spending Pieces
worked_off k th p goal ws =
    let g = followed_at (goals_of th p 0 [] p.blocks) goal in
    let cs = numbered_entries th ws in
    all_tested (stages (bare_entries cs) (goal_in g.history).left ++ stages (bare_entries cs) (goal_in g.history).right)
    (tested (on (bare_entries cs) (goal_in g.history).left) (tested (on (bare_entries cs) (goal_in g.history).right)
    (continued (rest_done (background_of th p) (pending (Begin_use (opening_use th p goal ws) ∷ []) []) k) last_row)))

-- ---- that it ends

-- how many steps a reason, reasons and a task may take before a unit is counted
abbrev mutual
  pub reason_weight : {T : Type 0} → WhyOf T → ℕ
  reason_weight (Same_why chain) = 5
  reason_weight (Split_why chain term ws) = 7 + reasons_weight ws

  pub reasons_weight : {T : Type 0} → WhysOf T → ℕ
  reasons_weight no_why = 1
  reasons_weight (more_whys w ws) = 2 + (reason_weight w + reasons_weight ws)

abbrev pub goal_weight : History → ℕ
goal_weight Open = 7
goal_weight (Simplified g chain h) = 7
goal_weight (Reduced_by g why) = 7 + reason_weight why
goal_weight (Derived g children) = 7

abbrev pub task_weight : Task → ℕ
task_weight (Links c b ls t) = 1
task_weight (Give_reason c b why s t) = reason_weight why
task_weight (Give_reasons c b ws v l ks s t) = reasons_weight ws
task_weight (Begin_use c) = 1
task_weight (Enter_use c) = goal_weight c.goal.history
task_weight (Occurrences c xs b last ps here) = 1
task_weight Empty_row = 1
task_weight (Put_behind way) = 1
task_weight Put_between = 1
task_weight Add_part = 1
task_weight (Begin_split u) = 1
task_weight (End_split u) = 1

abbrev pub tasks_weight : List Task → ℕ
tasks_weight [] = 0
tasks_weight (j ∷ js) = task_weight j + tasks_weight js

-- A step has counted a unit, or the tasks weigh less than before.
abbrev pub CountsDown : (n weight : ℕ) → Spending Pending → Type 0
CountsDown n w (Yields u m) = (m < n) ⊎ ((m ≡ n) × (tasks_weight u.tasks < w))
CountsDown n w Long = Unit {0}
CountsDown n w (Past l) = Unit {0}
CountsDown n w Stopped = Unit {0}
