-- What contracts see of uses and tasks, and what a step of the work answers.
use Rattle.std.specs.Prelude.{◌≡◌, ◌≤◌, ◌==◌, ℕ, length, ◌+◌, List, [], ◌∷◌, ◌++◌, map, drop, zero, suc, if◌then◌else◌, unwrap_or, Option, Some, None, Result, Ok, Err}
use Rattle.std.specs.Global.{Vec}
use Rattle.std.specs.List.{slice_get, AllByRecursion}
use Rattle.std.specs.Option.{option_map, option_map_or}
use Rattle.circ_term.specs.Tree.{Tree, Var, sort_of, at, args_of, trees_of, operator_number}
use Rattle.circ_term.specs.Limits.{Limit, Names, first_limit}
use Rattle.circ_term.specs.declared.fault.TermFault.{TermFault}
use Rattle.circ_term.specs.Substitution.{Substitution, instance}
use Rattle.circ_theory.specs.Theory.{Pair, CaseList, Derivative}
use Rattle.circ_theory.specs.Observing.{case_list, is_hidden}
use Rattle.circ_theory.specs.Experiment.{Entry as Entry_on, on}
use Rattle.circ_theory.specs.Limits.{argument_limit}
use Rattle.circ_entry.specs.declared.entries.Entry.{Entry}
use Rattle.circ_theory.specs.Pairs.{plain_pair}
use Rattle.circ_theory.specs.Rewriting.{named, by_terms}
use Rattle.circ_theory.specs.declared.way.Way.{Way}
use Rattle.circ_rewrite.specs.Matching.{matching}
use Rattle.circ_special.specs.declared.place.Place.{Place}
use Rattle.circ_special.specs.Special.{place}
use Rattle.circ_proof.specs.Plain.{LinkOf, Equation_link, Hypothesis_link, Assumption_link, Content_link, WhyOf, WhysOf, plain_links, plain_why, plain_whys, map_whys}
use Rattle.circ_proof.specs.Link.{Setting, resolved_links, resolved_why}
use Rattle.circ_proof.specs.declared.links.Chain.{Chain}
use Rattle.circ_proof.specs.declared.links.Link.{Link}
use Rattle.circ_proof.specs.declared.links.Why.{Why}
use Rattle.circ_expansion.specs.Followed.{Followed, History, Open, no_pair, goal_in, led_all}
use Rattle.circ_expansion.specs.Pieces.{Piece, Pieces, Equation_piece, Content_piece, Assumption_piece, no_piece, more_pieces, pieces_joined}
use Rattle.circ_expansion.specs.Expand.{Spending, Yields, Long, Past, Stopped, continued, counted, tested, all_tested, Background, certificate_of, simplified_call, basis}
use Rattle.circ_expansion.specs.Expand.{Basis as SideBasis, Call as Use, base, around, followed_at, start_of, stood, bounds_of, stages, no_followed}
use Rattle.circ_expansion.specs.Expand.{Layer, places_on, layered, risen, start_at, trail, link_setting, no_basis, certified_call, paths_of, arg_sort}
use Rattle.circ_expansion.specs.Expand.{Case, No_case, whole_with, occurrence_call}
use Rattle.circ_entry.specs.Entries.{Numbered, bare_entries, derivative_at}
use Rattle.circ_written.specs.Rows.{plain_row, rows_of}
use Rattle.circ_written.specs.declared.rows.Row.{Row}
use Rattle.circ_book.specs.Histories.{history_at, history_below, history_with}
use Rattle.circ_book.specs.Book.{followed_by, hypotheses_in, kept_at}
use Rattle.circ_uses.specs.Certificates.{lists_in}
use Rattle.circ_uses.specs.Paths.{plain_paths}
use Rattle.circ_uses.specs.Uses.{entries_of, layers_of, first_of}
use Rattle.circ_uses.specs.Valuations.{by_of}
use Rattle.circ_expansion.specs.Machine.{Value, In_row, Pending, pending, Task as Job, Links as Links_job, Give_reason, Give_reasons, Begin_use, Enter_use, Occurrences}
use Rattle.circ_expansion.specs.Machine.{Empty_row, Put_behind, Put_between, Add_part, Begin_split, End_split, task_step, goal_step, place_step, occurrences_step, case_step, all_uses, rest_done, tasks_weight, last_row}
use Rattle.circ_uses.specs.Fronts.{front}
use Rattle.circ_uses.specs.declared.fronts.Front.{Front}
use Rattle.circ_uses.specs.declared.uses.Layer.{Layer as Kept}
use Rattle.std.specs.declared.rc.Rc.{Rc}
use Rattle.std.proofs.Common.{Global}
use Rattle.circ_written.specs.Values.{values_of}
use Rattle.circ_book.specs.declared.histories.Node.{Node}
use Rattle.circ_uses.specs.declared.by.By.{By}
use Rattle.circ_tasks.specs.declared.calls.Frame.{Frame}
use Rattle.circ_tasks.specs.declared.calls.Target.{Target}
use Rattle.circ_tasks.specs.declared.calls.Call.{Call}
use Rattle.circ_tasks.specs.declared.calls.Basis.{Basis}
use Rattle.circ_tasks.specs.declared.tasks.Halt.{Halt}
use Rattle.circ_tasks.specs.declared.tasks.Halt.TheVariants as halt
use Rattle.circ_tasks.specs.declared.tasks.Links.{Links}
use Rattle.circ_tasks.specs.declared.tasks.Reason.{Reason}
use Rattle.circ_tasks.specs.declared.tasks.Reasons.{Reasons}
use Rattle.circ_tasks.specs.declared.tasks.Simpler.{Simpler}
use Rattle.circ_tasks.specs.declared.tasks.Changes.{Changes}
use Rattle.circ_tasks.specs.declared.tasks.Task.{Task}
use Rattle.circ_tasks.specs.declared.tasks.Task.TheVariants as task
use Rattle.circ_tasks.specs.declared.tasks.Work.{Work}

-- ---- uses

abbrev pub target_of : Frame → Target → Followed
target_of fr t = record { block = t.block; history = option_map_or (history_at fr.table.now fr.book.now.nodes.items) t.node Open }

-- so many assumptions, of which nothing else is known
abbrev pub assumed : ℕ → List Pair
assumed zero = []
assumed (suc n) = no_pair ∷ assumed n

-- Of the assumptions there are only so many.
abbrev pub call_of : Frame → Call → Use
call_of fr c = record {
  whole = c.whole;
  path = c.path.value.items;
  entries = entries_of fr.theory.now (front c.entries);
  along = option_map (λ xs. layers_of fr.theory.now (front xs)) c.along;
  goal = target_of fr c.goal;
  by = by_of c.by.value;
  assumptions = assumed c.assumptions;
}

-- the hypotheses at the end of a block, each as it is followed
abbrev pub followed_at_end : Frame → Option ℕ → List Followed
followed_at_end fr None = []
followed_at_end fr (Some n) = map (followed_by fr.table.now fr.book.now.nodes.items) (kept_at fr.book.now n)

abbrev pub basis_of : Frame → Basis → SideBasis
basis_of fr b = basis (followed_at_end fr b.block) b.raised (map plain_pair b.assumptions.items)

abbrev pub background_in : Frame → Background
background_in fr = record {
  theory = fr.theory.now;
  places = fr.gamma.now;
  hypotheses = hypotheses_in fr.table.now fr.book.now.nodes.items fr.book.now.goals.items 0 fr.book.now.blocks.items;
  certificate = certificate_of fr.theory.now fr.gamma.now (lists_in fr.table.now fr.lists.now);
}

-- ---- tasks

abbrev pub links_at : Frame → List (Link ℕ) → List (LinkOf Tree)
links_at fr ls = resolved_links fr.table.now (plain_links ls)

abbrev pub why_at : Frame → Why ℕ → WhyOf Tree
why_at fr w = resolved_why fr.table.now (plain_why w)

abbrev pub whys_at : Frame → List (Why ℕ) → WhysOf Tree
whys_at fr ws = map_whys (named fr.table.now) (plain_whys ws)

abbrev pub links_job : Frame → Links → Job
links_job fr l = Links_job (call_of fr l.call.value) (basis_of fr l.basis.value) (links_at fr l.links.now) l.term

abbrev pub reason_job : Frame → Reason → Job
reason_job fr r = Give_reason (call_of fr r.call.value) (basis_of fr r.basis.value) (why_at fr r.why.now) r.left r.right

abbrev pub case_list_of : Reasons → CaseList
case_list_of r = case_list (sort_of r.term) r.all.now

abbrev pub reasons_job : Frame → Reasons → Job
reasons_job fr r =
    Give_reasons (call_of fr r.call.value) (basis_of fr r.basis.value) (whys_at fr r.whys.now) r.term (case_list_of r) r.constants.now r.left r.right

-- the term under the substitution
abbrev pub split_term : Reasons → Tree
split_term r = instance (by_of r.call.value.by.value) r.term

abbrev pub simpler_use : Frame → Simpler → Use
simpler_use fr s =
    simplified_call (all_uses (background_in fr)) (background_in fr) (call_of fr s.call.value) s.left
    (option_map_or (history_at fr.table.now fr.book.now.nodes.items) s.next Open)

abbrev pub changes_job : Frame → Changes → (here : Tree) → Job
changes_job fr x here =
    Occurrences (call_of fr x.call.value) (layers_of fr.theory.now (front x.layers)) x.new x.last (drop x.done (plain_paths x.paths.value.items)) here

-- a task before others
abbrev pub with_task : Frame → Task → List Job → List Job
with_task fr (task.Links links) js = links_job fr links ∷ js
with_task fr (task.GiveReason reason) js = reason_job fr reason ∷ js
with_task fr (task.GiveReasons reasons) js = reasons_job fr reasons ∷ js
with_task fr (task.BeginUse call) js = Begin_use (call_of fr call.value) ∷ js
with_task fr (task.EnterUse call) js = Enter_use (call_of fr call.value) ∷ js
with_task fr (task.BeginSimpler simpler) js = Begin_use (simpler_use fr simpler) ∷ js
with_task fr (task.EnterSimpler simpler) js = Enter_use (simpler_use fr simpler) ∷ js
with_task fr (task.FirstChange changes by) js = changes_job fr changes (instance (by_of by.value) changes.last) ∷ js
with_task fr (task.NextChange changes here) js = changes_job fr changes here ∷ js
with_task fr task.EmptyRow js = Empty_row ∷ js
with_task fr (task.PutBehind way) js = Put_behind way ∷ js
with_task fr task.PutBetween js = Put_between ∷ js
with_task fr task.AddPart js = Add_part ∷ js
with_task fr (task.Split reasons) js = Begin_split (split_term reasons) ∷ reasons_job fr reasons ∷ End_split (split_term reasons) ∷ js
with_task fr (task.EndSplit term) js = End_split term ∷ js

-- the last one is the next one
abbrev pub with_tasks : Frame → List Task → List Job → List Job
with_tasks fr [] js = js
with_tasks fr (t ∷ ts) js = with_tasks fr ts (with_task fr t js)

abbrev pub jobs_of : Frame → Work → List Job
jobs_of fr w = with_tasks fr w.tasks.items []

abbrev pub pending_of : Frame → Work → Pending
pending_of fr w = pending (jobs_of fr w) (values_of w.values)

-- ---- what a step answers

abbrev pub past_of : {A : Type 0} → Spending A → Option Limit
past_of (Yields a n) = None
past_of Long = None
past_of (Past l) = Some l
past_of Stopped = None

abbrev pub Halts : {A : Type 0} → Spending A → Halt → Type 0
Halts o halt.Long = o ≡ Long
Halts o (halt.Past fault) = Names fault (past_of o)
Halts o halt.Stopped = o ≡ Stopped

-- the tasks, the values and the units afterwards are those that it yields
abbrev pub Steps : Frame → Spending Pending → Work → Result (Unit {0}) Halt → Type 0
Steps fr o w (Ok u) = o ≡ Yields (pending_of fr w) w.left
Steps fr o w (Err h) = Halts o h

-- what a step of this task comes to, before the others
abbrev pub stepped : Frame → Job → Work → Spending Pending
stepped fr j w = task_step (all_uses (background_in fr)) (background_in fr) j (jobs_of fr w) (values_of w.values) w.left

-- a link: terms and a whole term are tested, and there is one piece more
abbrev pub linked : Frame → Work → Links → (tests : List Tree) → Piece → Pieces → List Value → ℕ → Spending Pending
linked fr w more ts x v us n =
    all_tested ts (tested (around (call_of fr more.call.value) more.term)
    (Yields (pending (links_job fr more ∷ jobs_of fr w) (In_row (pieces_joined v (more_pieces x no_piece)) ∷ us)) n))

-- the use of a hypothesis in this whole term
abbrev pub used : Background → Use → Followed → (whole standing : Tree) → (path : List ℕ) → Substitution → Use
used f c h w t path σ =
    if is_hidden f.theory (sort_of (goal_in h.history).left)
    then record c { whole = w; along = Some (places_on t path); goal = h; by = σ }
    else record c { whole = w; path = base c ++ path; entries = []; along = None; goal = h; by = σ }

-- a unit is counted before, and then a hypothesis is used for what stands there
abbrev pub hypothesised : Frame → Work → Links → (number : ℕ) → Way → (path : List ℕ) → (terms : List Tree) → (standing before : Tree) → ℕ
    → Spending Pending
hypothesised fr w more number way path terms standing before n =
    let c = call_of fr more.call.value in
    let ts = map (instance c.by) terms in
    let h = followed_at (basis_of fr more.basis.value).hypotheses number in
    let d = used (background_in fr) c h (start_of way before (around c more.term)) standing path (by_terms (goal_in h.history) ts) in
    all_tested ts (tested (around c more.term) (Yields (pending (Enter_use d ∷ Put_behind way ∷ links_job fr more ∷ jobs_of fr w) (values_of w.values)) n))

-- a link from a term, after which these are left
abbrev pub link_goes : Frame → Work → Tree → Links → LinkOf Tree → Pieces → List Value → Spending Pending
link_goes fr w t more (Equation_link number way path terms conds) v us =
    let c = call_of fr more.call.value in
    let ts = map (instance c.by) terms in
    counted w.left (linked fr w more ts (Equation_piece number way (base c ++ path) ts) v us)
link_goes fr w t more (Content_link op path term) v us =
    let c = call_of fr more.call.value in
    let old = unwrap_or (at t path) t in
    counted w.left (linked fr w more (instance c.by term ∷ []) (Content_piece op (base c ++ path) old term (bounds_of c.by old term)) v us)
link_goes fr w t more (Assumption_link number way path) v us =
    let c = call_of fr more.call.value in
    counted w.left (linked fr w more [] (Assumption_piece (more.basis.value.raised + number) way (base c ++ path)) v us)
link_goes fr w t more (Hypothesis_link number way path terms conds) v us =
    let c = call_of fr more.call.value in
    all_tested (stood c t) (counted w.left (hypothesised fr w more number way path terms (instance c.by t) (around c t)))

-- the links on both sides of a chain, each in a row of its own, before others
abbrev pub begun_sides : Frame → Call → Basis → Chain ℕ → (left right : Tree) → List Job → List Job
begun_sides fr c b chain s t js =
    Links_job (call_of fr c) (basis_of fr b) (links_at fr chain.left.items) s ∷ Empty_row
    ∷ Links_job (call_of fr c) (basis_of fr b) (links_at fr chain.right.items) t ∷ js

-- What is left is as it would be, and the tasks weigh as much.
abbrev pub IsAlike : Frame → Spending Pending → Work → Type 0
IsAlike fr o w =
    (u : Pending) × (o ≡ Yields u w.left) × (rest_done (background_in fr) u w.left ≡ rest_done (background_in fr) (pending_of fr w) w.left)
    × (tasks_weight u.tasks ≡ tasks_weight (jobs_of fr w))

abbrev pub StepsAlike : Frame → Spending Pending → Work → Result (Unit {0}) Halt → Type 0
StepsAlike fr o w (Ok u) = IsAlike fr o w
StepsAlike fr o w (Err h) = Halts o h

-- ---- what becomes of goals

-- what becomes of a node that is before the one of this number
abbrev pub earlier_history : Frame → (number node : ℕ) → History
earlier_history fr k j = history_below fr.table.now k fr.book.now.nodes.items j

abbrev pub node_history : Frame → (number : ℕ) → Node → History
node_history fr k n = history_with fr.table.now (earlier_history fr k) n.goal n.what

-- the step of a use of a goal that becomes this
abbrev pub goal_stepped : Frame → Call → History → Work → Spending Pending
goal_stepped fr c h w =
    goal_step (all_uses (background_in fr)) (background_in fr) (call_of fr c) h (call_of fr c).entries (jobs_of fr w) (values_of w.values) w.left

-- how many derivatives have a hole of the sort
abbrev pub holes_before : (sort : ℕ) → List Derivative → ℕ
holes_before s [] = 0
holes_before s (d ∷ ds) = (if d.hole == s then 1 else 0) + holes_before s ds

-- ---- the work

-- what a step of the first of these tasks comes to
abbrev pub first_stepped : Background → List Job → List Value → ℕ → Spending Pending
first_stepped f [] vs n = Stopped
first_stepped f (j ∷ js) vs n = task_step (all_uses f) f j js vs n

abbrev pub next_stepped : Frame → Task → Work → Spending Pending
next_stepped fr t w = first_stepped (background_in fr) (with_task fr t (jobs_of fr w)) (values_of w.values) w.left

-- what is left comes to this
abbrev pub left_of : Frame → Work → Spending (List Value)
left_of fr w = rest_done (background_in fr) (pending_of fr w) w.left

-- the goal of this number, as it is followed
abbrev pub followed_of : Frame → (goal : ℕ) → Followed
followed_of fr n = option_map_or (followed_by fr.table.now fr.book.now.nodes.items) (slice_get fr.book.now.goals.items n) no_followed

abbrev pub opening_of : Frame → (goal : ℕ) → List Numbered → Use
opening_of fr n cs = record {
  whole = on (bare_entries cs) (goal_in (followed_of fr n).history).left;
  path = [];
  entries = cs;
  along = None;
  goal = followed_of fr n;
  by = Var;
  assumptions = [];
}

-- what the expansion comes to
abbrev pub worked_in : Frame → (goal : ℕ) → List Numbered → (units : ℕ) → Spending Pieces
worked_in fr n cs k =
    let g = followed_of fr n in
    all_tested (stages (bare_entries cs) (goal_in g.history).left ++ stages (bare_entries cs) (goal_in g.history).right)
    (tested (on (bare_entries cs) (goal_in g.history).left) (tested (on (bare_entries cs) (goal_in g.history).right)
    (continued (rest_done (background_in fr) (pending (Begin_use (opening_of fr n cs) ∷ []) []) k) last_row)))

-- the experiment on the first of two terms, where all terms that it makes of both are within the limits
abbrev pub EndsIn : List Entry_on → (left right : Tree) → Result Tree TermFault → Type 0
EndsIn es s t (Ok u) = (u ≡ on es s) × (first_of (stages es s ++ stages es t) ≡ None) × (first_limit (on es s) ≡ None) × (first_limit (on es t) ≡ None)
EndsIn es s t (Err e) = Names e (first_of (stages es s ++ stages es t))

-- its rows, or why there are none
abbrev pub WritesOut : Spending Pieces → Result (Vec Row) Halt → Type 0
WritesOut o (Ok rows) = (xs : Pieces) × (left : ℕ) × (o ≡ Yields xs left) × (map plain_row rows.items ≡ rows_of xs)
WritesOut o (Err h) = Halts o h

-- no entry has more terms than an operator has arguments
abbrev pub AreFew : List Entry → Type 0
AreFew es = AllByRecursion (λ (e : Entry). length e.params.items ≤ argument_limit) es

-- ---- places

abbrev pub place_of : Tree → (arg : ℕ) → Place
place_of t i = place (unwrap_or (operator_number t) 0) i

-- the step of a use at the place of this term's argument, with the layers below it
abbrev pub place_stepped : Frame → Call → Tree → (arg : ℕ) → List Layer → Work → Spending Pending
place_stepped fr c t i xs w =
    place_step (all_uses (background_in fr)) (background_in fr) (call_of fr c) (place_of t i) (sort_of t) (trees_of (args_of t)) xs (call_of fr c).entries
    (jobs_of fr w) (values_of w.values) w.left

abbrev pub certificate_setting : Frame → Setting
certificate_setting fr = link_setting (background_in fr) (no_basis (all_uses (background_in fr)) (background_in fr))

-- its start term, then the terms to which its links lead
abbrev pub certificate_terms : Frame → Place → (derivative : ℕ) → List Tree
certificate_terms fr g n =
    let start = start_at fr.theory.now g (derivative_at fr.theory.now n) in
    start ∷ trail (certificate_setting fr) ((background_in fr).certificate g n) start

-- a side of a goal within layers
abbrev pub left_side : Frame → Call → Tree
left_side fr c = instance (by_of c.by.value) (goal_in (target_of fr c.goal).history).left

abbrev pub right_side : Frame → Call → Tree
right_side fr c = instance (by_of c.by.value) (goal_in (target_of fr c.goal).history).right

-- ---- occurrences

abbrev pub layers_in : Frame → Front Kept → List Layer
layers_in fr xs = layers_of fr.theory.now (front xs)

-- the step of the occurrence at a path, after which the others are left
abbrev pub change_stepped : Frame → Changes → (path : List ℕ) → (here : Tree) → Pieces → List Value → Work → Spending Pending
change_stepped fr x p here v us w =
    occurrences_step (all_uses (background_in fr)) (background_in fr) (call_of fr x.call.value) (layers_in fr x.layers) x.new x.last
    (p ∷ drop (x.done + 1) (plain_paths x.paths.value.items)) here (jobs_of fr w) v us w.left

-- the use for an occurrence in this case, where that whole term is tested, if there is one
abbrev pub FindsCase : Frame → Changes → (whole : Tree) → (path : List ℕ) → (here : Tree) → Case → Option (Rc Call Global) → Type 0
FindsCase fr x u p here k (Some d) =
    let c = call_of fr x.call.value in
    let run = all_uses (background_in fr) in
    u ≡ whole_with c here → (js : List Job) (vs : List Value) (n : ℕ)
    → case_step run (background_in fr) k (occurrence_call run (background_in fr) c (layers_in fr x.layers) here p k) js vs n
    ≡ Yields (pending (Enter_use (call_of fr d.value) ∷ js) vs) n
FindsCase fr x u p here k None = k ≡ No_case

-- the same use in this whole term along these layers
abbrev pub IsAlong : Call → (whole : Tree) → Front Kept → Option (Rc Call Global) → Type 0
IsAlong c u xs (Some d) = (fr : Frame) → call_of fr d.value ≡ record (call_of fr c) { whole = u; along = Some (layers_in fr xs) }
IsAlong c u xs None = ⊥
