-- The steps of uses.
use Rattle.std.proofs.Common.{◌≡◌, ◌≤◌, ◌<◌, ◌+◌, ℕ, List, [], ◌∷◌, ◌++◌, zero, suc, map, reverse, length, Option, Some, None, Result, refl, ap, sym, ◌∙◌, subst, arith}
use Rattle.std.specs.Option.{option_map, option_map_or}
use Rattle.std.specs.declared.rc.Rc.{Rc}
use Rattle.std.proofs.Common.{Global}
use Rattle.std.proofs.lemmas.List.{reverse-append}
use Rattle.circ_term.specs.Tree.{Tree, sort_of}
use Rattle.circ_term.specs.Limits.{first_limit, Names}
use Rattle.circ_term.specs.declared.fault.TermFault.{TermFault}
use Rattle.circ_theory.specs.Theory.{Theory}
use Rattle.circ_theory.specs.Goal.{Goal}
use Rattle.circ_proof.specs.Plain.{ChainOf, WhyOf, plain_chain, plain_links}
use Rattle.circ_proof.specs.Link.{Setting, resolved_chain, resolved_links}
use Rattle.circ_proof.specs.declared.links.Link.{Link}
use Rattle.circ_proof.specs.declared.links.Chain.{Chain}
use Rattle.circ_entry.specs.Entries.{Numbered}
use Rattle.circ_expansion.specs.Followed.{History, Histories, Simplified, Reduced_by, Derived, Open, led_all}
use Rattle.circ_expansion.specs.Pieces.{no_piece}
use Rattle.circ_expansion.specs.Expand.{Spending, Yields, Stopped, tested, all_tested, trail, Call as Use, Layer, link_setting, basis_in, simplified_call, derive_call}
use Rattle.circ_expansion.specs.Machine.{Value, In_row, Pending, pending, Task as Job, Links as Links_job, Give_reason, Begin_use, Enter_use, Empty_row, Put_between, goal_step, use_step}
use Rattle.circ_expansion.specs.Machine.{along_step, task_step, all_uses}
use Rattle.circ_uses.specs.Fronts.{front, IsCut}
use Rattle.circ_uses.specs.Uses.{BuildsLast, first_of, held_by, entries_of, layer_by, layers_of}
use Rattle.circ_written.specs.Values.{values_of}
use Rattle.circ_tasks.specs.Tasks.{call_of, basis_of, target_of, background_in, jobs_of, pending_of, links_at, begun_sides, simpler_use, goal_stepped, why_at, reason_job, Halts}
use Rattle.circ_tasks.specs.declared.tasks.Halt.TheVariants as halt
use Rattle.circ_tasks.specs.declared.calls.Frame.{Frame}
use Rattle.circ_tasks.specs.declared.calls.Call.{Call}
use Rattle.circ_tasks.specs.declared.calls.Basis.{Basis}
use Rattle.circ_tasks.specs.declared.tasks.Reason.{Reason}
use Rattle.circ_tasks.specs.declared.tasks.Simpler.{Simpler}
use Rattle.circ_tasks.specs.declared.tasks.Work.{Work}
use Rattle.circ_uses.specs.declared.uses.Held.{Held}
use Rattle.circ_uses.specs.declared.uses.Layer.{Layer as Kept}
use Rattle.circ_tasks.proofs.Advancing.{all_built_at}
use Rattle.circ_tasks.proofs.Stepping.{tests_none, tested_none, halts_past, names_tests, names_tested}

pub layers_last : {A : Type 0} (th : Theory) (l : Rc Kept A) (ls : List (Rc Kept A)) → layers_of th (ls ++ l ∷ []) ≡ layer_by th l.value ∷ layers_of th ls
layers_last {A = A} th l ls = let f = λ (r : Rc Kept A). layer_by th r.value in ap (map f) (reverse-append ls (l ∷ []))

-- a goal that is simplified
pub simplified_on : (fr : Frame) (c : Call) (b : Basis) (g : Goal) (chain : Chain ℕ) (h : History) (s : Tree) (d : Use) (w new : Work)
    → basis_of fr b ≡ basis_in (all_uses (background_in fr)) (background_in fr) (call_of fr c)
    → s ≡ led_all (link_setting (background_in fr) (basis_of fr b)) (links_at fr chain.left.items) g.left
    → first_of (trail (link_setting (background_in fr) (basis_of fr b)) (links_at fr chain.left.items) g.left) ≡ None
    → d ≡ simplified_call (all_uses (background_in fr)) (background_in fr) (call_of fr c) s h
    → jobs_of fr new ≡ begun_sides fr c b chain g.left g.right (Begin_use d ∷ Put_between ∷ jobs_of fr w)
    → values_of new.values ≡ In_row no_piece ∷ values_of w.values → new.left ≡ w.left
    → goal_stepped fr c (Simplified g (resolved_chain fr.table.now (plain_chain chain)) h) w ≡ Yields (pending_of fr new) new.left
simplified_on fr c b g chain h s d w new e is none same js vs n =
    let f = background_in fr in
    let run = all_uses f in
    let ls = links_at fr chain.left.items in
    let rs = links_at fr chain.right.items in
    let F : _ → Spending Pending = λ x. all_tested (trail (link_setting f x) ls g.left)
    (Yields (pending (Links_job (call_of fr c) x ls g.left ∷ Empty_row ∷ Links_job (call_of fr c) x rs g.right
    ∷ Begin_use (simplified_call run f (call_of fr c) (led_all (link_setting f x) ls g.left) h) ∷ Put_between ∷ jobs_of fr w) (In_row no_piece ∷ values_of w.values)) w.left) in
    let G : Use → Spending Pending = λ y. Yields (pending (begun_sides fr c b chain g.left g.right (Begin_use y ∷ Put_between ∷ jobs_of fr w))
    (In_row no_piece ∷ values_of w.values)) w.left in
    ap F (sym e)
    ∙ tests_none (trail (link_setting f (basis_of fr b)) ls g.left)
    (G (simplified_call run f (call_of fr c) (led_all (link_setting f (basis_of fr b)) ls g.left) h)) none
    ∙ ap (λ t. G (simplified_call run f (call_of fr c) t h)) (sym is) ∙ ap G (sym same)
    ∙ (λ i. Yields (pending (sym js i) (sym vs i)) (sym n i))

pub simplified_past : (fr : Frame) (c : Call) (b : Basis) (g : Goal) (chain : Chain ℕ) (h : History) (w : Work) (e : TermFault)
    → basis_of fr b ≡ basis_in (all_uses (background_in fr)) (background_in fr) (call_of fr c)
    → Names e (first_of (trail (link_setting (background_in fr) (basis_of fr b)) (links_at fr chain.left.items) g.left))
    → Halts (goal_stepped fr c (Simplified g (resolved_chain fr.table.now (plain_chain chain)) h) w) (halt.Past e)
simplified_past fr c b g chain h w e is past =
    let f = background_in fr in
    let run = all_uses f in
    let ls = links_at fr chain.left.items in
    let rs = links_at fr chain.right.items in
    let T : _ → List Tree = λ x. trail (link_setting f x) ls g.left in
    let o : _ → Spending Pending = λ x. Yields (pending (Links_job (call_of fr c) x ls g.left ∷ Empty_row ∷ Links_job (call_of fr c) x rs g.right
    ∷ Begin_use (simplified_call run f (call_of fr c) (led_all (link_setting f x) ls g.left) h) ∷ Put_between ∷ jobs_of fr w) (In_row no_piece ∷ values_of w.values)) w.left in
    let b0 = basis_in run f (call_of fr c) in
    halts_past (all_tested (T b0) (o b0)) (all_tested (T (basis_of fr b)) (o (basis_of fr b))) e (ap (λ x. all_tested (T x) (o x)) (sym is))
    (names_tests (T (basis_of fr b)) (o (basis_of fr b)) e past)

-- a goal that is reduced
pub reduced_on : (fr : Frame) (c : Call) (r : Reason) (g : Goal) (why : WhyOf Tree) (w new : Work)
    → reason_job fr r ≡ Give_reason (call_of fr c) (basis_in (all_uses (background_in fr)) (background_in fr) (call_of fr c)) why g.left g.right
    → jobs_of fr new ≡ reason_job fr r ∷ jobs_of fr w → values_of new.values ≡ values_of w.values → new.left ≡ w.left
    → goal_stepped fr c (Reduced_by g why) w ≡ Yields (pending_of fr new) new.left
reduced_on fr c r g why w new e js vs n =
    (λ i. Yields (pending (sym e i ∷ jobs_of fr w) (values_of w.values)) w.left) ∙ (λ i. Yields (pending (sym js i) (sym vs i)) (sym n i))

-- a goal that is derived
pub derived_on : (fr : Frame) (c : Call) (g : Goal) (hs : Histories) (e : Numbered) (cs : List Numbered) (d : Use) (w new : Work) → (call_of fr c).entries ≡ e ∷ cs
    → d ≡ derive_call (all_uses (background_in fr)) (background_in fr) (call_of fr c) g hs e cs
    → jobs_of fr new ≡ Begin_use d ∷ jobs_of fr w → values_of new.values ≡ values_of w.values → new.left ≡ w.left
    → goal_stepped fr c (Derived g hs) w ≡ Yields (pending_of fr new) new.left
derived_on fr c g hs e cs d w new h is js vs n =
    let f = background_in fr in
    ap (λ es. goal_step (all_uses f) f (call_of fr c) (Derived g hs) es (jobs_of fr w) (values_of w.values) w.left) h
    ∙ (λ i. Yields (pending (Begin_use (sym is i) ∷ jobs_of fr w) (values_of w.values)) w.left) ∙ (λ i. Yields (pending (sym js i) (sym vs i)) (sym n i))

pub derived_none : (fr : Frame) (c : Call) (g : Goal) (hs : Histories) (w : Work) → (call_of fr c).entries ≡ [] → goal_stepped fr c (Derived g hs) w ≡ Stopped
derived_none fr c g hs w h =
    let f = background_in fr in
    ap (λ es. goal_step (all_uses f) f (call_of fr c) (Derived g hs) es (jobs_of fr w) (values_of w.values) w.left) h

-- a use is entered
pub entered_on : (fr : Frame) (c : Call) (w : Work) (o : Option (List Layer)) → first_limit c.whole ≡ None → (call_of fr c).along ≡ o
    → task_step (all_uses (background_in fr)) (background_in fr) (Enter_use (call_of fr c)) (jobs_of fr w) (values_of w.values) w.left
    ≡ use_step (all_uses (background_in fr)) (background_in fr) (call_of fr c) o (jobs_of fr w) (values_of w.values) w.left
entered_on fr c w o none e =
    let f = background_in fr in
    tested_none c.whole (use_step (all_uses f) f (call_of fr c) (call_of fr c).along (jobs_of fr w) (values_of w.values) w.left) none
    ∙ ap (λ x. use_step (all_uses f) f (call_of fr c) x (jobs_of fr w) (values_of w.values) w.left) e

-- what is built by links, against what the background says
pub built_sides : (r : Result Tree TermFault) (S T : Setting) (xs ys : List Tree) (ls ks : List (Link ℕ)) (t : Tree) → S ≡ T → xs ≡ ys → ls ≡ ks
    → BuildsLast r (trail S (resolved_links xs (plain_links ls)) t) (led_all S (resolved_links xs (plain_links ls)) t)
    → BuildsLast r (trail T (resolved_links ys (plain_links ks)) t) (led_all T (resolved_links ys (plain_links ks)) t)
built_sides r S T xs ys ls ks t e h l b =
    let P : List (Link ℕ) → Type 0 = λ zs. BuildsLast r (trail T (resolved_links ys (plain_links zs)) t) (led_all T (resolved_links ys (plain_links zs)) t) in
    subst P l (all_built_at r S T xs ys ls t e h b)
