-- The step of a link of a side, by what the link is.
use Rattle.std.proofs.Common.{◌≡◌, ℕ, ◌+◌, true, List, [], ◌∷◌, ◌++◌, suc, map, None, Result, unwrap_or, refl, ap, sym, ◌∙◌, subst}
use Rattle.circ_term.specs.Tree.{Tree, trees_of, list_of, at}
use Rattle.circ_term.specs.Limits.{first_limit, first_limits, Names}
use Rattle.circ_term.specs.Substitution.{Substitution, instance, instances}
use Rattle.circ_term.specs.declared.fault.TermFault.{TermFault}
use Rattle.circ_theory.specs.Rewriting.{by_terms}
use Rattle.circ_theory.specs.declared.way.Way.{Way}
use Rattle.circ_proof.specs.Plain.{LinkOf, Equation_link, Hypothesis_link, Assumption_link, Content_link, plain_link, plain_links}
use Rattle.circ_proof.specs.Link.{Setting, resolved_link, resolved_links}
use Rattle.circ_proof.specs.declared.links.Link.{Link}
use Rattle.circ_expansion.specs.Followed.{goal_in, led, led_all}
use Rattle.circ_expansion.specs.Pieces.{Piece, Pieces, Equation_piece, Content_piece, Assumption_piece, no_piece, more_pieces, pieces_joined}
use Rattle.circ_expansion.specs.Expand.{Spending, Yields, counted, tested, all_tested, Call as Use, Basis as SideBasis, base, around, whole_with, followed_at, start_of, stood}
use Rattle.circ_expansion.specs.Expand.{link_terms, trail, link_setting, bounds_of}
use Rattle.circ_expansion.specs.Machine.{Value, In_row, Pending, pending, Task as Job, Links as Links_job, Enter_use, Put_behind, links_step, all_uses, on_row}
use Rattle.circ_written.specs.Nodes.{ends_in_row}
use Rattle.circ_uses.specs.Uses.{first_of, BuildsLast}
use Rattle.circ_written.specs.Values.{values_of, and_link}
use Rattle.circ_tasks.specs.Tasks.{call_of, basis_of, background_in, jobs_of, pending_of, links_job, links_at, stepped, linked, used, hypothesised, link_goes, Halts}
use Rattle.circ_tasks.specs.declared.tasks.Halt.TheVariants as halt
use Rattle.circ_tasks.specs.declared.calls.Frame.{Frame}
use Rattle.circ_tasks.specs.declared.calls.Call.{Call}
use Rattle.circ_tasks.specs.declared.calls.Basis.{Basis}
use Rattle.circ_tasks.specs.declared.tasks.Links.{Links}
use Rattle.circ_tasks.specs.declared.tasks.Work.{Work}
use Rattle.circ_tasks.proofs.Stepping.{counted_one, tests_none, tested_none, tests_append, row_there, on_last, halts_past, names_tests, names_tested, names_first, names_later, names_alone, first_more, first_alone, limits_listed}

-- no link is left
pub links_end : (fr : Frame) (c : Use) (b : SideBasis) (ls : List (LinkOf Tree)) (t : Tree) (js : List Job) (vs : List Value) (n : ℕ) → ls ≡ [] → ends_in_row vs ≡ true
    → on_row vs (λ v us. links_step (all_uses (background_in fr)) (background_in fr) c b ls t js v us n) ≡ Yields (pending js vs) n
links_end fr c b ls t js vs n e r =
    let f = background_in fr in
    let x = row_there vs r in
    ap (λ us. on_row us (λ v us. links_step (all_uses f) f c b ls t js v us n)) x.2 ∙ ap (λ l. links_step (all_uses f) f c b l t js x.0 x.1 n) e
    ∙ ap (λ us. Yields (pending js us) n) (sym x.2)

-- the first link, after which these are left
pub link_first : (fr : Frame) (w : Work) (more : Links) (t : Tree) (l : LinkOf Tree) (v : Pieces) (us : List Value)
    → more.term ≡ led (link_setting (background_in fr) (basis_of fr more.basis.value)) l t → values_of w.values ≡ In_row v ∷ us
    → links_step (all_uses (background_in fr)) (background_in fr) (call_of fr more.call.value) (basis_of fr more.basis.value) (l ∷ links_at fr more.links.now) t
    (jobs_of fr w) v us w.left
    ≡ all_tested (link_terms (link_setting (background_in fr) (basis_of fr more.basis.value)) l t) (link_goes fr w t more l v us)
link_first fr w more t (Equation_link number way path terms conds) v us e h =
    let f = background_in fr in
    let c = call_of fr more.call.value in
    let b = basis_of fr more.basis.value in
    let l : LinkOf Tree = Equation_link number way path terms conds in
    let ts = map (instance c.by) terms in
    let x : Piece = Equation_piece number way (base c ++ path) ts in
    let F : Tree → Spending Pending = λ u. all_tested (link_terms (link_setting f b) l t) (counted w.left (λ n. all_tested ts (tested (around c u)
    (Yields (pending (Links_job c b (links_at fr more.links.now) u ∷ jobs_of fr w) (In_row (pieces_joined v (more_pieces x no_piece)) ∷ us)) n)))) in
    ap F (sym e)
link_first fr w more t (Content_link op path term) v us e h =
    let f = background_in fr in
    let c = call_of fr more.call.value in
    let b = basis_of fr more.basis.value in
    let l : LinkOf Tree = Content_link op path term in
    let old = unwrap_or (at t path) t in
    let x : Piece = Content_piece op (base c ++ path) old term (bounds_of c.by old term) in
    let F : Tree → Spending Pending = λ u. all_tested (link_terms (link_setting f b) l t) (counted w.left (λ n. tested (instance c.by term) (tested (around c u)
    (Yields (pending (Links_job c b (links_at fr more.links.now) u ∷ jobs_of fr w) (In_row (pieces_joined v (more_pieces x no_piece)) ∷ us)) n)))) in
    ap F (sym e)
link_first fr w more t (Assumption_link number way path) v us e h =
    let f = background_in fr in
    let c = call_of fr more.call.value in
    let b = basis_of fr more.basis.value in
    let l : LinkOf Tree = Assumption_link number way path in
    let x : Piece = Assumption_piece (b.raised + number) way (base c ++ path) in
    let F : Tree → Spending Pending = λ u. all_tested (link_terms (link_setting f b) l t) (counted w.left (λ n. tested (around c u)
    (Yields (pending (Links_job c b (links_at fr more.links.now) u ∷ jobs_of fr w) (In_row (pieces_joined v (more_pieces x no_piece)) ∷ us)) n))) in
    ap F (sym e)
link_first fr w more t (Hypothesis_link number way path terms conds) v us e h =
    let f = background_in fr in
    let c = call_of fr more.call.value in
    let b = basis_of fr more.basis.value in
    let l : LinkOf Tree = Hypothesis_link number way path terms conds in
    let ts = map (instance c.by) terms in
    let q = followed_at b.hypotheses number in
    let d : Tree → Use = λ u. used f c q (start_of way (around c t) (around c u)) (instance c.by t) path (by_terms (goal_in q.history) ts) in
    let G : Tree → List Value → Spending Pending = λ u vs. counted w.left (λ n. all_tested ts (tested (around c u)
    (Yields (pending (Enter_use (d u) ∷ Put_behind way ∷ Links_job c b (links_at fr more.links.now) u ∷ jobs_of fr w) vs) n))) in
    let T : Spending Pending → Spending Pending = all_tested (link_terms (link_setting f b) l t ++ stood c t) in
    ap (λ u. T (G u (In_row v ∷ us))) (sym e) ∙ ap (λ vs. T (G more.term vs)) (sym h)
    ∙ tests_append (link_terms (link_setting f b) l t) (stood c t) (G more.term (values_of w.values))

-- a unit is counted, terms are tested, and the row goes on
pub linked_on : (fr : Frame) (w w1 : Work) (more : Links) (ts : List Tree) (x y : Piece) (v : Pieces) (us : List Value) → w.left ≡ suc w1.left
    → jobs_of fr w ≡ jobs_of fr w1 → first_of ts ≡ None → x ≡ y
    → counted w.left (linked fr w more ts x v us) ≡ linked fr w1 more [] y v us w1.left
linked_on fr w w1 more ts x y v us l js none e =
    let c = call_of fr more.call.value in
    let G : List Job → Piece → Spending Pending = λ ks z. tested (around c more.term)
    (Yields (pending (links_job fr more ∷ ks) (In_row (pieces_joined v (more_pieces z no_piece)) ∷ us)) w1.left) in
    counted_one w.left w1.left (linked fr w more ts x v us) l ∙ tests_none ts (G (jobs_of fr w) x) none ∙ ap (λ ks. G ks x) js ∙ ap (G (jobs_of fr w1)) e

-- .. and the terms of a row are instances
pub instances_within : (σ : Substitution) (ts : List Tree) → first_limits (instances σ (trees_of ts)) ≡ None → first_of (map (instance σ) ts) ≡ None
instances_within σ ts e = sym (limits_listed σ ts) ∙ e

pub instances_listed : (σ : Substitution) (ts : List Tree) → list_of (instances σ (trees_of ts)) ≡ map (instance σ) ts
instances_listed σ [] = refl
instances_listed σ (t ∷ ts) = ap (λ us. instance σ t ∷ us) (instances_listed σ ts)

-- a term of a link is past a limit
pub linked_past : (fr : Frame) (w : Work) (more : Links) (ts : List Tree) (x : Piece) (v : Pieces) (us : List Value) (n : ℕ) (e : TermFault) → w.left ≡ suc n
    → Names e (first_of ts) → Halts (counted w.left (linked fr w more ts x v us)) (halt.Past e)
linked_past fr w more ts x v us n e l h =
    let o : Spending Pending = tested (around (call_of fr more.call.value) more.term)
    (Yields (pending (links_job fr more ∷ jobs_of fr w) (In_row (pieces_joined v (more_pieces x no_piece)) ∷ us)) n) in
    halts_past (counted w.left (linked fr w more ts x v us)) (all_tested ts o) e (counted_one w.left n (linked fr w more ts x v us) l) (names_tests ts o e h)

-- the whole term of a link is past a limit, or the row is written
pub written_past : (fr : Frame) (w : Work) (more : Links) (x : Piece) (v : Pieces) (us : List Value) (e : TermFault)
    → Names e (first_limit (around (call_of fr more.call.value) more.term)) → Halts (linked fr w more [] x v us w.left) (halt.Past e)
written_past fr w more x v us e h =
    names_tested (around (call_of fr more.call.value) more.term)
    (Yields (pending (links_job fr more ∷ jobs_of fr w) (In_row (pieces_joined v (more_pieces x no_piece)) ∷ us)) w.left) e h

pub written_on : (fr : Frame) (w new : Work) (more : Links) (x : Piece) (v : Pieces) (us : List Value)
    → first_limit (around (call_of fr more.call.value) more.term) ≡ None → values_of w.values ≡ In_row v ∷ us
    → values_of new.values ≡ and_link x (values_of w.values) → jobs_of fr new ≡ links_job fr more ∷ jobs_of fr w → new.left ≡ w.left
    → linked fr w more [] x v us w.left ≡ Yields (pending_of fr new) new.left
written_on fr w new more x v us e h vs js n =
    let values : values_of new.values ≡ In_row (pieces_joined v (more_pieces x no_piece)) ∷ us = vs ∙ ap (and_link x) h in
    tested_none (around (call_of fr more.call.value) more.term)
    (Yields (pending (links_job fr more ∷ jobs_of fr w) (In_row (pieces_joined v (more_pieces x no_piece)) ∷ us)) w.left) e
    ∙ (λ i. Yields (pending (sym js i) (sym values i)) (sym n i))

-- a hypothesis is used
pub used_past : (fr : Frame) (w : Work) (more : Links) (number : ℕ) (way : Way) (path : List ℕ) (ts : List Tree) (standing before : Tree) (n : ℕ) (e : TermFault)
    → w.left ≡ suc n → Names e (first_of (map (instance (call_of fr more.call.value).by) ts))
    → Halts (counted w.left (hypothesised fr w more number way path ts standing before)) (halt.Past e)
used_past fr w more number way path ts standing before n e l h =
    let c = call_of fr more.call.value in
    let us = map (instance c.by) ts in
    let q = followed_at (basis_of fr more.basis.value).hypotheses number in
    let d = used (background_in fr) c q (start_of way before (around c more.term)) standing path (by_terms (goal_in q.history) us) in
    let o : Spending Pending = tested (around c more.term)
    (Yields (pending (Enter_use d ∷ Put_behind way ∷ links_job fr more ∷ jobs_of fr w) (values_of w.values)) n) in
    halts_past (counted w.left (hypothesised fr w more number way path ts standing before)) (all_tested us o) e
    (counted_one w.left n (hypothesised fr w more number way path ts standing before) l) (names_tests us o e h)

pub used_whole_past : (fr : Frame) (w : Work) (more : Links) (number : ℕ) (way : Way) (path : List ℕ) (ts : List Tree) (standing before : Tree) (n : ℕ) (e : TermFault)
    → w.left ≡ suc n → first_of (map (instance (call_of fr more.call.value).by) ts) ≡ None → Names e (first_limit (around (call_of fr more.call.value) more.term))
    → Halts (counted w.left (hypothesised fr w more number way path ts standing before)) (halt.Past e)
used_whole_past fr w more number way path ts standing before n e l none h =
    let c = call_of fr more.call.value in
    let us = map (instance c.by) ts in
    let q = followed_at (basis_of fr more.basis.value).hypotheses number in
    let d = used (background_in fr) c q (start_of way before (around c more.term)) standing path (by_terms (goal_in q.history) us) in
    let y : Spending Pending = Yields (pending (Enter_use d ∷ Put_behind way ∷ links_job fr more ∷ jobs_of fr w) (values_of w.values)) n in
    let o : Spending Pending = tested (around c more.term) y in
    halts_past (counted w.left (hypothesised fr w more number way path ts standing before)) o e
    (counted_one w.left n (hypothesised fr w more number way path ts standing before) l ∙ tests_none us o none) (names_tested (around c more.term) y e h)

pub used_on : (fr : Frame) (w new : Work) (more : Links) (number : ℕ) (way : Way) (path : List ℕ) (ts : List Tree) (standing before : Tree) (d : Use)
    → w.left ≡ suc new.left → first_of (map (instance (call_of fr more.call.value).by) ts) ≡ None
    → first_limit (around (call_of fr more.call.value) more.term) ≡ None
    → d ≡ used (background_in fr) (call_of fr more.call.value) (followed_at (basis_of fr more.basis.value).hypotheses number)
    (start_of way before (around (call_of fr more.call.value) more.term)) standing path
    (by_terms (goal_in (followed_at (basis_of fr more.basis.value).hypotheses number).history) (map (instance (call_of fr more.call.value).by) ts))
    → jobs_of fr new ≡ Enter_use d ∷ Put_behind way ∷ links_job fr more ∷ jobs_of fr w → values_of new.values ≡ values_of w.values
    → counted w.left (hypothesised fr w more number way path ts standing before) ≡ Yields (pending_of fr new) new.left
used_on fr w new more number way path ts standing before d l none whole is js vs =
    let c = call_of fr more.call.value in
    let us = map (instance c.by) ts in
    let q = followed_at (basis_of fr more.basis.value).hypotheses number in
    let x = used (background_in fr) c q (start_of way before (around c more.term)) standing path (by_terms (goal_in q.history) us) in
    let F : Use → Spending Pending = λ y. Yields (pending (Enter_use y ∷ Put_behind way ∷ links_job fr more ∷ jobs_of fr w) (values_of w.values)) new.left in
    counted_one w.left new.left (hypothesised fr w more number way path ts standing before) l
    ∙ tests_none us (tested (around c more.term) (F x)) none ∙ tested_none (around c more.term) (F x) whole ∙ ap F (sym is)
    ∙ (λ i. Yields (pending (sym js i) (sym vs i)) new.left)

-- the whole step of a side with a link first
pub step_first : (fr : Frame) (l : Links) (w : Work) (x : Link ℕ) (rest : List (Link ℕ)) (more : Links) (v : Pieces) (us : List Value)
    → l.links.now ≡ x ∷ rest → more.call.value ≡ l.call.value → more.basis.value ≡ l.basis.value → more.links.now ≡ rest
    → more.term ≡ led (link_setting (background_in fr) (basis_of fr more.basis.value)) (resolved_link fr.table.now (plain_link x)) l.term
    → values_of w.values ≡ In_row v ∷ us
    → stepped fr (links_job fr l) w
    ≡ all_tested (link_terms (link_setting (background_in fr) (basis_of fr more.basis.value)) (resolved_link fr.table.now (plain_link x)) l.term)
    (link_goes fr w l.term more (resolved_link fr.table.now (plain_link x)) v us)
step_first fr l w x rest more v us e c b r t h =
    let f = background_in fr in
    let F : Call → Basis → List (Link ℕ) → Pieces → List Value → Spending Pending = λ d s ls z vs.
    links_step (all_uses f) f (call_of fr d) (basis_of fr s) (links_at fr ls) l.term (jobs_of fr w) z vs w.left in
    on_last (values_of w.values) (F l.call.value l.basis.value l.links.now) v us h
    ∙ (λ i. F (sym c i) (sym b i) ((e ∙ ap (λ ls. x ∷ ls) (sym r)) i) v us)
    ∙ link_first fr w more l.term (resolved_link fr.table.now (plain_link x)) v us t h

-- .. where its terms are past a limit
pub step_past : (fr : Frame) (l : Links) (w : Work) (x : Link ℕ) (rest : List (Link ℕ)) (v : Pieces) (us : List Value) (e : TermFault)
    → l.links.now ≡ x ∷ rest → values_of w.values ≡ In_row v ∷ us
    → Names e (first_of (link_terms (link_setting (background_in fr) (basis_of fr l.basis.value)) (resolved_link fr.table.now (plain_link x)) l.term))
    → Halts (stepped fr (links_job fr l) w) (halt.Past e)
step_past fr l w x rest v us e r h n =
    let S = link_setting (background_in fr) (basis_of fr l.basis.value) in
    let y = resolved_link fr.table.now (plain_link x) in
    let more : Links = record l { links = record l.links { now = rest }; term = led S y l.term } in
    halts_past (stepped fr (links_job fr l) w) (all_tested (link_terms S y l.term) (link_goes fr w l.term more y v us)) e
    (step_first fr l w x rest more v us r refl refl refl refl h) (names_tests (link_terms S y l.term) (link_goes fr w l.term more y v us) e n)

-- what a side's call answers, said of the use
pub built_at : (r : Result Tree TermFault) (S T : Setting) (xs ys : List Tree) (x : Link ℕ) (t : Tree) → S ≡ T → xs ≡ ys
    → BuildsLast r (link_terms S (resolved_link xs (plain_link x)) t) (led S (resolved_link xs (plain_link x)) t)
    → BuildsLast r (link_terms T (resolved_link ys (plain_link x)) t) (led T (resolved_link ys (plain_link x)) t)
built_at r S T xs ys x t e h b =
    let P : Setting → Type 0 = λ s. BuildsLast r (link_terms s (resolved_link xs (plain_link x)) t) (led s (resolved_link xs (plain_link x)) t) in
    let Q : List Tree → Type 0 = λ zs. BuildsLast r (link_terms T (resolved_link zs (plain_link x)) t) (led T (resolved_link zs (plain_link x)) t) in
    subst Q h (subst P e b)

pub all_built_at : (r : Result Tree TermFault) (S T : Setting) (xs ys : List Tree) (ls : List (Link ℕ)) (t : Tree) → S ≡ T → xs ≡ ys
    → BuildsLast r (trail S (resolved_links xs (plain_links ls)) t) (led_all S (resolved_links xs (plain_links ls)) t)
    → BuildsLast r (trail T (resolved_links ys (plain_links ls)) t) (led_all T (resolved_links ys (plain_links ls)) t)
all_built_at r S T xs ys ls t e h b =
    let P : Setting → Type 0 = λ s. BuildsLast r (trail s (resolved_links xs (plain_links ls)) t) (led_all s (resolved_links xs (plain_links ls)) t) in
    let Q : List Tree → Type 0 = λ zs. BuildsLast r (trail T (resolved_links zs (plain_links ls)) t) (led_all T (resolved_links zs (plain_links ls)) t) in
    subst Q h (subst P e b)

pub all_built_from : (r : Result Tree TermFault) (S T : Setting) (xs ys : List Tree) (ls ks : List (Link ℕ)) (t : Tree) → S ≡ T → xs ≡ ys → ls ≡ ks
    → BuildsLast r (trail S (resolved_links xs (plain_links ls)) t) (led_all S (resolved_links xs (plain_links ls)) t)
    → BuildsLast r (trail T (resolved_links ys (plain_links ks)) t) (led_all T (resolved_links ys (plain_links ks)) t)
all_built_from r S T xs ys ls ks t e h l b =
    let P : List (Link ℕ) → Type 0 = λ zs. BuildsLast r (trail T (resolved_links ys (plain_links zs)) t) (led_all T (resolved_links ys (plain_links zs)) t) in
    subst P l (all_built_at r S T xs ys ls t e h b)

-- what stands, or the whole term, is past a limit before a hypothesis is used
pub standing_past : {X : Type 0} (c : Use) (t : Tree) (o : Spending X) (e : TermFault) → Names e (first_limit (instance c.by t))
    → Halts (all_tested (stood c t) o) (halt.Past e)
standing_past c t o e h = names_tests (stood c t) o e (names_first (instance c.by t) (around c t ∷ []) e h)

pub before_past : {X : Type 0} (c : Use) (t s : Tree) (o : Spending X) (e : TermFault) → s ≡ instance c.by t → first_limit (instance c.by t) ≡ None
    → Names e (first_limit (whole_with c s)) → Halts (all_tested (stood c t) o) (halt.Past e)
before_past c t s o e is none h =
    let P : Tree → Type 0 = λ u. Names e (first_limit (whole_with c u)) in
    names_tests (stood c t) o e (names_later (instance c.by t) (around c t ∷ []) e none (names_alone (around c t) e (subst P is h)))

pub stood_on : (fr : Frame) (w : Work) (more : Links) (number : ℕ) (way : Way) (path : List ℕ) (ts : List Tree) (t s u : Tree)
    → s ≡ instance (call_of fr more.call.value).by t → first_limit (instance (call_of fr more.call.value).by t) ≡ None
    → u ≡ whole_with (call_of fr more.call.value) s → first_limit (whole_with (call_of fr more.call.value) s) ≡ None
    → all_tested (stood (call_of fr more.call.value) t) (counted w.left (hypothesised fr w more number way path ts (instance (call_of fr more.call.value).by t)
    (around (call_of fr more.call.value) t)))
    ≡ counted w.left (hypothesised fr w more number way path ts s u)
stood_on fr w more number way path ts t s u a b e h =
    let c = call_of fr more.call.value in
    let G : Tree → Tree → Spending Pending = λ x y. counted w.left (hypothesised fr w more number way path ts x y) in
    let whole : u ≡ around c t = e ∙ ap (whole_with c) a in
    tests_none (stood c t) (G (instance c.by t) (around c t))
    (first_more (instance c.by t) (around c t ∷ []) b (first_alone (around c t) (ap (λ x. first_limit (whole_with c x)) (sym a) ∙ h)))
    ∙ (λ i. G (sym a i) (sym whole i))
