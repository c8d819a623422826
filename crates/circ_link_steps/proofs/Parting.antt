-- The steps of reasons.
use Rattle.std.proofs.Common.{◌≡◌, ◌==◌, ℕ, Bool, true, false, if◌then◌else◌, List, [], ◌∷◌, ◌++◌, suc, Option, Some, None, Result, Ok, Err, unwrap_or, refl, ap, sym, ◌∙◌, subst}
use Rattle.std.specs.List.{find}
use Rattle.std.specs.Option.{option_map}
use Rattle.std.proofs.lemmas.Bool.{eqb-true}
use Rattle.circ_term.specs.Tree.{Tree, sort_of}
use Rattle.circ_term.specs.Limits.{Limit, first_limit, Names, Builds}
use Rattle.circ_term.specs.Substitution.{instance}
use Rattle.circ_term.specs.declared.fault.TermFault.{TermFault}
use Rattle.circ_theory.specs.Theory.{Pair, CaseList}
use Rattle.circ_theory.specs.Derivable.{is_case}
use Rattle.circ_theory.specs.Observing.{case_list}
use Rattle.circ_proof.specs.Plain.{WhysOf, Split_why, plain_chain}
use Rattle.circ_proof.specs.Link.{resolved_chain}
use Rattle.circ_expansion.specs.Followed.{led_all}
use Rattle.circ_proof.specs.declared.links.Why.{Why, Same}
use Rattle.circ_proof.specs.declared.links.Chain.{Chain}
use Rattle.circ_theory.specs.declared.way.Way.TheVariants.{Back}
use Rattle.circ_expansion.specs.Pieces.{no_piece, no_part}
use Rattle.circ_expansion.specs.Expand.{Spending, Yields, Long, counted, tested, all_tested, Call as Use, Basis as SideBasis, around, whole_with, stood, trail, link_setting, case_basis, cases_at}
use Rattle.circ_expansion.specs.Machine.{In_row, In_parts, Put_behind, Put_between, reason_step, Value, Pending, pending, Task as Job, Give_reason, Give_reasons, Add_part, Begin_split, End_split, task_step, reasons_step}
use Rattle.circ_expansion.specs.Machine.{all_uses, rest_done, tasks_weight}
use Rattle.circ_uses.specs.Uses.{first_of, BuildsLast}
use Rattle.circ_link_steps.specs.Splits.{split_jobs}
use Rattle.circ_written.specs.Values.{values_of}
use Rattle.circ_tasks.specs.Tasks.{call_of, basis_of, background_in, jobs_of, pending_of, whys_at, why_at, reasons_job, split_term, case_list_of, assumed, stepped, IsAlike, reason_job, begun_sides, links_at, Halts}
use Rattle.circ_tasks.specs.declared.tasks.Halt.TheVariants as halt
use Rattle.circ_tasks.specs.declared.tasks.Reason.{Reason}
use Rattle.circ_tasks.specs.declared.calls.Frame.{Frame}
use Rattle.circ_tasks.specs.declared.calls.Call.{Call}
use Rattle.circ_tasks.specs.declared.calls.Basis.{Basis}
use Rattle.circ_uses.proofs.Rising.{none_first, names_first as rising_first}
use Rattle.circ_tasks.specs.declared.tasks.Reasons.{Reasons}
use Rattle.circ_tasks.specs.declared.tasks.Work.{Work}
use Rattle.circ_tasks.proofs.Assuming.{under}
use Rattle.circ_tasks.proofs.Stepping.{tests_none, tested_none, counted_one, counted_none, halts_past, names_tests, names_tested, names_later, names_alone, first_more, first_alone}
use Rattle.circ_tasks.proofs.Leaving.{case_alike}

-- the constants that are found are those of the case list
pub list_found : (s : ℕ) (ls : List CaseList)
    → case_list s (unwrap_or (option_map (λ (l : CaseList). l.constants) (find (λ (l : CaseList). s == l.sort) ls)) [])
    ≡ unwrap_or (find (λ (l : CaseList). s == l.sort) ls) (case_list s [])
list_found s [] = refl
list_found s (l ∷ ls) = go (s == l.sort) refl (list_found s ls)
  where
    go : (b : Bool) → (s == l.sort) ≡ b
        → case_list s (unwrap_or (option_map (λ (x : CaseList). x.constants) (find (λ (x : CaseList). s == x.sort) ls)) [])
        ≡ unwrap_or (find (λ (x : CaseList). s == x.sort) ls) (case_list s [])
        → case_list s (unwrap_or (option_map (λ (x : CaseList). x.constants) (if b then Some l else find (λ (x : CaseList). s == x.sort) ls)) [])
        ≡ unwrap_or (if b then Some l else find (λ (x : CaseList). s == x.sort) ls) (case_list s [])
    go true e ih = ap (λ k. case_list k l.constants) (eqb-true s l.sort e)
    go false e ih = ih

-- no case is left
pub reasons_end : (fr : Frame) (r : Reasons) (w : Work) → r.whys.now ≡ []
    → stepped fr (reasons_job fr r) w ≡ Yields (pending (jobs_of fr w) (In_parts no_part ∷ values_of w.values)) w.left
reasons_end fr r w e =
    let f = background_in fr in
    ap (λ ws. reasons_step (all_uses f) f (call_of fr r.call.value) (basis_of fr r.basis.value) (whys_at fr ws) r.term (case_list_of r) r.constants.now
    r.left r.right (jobs_of fr w) (values_of w.values) w.left) e

pub constants_end : (fr : Frame) (r : Reasons) (w : Work) (x : Why ℕ) (xs : List (Why ℕ)) → r.whys.now ≡ x ∷ xs → r.constants.now ≡ []
    → stepped fr (reasons_job fr r) w ≡ Yields (pending (jobs_of fr w) (In_parts no_part ∷ values_of w.values)) w.left
constants_end fr r w x xs e h =
    let f = background_in fr in
    let F : List (Why ℕ) → List ℕ → Spending Pending = λ ws ks. reasons_step (all_uses f) f (call_of fr r.call.value) (basis_of fr r.basis.value)
    (whys_at fr ws) r.term (case_list_of r) ks r.left r.right (jobs_of fr w) (values_of w.values) w.left in
    ap (λ ws. F ws r.constants.now) e ∙ ap (F (x ∷ xs)) h

-- the next case, with as many assumptions as it has
abbrev pub case_use : Frame → Reasons → (constant : ℕ) → Use
case_use fr r k =
    let c = call_of fr r.call.value in
    record c { whole = around c r.left; assumptions = c.assumptions ++ is_case (instance c.by r.term) (case_list_of r) k ∷ [] }

abbrev pub case_side : Frame → Reasons → (constant : ℕ) → SideBasis
case_side fr r k =
    case_basis (all_uses (background_in fr)) (background_in fr) (basis_of fr r.basis.value) (is_case r.term (case_list_of r) k)

-- the terms that are tested before
abbrev pub case_terms : Frame → Reasons → List Tree
case_terms fr r =
    let c = call_of fr r.call.value in
    instance c.by r.term ∷ stood c r.left

abbrev pub case_pending : Frame → Reasons → Work → Why ℕ → List (Why ℕ) → (k : ℕ) → List ℕ → Pending
case_pending fr r w x xs k ks =
    pending (Give_reason (case_use fr r k) (case_side fr r k) (why_at fr x) r.left r.right
    ∷ Give_reasons (call_of fr r.call.value) (basis_of fr r.basis.value) (whys_at fr xs) r.term (case_list_of r) ks r.left r.right
    ∷ Add_part ∷ jobs_of fr w) (values_of w.values)

pub case_first : (fr : Frame) (r : Reasons) (w : Work) (x : Why ℕ) (xs : List (Why ℕ)) (k : ℕ) (ks : List ℕ) → r.whys.now ≡ x ∷ xs → r.constants.now ≡ k ∷ ks
    → stepped fr (reasons_job fr r) w ≡ all_tested (case_terms fr r) (Yields (case_pending fr r w x xs k ks) w.left)
case_first fr r w x xs k ks e h =
    let f = background_in fr in
    let F : List (Why ℕ) → List ℕ → Spending Pending = λ ws cs. reasons_step (all_uses f) f (call_of fr r.call.value) (basis_of fr r.basis.value)
    (whys_at fr ws) r.term (case_list_of r) cs r.left r.right (jobs_of fr w) (values_of w.values) w.left in
    ap (λ ws. F ws r.constants.now) e ∙ ap (F (x ∷ xs)) h

-- a case with other assumptions, as many, is given in the same way
pub case_goes : (fr : Frame) (r : Reasons) (w new : Work) (x : Why ℕ) (xs : List (Why ℕ)) (k : ℕ) (ks : List ℕ) (j : Job)
    → r.whys.now ≡ x ∷ xs → r.constants.now ≡ k ∷ ks → first_of (case_terms fr r) ≡ None
    → j ≡ Give_reason (record (call_of fr r.call.value) { whole = around (call_of fr r.call.value) r.left; assumptions = assumed (suc r.call.value.assumptions) })
    (case_side fr r k) (why_at fr x) r.left r.right
    → jobs_of fr new ≡ j
    ∷ Give_reasons (call_of fr r.call.value) (basis_of fr r.basis.value) (whys_at fr xs) r.term (case_list_of r) ks r.left r.right ∷ Add_part ∷ jobs_of fr w
    → values_of new.values ≡ values_of w.values → new.left ≡ w.left → IsAlike fr (stepped fr (reasons_job fr r) w) new
case_goes fr r w new x xs k ks j e h none is js vs n =
    let f = background_in fr in
    let c = call_of fr r.call.value in
    let d : Use = record c { whole = around c r.left } in
    let p : Pair = is_case (instance c.by r.term) (case_list_of r) k in
    let b = case_side fr r k in
    let rest : List Job = Give_reasons c (basis_of fr r.basis.value) (whys_at fr xs) r.term (case_list_of r) ks r.left r.right ∷ Add_part ∷ jobs_of fr w in
    let u = case_pending fr r w x xs k ks in
    let y : Job = Give_reason (under (assumed (suc r.call.value.assumptions)) d) b (why_at fr x) r.left r.right in
    let jobs : jobs_of fr new ≡ y ∷ rest = js ∙ ap (λ z. z ∷ rest) is in
    let yields : stepped fr (reasons_job fr r) w ≡ Yields u new.left =
    case_first fr r w x xs k ks e h ∙ tests_none (case_terms fr r) (Yields u w.left) none ∙ ap (Yields u) (sym n) in
    let same : rest_done f u new.left ≡ rest_done f (pending_of fr new) new.left =
    case_alike f d r.call.value.assumptions p b (why_at fr x) r.left r.right rest (values_of w.values) new.left
    ∙ ap (λ zs. rest_done f (pending zs (values_of w.values)) new.left) (sym jobs)
    ∙ ap (λ us. rest_done f (pending (jobs_of fr new) us) new.left) (sym vs) in
    (u, yields, same, ap tasks_weight (sym jobs))

-- both sides of a reason, and before a split its terms are tested
pub same_begun : (fr : Frame) (r : Reason) (w new : Work) (chain : Chain ℕ) → r.why.now ≡ Same chain
    → jobs_of fr new ≡ begun_sides fr r.call.value r.basis.value chain r.left r.right (Put_behind Back ∷ jobs_of fr w)
    → values_of new.values ≡ In_row no_piece ∷ values_of w.values → new.left ≡ w.left
    → stepped fr (reason_job fr r) w ≡ Yields (pending_of fr new) new.left
same_begun fr r w new chain e js vs n =
    let f = background_in fr in
    ap (λ y. reason_step (all_uses f) f (call_of fr r.call.value) (basis_of fr r.basis.value) (why_at fr y) r.left r.right (jobs_of fr w) (values_of w.values) w.left) e
    ∙ (λ i. Yields (pending (sym js i) (sym vs i)) (sym n i))

-- a split is begun
pub split_past : (fr : Frame) (w : Work) (r : Reasons) (n : ℕ) (e : TermFault) → w.left ≡ suc n → Names e (first_limit (split_term r))
    → Halts (task_step (all_uses (background_in fr)) (background_in fr) (Begin_split (split_term r)) (reasons_job fr r ∷ End_split (split_term r) ∷ jobs_of fr w)
    (values_of w.values) w.left) (halt.Past e)
split_past fr w r n e l h =
    let js : List Job = reasons_job fr r ∷ End_split (split_term r) ∷ jobs_of fr w in
    let G : ℕ → Spending Pending = λ m. tested (split_term r) (Yields (pending js (values_of w.values)) m) in
    halts_past (counted w.left G) (G n) e (counted_one w.left n G l) (names_tested (split_term r) (Yields (pending js (values_of w.values)) n) e h)

pub split_on : (fr : Frame) (w new : Work) (r : Reasons) (t : Tree) → w.left ≡ suc new.left → t ≡ split_term r → first_limit (split_term r) ≡ None
    → jobs_of fr new ≡ reasons_job fr r ∷ End_split t ∷ jobs_of fr w → values_of new.values ≡ values_of w.values
    → task_step (all_uses (background_in fr)) (background_in fr) (Begin_split (split_term r)) (reasons_job fr r ∷ End_split (split_term r) ∷ jobs_of fr w)
    (values_of w.values) w.left
    ≡ Yields (pending_of fr new) new.left
split_on fr w new r t l e none js vs =
    let F : Tree → Spending Pending = λ u. Yields (pending (reasons_job fr r ∷ End_split u ∷ jobs_of fr w) (values_of w.values)) new.left in
    let G : ℕ → Spending Pending = λ m. tested (split_term r) (Yields (pending (reasons_job fr r ∷ End_split (split_term r) ∷ jobs_of fr w) (values_of w.values)) m) in
    counted_one w.left new.left G l ∙ tested_none (split_term r) (F (split_term r)) none ∙ ap F (sym e)
    ∙ (λ i. Yields (pending (sym js i) (sym vs i)) new.left)

pub split_none : (fr : Frame) (w : Work) (r : Reasons) → w.left ≡ 0
    → task_step (all_uses (background_in fr)) (background_in fr) (Begin_split (split_term r)) (reasons_job fr r ∷ End_split (split_term r) ∷ jobs_of fr w)
    (values_of w.values) w.left
    ≡ Long
split_none fr w r e =
    let G : ℕ → Spending Pending = λ m. tested (split_term r) (Yields (pending (reasons_job fr r ∷ End_split (split_term r) ∷ jobs_of fr w) (values_of w.values)) m) in
    counted_none w.left G e

-- the whole term in which a case begins
pub whole_builds : (c : Use) (v t s : Tree) (r : Result Tree TermFault) → first_limit (instance c.by v) ≡ None → s ≡ instance c.by t
    → first_limit (instance c.by t) ≡ None → Builds r (whole_with c s) → BuildsLast r (instance c.by v ∷ stood c t) (around c t)
whole_builds c v t s (Ok u) a e b h =
    let n : first_limit (around c t) ≡ None = ap (λ x. first_limit (whole_with c x)) (sym e) ∙ h.1 in
    (h.0 ∙ ap (whole_with c) e, first_more (instance c.by v) (stood c t) a (first_more (instance c.by t) (around c t ∷ []) b (first_alone (around c t) n)))
whole_builds c v t s (Err f) a e b h =
    let P : Tree → Type 0 = λ x. Names f (first_limit (whole_with c x)) in
    names_later (instance c.by v) (stood c t) f a (names_later (instance c.by t) (around c t ∷ []) f b (names_alone (around c t) f (subst P e h)))

-- a split stands between the links of both sides
pub split_begun : (fr : Frame) (b : Basis) (d : Call) (chain : Chain ℕ) (v s t : Tree) (ws : WhysOf Tree) (r : Reasons) (js : List Job) (vs : List Value) (n : ℕ)
    → first_of (trail (link_setting (background_in fr) (basis_of fr b)) (links_at fr chain.left.items) s) ≡ None
    → first_of (trail (link_setting (background_in fr) (basis_of fr b)) (links_at fr chain.right.items) t) ≡ None
    → reasons_job fr r ≡ Give_reasons (call_of fr d) (basis_of fr b) ws v (cases_at (all_uses (background_in fr)) (background_in fr) (sort_of v))
    (cases_at (all_uses (background_in fr)) (background_in fr) (sort_of v)).constants
    (led_all (link_setting (background_in fr) (basis_of fr b)) (links_at fr chain.left.items) s)
    (led_all (link_setting (background_in fr) (basis_of fr b)) (links_at fr chain.right.items) t)
    → split_term r ≡ instance (call_of fr d).by v
    → reason_step (all_uses (background_in fr)) (background_in fr) (call_of fr d) (basis_of fr b) (Split_why (resolved_chain fr.table.now (plain_chain chain)) v ws) s t
    js vs n
    ≡ Yields (pending (begun_sides fr d b chain s t (split_jobs fr r js)) (In_row no_piece ∷ vs)) n
split_begun fr b d chain v s t ws r js vs n a e job term =
    let f = background_in fr in
    let S = link_setting f (basis_of fr b) in
    let ls = links_at fr chain.left.items in
    let rs = links_at fr chain.right.items in
    let G : Job → Tree → Spending Pending = λ k u. Yields (pending (begun_sides fr d b chain s t (Begin_split u ∷ k ∷ End_split u ∷ Put_between ∷ js))
    (In_row no_piece ∷ vs)) n in
    let l = cases_at (all_uses f) f (sort_of v) in
    let first : Job = Give_reasons (call_of fr d) (basis_of fr b) ws v l l.constants (led_all S ls s) (led_all S rs t) in
    tests_none (trail S ls s ++ trail S rs t) (G first (instance (call_of fr d).by v)) (none_first (trail S ls s) (trail S rs t) a ∙ e)
    ∙ (λ i. G (sym job i) (sym term i))

-- a term of a side is past a limit before a split
abbrev pub split_pending : Frame → Basis → Call → Chain ℕ → (v s t : Tree) → WhysOf Tree → List Job → List Value → ℕ → Spending Pending
split_pending fr b d chain v s t ws js vs n =
    let f = background_in fr in
    let S = link_setting f (basis_of fr b) in
    let l = cases_at (all_uses f) f (sort_of v) in
    let u = instance (call_of fr d).by v in
    Yields (pending (begun_sides fr d b chain s t (Begin_split u ∷ Give_reasons (call_of fr d) (basis_of fr b) ws v l l.constants
    (led_all S (links_at fr chain.left.items) s) (led_all S (links_at fr chain.right.items) t) ∷ End_split u ∷ Put_between ∷ js))
    (In_row no_piece ∷ vs)) n

pub left_split_past : (fr : Frame) (b : Basis) (d : Call) (chain : Chain ℕ) (v s t : Tree) (ws : WhysOf Tree) (js : List Job) (vs : List Value) (n : ℕ) (e : TermFault)
    → Names e (first_of (trail (link_setting (background_in fr) (basis_of fr b)) (links_at fr chain.left.items) s))
    → Halts (reason_step (all_uses (background_in fr)) (background_in fr) (call_of fr d) (basis_of fr b) (Split_why (resolved_chain fr.table.now (plain_chain chain)) v ws)
    s t js vs n) (halt.Past e)
left_split_past fr b d chain v s t ws js vs n e h =
    let S = link_setting (background_in fr) (basis_of fr b) in
    let xs = trail S (links_at fr chain.left.items) s in
    let ys = trail S (links_at fr chain.right.items) t in
    names_tests (xs ++ ys) (split_pending fr b d chain v s t ws js vs n) e (rising_first xs ys e h)

pub right_split_past : (fr : Frame) (b : Basis) (d : Call) (chain : Chain ℕ) (v s t : Tree) (ws : WhysOf Tree) (js : List Job) (vs : List Value) (n : ℕ) (e : TermFault)
    → first_of (trail (link_setting (background_in fr) (basis_of fr b)) (links_at fr chain.left.items) s) ≡ None
    → Names e (first_of (trail (link_setting (background_in fr) (basis_of fr b)) (links_at fr chain.right.items) t))
    → Halts (reason_step (all_uses (background_in fr)) (background_in fr) (call_of fr d) (basis_of fr b) (Split_why (resolved_chain fr.table.now (plain_chain chain)) v ws)
    s t js vs n) (halt.Past e)
right_split_past fr b d chain v s t ws js vs n e a h =
    let S = link_setting (background_in fr) (basis_of fr b) in
    let xs = trail S (links_at fr chain.left.items) s in
    let ys = trail S (links_at fr chain.right.items) t in
    let P : Option Limit → Type 0 = λ o. Names e o in
    names_tests (xs ++ ys) (split_pending fr b d chain v s t ws js vs n) e (subst P (sym (none_first xs ys a)) h)
