-- The whole of the work.
use Rattle.std.proofs.Common.{◌≡◌, ◌≤◌, ℕ, ◌+◌, List, [], ◌∷◌, ◌++◌, zero, suc, map, length, arith, Option, Some, None, Result, Ok, Err, refl, ap, sym, ◌∙◌, subst}
use Rattle.std.specs.List.{slice_get, filter}
use Rattle.std.proofs.lemmas.List.{length-map}
use Rattle.std.specs.Option.{option_map_or}
use Rattle.std.specs.Global.{Vec}
use Rattle.circ_term.specs.Tree.{Tree, Var, sort_of}
use Rattle.circ_term.specs.Limits.{Limit, first_limit, or_else, Names}
use Rattle.circ_term.specs.declared.fault.TermFault.{TermFault}
use Rattle.circ_term.specs.declared.fault.TermFault.TheVariants.{Memory}
use Rattle.circ_theory.specs.Theory.{Theory}
use Rattle.circ_theory.specs.Experiment.{Entry, on}
use Rattle.circ_theory.specs.Observing.{is_parameter}
use Rattle.circ_theory.specs.Rewriting.{named}
use Rattle.circ_theory.specs.Variables.{Variable, occurrences}
use Rattle.circ_theory.specs.WellFormed.{IsWellFormed}
use Rattle.circ_theory.proofs.Rewriting.{contains_at}
use Rattle.circ_proof.specs.Plain.{map_link, plain_links}
use Rattle.circ_proof.specs.PlainProof.{plain_proof, plain_certificates}
use Rattle.circ_proof.specs.declared.links.Link.{Link}
use Rattle.circ_proof.specs.declared.proof.Proof.{Proof as TheProof}
use Rattle.circ_proof.specs.Proof.{Proof, ProofFor, IsPlain}
use Rattle.circ_proof.specs.Accepted.{certificates_of, Accepted}
use Rattle.circ_entry.specs.Entries.{Numbered, Written, FitsWritten, bare_entries, numbered_entries}
use Rattle.circ_entry.specs.Plain.{plain_entries}
use Rattle.circ_entry.specs.declared.entries.Entry.{Entry as WrittenEntry}
use Rattle.circ_expansion.specs.Followed.{goal_in, goals_of, hypotheses_of, Followed as History_in}
use Rattle.circ_expansion.specs.Pieces.{Pieces}
use Rattle.circ_expansion.specs.Expand.{Spending, Yields, Long, Past, Stopped, continued, tested, all_tested, stages, followed_at, no_followed, Background, background_of, certificate_of, Call as Use, expansion}
use Rattle.circ_expansion.specs.Machine.{Value, In_row, In_parts, Pending, pending, Begin_use, rest_done, last_row, worked_off}
use Rattle.circ_uses.specs.Uses.{first_of}
use Rattle.circ_written.specs.Values.{values_of, IsLastRow}
use Rattle.circ_book.specs.Book.{followed_by, hypotheses_in, IsBook}
use Rattle.circ_uses.specs.Certificates.{lists_in}
use Rattle.circ_written.specs.Rows.{plain_row, rows_of}
use Rattle.circ_expand.specs.Outcomes.{IsWrittenOut}
use Rattle.circ_tasks.specs.Tasks.{background_in, followed_of, opening_of, worked_in, WritesOut, EndsIn, Halts, AreFew, jobs_of, left_of, past_of}
use Rattle.circ_expand.specs.declared.fault.ExpandFault.TheVariants as fault
use Rattle.circ_expansion.specs.Answers.{LeadsOnGoal}
use Rattle.circ_expansion.specs.Goals.{FitGoal, all_goals}
use Rattle.circ_theory.specs.Goal.{Goal}
use Rattle.std.proofs.lemmas.Option.{same_Some}
use Rattle.circ_expansion.proofs.Expanding.{expansion_goes, given_leads, never_stops}
use Rattle.circ_expansion.proofs.Working.{worked_right}
use Rattle.circ_written.specs.declared.rows.Row.{Row}
use Rattle.circ_book.specs.declared.book.Followed.{Followed}
use Rattle.circ_tasks.specs.declared.calls.Frame.{Frame}
use Rattle.circ_tasks.specs.declared.tasks.Halt.{Halt}
use Rattle.circ_tasks.specs.declared.tasks.Halt.TheVariants as halt
use Rattle.circ_tasks.specs.declared.tasks.Work.{Work}
use Rattle.circ_tasks.proofs.Background.{followed_one}
use Rattle.circ_uses.proofs.Rising.{none_first}
use Rattle.circ_tasks.proofs.Leaving.{halts_on}
use Rattle.circ_tasks.proofs.Stepping.{tests_none, tested_none, names_tests}

-- the terms at the start are past a limit, or the work is done
pub worked_past : (fr : Frame) (n : ℕ) (cs : List Numbered) (k : ℕ) (e : TermFault)
    → Names e (first_of (stages (bare_entries cs) (goal_in (followed_of fr n).history).left ++ stages (bare_entries cs) (goal_in (followed_of fr n).history).right))
    → Halts (worked_in fr n cs k) (halt.Past e)
worked_past fr n cs k e h =
    let g = followed_of fr n in
    let o : Spending Pieces = tested (on (bare_entries cs) (goal_in g.history).left) (tested (on (bare_entries cs) (goal_in g.history).right)
    (continued (rest_done (background_in fr) (pending (Begin_use (opening_of fr n cs) ∷ []) []) k) last_row)) in
    names_tests (stages (bare_entries cs) (goal_in g.history).left ++ stages (bare_entries cs) (goal_in g.history).right) o e h

pub worked_on : (fr : Frame) (n : ℕ) (cs : List Numbered) (k : ℕ) (u : Tree)
    → EndsIn (bare_entries cs) (goal_in (followed_of fr n).history).left (goal_in (followed_of fr n).history).right (Ok u)
    → worked_in fr n cs k ≡ continued (rest_done (background_in fr) (pending (Begin_use (opening_of fr n cs) ∷ []) []) k) last_row
worked_on fr n cs k u h =
    let g = followed_of fr n in
    let o : Spending Pieces = continued (rest_done (background_in fr) (pending (Begin_use (opening_of fr n cs) ∷ []) []) k) last_row in
    let s = on (bare_entries cs) (goal_in g.history).left in
    let t = on (bare_entries cs) (goal_in g.history).right in
    tests_none (stages (bare_entries cs) (goal_in g.history).left ++ stages (bare_entries cs) (goal_in g.history).right) (tested s (tested t o)) h.1
    ∙ tested_none s (tested t o) h.2 ∙ tested_none t o h.3

-- the rows that are left are those of the last row
pub rows_written : (o : Spending (List Value)) (vs : List Value) (n : ℕ) (rows : Vec Row) → o ≡ Yields vs n → IsLastRow vs (Some rows)
    → WritesOut (continued o last_row) (Ok rows)
rows_written o vs n rows e h =
    (h.0, n, ap (λ x. continued x last_row) e ∙ ap (λ us. last_row us n) h.1, h.2)

pub rows_stopped : (o : Spending (List Value)) (vs : List Value) (n : ℕ) → o ≡ Yields vs n → IsLastRow vs None → Halts (continued o last_row) halt.Stopped
rows_stopped o vs n e h = ap (λ x. continued x last_row) e ∙ h n

-- what the code keeps is what the proof says
pub same_followed : (fr : Frame) (th : Theory) (p : Proof) (n : ℕ)
    → map (followed_by fr.table.now fr.book.now.nodes.items) fr.book.now.goals.items ≡ goals_of th p 0 [] p.blocks
    → followed_of fr n ≡ followed_at (goals_of th p 0 [] p.blocks) n
same_followed fr th p n e =
    sym (followed_one fr.book.now.goals.items (followed_by fr.table.now fr.book.now.nodes.items) n) ∙ ap (λ hs. followed_at hs n) e

pub same_work : (fr : Frame) (th : Theory) (p : Proof) (n : ℕ) (ws : List Written) (k : ℕ) → background_in fr ≡ background_of th p
    → followed_of fr n ≡ followed_at (goals_of th p 0 [] p.blocks) n → worked_in fr n (numbered_entries th ws) k ≡ worked_off k th p n ws
same_work fr th p n ws k b g =
    let cs = numbered_entries th ws in
    let F : Background → History_in → Spending Pieces = λ f q.
    all_tested (stages (bare_entries cs) (goal_in q.history).left ++ stages (bare_entries cs) (goal_in q.history).right)
    (tested (on (bare_entries cs) (goal_in q.history).left) (tested (on (bare_entries cs) (goal_in q.history).right)
    (continued (rest_done f (pending (Begin_use (record {
      whole = on (bare_entries cs) (goal_in q.history).left;
      path = [];
      entries = cs;
      along = None;
      goal = q;
      by = Var;
      assumptions = [];
    }) ∷ []) []) k) last_row))) in
    λ i. F (b i) (g i)

lists_same : (table : List Tree) (cs : List (Vec (Link ℕ))) → lists_in table cs ≡ map (map (map_link (named table))) (plain_certificates cs)
lists_same table [] = refl
lists_same table (c ∷ cs) = ap (λ ls. map (map_link (named table)) (plain_links c.items) ∷ ls) (lists_same table cs)

pub same_background : (fr : Frame) (proof : TheProof) → fr.table.now ≡ proof.table.items → fr.gamma.now ≡ proof.gamma
    → fr.lists.now ≡ proof.certificates.items → IsBook fr.theory.now (plain_proof proof) fr.book.now
    → background_in fr ≡ background_of fr.theory.now (plain_proof proof)
same_background fr proof t g l b =
    let hypotheses = ap (λ xs. hypotheses_in xs fr.book.now.nodes.items fr.book.now.goals.items 0 fr.book.now.blocks.items) t ∙ b.hypotheses in
    let lists : lists_in fr.table.now fr.lists.now ≡ certificates_of (plain_proof proof) =
    (λ i. lists_in (t i) (l i)) ∙ lists_same proof.table.items proof.certificates.items in
    λ i. record {
      theory = fr.theory.now;
      places = g i;
      hypotheses = hypotheses i;
      certificate = certificate_of fr.theory.now (g i) (lists i);
    }

pub same_written : (fr : Frame) (proof : TheProof) (n : ℕ) (ws : List Written) (k : ℕ) → fr.table.now ≡ proof.table.items → fr.gamma.now ≡ proof.gamma
    → fr.lists.now ≡ proof.certificates.items → IsBook fr.theory.now (plain_proof proof) fr.book.now
    → worked_in fr n (numbered_entries fr.theory.now ws) k ≡ worked_off k fr.theory.now (plain_proof proof) n ws
same_written fr proof n ws k t g l b =
    let p = plain_proof proof in
    let goals = ap (λ xs. map (followed_by xs fr.book.now.nodes.items) fr.book.now.goals.items) t ∙ b.goals in
    same_work fr fr.theory.now p n ws k (same_background fr proof t g l b) (same_followed fr fr.theory.now p n goals)

-- entries that fit have few terms
pub fits_few : (th : Theory) → IsWellFormed th → (es : List WrittenEntry) (s : ℕ) → FitsWritten th (plain_entries es) s → AreFew es
fits_few th ok [] s f = tt
fits_few th ok (e ∷ es) s f =
    let d = f.0 in
    let vs : List Variable = filter is_parameter (occurrences d.body) in
    let few = (ok.derivatives d (contains_at th.derivatives e.derivative d f.1.listed)).few in (
      omega (arith, few, ap length f.1.fit, length-map e.params.items sort_of, length-map vs (λ v. v.sort), length-map vs (λ v. v.number)),
      fits_few th ok es (sort_of d.body) f.2,
    )

pub ends_of_goal : (fr : Frame) (n : ℕ) (cs es : List Numbered) (g : History_in) (r : Result Tree TermFault) → es ≡ cs → g ≡ followed_of fr n
    → EndsIn (bare_entries es) (goal_in g.history).left (goal_in g.history).right r
    → EndsIn (bare_entries cs) (goal_in (followed_of fr n).history).left (goal_in (followed_of fr n).history).right r
ends_of_goal fr n cs es g r a b h =
    let P : List Numbered → Type 0 = λ x. EndsIn (bare_entries x) (goal_in g.history).left (goal_in g.history).right r in
    let Q : History_in → Type 0 = λ x. EndsIn (bare_entries cs) (goal_in x.history).left (goal_in x.history).right r in
    subst Q b (subst P a h)

-- the work begins with one use
pub begun_left : (fr : Frame) (n : ℕ) (cs : List Numbered) (k : ℕ) (w : Work) (d : Use) → jobs_of fr w ≡ Begin_use d ∷ [] → values_of w.values ≡ [] → w.left ≡ k
    → d ≡ opening_of fr n cs → left_of fr w ≡ rest_done (background_in fr) (pending (Begin_use (opening_of fr n cs) ∷ []) []) k
begun_left fr n cs k w d js vs l is =
    let jobs : jobs_of fr w ≡ Begin_use (opening_of fr n cs) ∷ [] = js ∙ ap (λ x. Begin_use x ∷ []) is in
    λ i. rest_done (background_in fr) (pending (jobs i) (vs i)) (l i)

-- all of the work, by its end
pub all_written : (fr : Frame) (n : ℕ) (cs : List Numbered) (k : ℕ) (w : Work) (d : Use) (u : Tree) (vs : List Value) (m : ℕ) (rows : Vec Row)
    → EndsIn (bare_entries cs) (goal_in (followed_of fr n).history).left (goal_in (followed_of fr n).history).right (Ok u)
    → jobs_of fr w ≡ Begin_use d ∷ [] → values_of w.values ≡ [] → w.left ≡ k → d ≡ opening_of fr n cs → left_of fr w ≡ Yields vs m → IsLastRow vs (Some rows)
    → WritesOut (worked_in fr n cs k) (Ok rows)
all_written fr n cs k w d u vs m rows e js us l is done last =
    let P : Spending Pieces → Type 0 = λ o. WritesOut o (Ok rows) in
    subst P (sym (worked_on fr n cs k u e ∙ ap (λ o. continued o last_row) (sym (begun_left fr n cs k w d js us l is))))
    (rows_written (left_of fr w) vs m rows done last)

pub all_stopped : (fr : Frame) (n : ℕ) (cs : List Numbered) (k : ℕ) (w : Work) (d : Use) (u : Tree) (vs : List Value) (m : ℕ)
    → EndsIn (bare_entries cs) (goal_in (followed_of fr n).history).left (goal_in (followed_of fr n).history).right (Ok u)
    → jobs_of fr w ≡ Begin_use d ∷ [] → values_of w.values ≡ [] → w.left ≡ k → d ≡ opening_of fr n cs → left_of fr w ≡ Yields vs m → IsLastRow vs None
    → Halts (worked_in fr n cs k) halt.Stopped
all_stopped fr n cs k w d u vs m e js us l is done last =
    worked_on fr n cs k u e ∙ ap (λ o. continued o last_row) (sym (begun_left fr n cs k w d js us l is)) ∙ rows_stopped (left_of fr w) vs m done last

pub all_halted : (fr : Frame) (n : ℕ) (cs : List Numbered) (k : ℕ) (w : Work) (d : Use) (u : Tree) (h : Halt)
    → EndsIn (bare_entries cs) (goal_in (followed_of fr n).history).left (goal_in (followed_of fr n).history).right (Ok u)
    → jobs_of fr w ≡ Begin_use d ∷ [] → values_of w.values ≡ [] → w.left ≡ k → d ≡ opening_of fr n cs → Halts (left_of fr w) h
    → Halts (worked_in fr n cs k) h
all_halted fr n cs k w d u h e js us l is halts =
    let P : Spending Pieces → Type 0 = λ o. Halts o h in
    subst P (sym (worked_on fr n cs k u e ∙ ap (λ o. continued o last_row) (sym (begun_left fr n cs k w d js us l is))))
    (halts_on (left_of fr w) last_row h halts)

-- the expansion is what is worked off, and it never stops for want of something that fits
pub never_halts : (th : Theory) → IsWellFormed th → (p : Proof) → ProofFor th p → IsPlain p → Accepted th p → (n : ℕ) (ws : List Written) → FitGoal th p n ws
    → (k : ℕ) → worked_off k th p n ws ≡ Stopped → ⊥
never_halts th ok p f pl a n ws fit k e =
    never_stops th p k n fit.0 ws (expansion_goes th ok p f pl a n fit.0 fit.1 ws fit.2 k) (worked_right k th p n ws ∙ e)

pub rows_lead : (th : Theory) → IsWellFormed th → (p : Proof) → ProofFor th p → IsPlain p → Accepted th p → (n : ℕ) (ws : List Written) → FitGoal th p n ws
    → (k : ℕ) (rows : Vec Row) → WritesOut (worked_off k th p n ws) (Ok rows) → (g : Goal) → slice_get (all_goals p.blocks) n ≡ Some g
    → (xs : Pieces) × (map plain_row rows.items ≡ rows_of xs) × LeadsOnGoal th xs ws g
rows_lead th ok p f pl a n ws fit k rows w g e =
    let same : fit.0 ≡ g = same_Some fit.0 g (sym fit.1 ∙ e) in
    let P : Goal → Type 0 = λ x. FitsWritten th ws (sort_of x.left) in
    (w.0, w.3, given_leads th p k n g ws (expansion_goes th ok p f pl a n g e ws (subst P same fit.2) k) w.1 w.0 (worked_right k th p n ws ∙ w.2))

-- as the call answers
pub exact_rows : (th : Theory) (p : Proof) (n : ℕ) (ws : List Written) (k : ℕ) (rows : Vec Row) → WritesOut (worked_off k th p n ws) (Ok rows)
    → IsWrittenOut (expansion k th p n ws) (Ok rows)
exact_rows th p n ws k rows w = (w.0, w.1, worked_right k th p n ws ∙ w.2, w.3)

-- the limit that a fault names
pub past_named : {X : Type 0} (o : Spending X) (l : Limit) → past_of o ≡ Some l → o ≡ Past l
past_named (Yields a n) l e = absurd (cc)
past_named Long l e = absurd (cc)
past_named (Past k) l e = (let z : k ≡ l = same_Some k l e in ap Past z)
past_named Stopped l e = absurd (cc)

-- memory ran out
pub memory_ends : (o : Spending Pieces) (r : Result (Vec Row) Halt) → (y : Halt) × (r ≡ Err y) × (y ≡ halt.Past Memory) → WritesOut o r
memory_ends o r p = let P : Result (Vec Row) Halt → Type 0 = λ x. WritesOut o x in subst P (sym (p.1 ∙ ap Err p.2)) tt
