-- What a checker knows before a part and after it.
use Rattle.std.proofs.Common.{◌≡◌, ◌≢◌, ◌≤◌, ◌<◌, ◌+◌, ℕ, zero, suc, Bool, true, false, List, [], ◌∷◌, ◌++◌, map, length, take, Option, Some, None}
use Rattle.std.proofs.Common.{Result, Ok, Err, Vec, Global, slice_set, slice_index_or}
use Rattle.std.proofs.Common.{inl, inr, refl, ap, sym, subst, ◌∙◌, arith, length-append}
use Rattle.std.proofs.lemmas.List.{take-append-le, length-map, map-append}
use Rattle.std.specs.List.{AllByRecursion}
use Rattle.std.specs.declared.collections.VecDeque.{VecDeque}
use Rattle.std.specs.Result.{OnOk, OnErr}
use Rattle.circ_term.specs.Growing.{Grows}
use Rattle.circ_term.specs.Tree.{Tree}
use Rattle.circ_theory.specs.Theory.{Theory, Derivative}
use Rattle.circ_theory.specs.Rewriting.{named}
use Rattle.circ_theory.specs.WellFormed.{IsWellFormed}
use Rattle.circ_theory.specs.Goal.{Goal}
use Rattle.circ_special.specs.declared.place.Place.{Place}
use Rattle.circ_proof.specs.Plain.{LinkOf}
use Rattle.circ_proof.specs.Link.{resolved_links}
use Rattle.circ_proof.specs.Rules.{State, state, IsSortedState, ProofStep, map_step}
use Rattle.circ_proof.specs.Proof.{GoalNames, Proof, ProofFor, goal_at as named_goal}
use Rattle.circ_proof.specs.Parts.{Part, Head, Certificate, Goals, Step, parts_of}
use Rattle.circ_proof.specs.Fitting.{Fit}
use Rattle.circ_proof.specs.Certified.{due}
use Rattle.circ_proof.specs.Accepted.{Accepted, Derives, FirstFail}
use Rattle.circ_soundness.proofs.Failing.{not_both}
use Rattle.circ_soundness.proofs.Sound.{goals_behave}
use Rattle.circ_rules.specs.Answers.{Applies}
use Rattle.circ_rules.specs.Due.{due_after, CertifiesNext}
use Rattle.circ_rules.specs.declared.due.Due.{Due}
use Rattle.circ_nodes.specs.Built.{AreBuilt}
use Rattle.circ_nodes.proofs.Numbers.{grows_more, grows_length}
use Rattle.circ_nodes.proofs.Building.{built_later}
use Rattle.circ_shared.specs.Patterns.{goal_at, IsPattern}
use Rattle.circ_shared.specs.declared.patterns.Pattern.{Pattern}
use Rattle.circ_shared.proofs.Sharing.{goals_later, patterns_later}
use Rattle.circ_steps.specs.States.{state_at, shared_goals, IsGoalThere, IsStateThere, AddsHypotheses}
use Rattle.circ_steps.specs.declared.derivative.SharedDerivative.{SharedDerivative}
use Rattle.circ_steps.specs.declared.states.SharedGoal.{SharedGoal}
use Rattle.circ_steps.specs.declared.states.SharedState.{SharedState}
use Rattle.circ_steps.proofs.Staying.{state_later, state_there_later}
use Rattle.circ_entering.specs.declared.lines.NamedLines.{NamedLines}
use Rattle.circ_entering.specs.Lines.{numbered_at, lines_at, AreLinesAt, LinesStay}
use Rattle.circ_entering.proofs.Renumbering.{at_later, stay_later, lines_later, stay_lines}
use Rattle.circ_check.specs.declared.checker.Checker.{Checker}
use Rattle.circ_check.specs.declared.tally.Tally.{Tally}
use Rattle.circ_check.specs.Checking.{Checking, TakesCertificate, TakesGoals, TakesStep, nothing_taken, made_by, counted, with_one, with_failure, with_derived}
use Rattle.circ_check.specs.Deciding.{plain_list, Finds, FoundBehave}
use Rattle.circ_check.specs.Ready.{IsPartReady}
use Rattle.circ_check.specs.Watching.{failed_of, derived_of, checking_of, StaysIn, KnowsTheory, IsSound, Stands, FitsNext, IsBehindHead, Took, EndsBlock, Notes}
use Rattle.circ_check.proofs.Fitting.{part_ready}
use Rattle.circ_check.proofs.Finding.{part_more, parts_taken, failed_early, step_makes}
use Rattle.circ_check.proofs.Numbered.{take_whole, map_taken, all_both, base_grows, base_stays, knows_later, all_stays, checking_moved}

-- ---- before a part

pub follows_ready : (k : Checker) (x : Part) → IsWellFormed k.theory.now → FitsNext x k → IsPartReady k.theory.now (checking_of k) x
follows_ready k x ok (th, xs, s, f) =
    let P : Theory → Type 0 = λ y. IsPartReady y (checking_of k) x in
    subst P (sym s.sound.theory) (part_ready th (subst IsWellFormed s.sound.theory ok) xs x (checking_of k) f s.checking)

pub follows_sound : (k : Checker) (x : Part) → FitsNext x k → IsSound k.theory.now k
follows_sound k x (th, xs, s, f) = let P : Theory → Type 0 = λ y. IsSound y k in subst P (sym s.sound.theory) s.sound

-- the head comes first, and no other part does
behind_head : (th : Theory) (k : Checker) (xs : List Part) (x : Part) → (xs ≢ [] → k.is_begun ≡ true) → Fit th (xs ++ x ∷ []) → IsBehindHead x k
behind_head th k xs (Head ts ps) b f = tt
behind_head th k [] (Certificate ls) b f = absurd f
behind_head th k [] (Goals gs ns) b f = absurd f
behind_head th k [] (Step s) b f = absurd f
behind_head th k (y ∷ ys) (Certificate ls) b f = b (λ e. absurd (cc))
behind_head th k (y ∷ ys) (Goals gs ns) b f = b (λ e. absurd (cc))
behind_head th k (y ∷ ys) (Step s) b f = b (λ e. absurd (cc))

pub follows_behind : (k : Checker) (x : Part) → FitsNext x k → IsBehindHead x k
follows_behind k x (th, xs, s, f) = behind_head th k xs x s.begun f

-- ---- after it

pub took_stands : (th : Theory) (xs : List Part) (x : Part) (old new : Checker) → Stands th xs old → Took old.theory.now x old new → Stands th (xs ++ x ∷ []) new
took_stands th xs x old new s took =
    let P : Theory → Type 0 = λ y. Took y x old new in
    let t : Took th x old new = subst P s.sound.theory took in
    record { sound = t.sound; begun = λ n. t.begun; checking = part_more th xs x nothing_taken (checking_of old) (checking_of new) s.checking t.taken }

-- ---- the head

pub head_taken : (k : Checker) (m : List Tree) (es : Vec Pattern Global) (ds : Vec SharedDerivative Global) (l : NamedLines) (table : List Tree)
    (places : List Place) (d : Due) (n : ℕ) → IsSound k.theory.now k → Grows k.nodes m → KnowsTheory k.theory.now m es.items ds.items
    → AreLinesAt m l → LinesStay m l → lines_at m l ≡ table → due_after k.theory.now places d ≡ due k.theory.now places
    → n ≡ length m → Took k.theory.now (Head table places) k
    (record k { nodes = m; equations = es; derivatives = ds; lines = l; gamma = places; due = d; base = n; is_begun = true })
head_taken k m es ds l table places d n s g knows lines stay same all count =
    let th : Theory = k.theory.now in
    let c : Checking = checking_of k in
    let stays = all_stays th k s in
    let whole : take n m ≡ m = ap (λ x. take x m) count ∙ take_whole m in
    let before : take k.earlier (map (goal_at m) k.state.hyps.items) ≡ c.before = ap (take k.earlier) (goals_later k.nodes m g k.state.hyps.items s.state.hypotheses) in
    let own : map (goal_at m) k.own.items ≡ c.own = goals_later k.nodes m g k.own.items stays.own in
    let same_state : state_at m k.state ≡ c.state = state_later k.nodes m g k.state s.state in
    let S : State → Type 0 = IsSortedState th in
    let Q : List Tree → Type 0 = λ ts. StaysIn ts l (take k.earlier k.state.hyps.items) k.own.items in
    let K : List Tree → Type 0 = λ ts. KnowsTheory th ts es.items ds.items in
    record {
      sound = record {
        theory = refl;
        unspent = s.unspent;
        within = s.within;
        base = omega (arith, count);
        lines = lines;
        stays = subst Q (sym whole) (record {
          lines_stay = stay;
          earlier = patterns_later k.nodes m g (take k.earlier k.state.hyps.items) stays.earlier;
          own = patterns_later k.nodes m g k.own.items stays.own;
        });
        state = state_there_later k.nodes m g k.state s.state;
        built = built_later k.nodes m k.terms g s.built;
        sorted = subst S (sym same_state) s.sorted;
        begun = λ b. subst K (sym whole) knows;
      };
      begun = refl;
      taken =
          ap (λ y. record c {
            table = y;
            places = places;
            due = due_after th places d;
            before = take k.earlier (map (goal_at m) k.state.hyps.items);
            own = map (goal_at m) k.own.items;
            state = state_at m k.state;
          }) same
          ∙ ap (λ y. record c {
            table = table;
            places = places;
            due = y;
            before = take k.earlier (map (goal_at m) k.state.hyps.items);
            own = map (goal_at m) k.own.items;
            state = state_at m k.state;
          }) all
          ∙ ap (λ y. record c { table = table; places = places; due = due th places; before = y; own = map (goal_at m) k.own.items; state = state_at m k.state }) before
          ∙ ap (λ y. record c { table = table; places = places; due = due th places; own = y; state = state_at m k.state }) own
          ∙ ap (λ y. record c { table = table; places = places; due = due th places; state = y }) same_state;
    }

-- ---- a certificate

next_taken : (k : Checker) (d : Due) (holds : Bool) (ls : List (LinkOf Tree)) (ds : List (Place × Derivative)) → (checking_of k).due ≡ ds → 0 < length ds
    → CertifiesNext k.theory.now k.gamma k.due d ls holds
    → TakesCertificate k.theory.now (checking_of k) ds ls (checking_of (record k { due = d; tally = counted holds k.tally }))
next_taken k d holds ls [] e h n = absurd (omega (arith, h))
next_taken k d true ls (x ∷ xs) e h n =
    let y = n.next x xs e in inl (y.1.0 refl, ap (λ ds. record (checking_of k) { due = ds; tally = with_one k.tally }) y.0)
next_taken k d false ls (x ∷ xs) e h n =
    let y = n.next x xs e in
    inr ((λ z. absurd (let f = y.1.1 z in cc)), ap (λ ds. record (checking_of k) { due = ds; tally = with_failure k.tally }) y.0)

pub certificate_taken : (k : Checker) (m : List Tree) (d : Due) (t : Tally) (holds : Bool) (ls : List (LinkOf ℕ)) → IsSound k.theory.now k → k.is_begun ≡ true
    → 0 < length (checking_of k).due → m ≡ k.nodes → t ≡ counted holds k.tally
    → CertifiesNext k.theory.now k.gamma k.due d (resolved_links (lines_at k.nodes k.lines) ls) holds
    → Took k.theory.now (Certificate ls) k (record k { nodes = m; due = d; tally = t })
certificate_taken k m d t holds ls s b h same count n =
    let th : Theory = k.theory.now in
    let P : List Tree → Type 0 = λ x. Took th (Certificate ls) k (record k { nodes = x; due = d; tally = t }) in
    let Q : Tally → Type 0 = λ x. Took th (Certificate ls) k (record k { due = d; tally = x }) in
    subst P (sym same) (subst Q (sym count) (record {
      sound = record {
        theory = refl;
        unspent = s.unspent;
        within = s.within;
        base = s.base;
        lines = s.lines;
        stays = s.stays;
        state = s.state;
        built = s.built;
        sorted = s.sorted;
        begun = s.begun;
      };
      begun = b;
      taken = next_taken k d holds (resolved_links (lines_at k.nodes k.lines) ls) (checking_of k).due refl h n;
    }))

-- ---- a block

-- after a step that failed
pub block_named : (k : Checker) (lists : Vec (Vec Goal Global) Global) (goals : List Goal) (names : List GoalNames) → IsSound k.theory.now k → k.is_begun ≡ true
    → k.is_stopped ≡ true → map plain_list lists.items ≡ derived_of k ++ [] ∷ [] → Took k.theory.now (Goals goals names) k (record k { derived = lists })
block_named k lists goals names s b stopped list =
    let c : Checking = checking_of k in
    let Q : Bool → Type 0 = λ x. TakesGoals c x goals (checking_of (record k { derived = lists })) in
    record {
      sound = record {
        theory = refl;
        unspent = s.unspent;
        within = s.within;
        base = s.base;
        lines = s.lines;
        stays = s.stays;
        state = s.state;
        built = s.built;
        sorted = s.sorted;
        begun = s.begun;
      };
      begun = b;
      taken = subst Q (sym stopped) (ap (λ y. record c { derived = y }) list);
    }

-- a block that ends leaves the lines of the table
pub block_lines : (k : Checker) → IsSound k.theory.now k → (m : Checker) → EndsBlock k m → lines_at m.nodes m.lines ≡ (checking_of k).table
block_lines k s m e =
    let base = take k.base k.nodes in
    ap (λ ts. lines_at ts m.lines) e.nodes ∙ ap (λ x. lines_at base x.lines) e.others
    ∙ sym (stay_lines base k.nodes k.lines (base_grows k.base k.nodes) s.stays.lines_stay)

-- where no step has failed: from the block that ended to the next one
module _ (k : Checker) (s : IsSound k.theory.now k) (b : k.is_begun ≡ true) (going : k.is_stopped ≡ false) where
  abbrev base : List Tree
  base = take k.base k.nodes

  abbrev kept : List Pattern
  kept = take k.earlier k.state.hyps.items ++ k.own.items

  kept_there : AllByRecursion (IsPattern base) kept
  kept_there = all_both (IsPattern base) (take k.earlier k.state.hyps.items) k.own.items s.stays.earlier s.stays.own

  -- the hypotheses of the next block
  kept_goals : map (goal_at base) kept ≡ (checking_of k).before ++ (checking_of k).own
  kept_goals =
      sym (goals_later base k.nodes (base_grows k.base k.nodes) kept kept_there)
      ∙ map-append (goal_at k.nodes) (take k.earlier k.state.hyps.items) k.own.items
      ∙ ap (λ x. x ++ map (goal_at k.nodes) k.own.items) (map_taken (goal_at k.nodes) k.earlier k.state.hyps.items)

  kept_table : lines_at base k.lines ≡ (checking_of k).table
  kept_table = sym (stay_lines base k.nodes k.lines (base_grows k.base k.nodes) s.stays.lines_stay)

  pub block_begun : (d : List Tree) (l : NamedLines) (m : List Tree) (hyps : Vec Pattern Global) (gs : VecDeque SharedGoal Global) (own : Vec Pattern Global) (terms : List (ℕ × Tree)) (n e : ℕ)
      (lists : Vec (Vec Goal Global) Global) (goals : List Goal) (names : List GoalNames) → Grows base d → AreLinesAt d l → LinesStay d l → lines_at d l ≡ lines_at base k.lines
      → map (named_goal (numbered_at d l)) names ≡ map (named_goal (lines_at d l)) names → Grows d m → hyps.items ≡ kept → e ≡ length hyps.items
      → AreBuilt base terms → AllByRecursion (IsGoalThere m) gs.items → shared_goals m gs.items ≡ map (named_goal (numbered_at d l)) names
      → AllByRecursion (IsPattern m) own.items → map (goal_at m) own.items ≡ map (named_goal (numbered_at d l)) names → n ≡ length m
      → map plain_list lists.items ≡ derived_of k ++ [] ∷ [] → IsPartReady k.theory.now (checking_of k) (Goals goals names)
      → Took k.theory.now (Goals goals names) k (record k {
        nodes = m;
        lines = l;
        state = record { hyps = hyps; goals = gs };
        earlier = e;
        own = own;
        base = n;
        terms = terms;
        derived = lists;
      })
  block_begun d l m hyps gs own terms n e lists goals names more lines stay same rightly further is count built there seen patterns owned size list ready =
      let c : Checking = checking_of k in
      let g : Grows base m = grows_more base d m more further in
      let named : map (named_goal (numbered_at d l)) names ≡ goals =
      rightly ∙ ap (λ ts. map (named_goal ts) names) (same ∙ kept_table) ∙ sym ready.part.2.goals_are in
      let H : List Goal = c.before ++ c.own in
      let kept_here : AllByRecursion (IsPattern base) hyps.items = subst (AllByRecursion (IsPattern base)) (sym is) kept_there in
      let hypotheses : map (goal_at m) hyps.items ≡ H = goals_later base m g hyps.items kept_here ∙ ap (map (goal_at base)) is ∙ kept_goals in
      let long : e ≡ length (map (goal_at m) hyps.items) = count ∙ sym (length-map hyps.items (goal_at m)) in
      let before : take e (map (goal_at m) hyps.items) ≡ H =
      ap (λ x. take x (map (goal_at m) hyps.items)) long ∙ take_whole (map (goal_at m) hyps.items) ∙ hypotheses in
      let own_seen : map (goal_at m) own.items ≡ goals = owned ∙ named in
      let goals_seen : shared_goals m gs.items ≡ goals = seen ∙ named in
      let table : lines_at m l ≡ c.table = lines_later d m l further lines ∙ same ∙ kept_table in
      let whole : take n m ≡ m = ap (λ x. take x m) size ∙ take_whole m in
      let all_hyps : take e hyps.items ≡ hyps.items = ap (λ x. take x hyps.items) count ∙ take_whole hyps.items in
      let D : Checking → Type 0 = λ x. x ≡ record c { before = H; own = goals; state = state H goals; derived = c.derived ++ [] ∷ [] } in
      let Q : Bool → Type 0 = λ x. TakesGoals c x goals (checking_of (record k {
        nodes = m;
        lines = l;
        state = record { hyps = hyps; goals = gs };
        earlier = e;
        own = own;
        base = n;
        terms = terms;
        derived = lists;
      })) in
      let T : List Tree → Type 0 = λ ts. StaysIn ts l (take e hyps.items) own.items in
      let E : List Pattern → Type 0 = AllByRecursion (IsPattern m) in
      let K : List Tree → Type 0 = λ ts. KnowsTheory k.theory.now ts k.equations.items k.derivatives.items in
      let S : State → Type 0 = IsSortedState k.theory.now in
      let now : state (map (goal_at m) hyps.items) (shared_goals m gs.items) ≡ state H goals =
      ap (λ x. state x (shared_goals m gs.items)) hypotheses ∙ ap (state H) goals_seen in
      let sorted : IsSortedState k.theory.now (state H goals) = (ready.part.0, ready.part.1) in
      record {
        sound = record {
          theory = refl;
          unspent = s.unspent;
          within = omega (arith, count);
          base = omega (arith, size);
          lines = at_later d m l further lines;
          stays = subst T (sym whole) (record {
            lines_stay = stay_later d m l further stay;
            earlier = subst E (sym all_hyps) (patterns_later base m g hyps.items kept_here);
            own = patterns;
          });
          state = record { hypotheses = patterns_later base m g hyps.items kept_here; goals = there };
          built = built_later base m terms g built;
          sorted = subst S (sym now) sorted;
          begun = λ x. subst K (sym whole) (knows_later base m g k.theory.now k.equations.items k.derivatives.items (s.begun x));
        };
        begun = b;
        taken = subst Q (sym going) (
            ap (λ y. record c {
              table = y;
              before = take e (map (goal_at m) hyps.items);
              own = map (goal_at m) own.items;
              state = state (map (goal_at m) hyps.items) (shared_goals m gs.items);
              derived = map plain_list lists.items;
            }) table
            ∙ ap (λ y. record c {
              before = y;
              own = map (goal_at m) own.items;
              state = state (map (goal_at m) hyps.items) (shared_goals m gs.items);
              derived = map plain_list lists.items;
            }) before
            ∙ ap (λ y. record c { before = H; own = y; state = state (map (goal_at m) hyps.items) (shared_goals m gs.items); derived = map plain_list lists.items }) own_seen
            ∙ ap (λ y. record c { before = H; own = goals; state = y; derived = map plain_list lists.items }) now
            ∙ ap (λ y. record c { before = H; own = goals; state = state H goals; derived = y }) list
            );
      }

-- a list in its place, with the goals that it had, or with one more
pub set_same : (vs : List (Vec Goal Global)) (n : ℕ) (v w : Vec Goal Global) → w ≡ slice_index_or vs n w → v.items ≡ w.items
    → map plain_list (slice_set vs n v) ≡ map plain_list vs
set_same [] n v w e f = refl
set_same (x ∷ vs) zero v w e f = ap (λ y. y ∷ map plain_list vs) (f ∙ ap plain_list e)
set_same (x ∷ vs) (suc n) v w e f = ap (λ y. plain_list x ∷ y) (set_same vs n v w e f)

pub set_last : (vs : List (Vec Goal Global)) (n : ℕ) (v w : Vec Goal Global) (g : Goal) → n + 1 ≡ length vs → w ≡ slice_index_or vs n w
    → v.items ≡ w.items ++ g ∷ [] → map plain_list (slice_set vs n v) ≡ with_derived (map plain_list vs) (g ∷ [])
set_last [] n v w g l e f = absurd (omega (arith, l))
set_last (x ∷ []) zero v w g l e f = ap (λ y. y ∷ []) (f ∙ ap (λ y. plain_list y ++ g ∷ []) e)
set_last (x ∷ y ∷ vs) zero v w g l e f = absurd (omega (arith, l))
set_last (x ∷ []) (suc n) v w g l e f = absurd (omega (arith, l))
set_last (x ∷ y ∷ vs) (suc n) v w g l e f = ap (λ z. plain_list x ∷ z) (set_last (y ∷ vs) n v w g (omega (arith, l)) e f)

pub on_ok : {T E A B : Type 0} (r : Result T E) → (A → B) → OnOk r A → OnOk r B
on_ok (Ok x) f a = f a
on_ok (Err e) f a = tt

pub on_err : {T E A : Type 0} (r : Result T E) → A → OnErr r A
on_err (Ok x) a = tt
on_err (Err e) a = a

pub on_err_to : {T E A B : Type 0} (r : Result T E) → (A → B) → OnErr r A → OnErr r B
on_err_to (Ok x) f a = tt
on_err_to (Err e) f a = f a

-- ---- a step that was tried

-- after one that failed it is counted alone
pub step_counted : (k : Checker) (t : Tally) (x : ProofStep ℕ) → IsSound k.theory.now k → k.is_begun ≡ true → k.is_stopped ≡ true → t ≡ with_one k.tally
    → Took k.theory.now (Step x) k (record k { tally = t })
step_counted k t x s b stopped e =
    let c : Checking = checking_of k in
    let Q : Bool → Type 0 = λ y. TakesStep k.theory.now c y x (checking_of (record k { tally = t })) in
    record {
      sound = record {
        theory = refl;
        unspent = s.unspent;
        within = s.within;
        base = s.base;
        lines = s.lines;
        stays = s.stays;
        state = s.state;
        built = s.built;
        sorted = s.sorted;
        begun = s.begun;
      };
      begun = b;
      taken = subst Q (sym stopped) (ap (λ y. record c { tally = y }) e);
    }

-- the hypotheses of earlier blocks stay
before_stays : (n : ℕ) (H K gs : List Goal) → n ≤ length H → K ≡ H ++ gs → take n K ≡ take n H
before_stays n H K gs h e = ap (take n) e ∙ take-append-le n H gs h

module _ (k : Checker) (s : IsSound k.theory.now k) (b : k.is_begun ≡ true) (going : k.is_stopped ≡ false) (m : List Tree) (terms : List (ℕ × Tree))
    (t : SharedState) (g : Grows k.nodes m) (built : AreBuilt k.nodes terms) (there : IsStateThere m t)
    (sorted : IsSortedState k.theory.now (state_at m t)) (added : AddsHypotheses k.state.hyps.items t.hyps.items) where
  -- a checker with other terms and another state, which has the hypotheses of earlier blocks
  moved_sound : (stopped : Bool) (tally : Tally) (lists : Vec (Vec Goal Global) Global)
      → IsSound k.theory.now (record k { nodes = m; terms = terms; state = t; is_stopped = stopped; tally = tally; derived = lists })
  moved_sound stopped tally lists =
      let th : Theory = k.theory.now in
      let base : take k.base m ≡ take k.base k.nodes = base_stays k.base k.nodes m s.base g in
      let hyps : take k.earlier t.hyps.items ≡ take k.earlier k.state.hyps.items =
      ap (take k.earlier) added.1 ∙ take-append-le k.earlier k.state.hyps.items added.0 s.within in
      let T : List Tree → Type 0 = λ ts. StaysIn ts k.lines (take k.earlier t.hyps.items) k.own.items in
      let E : List Pattern → Type 0 = λ ps. StaysIn (take k.base k.nodes) k.lines ps k.own.items in
      let K : List Tree → Type 0 = λ ts. KnowsTheory th ts k.equations.items k.derivatives.items in
      record {
        theory = refl;
        unspent = s.unspent;
        within = omega (arith, s.within, ap length added.1, length-append k.state.hyps.items added.0);
        base = omega (arith, s.base, grows_length k.nodes m g);
        lines = at_later k.nodes m k.lines g s.lines;
        stays = subst T (sym base) (subst E (sym hyps) s.stays);
        state = there;
        built = built_later k.nodes m terms g built;
        sorted = sorted;
        begun = λ x. subst K (sym base) (s.begun x);
      }

  pub step_noted : (new : Checker) (x : ProofStep ℕ) (holds : Bool) (made : List Goal) → made ≡ made_by x (shared_goals k.nodes k.state.goals.items)
      → Applies k.theory.now k.gamma (map_step (named (lines_at k.nodes k.lines)) x) (state_at k.nodes k.state) (state_at m t) holds
      → Notes holds made (record k { nodes = m; terms = terms; state = t }) new → Took k.theory.now (Step x) k new
  step_noted new x true made is applies (e, d) =
      let th : Theory = k.theory.now in
      let c : Checking = checking_of k in
      let n : Checker = record k { nodes = m; terms = terms; state = t; tally = with_one k.tally; derived = new.derived } in
      let grown = step_makes th k.gamma (named c.table) x c.state (state_at m t) applies in
      let within : k.earlier ≤ length c.state.hypotheses = omega (arith, s.within, length-map k.state.hyps.items (goal_at k.nodes)) in
      let before : take k.earlier (state_at m t).hypotheses ≡ c.before =
      before_stays k.earlier c.state.hypotheses (state_at m t).hypotheses (made_by x c.state.goals) within grown in
      let list : map plain_list new.derived.items ≡ with_derived c.derived (made_by x c.state.goals) = d ∙ ap (with_derived c.derived) is in
      let P : Bool → Type 0 = λ y. TakesStep th c y x (checking_of n) in
      let took : Took th (Step x) k n = record {
        sound = moved_sound k.is_stopped (with_one k.tally) new.derived;
        begun = b;
        taken = subst P (sym going) (inl (
          state_at m t,
          applies,
          ap {A = Checking} (λ y. record y { tally = with_one c.tally; derived = map plain_list new.derived.items }) (checking_moved th k s m g t)
              ∙ ap (λ y. record c { before = y; state = state_at m t; tally = with_one c.tally; derived = map plain_list new.derived.items }) before
              ∙ ap (λ y. record c { state = state_at m t; tally = with_one c.tally; derived = y }) list,
        ));
      } in
      subst (Took th (Step x) k) (sym e) took
  step_noted new x false made is applies e =
      let th : Theory = k.theory.now in
      let c : Checking = checking_of k in
      let n : Checker = record k { nodes = m; terms = terms; state = t; is_stopped = true; tally = with_failure k.tally } in
      let P : Bool → Type 0 = λ y. TakesStep th c y x (checking_of n) in
      let took : Took th (Step x) k n = record {
        sound = moved_sound true (with_failure k.tally) k.derived;
        begun = b;
        taken = subst P (sym going) (inr (
          applies.0,
          ap {A = Checking} (λ y. record y { stopped = true; tally = with_failure c.tally }) (checking_moved th k s m g t)
              ∙ ap (λ y. record c { before = take k.earlier y.hypotheses; state = y; stopped = true; tally = with_failure c.tally }) applies.1,
        ));
      } in
      subst (Took th (Step x) k) (sym e) took

-- ---- what was found

pub found : (th : Theory) (p : Proof) (k : Checker) → ProofFor th p → Stands th (parts_of p) k → Finds th p (failed_of k)
found th p k f s = elim (parts_taken th p f (checking_of k) s.checking) [
  | inl n ↦ let P : Option ℕ → Type 0 = Finds th p in subst P (sym n.none) (derived_of k, n.derives)
  | inr n ↦ let P : Option ℕ → Type 0 = Finds th p in subst P (sym n.some) n.first
]

pub found_early : (th : Theory) (p : Proof) (xs ys : List Part) (n : ℕ) (k : Checker) → ProofFor th p → parts_of p ≡ xs ++ ys → Stands th xs k
    → failed_of k ≡ Some n → FirstFail th p n
found_early th p xs ys n k f all s e = failed_early th p f xs ys (checking_of k) n all s.checking e

pub found_behave : (th : Theory) (p : Proof) → IsWellFormed th → ProofFor th p → (o : Option ℕ) → Finds th p o → FoundBehave th p o
found_behave th p ok f None d = λ b c g e. goals_behave th ok p f d.0 d.1 b c g e
found_behave th p ok f (Some n) d = tt

pub found_derived : (th : Theory) (p : Proof) (k : Checker) → ProofFor th p → Stands th (parts_of p) k → failed_of k ≡ None → Derives th p (derived_of k)
found_derived th p k f s e = elim (parts_taken th p f (checking_of k) s.checking) [
  | inl n ↦ n.derives
  | inr n ↦ absurd (let x = sym e ∙ n.some in cc)
]

-- of an accepted proof no certificate and no step fails
pub none_failed : (th : Theory) (p : Proof) (k : Checker) → ProofFor th p → Accepted th p → Stands th (parts_of p) k → failed_of k ≡ None
none_failed th p k f a s = elim (parts_taken th p f (checking_of k) s.checking) [
  | inl n ↦ n.none
  | inr n ↦ absurd (not_both th p n.number a n.first)
]
