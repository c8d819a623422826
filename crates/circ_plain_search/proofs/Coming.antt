-- What is known of each standing that a search comes to.
use Rattle.std.proofs.Common.{◌≡◌, ℕ, ◌+◌, ◌≤◌, length, List, [], ◌∷◌, ◌++◌, Ok, refl, ap, sym, subst, arith, length-append}
use Rattle.std.specs.List.{AllByRecursion}
use Rattle.circ_term.specs.Tree.{Tree, sort_of}
use Rattle.circ_theory.specs.Theory.{Theory, HasNoConditions, goal}
use Rattle.circ_theory.specs.WellFormed.{IsWellFormed}
use Rattle.circ_theory.specs.Observing.{case_list}
use Rattle.circ_theory.specs.Fresh.{above_pairs}
use Rattle.circ_theory.specs.Goal.{Goal}
use Rattle.circ_special.specs.declared.place.Place.{Place}
use Rattle.circ_proof.specs.Rules.{State, state, ProofStep, Simplify, Reduce, Derive, Cases, Done, StepOn, StepsOf, derivatives_on, cases_on}
use Rattle.circ_proof.specs.Proof.{step_limit}
use Rattle.circ_plain_search.specs.BlockRules.{block_rules}
use Rattle.circ_plain_search.specs.Search.{Limits, ProvedBlock, Standing, Ending, Sides, normal_sides, with_sides, Reaches, goes, start}
use Rattle.circ_plain_search.specs.PlainSearch.{AreSearchable}
use Rattle.circ_plain_search.specs.Coming.{Comes, here, further, IsSmall, IsReady}
use Rattle.circ_plain_search.proofs.Splits.{normal_sides_led}
use Rattle.circ_plain_search.proofs.Derived.{FineGoal, goal_sorted}
use Rattle.circ_plain_search.proofs.Runs.{bound, all_steps, goals_of, BlocksRun, EndsDone, Ran, Held, Opened}
use Rattle.circ_plain_search.proofs.Turns.{turn_good, rules_here, bare_here, unconditional_here, sides_held}
use Rattle.circ_plain_search.proofs.Ends.{start_opened}
use Rattle.circ_plain_search.proofs.Accepting.{blocks_given, fine_blocks}

-- what comes to a standing reaches what this reaches
pub comes_reaches : (th : Theory) (G : List Place) (l : Limits) (first st : Standing) (e : Ending) → Comes th G l first st → Reaches th G l st e
    → Reaches th G l first e
comes_reaches th G l first st e here r = r
comes_reaches th G l first st e (further mid _ c t) r = comes_reaches th G l first mid e c (goes mid st e t r)

-- ---- counts

-- how many hypotheses steps append, and how many goals they can take
record Counted (H gs : List Goal) (b : State) (n : ℕ) : Type 0 where
  more : length b.hypotheses ≤ length H + n
  fewer : length gs ≤ length b.goals + n

step_counted : (th : Theory) (G : List Place) (s : ProofStep Tree) (H gs : List Goal) (b : State) → StepOn th G s H gs b → Counted H gs b 1
step_counted th G (Simplify c) H [] b r = absurd r
step_counted th G (Simplify c) H (g ∷ gs) b r =
    let P : State → Type 0 = λ x. Counted H (g ∷ gs) x 1 in subst P (sym r.2) (record { more = omega arith; fewer = omega arith })
step_counted th G (Reduce w) H [] b r = absurd r
step_counted th G (Reduce w) H (g ∷ gs) b r =
    let P : State → Type 0 = λ x. Counted H (g ∷ gs) x 1 in subst P (sym r.1) (record { more = omega arith; fewer = omega arith })
step_counted th G Derive H [] b r = absurd r
step_counted th G Derive H (g ∷ gs) b r =
    let P : State → Type 0 = λ x. Counted H (g ∷ gs) x 1 in
    let long = length-append H (g ∷ []) in
    let grows = length-append gs (derivatives_on th g) in
    subst P (sym r.2) (record { more = omega (arith, long); fewer = omega (arith, grows) })
step_counted th G (Cases u) H [] b r = absurd r
step_counted th G (Cases u) H (g ∷ gs) b r =
    let P : State → Type 0 = λ x. Counted H (g ∷ gs) x 1 in
    let long = length-append (cases_on g u (case_list (sort_of u) r.0)) gs in
    subst P (sym r.3) (record { more = omega arith; fewer = omega (arith, long) })
step_counted th G Done H [] b r =
    let P : State → Type 0 = λ x. Counted H [] x 1 in subst P (sym r) (record { more = omega arith; fewer = omega arith })
step_counted th G Done H (g ∷ gs) b r = absurd r

steps_counted : (th : Theory) (G : List Place) (ss : List (ProofStep Tree)) (a b : State) → StepsOf th G ss a b
    → Counted a.hypotheses a.goals b (length ss)
steps_counted th G [] a b r =
    let P : State → Type 0 = λ x. Counted a.hypotheses a.goals x 0 in subst P r (record { more = omega arith; fewer = omega arith })
steps_counted th G (s ∷ ss) a b r =
    let x = step_counted th G s a.hypotheses a.goals r.0 r.1 in
    let y = steps_counted th G ss r.0 b r.2 in
    let m1 = x.more in
    let m2 = y.more in
    let f1 = x.fewer in
    let f2 = y.fewer in
    record { more = omega (arith, m1, m2); fewer = omega (arith, f1, f2) }

blocks_counted : (th : Theory) (G : List Place) (bs : List ProvedBlock) (E : List Goal) → BlocksRun th G E bs → length (goals_of bs) ≤ all_steps bs
blocks_counted th G [] E r = omega arith
blocks_counted th G (b ∷ bs) E r =
    let x = (steps_counted th G b.steps (state E b.goals) (state r.0.0 []) r.0.1).fewer in
    let y = blocks_counted th G bs (E ++ b.goals) r.1 in
    let long = length-append b.goals (goals_of bs) in
    omega (arith, x, y, long)

-- each block has a step
blocks_fewer : (bs : List ProvedBlock) → AllByRecursion EndsDone bs → length bs ≤ all_steps bs
blocks_fewer [] a = omega arith
blocks_fewer (b ∷ bs) a =
    let rest = blocks_fewer bs a.1 in
    let here = ap length a.0.1 in
    let long = length-append a.0.0 (Done ∷ []) in
    omega (arith, rest, here, long)

record IsCounted (st : Standing) : Type 0 where
  hypotheses : length st.hypotheses ≤ step_limit
  earlier : length st.earlier ≤ step_limit
  finished : length st.finished ≤ step_limit

ran_counted : (th : Theory) (G : List Place) (blocks : List (List Goal)) (st : Standing) (Q : List Goal) → Ran th G blocks st Q → IsCounted st
ran_counted th G blocks st Q r =
    let x = (steps_counted th G st.steps (state st.earlier st.goals) (state st.hypotheses Q) r.run.under).more in
    let y = blocks_counted th G st.finished [] r.finished.under in
    let z = blocks_fewer st.finished r.ended in
    let e = ap length r.earlier in
    let c = r.counted in
    let m = r.small in
    record { hypotheses = omega (arith, x, y, e, c, m); earlier = omega (arith, y, e, c, m); finished = omega (arith, z, c, m) }

-- ---- what is known

module _ (th : Theory) (wf : IsWellFormed th) (G : List Place) (l : Limits) (blocks : List (List Goal)) where
  abbrev Good : Standing → Type 0
  Good st = Opened th G blocks st st.queue

  start_good : AreSearchable th blocks → Good (start l blocks)
  start_good a = go blocks a
    where
      go : (bs : List (List Goal)) → AreSearchable th bs → Opened th G bs (start l bs) (start l bs).queue
      go [] a = absurd (a.some_block refl)
      go (b ∷ bs) a = let fine = fine_blocks th (b ∷ bs) (blocks_given th (b ∷ bs) a.some_goal a.goals) in start_opened th G l b bs fine.0 fine.1

  comes_good : AreSearchable th blocks → (st : Standing) → Comes th G l (start l blocks) st → Good st
  comes_good a _ here = start_good a
  comes_good a _ (further st next c t) = turn_good th wf a.no_conditions G l blocks st next (comes_good a st c) t

  small_if : HasNoConditions th → (st : Standing) (Q : List Goal) → Ran th G blocks st Q → IsSmall st
  small_if none st Q r =
      let c = ran_counted th G blocks st Q r in
      let taken = r.taken in
      let counted = r.counted in
      let small = r.small in
      record {
        hypotheses = c.hypotheses;
        earlier = c.earlier;
        finished = c.finished;
        taken = omega (arith, taken, counted, small);
        derives = r.few;
        made = r.small;
        no_conds = bare_here th wf none G l blocks st Q r;
      }

  opened_small : HasNoConditions th → (st : Standing) (Q : List Goal) → Opened th G blocks st Q → IsSmall st
  opened_small none st [] o = small_if none st [] o
  opened_small none st (g ∷ rest) o = small_if none st (o.0 ∷ rest) o.1.ran

  pub standing_small : AreSearchable th blocks → (st : Standing) → Comes th G l (start l blocks) st → IsSmall st
  standing_small a st c = opened_small a.no_conditions st st.queue (comes_good a st c)

  ready_if : (st : Standing) (Q : List Goal) (g : Goal) → Ran th G blocks st Q → FineGoal th (bound st) g → IsReady th g
  ready_if st Q g r f =
      let few = r.few in
      let small = r.small in
      let left = f.left.low in
      let right = f.right.low in
      let bare = ap above_pairs f.bare in
      record { sorted = goal_sorted th (bound st) g f; no_conds = f.bare; numbers = omega (arith, few, small, left, right, bare) }

  -- the goal in hand, with its sides in normal form
  pub normal_goal_ready : AreSearchable th blocks → (st : Standing) → Comes th G l (start l blocks) st → (g : Goal) (rest : List Goal) → st.queue ≡ g ∷ rest
      → (n : Sides) → normal_sides th (block_rules th st.earlier) [] g.left g.right st.budget ≡ Ok n → IsReady th (goal [] n.left n.right)
  normal_goal_ready a st c g rest is n e =
      let P : List Goal → Type 0 = Opened th G blocks st in
      let o = subst P is (comes_good a st c) in
      let h : Held th G blocks st o.0 g rest = o.1 in
      let led = normal_sides_led th wf (bound st) (omega arith) G st.hypotheses (block_rules th st.earlier) (rules_here th wf a.no_conditions G l blocks st (o.0 ∷ rest) h.ran)
      (unconditional_here th wf a.no_conditions G l blocks st (o.0 ∷ rest) h.ran) [] tt
      g.left g.right st.budget n h.fine.left h.fine.right e in
      let held = sides_held th wf a.no_conditions G l blocks st o.0 g rest st.budget n h led in
      ready_if (with_sides st rest n) (o.0 ∷ rest) (goal [] n.left n.right) held.ran held.fine
