-- The lines of steps, goals and blocks are fine exactly where these fit the table.
use Rattle.std.specs.Prelude.{◌≡◌, ℕ, ◌+◌, ◌<◌, ◌≤◌, ◌==◌, ◌&&◌, not, nat_lt, Bool, true, false, List, [], ◌∷◌, length, refl}
use Rattle.std.specs.List.{AllByRecursion}
use Rattle.std.proofs.Common.{sym, ◌∙◌, subst, arith}
use Rattle.std.proofs.lemmas.Bool.{and_parts, and_from, true≢false, ltb-true, ltb-false, lt-ltb, le-ltb, eqb-true, eq-eqb}
use Rattle.circ_term.specs.Tree.{Tree, sort_of}
use Rattle.circ_theory.specs.Theory.{Theory, IsVisible}
use Rattle.circ_theory.specs.Limits.{condition_limit}
use Rattle.circ_theory.specs.Observing.{is_hidden}
use Rattle.circ_theory.proofs.Casing.{hidden_tells}
use Rattle.circ_theory.specs.Rewriting.{named}
use Rattle.circ_special.specs.declared.place.Place.{Place}
use Rattle.circ_proof.specs.Table.{term_limit}
use Rattle.circ_proof.specs.Certified.{due}
use Rattle.circ_proof.specs.Proof.{GoalNames, IsChainFor, IsWhyFor, IsConditionFor, IsNameFor, split_limit, step_limit}
use Rattle.circ_proof.specs.Proof.{IsPlainChain, IsPlainWhy}
use Rattle.circ_line.specs.Line.{Line, done_line, end_line}
use Rattle.circ_grammar.specs.Grammar.{NumberedStep, Simplify_step, Reduce_step, Derive_step, Cases_step, NumberedBlock, lines_of, given_lines, goal_lines}
use Rattle.circ_grammar.specs.Grammar.{step_lines, block_lines}
use Rattle.circ_proof_text.specs.Checks.{Seen, with_givens, is_goal, is_condition}
use Rattle.circ_proof_text.proofs.Fine.{AllFine, second_or, is_number, chain_to, chain_from, why_to, why_from}

-- what lines have given that are read up to the end of a step
abbrev pub seen : (version : ℕ) → List Tree → List Place → (certificates steps : ℕ) → Seen
seen v ts gs n m = record { version = v; terms = ts; places = gs; certificates = n; steps = m; givens = 0; ifs = 0; wanted = [] }

abbrev pub IsNumberedStepFor : (count : ℕ) → NumberedStep → Type 0
IsNumberedStepFor n (Simplify_step c) = IsChainFor n c
IsNumberedStepFor n (Reduce_step w) = IsWhyFor n split_limit w
IsNumberedStepFor n Derive_step = Unit {0}
IsNumberedStepFor n (Cases_step t) = t < n

abbrev pub IsPlainNumberedStep : NumberedStep → Type 0
IsPlainNumberedStep (Simplify_step c) = IsPlainChain c
IsPlainNumberedStep (Reduce_step w) = IsPlainWhy w
IsPlainNumberedStep Derive_step = Unit {0}
IsPlainNumberedStep (Cases_step t) = ⊥

pub record IsNumberedBlockFor (th : Theory) (ts : List Tree) (b : NumberedBlock) : Type 0 where
  pub names : AllByRecursion (IsNameFor th ts) b.goals
  pub steps : AllByRecursion (IsNumberedStepFor (length ts)) b.steps

-- what version 1 leaves out
pub record IsPlainNumberedBlock (b : NumberedBlock) : Type 0 where
  pub names : AllByRecursion (λ g. g.conds ≡ []) b.goals
  pub steps : AllByRecursion IsPlainNumberedStep b.steps

-- the number of steps, Done included
abbrev pub numbered_steps_in : List NumberedBlock → ℕ
numbered_steps_in [] = 0
numbered_steps_in (b ∷ bs) = length b.steps + 1 + numbered_steps_in bs

-- in version 1, by its number
abbrev pub OfFirst : (version : ℕ) → Type 0 → Type 0
OfFirst v P = (v == 2) ≡ false → P

module _ (th : Theory) (v : ℕ) (ts : List Tree) (gs : List Place) (n : ℕ) where
  -- steps

  -- where the last goal has j conditions: the steps of a block ask nothing of these
  abbrev pub at : (m j : ℕ) → Seen
  at m j = with_givens (seen v ts gs n m) j

  step_to : (m j : ℕ) (s : NumberedStep) (k : List Line) → AllFine th (at m j) (step_lines s k)
      → IsNumberedStepFor (length ts) s × OfFirst v (IsPlainNumberedStep s) × (m < step_limit) × AllFine th (at (m + 1) 0) k
  step_to m j (Simplify_step c) k h =
      let r = chain_to th (at (m + 1) 0) [] c k h.3 in
      let low : m + 1 ≤ step_limit = ltb-false step_limit (m + 1) h.2 in (r.0, r.1, omega arith, r.2)
  step_to m j (Reduce_step w) k h =
      let r = why_to th (at (m + 1) 0) [] w k h.3 in
      let low : m + 1 ≤ step_limit = ltb-false step_limit (m + 1) h.2 in (r.0, r.1, omega arith, r.2)
  step_to m j Derive_step k h = let low : m + 1 ≤ step_limit = ltb-false step_limit (m + 1) h.2 in (tt, λ e. tt, omega arith, h.3)
  step_to m j (Cases_step t) k h =
      let low : m + 1 ≤ step_limit = ltb-false step_limit (m + 1) h.2 in
      let p = and_parts (v == 2) (nat_lt t (length ts)) h.1 in
      (ltb-true t (length ts) p.1, λ e. absurd (true≢false (sym p.0 ∙ e)), omega arith, h.3)

  step_from : (m j : ℕ) (s : NumberedStep) (k : List Line) → length ts ≤ term_limit → IsNumberedStepFor (length ts) s
      → OfFirst v (IsPlainNumberedStep s) → m < step_limit → AllFine th (at (m + 1) 0) k → AllFine th (at m j) (step_lines s k)
  step_from m j (Simplify_step c) k few h p l f =
      (tt, refl, le-ltb step_limit (m + 1) (omega arith), chain_from th (at (m + 1) 0) [] c k few h p f)
  step_from m j (Reduce_step w) k few h p l f =
      (tt, refl, le-ltb step_limit (m + 1) (omega arith), why_from th (at (m + 1) 0) [] w k few h p f)
  step_from m j Derive_step k few h p l f = (tt, refl, le-ltb step_limit (m + 1) (omega arith), f)
  step_from m j (Cases_step t) k few h p l f = (
    (is_number (length ts) t few h, tt),
    and_from (v == 2) (nat_lt t (length ts)) (second_or (at m j) p) (lt-ltb t (length ts) h),
    le-ltb step_limit (m + 1) (omega arith),
    f,
  )

  -- what lines leave after m steps, whatever the number of conditions of the last goal
  abbrev pub Leaves : (m : ℕ) → List Line → Type 0
  Leaves m k = (j : ℕ) × AllFine th (at m j) k

  pub steps_to : (m j : ℕ) (ss : List NumberedStep) (k : List Line) → m ≤ step_limit → AllFine th (at m j) (lines_of step_lines ss k)
      → AllByRecursion (IsNumberedStepFor (length ts)) ss × OfFirst v (AllByRecursion IsPlainNumberedStep ss) × (m + length ss ≤ step_limit)
      × Leaves (m + length ss) k
  steps_to m j [] k l h =
      let e : m ≡ m + 0 = omega arith in let P : ℕ → Type 0 = λ x. AllFine th (at x j) k in (tt, λ e. tt, omega arith, (j, subst P e h))
  steps_to m j (s ∷ ss) k l h =
      let r = step_to m j s (lines_of step_lines ss k) h in
      let low : m < step_limit = r.2 in
      let q = steps_to (m + 1) 0 ss k (omega arith) r.3 in
      let few : m + 1 + length ss ≤ step_limit = q.2 in
      let e : m + 1 + length ss ≡ m + length (s ∷ ss) = omega arith in
      let P : ℕ → Type 0 = λ x. Leaves x k in
      ((r.0, q.0), λ e. (r.1 e, q.1 e), omega arith, subst P e q.3)

  steps_from : (m j : ℕ) (ss : List NumberedStep) (k : List Line) → length ts ≤ term_limit → AllByRecursion (IsNumberedStepFor (length ts)) ss
      → OfFirst v (AllByRecursion IsPlainNumberedStep ss) → m + length ss ≤ step_limit → ((i : ℕ) → AllFine th (at (m + length ss) i) k)
      → AllFine th (at m j) (lines_of step_lines ss k)
  steps_from m j [] k few h p l f = let e : m + 0 ≡ m = omega arith in let P : ℕ → Type 0 = λ x. AllFine th (at x j) k in subst P e (f j)
  steps_from m j (s ∷ ss) k few h p l f =
      let e : m + length (s ∷ ss) ≡ m + 1 + length ss = omega arith in
      let P : ℕ → Type 0 = λ x. (i : ℕ) → AllFine th (at x i) k in
      step_from m j s (lines_of step_lines ss k) few h.0 (λ e. (p e).0) (omega arith)
      (steps_from (m + 1) 0 ss k few h.1 (λ e. (p e).1) (omega arith) (subst P e f))

  -- goals

  -- both sides are in the table, of one sort
  record AreSides (a b : ℕ) : Type 0 where
    pub left : a < length ts
    pub right : b < length ts
    pub same_sort : sort_of (named ts b) ≡ sort_of (named ts a)

  sides_to : (a b : ℕ) → is_goal ts a b ≡ true → AreSides a b
  sides_to a b e =
      let p = and_parts (nat_lt a (length ts)) (nat_lt b (length ts) && (sort_of (named ts b) == sort_of (named ts a))) e in
      let q = and_parts (nat_lt b (length ts)) (sort_of (named ts b) == sort_of (named ts a)) p.1 in
      record {
        left = ltb-true a (length ts) p.0;
        right = ltb-true b (length ts) q.0;
        same_sort = eqb-true (sort_of (named ts b)) (sort_of (named ts a)) q.1;
      }

  sides_from : (a b : ℕ) → a < length ts → b < length ts → sort_of (named ts b) ≡ sort_of (named ts a) → is_goal ts a b ≡ true
  sides_from a b x y e =
      and_from (nat_lt a (length ts)) (nat_lt b (length ts) && (sort_of (named ts b) == sort_of (named ts a))) (lt-ltb a (length ts) x)
      (and_from (nat_lt b (length ts)) (sort_of (named ts b) == sort_of (named ts a)) (lt-ltb b (length ts) y)
      (eq-eqb (sort_of (named ts b)) (sort_of (named ts a)) e))

  visible_to : (s : ℕ) → not (is_hidden th s) ≡ true → IsVisible th s
  visible_to s e = λ h. no_not (is_hidden th s) ((hidden_tells th s).1 h) e
    where
      no_not : (b : Bool) → b ≡ true → not b ≡ true → ⊥
      no_not true e f = true≢false (sym f)
      no_not false e f = true≢false (sym e)

  visible_from : (s : ℕ) → IsVisible th s → not (is_hidden th s) ≡ true
  visible_from s h = go (is_hidden th s) (λ e. h ((hidden_tells th s).0 e))
    where
      go : (b : Bool) → (b ≡ true → ⊥) → not b ≡ true
      go true h = absurd (h refl)
      go false h = refl

  condition_to : (p : ℕ × ℕ) → is_condition th ts p.0 p.1 ≡ true → IsConditionFor th ts p
  condition_to p e =
      let q = and_parts (is_goal ts p.0 p.1) (not (is_hidden th (sort_of (named ts p.0)))) e in
      let a : AreSides p.0 p.1 = sides_to p.0 p.1 q.0 in
      record { left = a.left; right = a.right; same_sort = a.same_sort; visible = visible_to (sort_of (named ts p.0)) q.1 }

  condition_from : (p : ℕ × ℕ) → IsConditionFor th ts p → is_condition th ts p.0 p.1 ≡ true
  condition_from p h =
      and_from (is_goal ts p.0 p.1) (not (is_hidden th (sort_of (named ts p.0)))) (sides_from p.0 p.1 h.left h.right h.same_sort)
      (visible_from (sort_of (named ts p.0)) h.visible)

  givens_to : (m i : ℕ) (ps : List (ℕ × ℕ)) (k : List Line) → i ≤ condition_limit → AllFine th (at m i) (lines_of given_lines ps k)
      → AllByRecursion (IsConditionFor th ts) ps × OfFirst v (ps ≡ []) × (i + length ps ≤ condition_limit)
      × AllFine th (at m (i + length ps)) k
  givens_to m i [] k l h =
      let e : i ≡ i + 0 = omega arith in
      let P : ℕ → Type 0 = λ x. AllFine th (at m x) k in (tt, λ e. refl, omega (arith, l), subst P e h)
  givens_to m i (p ∷ ps) k l h =
      let a = and_parts (v == 2) (is_condition th ts p.0 p.1) h.1 in
      let low : i + 1 ≤ condition_limit = ltb-false condition_limit (i + 1) h.2 in
      let r = givens_to m (i + 1) ps k low h.3 in
      let few : i + 1 + length ps ≤ condition_limit = r.2 in
      let e : i + 1 + length ps ≡ i + length (p ∷ ps) = omega arith in
      let P : ℕ → Type 0 = λ x. AllFine th (at m x) k in
      ((condition_to p a.1, r.0), λ e. absurd (true≢false (sym a.0 ∙ e)), omega (arith, few), subst P e r.3)

  givens_from : (m i : ℕ) (ps : List (ℕ × ℕ)) (k : List Line) → length ts ≤ term_limit → AllByRecursion (IsConditionFor th ts) ps → OfFirst v (ps ≡ [])
      → i + length ps ≤ condition_limit → AllFine th (at m (i + length ps)) k
      → AllFine th (at m i) (lines_of given_lines ps k)
  givens_from m i [] k few h p l f =
      let e : i + 0 ≡ i = omega arith in let P : ℕ → Type 0 = λ x. AllFine th (at m x) k in subst P e f
  givens_from m i (q ∷ ps) k few h p l f =
      let e : i + length (q ∷ ps) ≡ i + 1 + length ps = omega arith in
      let P : ℕ → Type 0 = λ x. AllFine th (at m x) k in
      let a : q.0 < length ts = h.0.left in
      let b : q.1 < length ts = h.0.right in
      let second : (v == 2) ≡ true = second_or (seen v ts gs n m) (λ e. some_given q ps (p e)) in (
        (is_number (length ts) q.0 few a, (is_number (length ts) q.1 few b, tt)),
        and_from (v == 2) (is_condition th ts q.0 q.1) second (condition_from q h.0),
        le-ltb condition_limit (i + 1) (omega (arith, l)),
        givens_from m (i + 1) ps k few h.1 (λ e. absurd (true≢false (sym second ∙ e))) (omega (arith, l)) (subst P e f),
      )
    where
      some_given : (q : ℕ × ℕ) (ps : List (ℕ × ℕ)) → q ∷ ps ≡ [] → ⊥
      some_given q ps e = absurd (cc)

  pub names_to : (m i : ℕ) (ns : List GoalNames) (k : List Line) → AllFine th (at m i) (lines_of goal_lines ns k)
      → AllByRecursion (IsNameFor th ts) ns × OfFirst v (AllByRecursion (λ g. g.conds ≡ []) ns) × Leaves m k
  names_to m i [] k h = (tt, λ e. tt, (i, h))
  names_to m i (g ∷ ns) k h =
      let a : AreSides g.left g.right = sides_to g.left g.right h.1 in
      let c = givens_to m 0 g.conds (lines_of goal_lines ns k) (omega arith) h.3 in
      let few : 0 + length g.conds ≤ condition_limit = c.2 in
      let r = names_to m (0 + length g.conds) ns k c.3 in (
        (record { left = a.left; right = a.right; same_sort = a.same_sort; conds = c.0; few_conds = omega (arith, few) }, r.0),
        λ e. (c.1 e, r.1 e),
        r.2,
      )

  names_from : (m i : ℕ) (ns : List GoalNames) (k : List Line) → length ts ≤ term_limit → AllByRecursion (IsNameFor th ts) ns
      → OfFirst v (AllByRecursion (λ g. g.conds ≡ []) ns) → ((j : ℕ) → AllFine th (at m j) k)
      → AllFine th (at m i) (lines_of goal_lines ns k)
  names_from m i [] k few h p f = f i
  names_from m i (g ∷ ns) k few h p f =
      let a : g.left < length ts = h.0.left in
      let b : g.right < length ts = h.0.right in
      let low : length g.conds ≤ condition_limit = h.0.few_conds in (
        (is_number (length ts) g.left few a, (is_number (length ts) g.right few b, tt)),
        sides_from g.left g.right h.0.left h.0.right h.0.same_sort,
        refl,
        givens_from m 0 g.conds (lines_of goal_lines ns k) few h.0.conds (λ e. (p e).0) (omega (arith, low))
            (names_from m (0 + length g.conds) ns k few h.1 (λ e. (p e).1) f),
      )

  -- blocks

  pub block_to : (m : ℕ) (b : NumberedBlock) (k : List Line) → m ≤ step_limit → AllFine th (seen v ts gs n m) (block_lines b k)
      → (n ≡ length (due th gs)) × IsNumberedBlockFor th ts b × OfFirst v (IsPlainNumberedBlock b) × (m + (length b.steps + 1) ≤ step_limit)
      × AllFine th (seen v ts gs n (m + (length b.steps + 1))) k
  block_to m b k l h =
      let g = names_to m 0 b.goals (lines_of step_lines b.steps (done_line ∷ k)) h.3 in
      let s = steps_to m g.2.0 b.steps (done_line ∷ k) l g.2.1 in
      let low : m + length b.steps + 1 ≤ step_limit = ltb-false step_limit (m + length b.steps + 1) s.3.1.2 in
      let e : m + length b.steps + 1 ≡ m + (length b.steps + 1) = omega arith in
      let P : ℕ → Type 0 = λ x. AllFine th (seen v ts gs n x) k in (
        eqb-true n (length (due th gs)) h.1,
        record { names = g.0; steps = s.0 },
        λ e. record { names = g.1 e; steps = s.1 e },
        omega arith,
        subst P e s.3.1.3,
      )

  block_from : (m : ℕ) (b : NumberedBlock) (k : List Line) → length ts ≤ term_limit → n ≡ length (due th gs) → IsNumberedBlockFor th ts b
      → OfFirst v (IsPlainNumberedBlock b) → m + (length b.steps + 1) ≤ step_limit → AllFine th (seen v ts gs n (m + (length b.steps + 1))) k
      → AllFine th (seen v ts gs n m) (block_lines b k)
  block_from m b k few w h p l f =
      let e : m + (length b.steps + 1) ≡ m + length b.steps + 1 = omega arith in
      let P : ℕ → Type 0 = λ x. AllFine th (seen v ts gs n x) k in
      let ends : (i : ℕ) → AllFine th (at (m + length b.steps) i) (done_line ∷ k)
      = λ i. (tt, refl, le-ltb step_limit (m + length b.steps + 1) (omega arith), subst P e f) in (
        tt,
        eq-eqb n (length (due th gs)) w,
        refl,
        names_from m 0 b.goals (lines_of step_lines b.steps (done_line ∷ k)) few h.names (λ e. (p e).names)
            (λ j. steps_from m j b.steps (done_line ∷ k) few h.steps (λ e. (p e).steps) (omega arith) ends),
      )

  pub blocks_to : (m : ℕ) (bs : List NumberedBlock) (k : List Line) → m ≤ step_limit → AllFine th (seen v ts gs n m) (lines_of block_lines bs k)
      → (0 < length bs → n ≡ length (due th gs)) × AllByRecursion (IsNumberedBlockFor th ts) bs × OfFirst v (AllByRecursion IsPlainNumberedBlock bs)
      × (m + numbered_steps_in bs ≤ step_limit) × AllFine th (seen v ts gs n (m + numbered_steps_in bs)) k
  blocks_to m [] k l h =
      let e : m ≡ m + 0 = omega arith in
      let P : ℕ → Type 0 = λ x. AllFine th (seen v ts gs n x) k in (λ z. absurd (omega arith), tt, λ e. tt, omega arith, subst P e h)
  blocks_to m (b ∷ bs) k l h =
      let r = block_to m b (lines_of block_lines bs k) l h in
      let q = blocks_to (m + (length b.steps + 1)) bs k r.3 r.4 in
      let few : m + (length b.steps + 1) + numbered_steps_in bs ≤ step_limit = q.3 in
      let e : m + (length b.steps + 1) + numbered_steps_in bs ≡ m + numbered_steps_in (b ∷ bs) = omega arith in
      let P : ℕ → Type 0 = λ x. AllFine th (seen v ts gs n x) k in
      (λ z. r.0, (r.1, q.1), λ e. (r.2 e, q.2 e), omega arith, subst P e q.4)

  pub blocks_from : (m : ℕ) (bs : List NumberedBlock) → length ts ≤ term_limit → n ≡ length (due th gs) → AllByRecursion (IsNumberedBlockFor th ts) bs
      → OfFirst v (AllByRecursion IsPlainNumberedBlock bs) → m + numbered_steps_in bs ≤ step_limit
      → AllFine th (seen v ts gs n m) (lines_of block_lines bs (end_line ∷ []))
  blocks_from m [] few w h p l = (tt, refl, refl, tt)
  blocks_from m (b ∷ bs) few w h p l =
      block_from m b (lines_of block_lines bs (end_line ∷ [])) few w h.0 (λ e. (p e).0) (omega arith)
      (blocks_from (m + (length b.steps + 1)) bs few w h.1 (λ e. (p e).1) (omega arith))
