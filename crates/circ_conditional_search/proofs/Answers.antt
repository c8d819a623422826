-- A search ends in one way, and it ends.
use Rattle.circ_plain_search.proofs.Ends.{same_Err}
use Rattle.circ_plain_search.proofs.Turns.{if_ended, if_false}
use Rattle.std.proofs.Common.{◌≡◌, ℕ, zero, suc, ◌+◌, ◌-◌, ◌≤◌, ◌<◌, Bool, true, false, if◌then◌else◌, List, [], ◌∷◌, ◌++◌, map, length, Option, Some, None, Result, Ok, Err, refl, ap, sym, subst, ◌∙◌, arith, length-append}
use Rattle.std.specs.Prelude.{nat_le, not}
use Rattle.std.specs.Option.{option_map_or}
use Rattle.std.proofs.lemmas.List.{length-map}
use Rattle.circ_term.specs.Tree.{Tree, sort_of}
use Rattle.circ_term.specs.Order.{is_same}
use Rattle.circ_theory.specs.Theory.{Theory, Pair, goal}
use Rattle.circ_theory.specs.Observing.{is_hidden}
use Rattle.circ_theory.specs.Goal.{Goal}
use Rattle.circ_proof.specs.Goals.{with_cond}
use Rattle.circ_special.specs.declared.place.Place.{Place}
use Rattle.circ_proof.specs.Plain.{ChainOf, WhyOf, Same_why, Split_why, more_whys}
use Rattle.circ_conditional_norm.specs.Tries.{Normaliser}
use Rattle.circ_conditional_norm.specs.Work.{Work, Made, Out, Past, LeavesAtMost}
use Rattle.circ_conditional_norm.specs.Norm.{try_limit}
use Rattle.circ_rewrite.specs.declared.parts.Rule.{Rule}
use Rattle.circ_proof.specs.Rules.{ProofStep, Simplify, Reduce, Derive, Done, derivatives_on, Cases}
use Rattle.circ_proof.specs.Proof.{step_limit, split_limit}
use Rattle.circ_plain_search.specs.BlockRules.{block_rules, hidden_lemmas}
use Rattle.circ_plain_search.specs.Joining.{HypothesisUse, use_link, put_all, and_then}
use Rattle.circ_conditional_search.specs.Joining.{work_then, joined_trying, Swept, swept_with, swept_trying}
use Rattle.circ_plain_search.specs.Search.{Standing, Ending, Sides, sides_with, Reason, reason_with, SplitReason, split_with, case_of, Splitter, case_reason, constants_of, chain_with, chained, spent, or_end, is_nil, has_links, next_goal, goals_limit, unless_past, derive_turn, next_block}
use Rattle.circ_conditional_search.specs.Search.{Manner, normalised_trying, each_case_trying, open_cases_trying, normal_sides_trying, split_cases_trying, step_recorded, with_sides_of, goal_reduced, goal_simplified, hidden_turn_trying, visible_turn_trying, open_turn_trying, swept_sides_trying, pass_turn_trying, join_turn_trying, sides_turn_trying, goal_turn_trying, turn_trying_at, turn_trying, Finishes, stops, goes_on, cases_turn, derives_turn, case_term, pass_chain, condition_normaliser, first_open_of}
use Rattle.circ_plain_search.proofs.Uses.{Through, through, same_Ok}
use Rattle.circ_conditional_search.proofs.Runs.{recorded, recorded_room}
use Rattle.circ_conditional_search.proofs.Turns.{worked_is}
use Rattle.circ_conditional_norm.proofs.Falling.{IsFalling, norm_falls}
use Rattle.circ_conditional_search.proofs.Splits.{normalised_falls}
use Rattle.circ_conditional_search.proofs.Falls.{joined_leaves, IsPaid, swept_paid}

-- ---- one answer

pub one_ending : (th : Theory) (G : List Place) (l : Manner) (st : Standing) (e f : Ending) → Finishes th G l st e → Finishes th G l st f → e ≡ f
one_ending th G l st e f (stops _ _ t) (stops _ _ u) = same_Err e f (sym t ∙ u)
one_ending th G l st e f (stops _ _ t) (goes_on _ y _ u s) = absurd (let z : Err e ≡ Ok y = sym t ∙ u in cc)
one_ending th G l st e f (goes_on _ y _ t r) (stops _ _ u) = absurd (let z : Ok y ≡ Err f = sym t ∙ u in cc)
one_ending th G l st e f (goes_on _ y _ t r) (goes_on _ z _ u s) =
    let is : y ≡ z = same_Ok y z (sym t ∙ u) in
    let P : Standing → Type 0 = λ x. Finishes th G l x e in
    one_ending th G l z e f (subst P is r) s

-- ---- each turn that goes on lowers this

abbrev pub measure : Standing → ℕ
measure st = st.budget + (step_limit - st.made)

module _ (th : Theory) where
  pub sides_fall : (R : List Rule) (A : List Pair) (s t : Tree) (k : ℕ) (n : Sides) → normal_sides_trying th R A s t k ≡ Ok n → n.budget ≤ k
  sides_fall R A s t k n e =
      let x : Through (normalised_trying th R A s k)
      (λ a. and_then (normalised_trying th R A t a.budget) (λ b. Ok (sides_with a.term b.term (chain_with a.links b.links) b.budget))) n = through _ _ n e in
      let y : Through (normalised_trying th R A t x.value.budget)
      (λ b. Ok (sides_with x.value.term b.term (chain_with x.value.links b.links) b.budget)) n = through _ _ n x.last in
      let a = normalised_falls th R A s k x.value x.first in
      let b = normalised_falls th R A t x.value.budget y.value y.first in
      let c = ap (λ z. z.budget) (same_Ok _ n y.last) in
      omega (arith, a, b, c)

  abbrev Falls : Splitter → Type 0
  Falls again = (A : List Pair) (s t : Tree) (k : ℕ) (b : SplitReason) → again A s t k ≡ Ok b → b.budget ≤ k

  case_falls : (again : Splitter) → Falls again → (A : List Pair) (n : Sides) (r : Reason) → case_reason again A n ≡ Ok r → r.budget ≤ n.budget
  case_falls again law A n r e = go (is_same n.left n.right) e
    where
      go : (v : Bool) → (if v then Ok (reason_with (Same_why n.chain) n.budget)
          else and_then (again A n.left n.right n.budget) (λ c. Ok (reason_with (Split_why n.chain c.term c.whys) c.budget))) ≡ Ok r → r.budget ≤ n.budget
      go true x = let b = ap (λ z. z.budget) (same_Ok (reason_with (Same_why n.chain) n.budget) r x) in omega (arith, b)
      go false x =
          let y : Through (again A n.left n.right n.budget) (λ c. Ok (reason_with (Split_why n.chain c.term c.whys) c.budget)) r = through _ _ r x in
          let a = law A n.left n.right n.budget y.value y.first in
          let b = ap (λ z. z.budget) (same_Ok (reason_with (Split_why n.chain y.value.term y.value.whys) y.value.budget) r y.last) in
          omega (arith, a, b)

  each_falls : (R : List Rule) (again : Splitter) → Falls again → (A : List Pair) (u s t : Tree) (cs : List ℕ) (k : ℕ) (b : SplitReason)
      → each_case_trying th R again A u s t cs k ≡ Ok b → b.budget ≤ k
  each_falls R again law A u s t [] k b e = let c = ap (λ z. z.budget) (same_Ok _ b e) in omega (arith, c)
  each_falls R again law A u s t (c ∷ cs) k b e =
      let A' : List Pair = A ++ case_of u c ∷ [] in
      let x : Through (and_then (normal_sides_trying th R A' s t k) (case_reason again A'))
      (λ r. and_then (each_case_trying th R again A u s t cs r.budget)
      (λ d. Ok (split_with u (more_whys r.why d.whys) d.budget))) b = through _ _ b e in
      let y : Through (normal_sides_trying th R A' s t k) (case_reason again A') x.value = through _ _ x.value x.first in
      let z : Through (each_case_trying th R again A u s t cs x.value.budget)
      (λ d. Ok (split_with u (more_whys x.value.why d.whys) d.budget)) b = through _ _ b x.last in
      let f1 = sides_fall R A' s t k y.value y.first in
      let f2 = case_falls again law A' y.value x.value y.last in
      let f3 = each_falls R again law A u s t cs x.value.budget z.value z.first in
      let f4 = ap (λ q. q.budget) (same_Ok _ b z.last) in
      omega (arith, f1, f2, f3, f4)

  split_falls : (R : List Rule) (n : ℕ) → Falls (split_cases_trying th R n)
  split_falls R zero A s t k b e = absurd (cc)
  split_falls R (suc n) A s t k b e = go (split_falls R n) (first_open_of th s t) e
    where
      go : Falls (split_cases_trying th R n) → (o : Option Tree) → open_cases_trying th R (split_cases_trying th R n) o A s t k ≡ Ok b → b.budget ≤ k
      go ih None x = absurd (cc)
      go ih (Some u) x = each_falls R (split_cases_trying th R n) ih A u s t (constants_of th (sort_of u)) k b x

module _ (th : Theory) (G : List Place) (l : Manner) where
  -- a recorded step leaves less
  pub record Less (st y : Standing) : Type 0 where
    pub less : measure y < measure st
    pub budget : y.budget ≡ st.budget
    pub made : y.made ≡ st.made + 1

  pub recorded_less : (st : Standing) (x : ProofStep Tree) (y : Standing) → step_recorded th l.limits st x ≡ Ok y → Less st y
  recorded_less st x y e =
      let room = recorded_room th l.limits st x y e in
      let P : Standing → Type 0 = Less st in
      subst P (recorded th l.limits st x y e) (record { less = omega (arith, room); budget = refl; made = refl })

  pub reduced_less : (st : Standing) (rest : List Goal) (why : WhyOf Tree) (y : Standing) → goal_reduced th l.limits st rest why ≡ Ok y → measure y < measure st
  reduced_less st rest why y e =
      let x : Through (step_recorded th l.limits st (Reduce why)) (λ z. Ok (next_goal z.hypotheses rest z)) y = through _ _ y e in
      let r = (recorded_less st (Reduce why) x.value x.first).less in
      let P : Standing → Type 0 = λ z. measure z < measure st in
      subst P (same_Ok (next_goal x.value.hypotheses rest x.value) y x.last) r

  derived_less : (st : Standing) (g : Goal) (rest : List Goal) (y : Standing) → derive_turn th l.limits st g rest ≡ Ok y → measure y < measure st
  derived_less st g rest y e =
      let gs : List Goal = derivatives_on th g in
      let F : List Goal → Result Standing Ending
      = λ k. and_then (step_recorded th l.limits st Derive) (λ x. Ok (next_goal (x.hypotheses ++ g ∷ []) (rest ++ k) (record x { derives = x.derives + 1 }))) in
      let u : Through (or_end l.limits st (unless_past (goals_limit gs) gs)) F y = through _ _ y (if_false (nat_le step_limit st.made) (spent l.limits st) _ y e) in
      let x : Through (step_recorded th l.limits st Derive) (λ z. Ok (next_goal (z.hypotheses ++ g ∷ []) (rest ++ u.value) (record z { derives = z.derives + 1 }))) y
      = through _ _ y u.last in
      let r = (recorded_less st Derive x.value x.first).less in
      let P : Standing → Type 0 = λ z. measure z < measure st in
      subst P (same_Ok (next_goal (x.value.hypotheses ++ g ∷ []) (rest ++ u.value) (record x.value { derives = x.value.derives + 1 })) y x.last) r

  simple : (st : Standing) (z : Standing) → goal_simplified th l.limits st ≡ Ok z → measure z ≤ measure st
  simple st z x = go (has_links st.chain) x
    where
      go : (b : Bool) → (if b then step_recorded th l.limits st (Simplify st.chain) else Ok st) ≡ Ok z → measure z ≤ measure st
      go true x = let r = (recorded_less st (Simplify st.chain) z x).less in omega (arith, r)
      go false x = let r = ap measure (same_Ok st z x) in omega (arith, r)

  cases_less : (st : Standing) (g : Goal) (rest : List Goal) (u : Tree) (y : Standing) → cases_turn th l.limits st g rest u ≡ Ok y → measure y < measure st
  cases_less st g rest u y e =
      let Q : List Goal = map (λ c. with_cond g (case_of u c)) (constants_of th (sort_of u)) ++ rest in
      let x : Through (goal_simplified th l.limits st) (λ z. and_then (step_recorded th l.limits z (Cases u)) (λ w. Ok (next_goal w.hypotheses Q w))) y = through _ _ y e in
      let v : Through (step_recorded th l.limits x.value (Cases u)) (λ w. Ok (next_goal w.hypotheses Q w)) y = through _ _ y x.last in
      let a = simple st x.value x.first in
      let r = (recorded_less x.value (Cases u) v.value v.first).less in
      let s = ap measure (same_Ok (next_goal v.value.hypotheses Q v.value) y v.last) in
      omega (arith, a, r, s)

  derives_less : (st : Standing) (g : Goal) (rest : List Goal) (y : Standing) → derives_turn th l.limits st g rest ≡ Ok y → measure y < measure st
  derives_less st g rest y z =
      let x : Through (goal_simplified th l.limits st) (λ s. derive_turn th l.limits s g rest) y
      = through _ _ y (if_false (nat_le l.limits.derives st.derives) (spent l.limits st) _ y z) in
      let a = simple st x.value x.first in
      let b = derived_less x.value g rest y x.last in
      omega (arith, a, b)

  pub open_less : (st : Standing) (g : Goal) (rest : List Goal) (y : Standing) → open_turn_trying th l st g rest ≡ Ok y → measure y < measure st
  open_less st g rest y e = go (is_hidden th (sort_of g.left)) e
    where
      hidden : (o : Option Tree) → option_map_or (cases_turn th l.limits st g rest) o (derives_turn th l.limits st g rest) ≡ Ok y → measure y < measure st
      hidden None z = derives_less st g rest y z
      hidden (Some u) z = cases_less st g rest u y z

      go : (b : Bool) → (if b then hidden_turn_trying th l st g rest else visible_turn_trying th l.limits st g rest) ≡ Ok y → measure y < measure st
      go true z = hidden (case_term th l.split g) z
      go false z =
          let R = block_rules th st.earlier in
          let x : Through (or_end l.limits st (split_cases_trying th R split_limit g.conds g.left g.right st.budget))
          (λ c. goal_reduced th l.limits (record st { budget = c.budget }) rest (Split_why st.chain c.term c.whys)) y = through _ _ y z in
          let a = split_falls th R split_limit g.conds g.left g.right st.budget x.value (if_ended l.limits st _ x.value x.first) in
          let b = reduced_less (record st { budget = x.value.budget }) rest (Split_why st.chain x.value.term x.value.whys) y x.last in
          omega (arith, a, b)

  pub cond_falls : (E : List Goal) (A : List Pair) → IsFalling (condition_normaliser th E A)
  cond_falls E A = norm_falls (try_limit - 1) th.signature (block_rules th E) A

  -- a pass pays for each use
  pub sides_paid : (E : List Goal) (g : Goal) (k : ℕ) (w : Swept × Swept) (l' : ℕ) → swept_sides_trying th G E g k ≡ Made w l' → l' + length (w.0.uses ++ w.1.uses) ≤ k
  sides_paid E g k w l' e = first (sweep g.left k) (swept_paid f (cond_falls E g.conds) G L [] g.left (swept_with g.left []) k) e
    where
      f : Normaliser
      f = condition_normaliser th E g.conds

      L : List Rule
      L = hidden_lemmas th 0 E

      sweep : Tree → ℕ → Work Swept
      sweep t k = swept_trying f G L [] t (swept_with t []) k

      both : (a b : Swept) (m n : ℕ) → m + length a.uses ≤ k + 0 → n + length b.uses ≤ m + 0 → Made (a, b) n ≡ Made w l' → l' + length (w.0.uses ++ w.1.uses) ≤ k
      both a b m n p q z =
          let is : (a, b) ≡ w = cc in
          let left : n ≡ l' = cc in
          let long = length-append a.uses b.uses in
          let P : Swept × Swept → Type 0 = λ v. l' + length (v.0.uses ++ v.1.uses) ≤ k in
          subst P is (omega (arith, left, long, p, q))

      second : (a : Swept) (m : ℕ) → m + length a.uses ≤ k + 0 → (r : Work Swept) → IsPaid f (cond_falls E g.conds) (swept_with g.right []) m r
          → work_then r (λ b n. Made (a, b) n) ≡ Made w l' → l' + length (w.0.uses ++ w.1.uses) ≤ k
      second a m p (Made b n) q z = both a b m n p q z
      second a m p Out q z = absurd (cc)
      second a m p (Past y n) q z = absurd (cc)

      first : (r : Work Swept) → IsPaid f (cond_falls E g.conds) (swept_with g.left []) k r
          → work_then r (λ a m. work_then (sweep g.right m) (λ b n. Made (a, b) n)) ≡ Made w l' → l' + length (w.0.uses ++ w.1.uses) ≤ k
      first (Made a m) p z = second a m p (sweep g.right m) (swept_paid f (cond_falls E g.conds) G L [] g.right (swept_with g.right []) m) z
      first Out p z = absurd (cc)
      first (Past y m) p z = absurd (cc)

  pub some_links : {X : Type 0} (xs : List X) → not (is_nil xs) ≡ true → 0 < length xs
  some_links [] e = absurd (cc)
  some_links (x ∷ xs) e = omega arith

  pass_less : (st : Standing) (g : Goal) (rest : List Goal) (y : Standing) → pass_turn_trying th G l st g rest ≡ Ok y → measure y < measure st
  pass_less st g rest y e =
      let r = worked_is l.limits st (swept_sides_trying th G st.earlier g st.budget)
      (λ w x. if has_links (pass_chain w) then Ok (with_sides_of x g rest (sides_with w.0.whole w.1.whole (pass_chain w) x.budget)) else open_turn_trying th l x g rest) y e in
      go r.0 r.1 (sides_paid st.earlier g st.budget r.0 r.1 r.2) (has_links (pass_chain r.0)) refl r.3
    where
      go : (w : Swept × Swept) (k : ℕ) → k + length (w.0.uses ++ w.1.uses) ≤ st.budget → (b : Bool) → has_links (pass_chain w) ≡ b
          → (if b then Ok (with_sides_of (record st { budget = k }) g rest (sides_with w.0.whole w.1.whole (pass_chain w) k)) else open_turn_trying th l (record st { budget = k }) g rest) ≡ Ok y
          → measure y < measure st
      go w k s true h z =
          let P : Standing → Type 0 = λ d. measure d < measure st in
          let some = some_links (map use_link w.0.uses ++ map use_link w.1.uses) h in
          let m = length-append (map use_link w.0.uses) (map use_link w.1.uses) in
          let n = length-append w.0.uses w.1.uses in
          let m1 = length-map w.0.uses use_link in
          let m2 = length-map w.1.uses use_link in
          subst P (same_Ok (with_sides_of (record st { budget = k }) g rest (sides_with w.0.whole w.1.whole (pass_chain w) k)) y z) (omega (arith, s, some, m, n, m1, m2))
      go w k s false h z = let r = open_less (record st { budget = k }) g rest y z in omega (arith, r, s)

  join_less : (st : Standing) (g : Goal) (rest : List Goal) (us : Option (List HypothesisUse)) (y : Standing) → join_turn_trying th G l st g rest us ≡ Ok y
      → measure y < measure st
  join_less st g rest None y e = pass_less st g rest y e
  join_less st g rest (Some us) y e =
      let c : ChainOf Tree = chained st.chain (chain_with (map use_link us) []) in
      let x : Through (or_end l.limits st (put_all g.left us)) (λ u. goal_reduced th l.limits st rest (Same_why c)) y = through _ _ y e in
      reduced_less st rest (Same_why c) y x.last

  goal_less : (st : Standing) (g : Goal) (rest : List Goal) (y : Standing) → goal_turn_trying th G l st g rest ≡ Ok y → measure y < measure st
  goal_less st g rest y e =
      let R = block_rules th st.earlier in
      let x : Through (or_end l.limits st (normal_sides_trying th R g.conds g.left g.right st.budget))
      (λ n. sides_turn_trying th G l (with_sides_of st g rest n) (goal g.conds n.left n.right) rest) y = through _ _ y e in
      let s = sides_fall th R g.conds g.left g.right st.budget x.value (if_ended l.limits st _ x.value x.first) in
      let n : Sides = x.value in
      let st' : Standing = with_sides_of st g rest n in
      let r = worked_is l.limits st' (joined_trying (condition_normaliser th st.earlier g.conds) G st.hypotheses [] n.left n.right n.budget)
      (λ o z. join_turn_trying th G l z (goal g.conds n.left n.right) rest o) y x.last in
      let j = leaves_made n.budget (joined_trying (condition_normaliser th st.earlier g.conds) G st.hypotheses [] n.left n.right n.budget)
      (joined_leaves (condition_normaliser th st.earlier g.conds) (cond_falls st.earlier g.conds) G st.hypotheses [] n.left n.right n.budget) r.0 r.1 r.2 in
      let t = join_less (record st' { budget = r.1 }) (goal g.conds n.left n.right) rest r.0 y r.3 in
      omega (arith, s, j, t)
    where
      leaves_made : {A : Type 0} (k : ℕ) (w : Work A) → LeavesAtMost k w → (a : A) (l : ℕ) → w ≡ Made a l → l ≤ k
      leaves_made k (Made b j) h a l e = let same : j ≡ l = cc in omega (arith, h, same)
      leaves_made k Out h a l e = absurd (cc)
      leaves_made k (Past x j) h a l e = absurd (cc)

  pub next_less : (st : Standing) (later : List (List Goal)) (y : Standing) → next_block st later ≡ Ok y → measure y ≡ measure st
  next_less st [] y e = absurd (cc)
  next_less st (b ∷ bs) y e = let P : Standing → Type 0 = λ z. measure z ≡ measure st in subst P (same_Ok _ y e) refl

  pub turn_less : (st y : Standing) → turn_trying th G l st ≡ Ok y → y.budget + (step_limit - y.made) < st.budget + (step_limit - st.made)
  turn_less st y e = go st.queue e
    where
      go : (Q : List Goal) → turn_trying_at th G l st Q ≡ Ok y → measure y < measure st
      go [] z =
          let x : Through (step_recorded th l.limits st Done) (λ d. next_block d d.later) y = through _ _ y z in
          let r = (recorded_less st Done x.value x.first).less in
          let n = next_less x.value x.value.later y x.last in
          omega (arith, r, n)
      go (g ∷ rest) z = goal_less st g rest y z

  reaches_some : (n : ℕ) (st : Standing) → measure st < n → (e : Ending) × Finishes th G l st e
  reaches_some zero st h = absurd (omega (arith, h))
  reaches_some (suc n) st h = go (λ y z. reaches_some n y z) (turn_trying th G l st) refl
    where
      go : ((y : Standing) → measure y < n → (e : Ending) × Finishes th G l y e) → (r : Result Standing Ending) → turn_trying th G l st ≡ r
          → (e : Ending) × Finishes th G l st e
      go ih (Err e) t = (e, stops st e t)
      go ih (Ok y) t =
          let less = turn_less st y t in
          let r = ih y (omega (arith, less, h)) in
          (r.0, goes_on st y r.0 t r.1)

  pub some_ending : (st : Standing) → (e : Ending) × Finishes th G l st e
  some_ending st = reaches_some (measure st + 1) st (omega arith)
