-- A search ends in one way, and it ends.
use Rattle.std.proofs.Common.{◌≡◌, ℕ, zero, suc, ◌+◌, ◌-◌, ◌≤◌, ◌<◌, Bool, true, false, if◌then◌else◌, List, [], ◌∷◌, ◌++◌, map, length, Option, Some, None, Result, Ok, Err, refl, ap, sym, subst, ◌∙◌, arith, length-append}
use Rattle.std.specs.Prelude.{nat_le, not}
use Rattle.std.specs.Option.{option_or}
use Rattle.std.proofs.lemmas.List.{length-map}
use Rattle.circ_term.specs.Tree.{Tree, sort_of}
use Rattle.circ_term.specs.Order.{is_same}
use Rattle.circ_theory.specs.Theory.{Theory, Pair, goal}
use Rattle.circ_theory.specs.Observing.{is_hidden}
use Rattle.circ_theory.specs.Goal.{Goal}
use Rattle.circ_special.specs.declared.place.Place.{Place}
use Rattle.circ_proof.specs.Plain.{ChainOf, WhyOf, Same_why, Split_why, more_whys}
use Rattle.circ_rewrite.specs.Due.{due_under}
use Rattle.circ_rewrite.specs.Norm.{Normalised, Normal_form, Budget_spent, Limit_passed, norm}
use Rattle.circ_rewrite.specs.Links.{link_of}
use Rattle.circ_rewrite.specs.declared.parts.Rule.{Rule}
use Rattle.circ_rewrite.proofs.Runs.{normal_form_reduces}
use Rattle.circ_proof.specs.Rules.{ProofStep, Simplify, Reduce, Derive, Done, derivatives_on}
use Rattle.circ_proof.specs.Proof.{step_limit, split_limit}
use Rattle.circ_plain_search.specs.BlockRules.{block_rules}
use Rattle.circ_plain_search.specs.Joining.{HypothesisUse, first_open, use_link, joined, and_then, put_all, put_counted}
use Rattle.circ_plain_search.specs.Search.{Limits, Standing, Ending, NormalSide, normal_side, side_of, normalised, Sides, sides_with, Reason, reason_with, SplitReason, split_with, case_of, Splitter, case_reason, each_case, constants_of, open_cases, chain_with, chained, normal_sides, split_cases, spent, or_end, record_step, is_nil, has_links, next_goal, with_sides, reduced, goals_limit, unless_past, derive_turn, simplified, hidden_turn, visible_turn, open_turn, pass_uses, swept_sides, pass_turn, join_turn, sides_turn, goal_turn, next_block, turn_at, turn, Reaches, ends, goes}
use Rattle.circ_plain_search.proofs.Uses.{Through, through, same_Ok}
use Rattle.circ_plain_search.proofs.Passes.{counted}
use Rattle.circ_plain_search.proofs.Runs.{recorded, recorded_room}
use Rattle.circ_plain_search.proofs.Ends.{same_Err}
use Rattle.circ_plain_search.proofs.Turns.{if_ended, if_false}

-- ---- one answer

pub one_ending : (th : Theory) (G : List Place) (l : Limits) (st : Standing) (e f : Ending) → Reaches th G l st e → Reaches th G l st f → e ≡ f
one_ending th G l st e f (ends _ _ t) (ends _ _ u) = same_Err e f (sym t ∙ u)
one_ending th G l st e f (ends _ _ t) (goes _ y _ u s) = absurd (let z : Err e ≡ Ok y = sym t ∙ u in cc)
one_ending th G l st e f (goes _ y _ t r) (ends _ _ u) = absurd (let z : Ok y ≡ Err f = sym t ∙ u in cc)
one_ending th G l st e f (goes _ y _ t r) (goes _ z _ u s) =
    let is : y ≡ z = same_Ok y z (sym t ∙ u) in
    let P : Standing → Type 0 = λ x. Reaches th G l x e in
    one_ending th G l z e f (subst P is r) s

-- ---- each turn that goes on lowers this

abbrev measure : Standing → ℕ
measure st = st.budget + (step_limit - st.made)

module _ (th : Theory) where
  normalised_falls : (R : List Rule) (A : List Pair) (t : Tree) (k : ℕ) (n : NormalSide) → normalised th R A t k ≡ Ok n → n.budget ≤ k
  normalised_falls R A t k n e = go (norm th.signature R A k t) refl e
    where
      go : (o : Normalised) → norm th.signature R A k t ≡ o → side_of o ≡ Ok n → n.budget ≤ k
      go (Normal_form u traces left) x y =
          let is : normal_side u (map link_of traces) left ≡ n = same_Ok (normal_side u (map link_of traces) left) n y in
          let c = (normal_form_reduces (due_under th.signature R A) k t u traces left x).count in
          let b = ap (λ z. z.budget) is in
          omega (arith, c, b)
      go Budget_spent x y = absurd (cc)
      go (Limit_passed l left) x y = absurd (cc)

  sides_fall : (R : List Rule) (A : List Pair) (s t : Tree) (k : ℕ) (n : Sides) → normal_sides th R A s t k ≡ Ok n → n.budget ≤ k
  sides_fall R A s t k n e =
      let x : Through (normalised th R A s k)
      (λ a. and_then (normalised th R A t a.budget) (λ b. Ok (sides_with a.term b.term (chain_with a.links b.links) b.budget))) n = through _ _ n e in
      let y : Through (normalised th R A t x.value.budget)
      (λ b. Ok (sides_with x.value.term b.term (chain_with x.value.links b.links) b.budget)) n = through _ _ n x.last in
      let a = normalised_falls R A s k x.value x.first in
      let b = normalised_falls R A t x.value.budget y.value y.first in
      let c = ap (λ z. z.budget) (same_Ok _ n y.last) in
      omega (arith, a, b, c)

  abbrev Falls : Splitter → Type 0
  Falls again = (A : List Pair) (s t : Tree) (k : ℕ) (b : SplitReason) → again A s t k ≡ Ok b → b.budget ≤ k

  case_falls : (again : Splitter) → Falls again → (A : List Pair) (n : Sides) (r : Reason) → case_reason again A n ≡ Ok r → r.budget ≤ n.budget
  case_falls again law A n r e = go (is_same n.left n.right) e
    where
      go : (v : Bool) → (if v then Ok (reason_with (Same_why n.chain) n.budget)
          else and_then (again A n.left n.right n.budget) (λ c. Ok (reason_with (Split_why n.chain c.term c.whys) c.budget))) ≡ Ok r → r.budget ≤ n.budget
      go true x = let b = ap (λ z. z.budget) (same_Ok (reason_with (Same_why n.chain) n.budget) r x) in omega (arith, b)
      go false x =
          let y : Through (again A n.left n.right n.budget) (λ c. Ok (reason_with (Split_why n.chain c.term c.whys) c.budget)) r = through _ _ r x in
          let a = law A n.left n.right n.budget y.value y.first in
          let b = ap (λ z. z.budget) (same_Ok (reason_with (Split_why n.chain y.value.term y.value.whys) y.value.budget) r y.last) in
          omega (arith, a, b)

  each_falls : (R : List Rule) (again : Splitter) → Falls again → (A : List Pair) (u s t : Tree) (cs : List ℕ) (k : ℕ) (b : SplitReason)
      → each_case th R again A u s t cs k ≡ Ok b → b.budget ≤ k
  each_falls R again law A u s t [] k b e = let c = ap (λ z. z.budget) (same_Ok _ b e) in omega (arith, c)
  each_falls R again law A u s t (c ∷ cs) k b e =
      let A' : List Pair = A ++ case_of u c ∷ [] in
      let x : Through (and_then (normal_sides th R A' s t k) (case_reason again A'))
      (λ r. and_then (each_case th R again A u s t cs r.budget)
      (λ d. Ok (split_with u (more_whys r.why d.whys) d.budget))) b = through _ _ b e in
      let y : Through (normal_sides th R A' s t k) (case_reason again A') x.value = through _ _ x.value x.first in
      let z : Through (each_case th R again A u s t cs x.value.budget)
      (λ d. Ok (split_with u (more_whys x.value.why d.whys) d.budget)) b = through _ _ b x.last in
      let f1 = sides_fall R A' s t k y.value y.first in
      let f2 = case_falls again law A' y.value x.value y.last in
      let f3 = each_falls R again law A u s t cs x.value.budget z.value z.first in
      let f4 = ap (λ q. q.budget) (same_Ok _ b z.last) in
      omega (arith, f1, f2, f3, f4)

  split_falls : (R : List Rule) (n : ℕ) → Falls (split_cases th R n)
  split_falls R zero A s t k b e = absurd (cc)
  split_falls R (suc n) A s t k b e = go (split_falls R n) (option_or (first_open th s) (first_open th t)) e
    where
      go : Falls (split_cases th R n) → (o : Option Tree) → open_cases th R (split_cases th R n) o A s t k ≡ Ok b → b.budget ≤ k
      go ih None x = absurd (cc)
      go ih (Some u) x = each_falls R (split_cases th R n) ih A u s t (constants_of th (sort_of u)) k b x

module _ (th : Theory) (G : List Place) (l : Limits) where
  -- a recorded step leaves less
  record Less (st y : Standing) : Type 0 where
    less : measure y < measure st
    budget : y.budget ≡ st.budget
    made : y.made ≡ st.made + 1

  recorded_less : (st : Standing) (x : ProofStep Tree) (y : Standing) → record_step th l st x ≡ Ok y → Less st y
  recorded_less st x y e =
      let room = recorded_room th l st x y e in
      let P : Standing → Type 0 = Less st in
      subst P (recorded th l st x y e) (record { less = omega (arith, room); budget = refl; made = refl })

  reduced_less : (st : Standing) (rest : List Goal) (why : WhyOf Tree) (y : Standing) → reduced th l st rest why ≡ Ok y → measure y < measure st
  reduced_less st rest why y e =
      let x : Through (record_step th l st (Reduce why)) (λ z. Ok (next_goal z.hypotheses rest z)) y = through _ _ y e in
      let r = (recorded_less st (Reduce why) x.value x.first).less in
      let P : Standing → Type 0 = λ z. measure z < measure st in
      subst P (same_Ok (next_goal x.value.hypotheses rest x.value) y x.last) r

  derived_less : (st : Standing) (g : Goal) (rest : List Goal) (y : Standing) → derive_turn th l st g rest ≡ Ok y → measure y < measure st
  derived_less st g rest y e =
      let gs : List Goal = derivatives_on th g in
      let F : List Goal → Result Standing Ending
      = λ k. and_then (record_step th l st Derive) (λ x. Ok (next_goal (x.hypotheses ++ g ∷ []) (rest ++ k) (record x { derives = x.derives + 1 }))) in
      let u : Through (or_end l st (unless_past (goals_limit gs) gs)) F y = through _ _ y (if_false (nat_le step_limit st.made) (spent l st) _ y e) in
      let x : Through (record_step th l st Derive) (λ z. Ok (next_goal (z.hypotheses ++ g ∷ []) (rest ++ u.value) (record z { derives = z.derives + 1 }))) y
      = through _ _ y u.last in
      let r = (recorded_less st Derive x.value x.first).less in
      let P : Standing → Type 0 = λ z. measure z < measure st in
      subst P (same_Ok (next_goal (x.value.hypotheses ++ g ∷ []) (rest ++ u.value) (record x.value { derives = x.value.derives + 1 })) y x.last) r

  open_less : (st : Standing) (g : Goal) (rest : List Goal) (y : Standing) → open_turn th l st g rest ≡ Ok y → measure y < measure st
  open_less st g rest y e = go (is_hidden th (sort_of g.left)) e
    where
      simple : (b : Bool) (z : Standing) → (if b then record_step th l st (Simplify st.chain) else Ok st) ≡ Ok z → measure z ≤ measure st
      simple true z x = let r = (recorded_less st (Simplify st.chain) z x).less in omega (arith, r)
      simple false z x = let r = ap measure (same_Ok st z x) in omega (arith, r)

      go : (b : Bool) → (if b then hidden_turn th l st g rest else visible_turn th l st g rest) ≡ Ok y → measure y < measure st
      go true z =
          let x : Through (simplified th l st) (λ s. derive_turn th l s g rest) y
          = through _ _ y (if_false (nat_le l.derives st.derives) (spent l st) _ y z) in
          let a = simple (has_links st.chain) x.value x.first in
          let b = derived_less x.value g rest y x.last in
          omega (arith, a, b)
      go false z =
          let R = block_rules th st.earlier in
          let x : Through (or_end l st (split_cases th R split_limit [] g.left g.right st.budget))
          (λ c. reduced th l (record st { budget = c.budget }) rest (Split_why st.chain c.term c.whys)) y = through _ _ y z in
          let a = split_falls th R split_limit [] g.left g.right st.budget x.value (if_ended l st _ x.value x.first) in
          let b = reduced_less (record st { budget = x.value.budget }) rest (Split_why st.chain x.value.term x.value.whys) y x.last in
          omega (arith, a, b)

  swept_falls : (E : List Goal) (s t : Tree) (k : ℕ) (n : Sides) → swept_sides th G E s t k ≡ Ok n
      → n.budget + length (n.chain.left ++ n.chain.right) ≡ k
  swept_falls E s t k n e =
      let us : List HypothesisUse = pass_uses th G E s in
      let vs : List HypothesisUse = pass_uses th G E t in
      let c : ChainOf Tree = chain_with (map use_link us) (map use_link vs) in
      let x : Through (put_counted k s us) (λ a. and_then (put_counted a.1 t vs) (λ b. Ok (sides_with a.0 b.0 c b.1))) n = through _ _ n e in
      let y : Through (put_counted x.value.1 t vs) (λ b. Ok (sides_with x.value.0 b.0 c b.1)) n = through _ _ n x.last in
      let f1 = (counted k s us x.value x.first).falls in
      let f2 = (counted x.value.1 t vs y.value y.first).falls in
      let m = length-append (map use_link us) (map use_link vs) in
      let m1 = length-map us use_link in
      let m2 = length-map vs use_link in
      let P : Sides → Type 0 = λ z. z.budget + length (z.chain.left ++ z.chain.right) ≡ k in
      subst P (same_Ok (sides_with x.value.0 y.value.0 c y.value.1) n y.last) (omega (arith, f1, f2, m, m1, m2))

  some_links : {X : Type 0} (xs : List X) → not (is_nil xs) ≡ true → 0 < length xs
  some_links [] e = absurd (cc)
  some_links (x ∷ xs) e = omega arith

  pass_less : (st : Standing) (g : Goal) (rest : List Goal) (y : Standing) → pass_turn th G l st g rest ≡ Ok y → measure y < measure st
  pass_less st g rest y e =
      let x : Through (or_end l st (swept_sides th G st.earlier g.left g.right st.budget))
      (λ n. if has_links n.chain then Ok (with_sides st rest n) else open_turn th l st g rest) y = through _ _ y e in
      go x.value (swept_falls st.earlier g.left g.right st.budget x.value (if_ended l st _ x.value x.first)) (has_links x.value.chain) refl x.last
    where
      less : (a m b r : ℕ) → 0 < m → a + m ≡ b → a + r < b + r
      less a m b r p q = omega (arith, p, q)

      go : (n : Sides) → n.budget + length (n.chain.left ++ n.chain.right) ≡ st.budget → (b : Bool) → has_links n.chain ≡ b
          → (if b then Ok (with_sides st rest n) else open_turn th l st g rest) ≡ Ok y → measure y < measure st
      go n s true h z =
          let P : Standing → Type 0 = λ d. measure d < measure st in
          let some = some_links (n.chain.left ++ n.chain.right) h in
          subst P (same_Ok (with_sides st rest n) y z) (less n.budget (length (n.chain.left ++ n.chain.right)) st.budget (step_limit - st.made) some s)
      go n s false h z = open_less st g rest y z

  join_less : (st : Standing) (g : Goal) (rest : List Goal) (us : Option (List HypothesisUse)) (y : Standing) → join_turn th G l st g rest us ≡ Ok y
      → measure y < measure st
  join_less st g rest None y e = pass_less st g rest y e
  join_less st g rest (Some us) y e =
      let c : ChainOf Tree = chained st.chain (chain_with (map use_link us) []) in
      let x : Through (or_end l st (put_all g.left us)) (λ u. reduced th l st rest (Same_why c)) y = through _ _ y e in
      reduced_less st rest (Same_why c) y x.last

  goal_less : (st : Standing) (g : Goal) (rest : List Goal) (y : Standing) → goal_turn th G l st g rest ≡ Ok y → measure y < measure st
  goal_less st g rest y e =
      let R = block_rules th st.earlier in
      let x : Through (or_end l st (normal_sides th R [] g.left g.right st.budget))
      (λ n. sides_turn th G l (with_sides st rest n) (goal [] n.left n.right) rest) y = through _ _ y e in
      let s = sides_fall th R [] g.left g.right st.budget x.value (if_ended l st _ x.value x.first) in
      let r = join_less (with_sides st rest x.value) (goal [] x.value.left x.value.right) rest (joined G st.hypotheses [] x.value.left x.value.right) y x.last in
      omega (arith, s, r)

  next_less : (st : Standing) (later : List (List Goal)) (y : Standing) → next_block st later ≡ Ok y → measure y ≡ measure st
  next_less st [] y e = absurd (cc)
  next_less st (b ∷ bs) y e = let P : Standing → Type 0 = λ z. measure z ≡ measure st in subst P (same_Ok _ y e) refl

  pub turn_less : (st y : Standing) → turn th G l st ≡ Ok y → y.budget + (step_limit - y.made) < st.budget + (step_limit - st.made)
  turn_less st y e = go st.queue e
    where
      go : (Q : List Goal) → turn_at th G l st Q ≡ Ok y → measure y < measure st
      go [] z =
          let x : Through (record_step th l st Done) (λ d. next_block d d.later) y = through _ _ y z in
          let r = (recorded_less st Done x.value x.first).less in
          let n = next_less x.value x.value.later y x.last in
          omega (arith, r, n)
      go (g ∷ rest) z = goal_less st g rest y z

  reaches_some : (n : ℕ) (st : Standing) → measure st < n → (e : Ending) × Reaches th G l st e
  reaches_some zero st h = absurd (omega (arith, h))
  reaches_some (suc n) st h = go (λ y z. reaches_some n y z) (turn th G l st) refl
    where
      go : ((y : Standing) → measure y < n → (e : Ending) × Reaches th G l y e) → (r : Result Standing Ending) → turn th G l st ≡ r
          → (e : Ending) × Reaches th G l st e
      go ih (Err e) t = (e, ends st e t)
      go ih (Ok y) t =
          let less = turn_less st y t in
          let r = ih y (omega (arith, less, h)) in
          (r.0, goes st y r.0 t r.1)

  pub some_ending : (st : Standing) → (e : Ending) × Reaches th G l st e
  some_ending st = reaches_some (measure st + 1) st (omega arith)
