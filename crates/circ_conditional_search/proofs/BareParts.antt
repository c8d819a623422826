-- Where nothing has conditions, normal forms, splits, Join and lemma passes are the plain search's.
use Rattle.std.proofs.Common.{◌≡◌, ℕ, zero, suc, ◌+◌, ◌-◌, Bool, true, false, ◌==◌, ◌&&◌, if◌then◌else◌, List, [], ◌∷◌, ◌++◌, Option, Some, None, Result, Ok, Err, refl, ap, sym, subst, ◌∙◌, append_assoc, append-nil}
use Rattle.std.specs.Option.{option_or}
use Rattle.circ_term.specs.Tree.{Tree, Trees, Var, App, none, more, sort_of}
use Rattle.circ_term.specs.Limits.{Limit}
use Rattle.circ_term.specs.Order.{is_same}
use Rattle.circ_term.specs.Substitution.{instance}
use Rattle.circ_theory.specs.Theory.{Theory, Pair, sides}
use Rattle.circ_theory.specs.Goal.{Goal}
use Rattle.circ_theory.specs.declared.way.Way.{Way}
use Rattle.circ_theory.specs.declared.way.Way.TheVariants.{Forth, Back}
use Rattle.circ_special.specs.declared.place.Place.{Place}
use Rattle.circ_proof.specs.Plain.{more_whys}
use Rattle.circ_rewrite.specs.Matching.{matching, matches}
use Rattle.circ_rewrite.specs.Due.{AreUnconditional, rule_variables, terms_by}
use Rattle.circ_rewrite.specs.Replacement.{Passes}
use Rattle.circ_rewrite.specs.declared.parts.Rule.{Rule}
use Rattle.circ_conditional_norm.specs.Norm.{try_limit}
use Rattle.circ_conditional_norm.specs.Tries.{Normaliser, tried}
use Rattle.circ_conditional_norm.specs.Work.{Work, Made, Out, Past, or_next, map_found, unless_limit}
use Rattle.circ_conditional_norm.proofs.Before.{norm_before}
use Rattle.circ_plain_search.specs.BlockRules.{HaveNoConditions}
use Rattle.circ_plain_search.specs.Joining.{Stop, No_budget, Past_limit, and_then, HypothesisUse, use_with, pair_matching, pair_matches, hypothesis_variables, is_place, rule_number}
use Rattle.circ_plain_search.specs.Joining.{pair_use, one_use, first_use, meets, beside, joined, all_joined, lemma_use, first_lemma, or_inside, swept, all_swept, put, put_in, within_or, put_counted}
use Rattle.circ_plain_search.specs.Search.{side_of, normalised, normal_sides, sides_with, chain_with, Splitter, case_reason, case_of, split_with, each_case, open_cases, split_cases, constants_of}
use Rattle.circ_conditional_search.specs.Joining.{use_passing, work_then, found_then, pair_use_trying, one_use_trying, first_use_trying, meets_trying, beside_trying, no_join, joined_trying, all_joined_trying}
use Rattle.circ_conditional_search.specs.Joining.{Swept, swept_with, put_limit, put_swept, swept_or_inside, lemma_use_trying, first_lemma_trying, swept_trying, all_swept_trying}
use Rattle.circ_conditional_search.specs.Search.{normalised_trying, normal_sides_trying, each_case_trying, open_cases_trying, split_cases_trying, first_open_of}

-- ---- normal forms and splits

module _ (th : Theory) (R : List Rule) (bare : AreUnconditional R) where
  normalised_same : (A : List Pair) (t : Tree) (k : ℕ) → normalised_trying th R A t k ≡ normalised th R A t k
  normalised_same A t k = ap side_of (norm_before th.signature R bare A (try_limit - 0) k t)

  pub sides_same : (A : List Pair) (s t : Tree) (k : ℕ) → normal_sides_trying th R A s t k ≡ normal_sides th R A s t k
  sides_same A s t k =
      λ i. and_then (normalised_same A s k i)
      (λ a. and_then (normalised_same A t a.budget i) (λ b. Ok (sides_with a.term b.term (chain_with a.links b.links) b.budget)))

  each_same : (again' again : Splitter) → ((A : List Pair) (s t : Tree) (k : ℕ) → again' A s t k ≡ again A s t k) → (A : List Pair) (u s t : Tree) (cs : List ℕ)
      (k : ℕ) → each_case_trying th R again' A u s t cs k ≡ each_case th R again A u s t cs k
  each_same again' again same A u s t [] k = refl
  each_same again' again same A u s t (c ∷ cs) k =
      λ i. and_then
      (and_then (sides_same (A ++ case_of u c ∷ []) s t k i) (case_reason (λ B x y j. same B x y j i) (A ++ case_of u c ∷ [])))
      (λ r. and_then (each_same again' again same A u s t cs r.budget i) (λ b. Ok (split_with u (more_whys r.why b.whys) b.budget)))

  open_same : (again' again : Splitter) → ((A : List Pair) (s t : Tree) (k : ℕ) → again' A s t k ≡ again A s t k) → (o : Option Tree) (A : List Pair) (s t : Tree)
      (k : ℕ) → open_cases_trying th R again' o A s t k ≡ open_cases th R again o A s t k
  open_same again' again same None A s t k = refl
  open_same again' again same (Some u) A s t k = each_same again' again same A u s t (constants_of th (sort_of u)) k

  pub split_same : (n : ℕ) (A : List Pair) (s t : Tree) (k : ℕ) → split_cases_trying th R n A s t k ≡ split_cases th R n A s t k
  split_same zero A s t k = refl
  split_same (suc n) A s t k = open_same (split_cases_trying th R n) (split_cases th R n) (split_same n) (first_open_of th s t) A s t k

-- ---- Join

next_same : {A : Type 0} (w : Work (Option A)) (f : ℕ → Work (Option A)) (x y : Option A) (k : ℕ) → w ≡ Made x k → ((l : ℕ) → f l ≡ Made y l)
    → or_next w f ≡ Made (option_or x y) k
next_same w f x y k e g = ap (λ v. or_next v f) e ∙ go x
  where
    go : (o : Option _) → or_next (Made o k) f ≡ Made (option_or o y) k
    go (Some a) = refl
    go None = g k

module _ (f : Normaliser) where
  pair_same : (way : Way) (n : ℕ) (h : Goal) (q : List ℕ) (new a b : Tree) (k : ℕ) → h.conds ≡ []
      → pair_use_trying f n way h q new a b k ≡ Made (pair_use n way h q new a b) k
  pair_same way n h q new a b k bare =
      ap (λ E. if pair_matches (sides h) a b then map_found made (tried (Some f) (pair_matching (sides h) a b) E k) else Made None k) bare
      ∙ go (pair_matches (sides h) a b)
    where
      made : Passes → HypothesisUse
      made passes = use_passing n way q (terms_by (pair_matching (sides h) a b) (hypothesis_variables h)) passes new

      go : (v : Bool) → (if v then map_found made (tried (Some f) (pair_matching (sides h) a b) [] k) else Made None k)
          ≡ Made (if v then Some (use_with n way q (terms_by (pair_matching (sides h) a b) (hypothesis_variables h)) new) else None) k
      go true = refl
      go false = refl

  one_same : (n : ℕ) (h : Goal) (q : List ℕ) (a b : Tree) (k : ℕ) → h.conds ≡ [] → one_use_trying f n h q a b k ≡ Made (one_use n h q a b) k
  one_same n h q a b k bare =
      next_same (pair_use_trying f n Forth h q b a b k) (pair_use_trying f n Back h q b b a) (pair_use n Forth h q b a b) (pair_use n Back h q b b a) k
      (pair_same Forth n h q b a b k bare) (λ l. pair_same Back n h q b b a l bare)

  first_same : (n : ℕ) (hs : List Goal) (q : List ℕ) (a b : Tree) (k : ℕ) → HaveNoConditions hs → first_use_trying f n hs q a b k ≡ Made (first_use n hs q a b) k
  first_same n [] q a b k bare = refl
  first_same n (h ∷ hs) q a b k bare =
      next_same (one_use_trying f n h q a b k) (first_use_trying f (n + 1) hs q a b) (one_use n h q a b) (first_use (n + 1) hs q a b) k
      (one_same n h q a b k bare.0) (λ l. first_same (n + 1) hs q a b l bare.1)

meets_same : (s : Bool) (first : ℕ → Work (Option HypothesisUse)) (inside : ℕ → Work (Option (List HypothesisUse))) (u : Option HypothesisUse)
    (o : Option (List HypothesisUse)) (k : ℕ) → first k ≡ Made u k → ((l : ℕ) → inside l ≡ Made o l) → meets_trying s first inside k ≡ Made (meets s u o) k
meets_same true first inside u o k e g = refl
meets_same false first inside u o k e g = ap (λ w. or_next (map_found (λ x. x ∷ []) w) inside) e ∙ go u
  where
    go : (x : Option HypothesisUse) → or_next (map_found (λ x. x ∷ []) (Made x k)) inside ≡ Made (meets false x o) k
    go (Some x) = refl
    go None = g k

beside_same : (same place : Bool) (one rest : ℕ → Work (Option (List HypothesisUse))) (x y : Option (List HypothesisUse)) (k : ℕ) → ((l : ℕ) → one l ≡ Made x l)
    → ((l : ℕ) → rest l ≡ Made y l) → beside_trying same place one rest k ≡ Made (beside same place x y) k
beside_same true place one rest x y k e g = g k
beside_same false false one rest x y k e g = refl
beside_same false true one rest x y k e g =
    (λ i. found_then (e k i) (λ us l. map_found (λ vs. us ++ vs) (g l i))) ∙ go x y
  where
    go : (a b : Option (List HypothesisUse)) → found_then (Made a k) (λ us l. map_found (λ vs. us ++ vs) (Made b l)) ≡ Made (beside false true a b) k
    go (Some us) (Some vs) = refl
    go (Some us) None = refl
    go None b = refl

module _ (f : Normaliser) (G : List Place) (H : List Goal) (bare : HaveNoConditions H) where
  inside_same : (c : Bool) (all : ℕ → Work (Option (List HypothesisUse))) (o : Option (List HypothesisUse)) → ((l : ℕ) → all l ≡ Made o l) → (l : ℕ)
      → (if c then all else no_join) l ≡ Made (if c then o else None) l
  inside_same true all o e l = e l
  inside_same false all o e l = refl

  mutual
    pub joined_same : (q : List ℕ) (a b : Tree) (k : ℕ) → joined_trying f G H q a b k ≡ Made (joined G H q a b) k
    joined_same q (Var n s) b k =
        meets_same (is_same (Var n s) b) (first_use_trying f 0 H q (Var n s) b) no_join (first_use 0 H q (Var n s) b) None k
        (first_same f 0 H q (Var n s) b k bare) (λ l. refl)
    joined_same q (App g s ts) (Var m j) k =
        meets_same false (first_use_trying f 0 H q (App g s ts) (Var m j)) no_join (first_use 0 H q (App g s ts) (Var m j)) None k
        (first_same f 0 H q (App g s ts) (Var m j) k bare) (λ l. refl)
    joined_same q (App g s ts) (App h j us) k =
        meets_same (is_same (App g s ts) (App h j us)) (first_use_trying f 0 H q (App g s ts) (App h j us))
        (if (g == h) && (s == j) then all_joined_trying f G H g q 0 ts us else no_join) (first_use 0 H q (App g s ts) (App h j us))
        (if (g == h) && (s == j) then all_joined G H g q 0 ts us else None) k (first_same f 0 H q (App g s ts) (App h j us) k bare)
        (inside_same ((g == h) && (s == j)) (all_joined_trying f G H g q 0 ts us) (all_joined G H g q 0 ts us) (all_joined_same g q 0 ts us))

    all_joined_same : (g : ℕ) (q : List ℕ) (i : ℕ) (ts us : Trees) (k : ℕ) → all_joined_trying f G H g q i ts us k ≡ Made (all_joined G H g q i ts us) k
    all_joined_same g q i none none k = refl
    all_joined_same g q i none (more u us) k = refl
    all_joined_same g q i (more t ts) none k = refl
    all_joined_same g q i (more t ts) (more u us) k =
        beside_same (is_same t u) (is_place G g i) (joined_trying f G H (q ++ i ∷ []) t u) (all_joined_trying f G H g q (i + 1) ts us)
        (joined G H (q ++ i ∷ []) t u) (all_joined G H g q (i + 1) ts us) k (joined_same (q ++ i ∷ []) t u) (all_joined_same g q (i + 1) ts us)

-- ---- the lemma pass

-- a pass comes to what its uses come to, put in one after another
abbrev pub AsPut : Swept → List HypothesisUse → Work Swept → Result (Tree × ℕ) Stop → Type 0
AsPut w us (Made v l) r = (r ≡ Ok (v.whole, l)) × (v.uses ≡ w.uses ++ us)
AsPut w us Out r = r ≡ Err No_budget
AsPut w us (Past x l) r = r ≡ Err (Past_limit x)

counted_append : (us vs : List HypothesisUse) (k : ℕ) (t : Tree) → put_counted k t (us ++ vs) ≡ and_then (put_counted k t us) (λ r. put_counted r.1 r.0 vs)
counted_append [] vs k t = refl
counted_append (u ∷ us) vs zero t = refl
counted_append (u ∷ us) vs (suc k) t = go (λ v. counted_append us vs k v) (put t u)
  where
    go : ((v : Tree) → put_counted k v (us ++ vs) ≡ and_then (put_counted k v us) (λ r. put_counted r.1 r.0 vs)) → (p : Result Tree Stop)
        → and_then p (λ v. put_counted k v (us ++ vs)) ≡ and_then (and_then p (λ v. put_counted k v us)) (λ r. put_counted r.1 r.0 vs)
    go ih (Ok v) = ih v
    go ih (Err e) = refl

put_as : (w : Swept) (u : HypothesisUse) (k : ℕ) → AsPut w (u ∷ []) (put_swept w u k) (put_counted k w.whole (u ∷ []))
put_as w u zero = refl
put_as w u (suc k) = go (put_limit w.whole u)
  where
    go : (o : Option Limit) → AsPut w (u ∷ []) (unless_limit o (suc k) (Made (swept_with (put_in w.whole u) (w.uses ++ u ∷ [])) k))
        (and_then (within_or o (put_in w.whole u)) (λ v. put_counted k v []))
    go None = (refl, refl)
    go (Some l) = refl

then_as : (w : Swept) (us vs : List HypothesisUse) (W : Work Swept) (r : Result (Tree × ℕ) Stop) (g : Swept → ℕ → Work Swept) → AsPut w us W r
    → ((v : Swept) (l : ℕ) → AsPut v vs (g v l) (put_counted l v.whole vs)) → AsPut w (us ++ vs) (work_then W g) (and_then r (λ x. put_counted x.1 x.0 vs))
then_as w us vs (Made v l) r g p q = go (g v l) (q v l)
  where
    here : and_then r (λ x. put_counted x.1 x.0 vs) ≡ put_counted l v.whole vs
    here = ap (λ z. and_then z (λ x. put_counted x.1 x.0 vs)) p.0

    go : (X : Work Swept) → AsPut v vs X (put_counted l v.whole vs) → AsPut w (us ++ vs) X (and_then r (λ x. put_counted x.1 x.0 vs))
    go (Made x j) h = (here ∙ h.0, h.1 ∙ ap (λ z. z ++ vs) p.1 ∙ append_assoc w.uses us vs)
    go Out h = here ∙ h
    go (Past y j) h = here ∙ h
then_as w us vs Out r g p q = ap (λ z. and_then z (λ x. put_counted x.1 x.0 vs)) p
then_as w us vs (Past y l) r g p q = ap (λ z. and_then z (λ x. put_counted x.1 x.0 vs)) p

stays_as : (w : Swept) (k : ℕ) → AsPut w [] (Made w k) (put_counted k w.whole [])
stays_as w k = (refl, sym (append-nil w.uses))

module _ (f : Normaliser) where
  lemma_same : (r : Rule) (q : List ℕ) (t : Tree) (k : ℕ) → r.conds ≡ [] → lemma_use_trying f r q t k ≡ Made (lemma_use r q t) k
  lemma_same r q t k bare =
      ap (λ E. if matches r.left t then map_found made (tried (Some f) (matching r.left t) E k) else Made None k) bare ∙ go (matches r.left t)
    where
      made : Passes → HypothesisUse
      made passes = use_passing (rule_number r.name) Forth q (terms_by (matching r.left t) (rule_variables r)) passes (instance (matching r.left t) r.right)

      go : (v : Bool) → (if v then map_found made (tried (Some f) (matching r.left t) [] k) else Made None k)
          ≡ Made (if v then Some (use_with (rule_number r.name) Forth q (terms_by (matching r.left t) (rule_variables r)) (instance (matching r.left t) r.right)) else None) k
      go true = refl
      go false = refl

  lemmas_same : (L : List Rule) (q : List ℕ) (t : Tree) (k : ℕ) → AreUnconditional L → first_lemma_trying f L q t k ≡ Made (first_lemma L q t) k
  lemmas_same [] q t k bare = refl
  lemmas_same (r ∷ rs) q t k bare =
      next_same (lemma_use_trying f r q t k) (first_lemma_trying f rs q t) (lemma_use r q t) (first_lemma rs q t) k (lemma_same r q t k bare.0)
      (λ l. lemmas_same rs q t l bare.1)

  module _ (G : List Place) (L : List Rule) (bare : AreUnconditional L) where
    at_term : (q : List ℕ) (t : Tree) (w : Swept) (k : ℕ) (inside : ℕ → Work Swept) (us : List HypothesisUse) → AsPut w us (inside k) (put_counted k w.whole us)
        → AsPut w (or_inside (first_lemma L q t) us) (swept_or_inside w (first_lemma_trying f L q t k) inside)
        (put_counted k w.whole (or_inside (first_lemma L q t) us))
    at_term q t w k inside us h =
        let P : Work (Option HypothesisUse) → Type 0 = λ o. AsPut w (or_inside (first_lemma L q t) us) (swept_or_inside w o inside)
        (put_counted k w.whole (or_inside (first_lemma L q t) us)) in
        subst P (sym (lemmas_same L q t k bare)) (go (first_lemma L q t))
      where
        go : (o : Option HypothesisUse) → AsPut w (or_inside o us) (swept_or_inside w (Made o k) inside) (put_counted k w.whole (or_inside o us))
        go (Some u) = put_as w u k
        go None = h

    mutual
      pub swept_as : (q : List ℕ) (t : Tree) (w : Swept) (k : ℕ) → AsPut w (swept G L q t) (swept_trying f G L q t w k) (put_counted k w.whole (swept G L q t))
      swept_as q (Var n s) w k = at_term q (Var n s) w k (Made w) [] (stays_as w k)
      swept_as q (App g s ts) w k = at_term q (App g s ts) w k (all_swept_trying f G L g q 0 ts w) (all_swept G L g q 0 ts) (all_swept_as g q 0 ts w k)

      all_swept_as : (g : ℕ) (q : List ℕ) (i : ℕ) (ts : Trees) (w : Swept) (k : ℕ)
          → AsPut w (all_swept G L g q i ts) (all_swept_trying f G L g q i ts w k) (put_counted k w.whole (all_swept G L g q i ts))
      all_swept_as g q i none w k = stays_as w k
      all_swept_as g q i (more t ts) w k =
          let us : List HypothesisUse = if is_place G g i then swept G L (q ++ i ∷ []) t else [] in
          let vs : List HypothesisUse = all_swept G L g q (i + 1) ts in
          let W : Work Swept = if is_place G g i then swept_trying f G L (q ++ i ∷ []) t w k else Made w k in
          let P : Result (Tree × ℕ) Stop → Type 0 = λ r. AsPut w (us ++ vs) (work_then W (λ v l. all_swept_trying f G L g q (i + 1) ts v l)) r in
          subst P (sym (counted_append us vs k w.whole))
          (then_as w us vs W (put_counted k w.whole us) (λ v l. all_swept_trying f G L g q (i + 1) ts v l) (one (is_place G g i) (swept_as (q ++ i ∷ []) t w k))
          (λ v l. all_swept_as g q (i + 1) ts v l))
        where
          one : (d : Bool) → AsPut w (swept G L (q ++ i ∷ []) t) (swept_trying f G L (q ++ i ∷ []) t w k) (put_counted k w.whole (swept G L (q ++ i ∷ []) t))
              → AsPut w (if d then swept G L (q ++ i ∷ []) t else []) (if d then swept_trying f G L (q ++ i ∷ []) t w k else Made w k)
              (put_counted k w.whole (if d then swept G L (q ++ i ∷ []) t else []))
          one true h = h
          one false h = stays_as w k
