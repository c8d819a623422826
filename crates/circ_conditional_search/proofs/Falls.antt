-- Join and a lemma pass leave no more of the budget than there was, and a pass pays for each use.
use Rattle.std.proofs.Common.{ℕ, zero, suc, ◌+◌, ◌≤◌, length, Bool, true, false, ◌==◌, ◌&&◌, if◌then◌else◌, List, [], ◌∷◌, ◌++◌, Option, Some, None, arith, length-append}
use Rattle.circ_term.specs.Tree.{Tree, Trees, Var, App, none, more}
use Rattle.circ_term.specs.Limits.{Limit}
use Rattle.circ_term.specs.Order.{is_same}
use Rattle.circ_term.specs.Substitution.{instance}
use Rattle.circ_theory.specs.Variables.{sorted, variables_of}
use Rattle.circ_theory.specs.declared.way.Way.{Way}
use Rattle.circ_theory.specs.declared.way.Way.TheVariants.{Forth, Back}
use Rattle.circ_special.specs.declared.place.Place.{Place}
use Rattle.circ_rewrite.specs.Matching.{matching, matches}
use Rattle.circ_rewrite.specs.Due.{terms_by, rule_variables}
use Rattle.circ_plain_search.specs.Joining.{pair_matching, pair_matches, is_place, rule_number, HypothesisUse, put_in}
use Rattle.circ_theory.specs.Goal.{Goal}
use Rattle.circ_theory.specs.Theory.{sides}
use Rattle.circ_rewrite.specs.declared.parts.Rule.{Rule}
use Rattle.circ_rewrite.specs.Replacement.{Passes}
use Rattle.circ_conditional_norm.specs.Work.{Work, Made, Out, Past, map_found, unless_limit, LeavesAtMost}
use Rattle.circ_conditional_norm.specs.Tries.{Normaliser, tried}
use Rattle.circ_conditional_norm.proofs.Working.{leaves_more, map_leaves, next_leaves, if_leaves}
use Rattle.circ_conditional_norm.proofs.Falling.{IsFalling, holds_leave}
use Rattle.circ_conditional_search.specs.Joining.{work_then, use_passing, pair_use_trying, one_use_trying, first_use_trying, meets_trying, found_then, beside_trying, no_join, joined_trying, all_joined_trying, Swept, swept_with, put_limit, put_swept, swept_or_inside, lemma_use_trying, first_lemma_trying, swept_trying, all_swept_trying}

module _ (f : Normaliser) (falls : IsFalling f) where
  pair_leaves : (way : Way) (n : ℕ) (h : Goal) (q : List ℕ) (new a b : Tree) (k : ℕ) → LeavesAtMost k (pair_use_trying f n way h q new a b k)
  pair_leaves way n h q new a b k =
      if_leaves (pair_matches (sides h) a b) (map_found made (tried (Some f) (pair_matching (sides h) a b) h.conds k)) (Made None k) k
      (map_leaves made (tried (Some f) (pair_matching (sides h) a b) h.conds k) k (holds_leave (Some f) falls (pair_matching (sides h) a b) h.conds k)) here
    where
      made : Passes → HypothesisUse
      made cs = use_passing n way q (terms_by (pair_matching (sides h) a b) (sorted (variables_of h))) cs new

      here : k ≤ k
      here = omega arith

  one_leaves : (n : ℕ) (h : Goal) (q : List ℕ) (a b : Tree) (k : ℕ) → LeavesAtMost k (one_use_trying f n h q a b k)
  one_leaves n h q a b k = next_leaves (pair_use_trying f n Forth h q b a b k) (pair_use_trying f n Back h q b b a) k (pair_leaves Forth n h q b a b k) (pair_leaves Back n h q b b a)

  pub first_leaves : (n : ℕ) (hs : List Goal) (q : List ℕ) (a b : Tree) (k : ℕ) → LeavesAtMost k (first_use_trying f n hs q a b k)
  first_leaves n [] q a b k = omega arith
  first_leaves n (h ∷ hs) q a b k = next_leaves (one_use_trying f n h q a b k) (first_use_trying f (n + 1) hs q a b) k (one_leaves n h q a b k) (first_leaves (n + 1) hs q a b)

  meet_leaves : (s : Bool) (first : ℕ → Work (Option HypothesisUse)) (inside : ℕ → Work (Option (List HypothesisUse))) → ((k : ℕ) → LeavesAtMost k (first k))
      → ((k : ℕ) → LeavesAtMost k (inside k)) → (k : ℕ) → LeavesAtMost k (meets_trying s first inside k)
  meet_leaves true first inside a b k = omega arith
  meet_leaves false first inside a b k = next_leaves (map_found (λ u. u ∷ []) (first k)) inside k (map_leaves (λ u. u ∷ []) (first k) k (a k)) b

  pub found_leaves : {A B : Type 0} (w : Work (Option A)) (g : A → ℕ → Work (Option B)) (k : ℕ) → LeavesAtMost k w → ((a : A) (l : ℕ) → LeavesAtMost l (g a l))
      → LeavesAtMost k (found_then w g)
  found_leaves (Made (Some a) l) g k h b = leaves_more (g a l) l k h (b a l)
  found_leaves (Made None l) g k h b = h
  found_leaves Out g k h b = tt
  found_leaves (Past x l) g k h b = h

  beside_leaves : (same place : Bool) (one rest : ℕ → Work (Option (List HypothesisUse))) → ((k : ℕ) → LeavesAtMost k (one k)) → ((k : ℕ) → LeavesAtMost k (rest k))
      → (k : ℕ) → LeavesAtMost k (beside_trying same place one rest k)
  beside_leaves true p one rest a b k = b k
  beside_leaves false false one rest a b k = omega arith
  beside_leaves false true one rest a b k =
      found_leaves (one k) (λ us l. map_found (λ vs. us ++ vs) (rest l)) k (a k) (λ us l. map_leaves (λ vs. us ++ vs) (rest l) l (b l))

  no_leaves : (k : ℕ) → LeavesAtMost k (no_join k)
  no_leaves k = omega arith

  module _ (G : List Place) (H : List Goal) where
    mutual
      pub joined_leaves : (q : List ℕ) (a b : Tree) (k : ℕ) → LeavesAtMost k (joined_trying f G H q a b k)
      joined_leaves q (Var n s) b k = meet_leaves (is_same (Var n s) b) (first_use_trying f 0 H q (Var n s) b) no_join (first_leaves 0 H q (Var n s) b) no_leaves k
      joined_leaves q (App g s ts) (Var m j) k =
          meet_leaves false (first_use_trying f 0 H q (App g s ts) (Var m j)) no_join (first_leaves 0 H q (App g s ts) (Var m j)) no_leaves k
      joined_leaves q (App g s ts) (App d j us) k =
          meet_leaves (is_same (App g s ts) (App d j us)) (first_use_trying f 0 H q (App g s ts) (App d j us)) (if (g == d) && (s == j) then all_joined_trying f G H g q 0 ts us else no_join)
          (first_leaves 0 H q (App g s ts) (App d j us)) (inside ((g == d) && (s == j)) (all_joined_leaves g q 0 ts us)) k
        where
          inside : (v : Bool) → ((l : ℕ) → LeavesAtMost l (all_joined_trying f G H g q 0 ts us l)) → (l : ℕ) → LeavesAtMost l ((if v then all_joined_trying f G H g q 0 ts us else no_join) l)
          inside true h l = h l
          inside false h l = omega arith

      all_joined_leaves : (g : ℕ) (q : List ℕ) (i : ℕ) (ts us : Trees) (k : ℕ) → LeavesAtMost k (all_joined_trying f G H g q i ts us k)
      all_joined_leaves g q i none none k = omega arith
      all_joined_leaves g q i none (more u us) k = omega arith
      all_joined_leaves g q i (more t ts) none k = omega arith
      all_joined_leaves g q i (more t ts) (more u us) k =
          beside_leaves (is_same t u) (is_place G g i) (joined_trying f G H (q ++ i ∷ []) t u) (all_joined_trying f G H g q (i + 1) ts us) (joined_leaves (q ++ i ∷ []) t u)
          (all_joined_leaves g q (i + 1) ts us) k

  -- ---- a pass

  -- each use that was made took a step
  abbrev pub IsPaid : Swept → (k : ℕ) → Work Swept → Type 0
  IsPaid w k (Made v l) = l + length v.uses ≤ k + length w.uses
  IsPaid w k Out = Unit {0}
  IsPaid w k (Past x l) = Unit {0}

  paid_less : (w : Swept) (k m : ℕ) (r : Work Swept) → k ≤ m → IsPaid w k r → IsPaid w m r
  paid_less w k m (Made v l) h p = omega (arith, h, p)
  paid_less w k m Out h p = tt
  paid_less w k m (Past x l) h p = tt

  put_paid : (w : Swept) (u : HypothesisUse) (k : ℕ) → IsPaid w k (put_swept w u k)
  put_paid w u zero = tt
  put_paid w u (suc k) = go (put_limit w.whole u)
    where
      go : (o : Option Limit) → IsPaid w (suc k) (unless_limit o (suc k) (Made (swept_with (put_in w.whole u) (w.uses ++ u ∷ [])) k))
      go None = let long = length-append w.uses (u ∷ []) in omega (arith, long)
      go (Some l) = tt

  inside_paid : (w : Swept) (o : Work (Option HypothesisUse)) (inside : ℕ → Work Swept) (k : ℕ) → LeavesAtMost k o → ((j : ℕ) → IsPaid w j (inside j))
      → IsPaid w k (swept_or_inside w o inside)
  inside_paid w (Made (Some u) j) inside k h p = paid_less w j k (put_swept w u j) h (put_paid w u j)
  inside_paid w (Made None j) inside k h p = paid_less w j k (inside j) h (p j)
  inside_paid w Out inside k h p = tt
  inside_paid w (Past x j) inside k h p = tt

  lemma_leaves : (r : Rule) (q : List ℕ) (t : Tree) (k : ℕ) → LeavesAtMost k (lemma_use_trying f r q t k)
  lemma_leaves r q t k =
      if_leaves (matches r.left t) (map_found made (tried (Some f) (matching r.left t) r.conds k)) (Made None k) k
      (map_leaves made (tried (Some f) (matching r.left t) r.conds k) k (holds_leave (Some f) falls (matching r.left t) r.conds k)) here
    where
      made : Passes → HypothesisUse
      made cs = use_passing (rule_number r.name) Forth q (terms_by (matching r.left t) (rule_variables r)) cs (instance (matching r.left t) r.right)

      here : k ≤ k
      here = omega arith

  pub lemmas_leave : (L : List Rule) (q : List ℕ) (t : Tree) (k : ℕ) → LeavesAtMost k (first_lemma_trying f L q t k)
  lemmas_leave [] q t k = omega arith
  lemmas_leave (r ∷ rs) q t k = next_leaves (lemma_use_trying f r q t k) (first_lemma_trying f rs q t) k (lemma_leaves r q t k) (lemmas_leave rs q t)

  module _ (G : List Place) (L : List Rule) where
    then_paid : (w : Swept) (k : ℕ) (r : Work Swept) (g : Swept → ℕ → Work Swept) → IsPaid w k r → ((v : Swept) (l : ℕ) → IsPaid v l (g v l)) → IsPaid w k (work_then r g)
    then_paid w k (Made v l) g p q = on (g v l) (q v l)
      where
        on : (r : Work Swept) → IsPaid v l r → IsPaid w k r
        on (Made x j) h = omega (arith, h, p)
        on Out h = tt
        on (Past y j) h = tt
    then_paid w k Out g p q = tt
    then_paid w k (Past x l) g p q = tt

    mutual
      pub swept_paid : (q : List ℕ) (a : Tree) (w : Swept) (k : ℕ) → IsPaid w k (swept_trying f G L q a w k)
      swept_paid q (Var n s) w k = inside_paid w (first_lemma_trying f L q (Var n s) k) (Made w) k (lemmas_leave L q (Var n s) k) here
        where
          here : (j : ℕ) → IsPaid w j (Made w j)
          here j = omega arith
      swept_paid q (App g s ts) w k = inside_paid w (first_lemma_trying f L q (App g s ts) k) (all_swept_trying f G L g q 0 ts w) k (lemmas_leave L q (App g s ts) k) (all_swept_paid g q 0 ts w)

      all_swept_paid : (g : ℕ) (q : List ℕ) (i : ℕ) (ts : Trees) (w : Swept) (k : ℕ) → IsPaid w k (all_swept_trying f G L g q i ts w k)
      all_swept_paid g q i none w k = omega arith
      all_swept_paid g q i (more t ts) w k =
          then_paid w k (if is_place G g i then swept_trying f G L (q ++ i ∷ []) t w k else Made w k) (λ v l. all_swept_trying f G L g q (i + 1) ts v l) (go (is_place G g i) (swept_paid (q ++ i ∷ []) t w k))
          (λ v l. all_swept_paid g q (i + 1) ts v l)
        where
          go : (d : Bool) → IsPaid w k (swept_trying f G L (q ++ i ∷ []) t w k) → IsPaid w k (if d then swept_trying f G L (q ++ i ∷ []) t w k else Made w k)
          go true p = p
          go false p = omega arith
