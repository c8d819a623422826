-- A pass and an attempt leave no more of the budget than there was, a pass pays for each use, and an attempt ends itself.
use Rattle.std.proofs.Common.{◌≡◌, ℕ, zero, suc, ◌+◌, ◌-◌, ◌≤◌, length, Bool, true, false, if◌then◌else◌, List, [], ◌∷◌, ◌++◌, map, Option, Some, None, refl, arith, length-append}
use Rattle.std.specs.Prelude.{◌&&◌}
use Rattle.circ_term.specs.Tree.{Tree, Trees, Var, App, none, more}
use Rattle.circ_term.specs.Limits.{Limit}
use Rattle.circ_theory.specs.Theory.{Theory, Pair}
use Rattle.circ_theory.specs.Variables.{sorted, variables_of}
use Rattle.circ_theory.specs.Goal.{Goal}
use Rattle.circ_special.specs.declared.place.Place.{Place}
use Rattle.circ_proof.specs.Plain.{ChainOf}
use Rattle.circ_rewrite.specs.Due.{terms_by}
use Rattle.circ_rewrite.specs.Links.{link_of}
use Rattle.circ_rewrite.specs.Matching.{matching, matches}
use Rattle.circ_rewrite.specs.Replacement.{Passes}
use Rattle.circ_conditional_norm.specs.Norm.{conditional_norm, try_limit}
use Rattle.circ_conditional_norm.specs.Tries.{Normaliser, tried}
use Rattle.circ_conditional_norm.specs.Work.{Work, Made, Out, Past, map_found, unless_limit, normal_then, LeavesAtMost}
use Rattle.circ_conditional_norm.proofs.Falling.{IsFalling, holds_leave, norm_falls}
use Rattle.circ_conditional_norm.proofs.Working.{leaves_more, map_leaves, next_leaves, normal_leaves, if_leaves}
use Rattle.circ_plain_search.specs.BlockRules.{block_rules}
use Rattle.circ_plain_search.specs.Joining.{HypothesisUse, is_place, put_in}
use Rattle.circ_plain_search.specs.Search.{Sides, sides_with, chain_with, no_links, has_links}
use Rattle.circ_conditional_search.specs.Joining.{use_passing, Swept, swept_with, put_limit, put_swept, swept_or_inside, work_then}
use Rattle.circ_conditional_search.specs.Search.{condition_normaliser, pass_chain}
use Rattle.circ_content_join.specs.Joining.{joined_by_content}
use Rattle.circ_content_join.specs.Moves.{Move}
use Rattle.circ_content_join.proofs.Falls.{joined_leaves}
use Rattle.circ_attempt.specs.Attempt.{Stood, has_stood, round_limit, attempt_limit, both_normal, after_pass, after_normal, Rounds, join_or, outcome, derived_rules, attempt_taker, normal_round, rounds, attempt}
use Rattle.circ_attempt.specs.Passes.{swept_taking, all_swept_taking, both_swept}
use Rattle.circ_attempt.specs.Rules.{Taker, HypothesisRule, lemmas_of, may_take, old_side, new_by, rule_use, first_rule_use}
use Rattle.circ_attempt.proofs.Parts.{then_leaves}

same : (k : ℕ) → k ≤ k
same k = omega arith

-- ---- what is taken

module _ (f : Normaliser) (falls : IsFalling f) where
  rule_leaves : (r : HypothesisRule) (q : List ℕ) (t : Tree) (k : ℕ) → LeavesAtMost k (rule_use f r q t k)
  rule_leaves r q t k =
      if_leaves (matches p t && may_take r (new_by r t) t) (map_found made (tried (Some f) (matching p t) r.hypothesis.conds k)) (Made None k) k
      (map_leaves made (tried (Some f) (matching p t) r.hypothesis.conds k) k (holds_leave (Some f) falls (matching p t) r.hypothesis.conds k)) (same k)
    where
      p : Tree
      p = old_side r

      made : Passes → HypothesisUse
      made cs = use_passing r.number r.way q (terms_by (matching p t) (sorted (variables_of r.hypothesis))) cs (new_by r t)

  pub rules_leave : (rs : List HypothesisRule) (q : List ℕ) (t : Tree) (k : ℕ) → LeavesAtMost k (first_rule_use f rs q t k)
  rules_leave [] q t k = same k
  rules_leave (r ∷ rs) q t k = next_leaves (rule_use f r q t k) (first_rule_use f rs q t) k (rule_leaves r q t k) (rules_leave rs q t)

-- ---- a pass

-- each use that was made took a step, and no more is left than there was
abbrev IsPaid : Swept → (k : ℕ) → Work Swept → Type 0
IsPaid w k (Made v l) = (l ≤ k) × (l + length v.uses ≤ k + length w.uses)
IsPaid w k Out = Unit {0}
IsPaid w k (Past x l) = l ≤ k

paid_less : (w : Swept) (k m : ℕ) (r : Work Swept) → k ≤ m → IsPaid w k r → IsPaid w m r
paid_less w k m (Made v l) h p = let a = p.0 in let b = p.1 in (omega (arith, h, a), omega (arith, h, b))
paid_less w k m Out h p = tt
paid_less w k m (Past x l) h p = omega (arith, h, p)

paid_here : (w : Swept) (k : ℕ) → IsPaid w k (Made w k)
paid_here w k = (omega arith, omega arith)

put_paid : (w : Swept) (u : HypothesisUse) (k : ℕ) → IsPaid w k (put_swept w u k)
put_paid w u zero = tt
put_paid w u (suc k) = go (put_limit w.whole u)
  where
    go : (o : Option Limit) → IsPaid w (suc k) (unless_limit o (suc k) (Made (swept_with (put_in w.whole u) (w.uses ++ u ∷ [])) k))
    go None = let long = length-append w.uses (u ∷ []) in (omega arith, omega (arith, long))
    go (Some l) = omega arith

inside_paid : (w : Swept) (o : Work (Option HypothesisUse)) (inside : ℕ → Work Swept) (k : ℕ) → LeavesAtMost k o → ((j : ℕ) → IsPaid w j (inside j))
    → IsPaid w k (swept_or_inside w o inside)
inside_paid w (Made (Some u) j) inside k h p = paid_less w j k (put_swept w u j) h (put_paid w u j)
inside_paid w (Made None j) inside k h p = paid_less w j k (inside j) h (p j)
inside_paid w Out inside k h p = tt
inside_paid w (Past x j) inside k h p = h

then_paid : (w : Swept) (k : ℕ) (r : Work Swept) (g : Swept → ℕ → Work Swept) → IsPaid w k r → ((v : Swept) (l : ℕ) → IsPaid v l (g v l)) → IsPaid w k (work_then r g)
then_paid w k (Made v l) g p q = on (g v l) (q v l)
  where
    on : (r : Work Swept) → IsPaid v l r → IsPaid w k r
    on (Made x j) h = let a = h.0 in let b = h.1 in let c = p.0 in let d = p.1 in (omega (arith, a, c), omega (arith, b, d))
    on Out h = tt
    on (Past y j) h = let c = p.0 in omega (arith, h, c)
then_paid w k Out g p q = tt
then_paid w k (Past x l) g p q = p

-- the same of a pass over both sides
abbrev pub BothPaid : (k : ℕ) → Work (Swept × Swept) → Type 0
BothPaid k (Made w l) = l + length (w.0.uses ++ w.1.uses) ≤ k
BothPaid k Out = Unit {0}
BothPaid k (Past x l) = l ≤ k

pub both_leave : (k : ℕ) (w : Work (Swept × Swept)) → BothPaid k w → LeavesAtMost k w
both_leave k (Made w l) p = omega (arith, p)
both_leave k Out p = tt
both_leave k (Past x l) p = p

module _ (first : Taker) (G : List Place) (leaves : (q : List ℕ) (t : Tree) (k : ℕ) → LeavesAtMost k (first q t k)) where
  mutual
    swept_paid : (q : List ℕ) (a : Tree) (w : Swept) (k : ℕ) → IsPaid w k (swept_taking first G q a w k)
    swept_paid q (Var n s) w k = inside_paid w (first q (Var n s) k) (Made w) k (leaves q (Var n s) k) (paid_here w)
    swept_paid q (App g s ts) w k =
        inside_paid w (first q (App g s ts) k) (all_swept_taking first G g q 0 ts w) k (leaves q (App g s ts) k) (all_swept_paid g q 0 ts w)

    all_swept_paid : (g : ℕ) (q : List ℕ) (i : ℕ) (ts : Trees) (w : Swept) (k : ℕ) → IsPaid w k (all_swept_taking first G g q i ts w k)
    all_swept_paid g q i none w k = paid_here w k
    all_swept_paid g q i (more t ts) w k =
        then_paid w k (if is_place G g i then swept_taking first G (q ++ i ∷ []) t w k else Made w k) (λ v l. all_swept_taking first G g q (i + 1) ts v l)
        (go (is_place G g i) (swept_paid (q ++ i ∷ []) t w k)) (λ v l. all_swept_paid g q (i + 1) ts v l)
      where
        go : (d : Bool) → IsPaid w k (swept_taking first G (q ++ i ∷ []) t w k) → IsPaid w k (if d then swept_taking first G (q ++ i ∷ []) t w k else Made w k)
        go true p = p
        go false p = paid_here w k

  pub both_paid : (s t : Tree) (k : ℕ) → BothPaid k (both_swept first G s t k)
  both_paid s t k = left (swept_taking first G [] s (swept_with s []) k) (swept_paid [] s (swept_with s []) k)
    where
      right : (a : Swept) (m : ℕ) → IsPaid (swept_with s []) k (Made a m) → (r : Work Swept) → IsPaid (swept_with t []) m r
          → BothPaid k (work_then r (λ b n. Made (a, b) n))
      right a m p (Made b n) q = let long = length-append a.uses b.uses in let x = p.1 in let y = q.1 in omega (arith, long, x, y)
      right a m p Out q = tt
      right a m p (Past y n) q = let x = p.0 in omega (arith, x, q)

      left : (r : Work Swept) → IsPaid (swept_with s []) k r
          → BothPaid k (work_then r (λ a m. work_then (swept_taking first G [] t (swept_with t []) m) (λ b n. Made (a, b) n)))
      left (Made a m) p = right a m p (swept_taking first G [] t (swept_with t []) m) (swept_paid [] t (swept_with t []) m)
      left Out p = tt
      left (Past y m) p = p

-- ---- an attempt

outcome_leaves : {A : Type 0} (n : ℕ) (w : Work (Option A)) (k : ℕ) → LeavesAtMost k w → LeavesAtMost (n + k) (outcome n w)
outcome_leaves n (Made o l) k h = omega (arith, h)
outcome_leaves zero Out k h = tt
outcome_leaves (suc n) Out k h = omega arith
outcome_leaves n (Past x l) k h = omega (arith, h)

never_past : {A : Type 0} (n : ℕ) (w : Work (Option A)) (x : Limit) (l : ℕ) → outcome n w ≡ Past x l → ⊥
never_past n (Made o k) x l e = absurd (cc)
never_past zero Out x l e = absurd (cc)
never_past (suc n) Out x l e = absurd (cc)
never_past n (Past y k) x l e = absurd (cc)

none_aside : {A : Type 0} (n : ℕ) (w : Work (Option A)) → outcome n w ≡ Out → n ≡ 0
none_aside n (Made o k) e = absurd (cc)
none_aside zero Out e = refl
none_aside (suc n) Out e = absurd (cc)
none_aside n (Past y k) e = absurd (cc)

module _ (th : Theory) (G : List Place) (E H : List Goal) (bs : List Bool) (A : List Pair) where
  abbrev normal : Normaliser
  normal = condition_normaliser th E A

  normal_falls : IsFalling (condition_normaliser th E A)
  normal_falls = norm_falls (try_limit - 1) th.signature (block_rules th E) A

  sides_leave : (s t : Tree) (k : ℕ) → LeavesAtMost k (both_normal th (block_rules th E) A s t k)
  sides_leave s t k =
      normal_leaves (conditional_norm 0 th.signature (block_rules th E) A k s)
      (λ a ts l. normal_then (conditional_norm 0 th.signature (block_rules th E) A l t)
      (λ b us m. Made (sides_with a b (chain_with (map link_of ts) (map link_of us)) m) m)) k
      (norm_falls (try_limit - 0) th.signature (block_rules th E) A k s)
      (λ a ts l. normal_leaves (conditional_norm 0 th.signature (block_rules th E) A l t)
      (λ b us m. Made (sides_with a b (chain_with (map link_of ts) (map link_of us)) m) m) l
      (norm_falls (try_limit - 0) th.signature (block_rules th E) A l t) (λ b us m. same m))

  abbrev Leaves : Rounds → Type 0
  Leaves again = (ps : Stood) (x : Sides) (k : ℕ) → LeavesAtMost k (again ps x k)

  or_leaves : (ps : Stood) (x : Sides) (again : Rounds) → Leaves again → (o : Option (List Move)) (k : ℕ) → LeavesAtMost k (join_or ps x again o k)
  or_leaves ps x again h (Some vs) k = same k
  or_leaves ps x again h None k =
      if_leaves (has_stood x.left x.right ps) (Made None k) (again ((x.left, x.right) ∷ ps) x k) k (same k) (h ((x.left, x.right) ∷ ps) x k)

  round_leaves : (again : Rounds) → Leaves again → Leaves (normal_round th G E H bs A again)
  round_leaves again h ps x k =
      then_leaves (both_normal th (block_rules th E) A x.left x.right k)
      (λ y l. work_then (joined_by_content normal th.signature G H [] y.left y.right l) (join_or ps (after_normal x y) again)) k (sides_leave x.left x.right k)
      (λ y l. then_leaves (joined_by_content normal th.signature G H [] y.left y.right l) (join_or ps (after_normal x y) again) l
      (joined_leaves normal normal_falls th.signature G H [] y.left y.right l) (or_leaves ps (after_normal x y) again h))

  rounds_leave : (n : ℕ) → Leaves (rounds th G E H bs A n)
  rounds_leave zero ps x k = same k
  rounds_leave (suc n) ps x k =
      then_leaves (both_swept taker G x.left x.right k)
      (λ w l. if has_links (pass_chain w) then normal_round th G E H bs A (rounds th G E H bs A n) ps (after_pass x w l) l else Made None l) k
      (both_leave k (both_swept taker G x.left x.right k)
      (both_paid taker G (rules_leave normal normal_falls (lemmas_of th 0 E ++ derived_rules E H bs)) x.left x.right k))
      (λ w l. if_leaves (has_links (pass_chain w)) (normal_round th G E H bs A (rounds th G E H bs A n) ps (after_pass x w l) l) (Made None l) l
      (round_leaves (rounds th G E H bs A n) (rounds_leave n) ps (after_pass x w l) l) (same l))
    where
      taker : Taker
      taker = attempt_taker th G E H bs A

  -- the rounds of an attempt with this budget
  abbrev all_rounds : (s t : Tree) (k : ℕ) → Work (Option (ChainOf Tree))
  all_rounds s t k = rounds th G E H bs A round_limit ((s, t) ∷ []) (sides_with s t no_links k) (k - (k - attempt_limit))

  pub attempt_leaves : (s t : Tree) (k : ℕ) → LeavesAtMost k (attempt th G E H bs A s t k)
  attempt_leaves s t k =
      leaves_more (attempt th G E H bs A s t k) ((k - attempt_limit) + (k - (k - attempt_limit))) k (omega arith)
      (outcome_leaves (k - attempt_limit) (all_rounds s t k) (k - (k - attempt_limit))
      (rounds_leave round_limit ((s, t) ∷ []) (sides_with s t no_links k) (k - (k - attempt_limit))))

  -- No limit ends the search in an attempt; and it is spent there only where the attempt may take all that is left.
  pub attempt_not_past : (s t : Tree) (k : ℕ) (x : Limit) (l : ℕ) → attempt th G E H bs A s t k ≡ Past x l → ⊥
  attempt_not_past s t k x l e = never_past (k - attempt_limit) (all_rounds s t k) x l e

  pub attempt_out : (s t : Tree) (k : ℕ) → attempt th G E H bs A s t k ≡ Out → k ≤ attempt_limit
  attempt_out s t k e = let z = none_aside (k - attempt_limit) (all_rounds s t k) e in omega (arith, z)
