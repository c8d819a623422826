-- Without conditions every normal form is as before.
use Rattle.std.proofs.Common.{◌≡◌, ℕ, ◌≤◌, zero, suc, Bool, true, false, if◌then◌else◌, List, [], ◌∷◌, ◌++◌, Option, Some, None, refl, ap, sym, subst, ◌∙◌, arith}
use Rattle.std.specs.Option.{option_or, option_map_or, unwrap_or}
use Rattle.std.proofs.lemmas.Option.{same_Some}
use Rattle.circ_term.specs.Tree.{Tree, Var, App, replaced}
use Rattle.circ_term.specs.Limits.{Limit, first_limit}
use Rattle.circ_term.specs.Order.{is_same}
use Rattle.circ_theory.specs.Signature.{Signature}
use Rattle.circ_theory.specs.Theory.{Pair}
use Rattle.circ_aci.specs.Canonical.{canonical_under}
use Rattle.circ_rewrite.specs.Matching.{matches}
use Rattle.circ_rewrite.specs.Due.{assumed, content_due, ruled, due_under, AreUnconditional}
use Rattle.circ_rewrite.specs.Norm.{Normalised, Limit_passed, first_due, run, norm}
use Rattle.circ_rewrite.specs.Replacement.{By_content, Replacement, Placed, Traced, traced}
use Rattle.circ_rewrite.specs.Standing.{Stands}
use Rattle.circ_rewrite.specs.declared.parts.Rule.{Rule}
use Rattle.circ_conditional_norm.specs.Norm.{look, look_from, run_from, inner_norm, norm_with_room}
use Rattle.circ_conditional_norm.specs.Sure.{untried, first_matched, reached, IsSure}
use Rattle.circ_conditional_norm.specs.Tries.{rule_replaces, due_trying}
use Rattle.circ_conditional_norm.specs.Work.{Work, Made}
use Rattle.circ_rewrite.proofs.Linked.{assumed_is}
use Rattle.circ_rewrite.proofs.Standings.{stands_put}
use Rattle.circ_conditional_norm.proofs.Sure.{first_stands, look_none, look_sure, look_skip, not_reached, sure_reached}

module _ (pure : Tree → Option Replacement) (due : (budget : ℕ) → Tree → Work (Option Replacement))
    (nothing : (k : ℕ) (t : Tree) → pure t ≡ None → due k t ≡ Made None k)
    (something : (k : ℕ) (t : Tree) (d : Replacement) → pure t ≡ Some d → IsSure d.reason → due k t ≡ Made (Some d) k)
    (sure : (t : Tree) (d : Replacement) → pure t ≡ Some d → IsSure d.reason) where
  pub run_before : (n : ℕ) (from : List ℕ) (t a : Tree) (ts : List Traced) (k : ℕ) → Stands pure t from a → k ≤ n → run_from due n from t ts k ≡ run pure k t ts
  run_before zero from t a ts (suc k) s h = absurd (omega (arith, h))
  run_before zero from t a ts zero s h = go (first_due pure t) refl (look_skip pure due nothing something from t a zero s)
    where
      go : (o : Option Placed) → first_due pure t ≡ o → look_from due from t zero ≡ look due t zero → run_from due zero from t ts zero ≡ run pure zero t ts
      go None e l = rw (l, look_none pure due nothing t zero e, e) refl
      go (Some q) e l =
          let st = first_stands pure t q e in
          rw (l, look_sure pure due nothing something t zero q e (sure st.0 q.replacement st.2), e) refl
  run_before (suc n) from t a ts zero s h = go (first_due pure t) refl (look_skip pure due nothing something from t a zero s)
    where
      go : (o : Option Placed) → first_due pure t ≡ o → look_from due from t zero ≡ look due t zero → run_from due (suc n) from t ts zero ≡ run pure zero t ts
      go None e l = rw (l, look_none pure due nothing t zero e, e) refl
      go (Some q) e l =
          let st = first_stands pure t q e in
          rw (l, look_sure pure due nothing something t zero q e (sure st.0 q.replacement st.2), e) refl
  run_before (suc n) from t a ts (suc k) s h =
      go (first_due pure t) refl (look_skip pure due nothing something from t a (suc k) s) (λ u b us p st. run_before n p u b us k st (omega (arith, h)))
    where
      at_limit : (o : Option Limit) (x y : Normalised) → x ≡ y
          → option_map_or (λ z. Limit_passed z (suc k)) o x ≡ option_map_or (λ z. Limit_passed z (suc k)) o y
      at_limit None x y e = e
      at_limit (Some z) x y e = refl

      go : (o : Option Placed) → first_due pure t ≡ o → look_from due from t (suc k) ≡ look due t (suc k)
          → ((u b : Tree) (us : List Traced) (p : List ℕ) → Stands pure u p b → run_from due n p u us k ≡ run pure k u us)
          → run_from due (suc n) from t ts (suc k) ≡ run pure (suc k) t ts
      go None e l ih = rw (l, look_none pure due nothing t (suc k) e, e) refl
      go (Some q) e l ih =
          let st = first_stands pure t q e in
          let new = stands_put pure q.path t st.0 q.replacement.new st.1 in
          let is : new.0 ≡ unwrap_or (replaced t q.path q.replacement.new) t = ap (λ o. unwrap_or o t) (sym new.1) in
          let stands = subst (λ y. Stands pure y q.path q.replacement.new) is new.2 in
          let rest = ih (unwrap_or (replaced t q.path q.replacement.new) t) q.replacement.new (ts ++ traced q ∷ []) q.path stands in
          rw (l, look_sure pure due nothing something t (suc k) q e (sure st.0 q.replacement st.2), e)
          (at_limit (first_limit (unwrap_or (replaced t q.path q.replacement.new) t)) _ _ rest)

module _ (sig : Signature) (rs : List Rule) (all : AreUnconditional rs) (A : List Pair) where
  rules_sure : (qs : List Rule) → AreUnconditional qs → (t : Tree) (d : Replacement) → first_matched qs t ≡ Some d → IsSure d.reason
  rules_sure [] a t d e = absurd (cc)
  rules_sure (r ∷ qs) a t d e = go (matches r.left t) e (rules_sure qs a.1 t d)
    where
      new : Replacement
      new = rule_replaces r t (untried r.conds)

      go : (b : Bool) → option_or (if b then Some new else None) (first_matched qs t) ≡ Some d → (first_matched qs t ≡ Some d → IsSure d.reason) → IsSure d.reason
      go false x ih = ih x
      go true x ih = subst (λ y. IsSure y.reason) (same_Some new d x) (ap untried a.0)

  assumed_sure : (t : Tree) (d : Replacement) → assumed 0 A t ≡ Some d → IsSure d.reason
  assumed_sure t d e = let h = assumed_is 0 A t d e in subst (λ y. IsSure y.reason) (sym h.4) tt

  content_sure : (t : Tree) (d : Replacement) → content_due sig t ≡ Some d → IsSure d.reason
  content_sure (Var n s) d e = absurd (cc)
  content_sure (App f s ts) d e = go (is_same form (App f s ts)) e
    where
      form : Tree
      form = canonical_under sig f (App f s ts)

      new : Replacement
      new = record { reason = By_content f form; new = form }

      go : (b : Bool) → (if b then None else Some new) ≡ Some d → IsSure d.reason
      go true x = absurd (cc)
      go false x = subst (λ y. IsSure y.reason) (same_Some new d x) tt

  all_sure : (t : Tree) (d : Replacement) → reached sig rs A t ≡ Some d → IsSure d.reason
  all_sure (Var n s) d e = assumed_sure (Var n s) d e
  all_sure (App f s ts) d e = first (assumed 0 A t) refl e
    where
      t : Tree
      t = App f s ts

      second : (o : Option Replacement) → content_due sig t ≡ o → option_or o (first_matched rs t) ≡ Some d → IsSure d.reason
      second None g z = rules_sure rs all t d z
      second (Some y) g z = content_sure t d (g ∙ z)

      first : (o : Option Replacement) → assumed 0 A t ≡ o → option_or (option_or o (content_due sig t)) (first_matched rs t) ≡ Some d → IsSure d.reason
      first None g z = second (content_due sig t) refl z
      first (Some y) g z = assumed_sure t d (g ∙ z)

  -- what is reached is what is due without tries
  matched_due : (qs : List Rule) → AreUnconditional qs → (t : Tree) → first_matched qs t ≡ ruled qs t
  matched_due [] a t = refl
  matched_due (r ∷ qs) a t = λ i. option_or (if matches r.left t then Some (rule_replaces r t (untried (a.0 i))) else None) (matched_due qs a.1 t i)

  or_assoc : (a b c : Option Replacement) → option_or (option_or a b) c ≡ option_or a (option_or b c)
  or_assoc (Some r) b c = refl
  or_assoc None b c = refl

  reached_due : (t : Tree) → reached sig rs A t ≡ due_under sig rs A t
  reached_due (Var n s) = refl
  reached_due (App f s ts) =
      or_assoc (assumed 0 A (App f s ts)) (content_due sig (App f s ts)) (first_matched rs (App f s ts))
      ∙ ap (λ x. option_or (assumed 0 A (App f s ts)) (option_or (content_due sig (App f s ts)) x)) (matched_due rs all (App f s ts))

  pub norm_before : (room k : ℕ) (t : Tree) → norm_with_room room sig rs A k t ≡ norm sig rs A k t
  norm_before room k t =
      run_before (reached sig rs A) (due_trying (inner_norm room sig rs A) sig rs A) (not_reached (inner_norm room sig rs A) sig rs A)
      (sure_reached (inner_norm room sig rs A) sig rs A) all_sure k [] t t [] k refl (omega arith)
      ∙ ap (λ f. run f k t []) (λ i u. reached_due u i)
