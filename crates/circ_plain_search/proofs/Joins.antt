-- Join's uses lead from a term to the one in which the other side stands.
use Rattle.std.proofs.Common.{◌≡◌, ℕ, zero, suc, ◌+◌, length, Bool, true, false, ◌==◌, ◌&&◌, if◌then◌else◌, List, [], ◌∷◌, ◌++◌, Option, Some, None, Ok, refl, ap, sym, subst, ◌∙◌, arith}
use Rattle.std.specs.List.{slice_get}
use Rattle.std.specs.Option.{option_or, unwrap_or}
use Rattle.std.proofs.lemmas.Bool.{eqb-true, and_parts}
use Rattle.std.proofs.lemmas.Option.{same_Some}
use Rattle.circ_term.specs.Tree.{Tree, Trees, Var, App, none, more, sort_of, list_of, at}
use Rattle.circ_term.proofs.Trees.{trees_of-list_of}
use Rattle.circ_term.specs.Order.{is_same}
use Rattle.circ_term.specs.Substitution.{KeepsSorts, instance}
use Rattle.circ_term.proofs.Order.{same_here}
use Rattle.circ_theory.specs.Theory.{Theory, Pair, sides}
use Rattle.circ_theory.specs.Goal.{Goal}
use Rattle.circ_theory.specs.declared.way.Way.TheVariants.{Forth, Back}
use Rattle.circ_theory.proofs.Lists.{all_at}
use Rattle.circ_special.specs.declared.place.Place.{Place}
use Rattle.circ_special.specs.Special.{IsSpecial}
use Rattle.circ_proof.specs.Goals.{AreSortedGoals}
use Rattle.circ_rewrite.specs.Matching.{image, matching}
use Rattle.circ_rewrite.specs.Due.{terms_by}
use Rattle.circ_rewrite.proofs.Linked.{fit_given}
use Rattle.circ_rewrite.proofs.MatchingFacts.{matching-sorts}
use Rattle.circ_plain_search.specs.BlockRules.{HaveNoConditions}
use Rattle.circ_plain_search.specs.Joining.{HypothesisUse, use_with, pair_matching, pair_matches, hypothesis_variables, pair_use, first_use, is_place, meets, beside, joined, all_joined, put_all}
use Rattle.circ_plain_search.proofs.Terms.{Fine, FineTerms, args_fine}
use Rattle.circ_plain_search.proofs.PairTerms.{pair_terms, given_fine, left_instance, right_instance}
use Rattle.circ_plain_search.proofs.Special.{place_there, special_deeper, at_deeper}
use Rattle.circ_plain_search.proofs.Uses.{IsUse, UsesLead, row, row_arg, row_next, longer, nothing_leads, one_leads, AfterOne, after_one, both_lead}

pair_matching_sorts : (p : Pair) (a b : Tree) → KeepsSorts (pair_matching p a b)
pair_matching_sorts p a b n s = go (image p.left a n s) (matching-sorts p.left a n s) (matching-sorts p.right b n s)
  where
    go : (o : Option Tree) → sort_of (unwrap_or o (Var n s)) ≡ s → sort_of (matching p.right b n s) ≡ s
        → sort_of (unwrap_or (option_or o (image p.right b n s)) (Var n s)) ≡ s
    go (Some x) l r = l
    go None l r = r

module _ (th : Theory) (m : ℕ) (H : List Goal) (bare : HaveNoConditions H) where
  -- the hypotheses from a number on
  abbrev From : ℕ → List Goal → Type 0
  From n hs = (k : ℕ) → slice_get hs k ≡ slice_get H (k + n)

  from_next : (n : ℕ) (h : Goal) (hs : List Goal) → From n (h ∷ hs) → From (n + 1) hs
  from_next n h hs f k = f (suc k) ∙ ap (slice_get H) (let e : suc k + n ≡ k + (n + 1) = omega arith in e)

  from_this : (n : ℕ) (h : Goal) (hs : List Goal) → From n (h ∷ hs) → slice_get H n ≡ Some h
  from_this n h hs f = ap (slice_get H) (let e : n ≡ zero + n = omega arith in e) ∙ sym (f zero)

  from_all : From 0 H
  from_all k = ap (slice_get H) (let e : k ≡ k + 0 = omega arith in e)

  module _ (q : List ℕ) (a b : Tree) (fa : Fine th m a) (fb : Fine th m b) where
    -- with the left side on x and the right side on y
    pair_terms_fine : (h : Goal) → h.conds ≡ [] → (x y : Tree) → Fine th m x → Fine th m y → instance (pair_matching (sides h) x y) h.left ≡ x
        → instance (pair_matching (sides h) x y) h.right ≡ y → FineTerms th m (terms_by (pair_matching (sides h) x y) (hypothesis_variables h))
    pair_terms_fine h plain x y fx fy l r =
        pair_terms (Fine th m) h plain (pair_matching (sides h) x y) (given_fine th m (pair_matching (sides h) x y) h.left x l fx)
        (given_fine th m (pair_matching (sides h) x y) h.right y r fy)

    forth_is : (n : ℕ) (h : Goal) (u : HypothesisUse) → slice_get H n ≡ Some h → pair_use n Forth h q b a b ≡ Some u → IsUse th m H q a b u
    forth_is n h u there e = go (pair_matches (sides h) a b) refl e
      where
        p : Pair
        p = sides h

        plain : h.conds ≡ []
        plain = all_at (λ g. g.conds ≡ []) H n h bare there

        new : HypothesisUse
        new = use_with n Forth q (terms_by (pair_matching (sides h) a b) (hypothesis_variables h)) b

        go : (v : Bool) → pair_matches (sides h) a b ≡ v → (if v then Some new else None) ≡ Some u → IsUse th m H q a b u
        go false g x = absurd (cc)
        go true g x =
            let both = and_parts (is_same (instance (pair_matching p a b) p.left) a) (is_same (instance (pair_matching p a b) p.right) b) g in
            let l = same_here (instance (pair_matching p a b) p.left) a both.0 in
            let r = same_here (instance (pair_matching p a b) p.right) b both.1 in
            subst (IsUse th m H q a b) (same_Some new u x) (record {
              hypothesis = h;
              listed = there;
              path = refl;
              conds = refl;
              fit = fit_given (pair_matching p a b) (pair_matching_sorts p a b) (hypothesis_variables h);
              old = left_instance h plain (pair_matching p a b) ∙ l;
              made = right_instance h plain (pair_matching p a b) ∙ r;
              new = refl;
              terms = pair_terms_fine h plain a b fa fb l r;
              low = fb.low;
            })

    back_is : (n : ℕ) (h : Goal) (u : HypothesisUse) → slice_get H n ≡ Some h → pair_use n Back h q b b a ≡ Some u → IsUse th m H q a b u
    back_is n h u there e = go (pair_matches (sides h) b a) refl e
      where
        p : Pair
        p = sides h

        plain : h.conds ≡ []
        plain = all_at (λ g. g.conds ≡ []) H n h bare there

        new : HypothesisUse
        new = use_with n Back q (terms_by (pair_matching (sides h) b a) (hypothesis_variables h)) b

        go : (v : Bool) → pair_matches (sides h) b a ≡ v → (if v then Some new else None) ≡ Some u → IsUse th m H q a b u
        go false g x = absurd (cc)
        go true g x =
            let both = and_parts (is_same (instance (pair_matching p b a) p.left) b) (is_same (instance (pair_matching p b a) p.right) a) g in
            let l = same_here (instance (pair_matching p b a) p.left) b both.0 in
            let r = same_here (instance (pair_matching p b a) p.right) a both.1 in
            subst (IsUse th m H q a b) (same_Some new u x) (record {
              hypothesis = h;
              listed = there;
              path = refl;
              conds = refl;
              fit = fit_given (pair_matching p b a) (pair_matching_sorts p b a) (hypothesis_variables h);
              old = right_instance h plain (pair_matching p b a) ∙ r;
              made = left_instance h plain (pair_matching p b a) ∙ l;
              new = refl;
              terms = pair_terms_fine h plain b a fb fa l r;
              low = fb.low;
            })

    first_use_is : (n : ℕ) (hs : List Goal) (u : HypothesisUse) → From n hs → first_use n hs q a b ≡ Some u → IsUse th m H q a b u
    first_use_is n [] u f e = absurd (cc)
    first_use_is n (h ∷ hs) u f e =
        go (pair_use n Forth h q b a b) refl (pair_use n Back h q b b a) refl e (first_use_is (n + 1) hs u (from_next n h hs f))
      where
        there : slice_get H n ≡ Some h
        there = from_this n h hs f

        go : (x : Option HypothesisUse) → pair_use n Forth h q b a b ≡ x → (y : Option HypothesisUse) → pair_use n Back h q b b a ≡ y
            → option_or (option_or x y) (first_use (n + 1) hs q a b) ≡ Some u → (first_use (n + 1) hs q a b ≡ Some u → IsUse th m H q a b u)
            → IsUse th m H q a b u
        go (Some v) c y d z ih = forth_is n h u there (c ∙ z)
        go None c (Some v) d z ih = back_is n h u there (d ∙ z)
        go None c None d z ih = ih z

meeting : {P : Type 0} (s : Bool) (u : Option HypothesisUse) (i : Option (List HypothesisUse)) (us : List HypothesisUse) → meets s u i ≡ Some us
    → (s ≡ true → us ≡ [] → P) → ((x : HypothesisUse) → u ≡ Some x → us ≡ x ∷ [] → P) → (i ≡ Some us → P) → P
meeting true u i us e same used inside = same refl (sym (same_Some [] us e))
meeting false (Some x) i us e same used inside = used x refl (sym (same_Some (x ∷ []) us e))
meeting false None i us e same used inside = inside e

record Beside (one rest : Option (List HypothesisUse)) (all : List HypothesisUse) : Type 0 where
  us : List HypothesisUse
  vs : List HypothesisUse
  first : one ≡ Some us
  last : rest ≡ Some vs
  whole : all ≡ us ++ vs

besides : {P : Type 0} (same place : Bool) (one rest : Option (List HypothesisUse)) (all : List HypothesisUse) → beside same place one rest ≡ Some all
    → (same ≡ true → rest ≡ Some all → P) → (place ≡ true → Beside one rest all → P) → P
besides true p one rest all e left right = left refl e
besides false false one rest all e left right = absurd (cc)
besides false true None rest all e left right = absurd (cc)
besides false true (Some us) None all e left right = absurd (cc)
besides false true (Some us) (Some vs) all e left right =
    right refl (record { us = us; vs = vs; first = refl; last = refl; whole = sym (same_Some (us ++ vs) all e) })

module _ (th : Theory) (m : ℕ) (G : List Place) (H : List Goal) (sorted : AreSortedGoals th H) (bare : HaveNoConditions H) where
  abbrev Joins : List HypothesisUse → List ℕ → (b t u : Tree) → Type 0
  Joins us q b t u = UsesLead th m G H us q b t u

  used : (q : List ℕ) (a b t u : Tree) (us : List HypothesisUse) (x : HypothesisUse) → Fine th m t → Fine th m a → Fine th m b → at t q ≡ Some a
      → IsSpecial G t q → put_all t us ≡ Ok u → first_use 0 H q a b ≡ Some x → us ≡ x ∷ [] → Joins us q b t u
  used q a b t u us x ft fa fb there special p e one =
      one_leads th m G H sorted bare us q a b t u x ft (first_use_is th m H bare q a b fa fb 0 H x (from_all th m H bare) e) there special one p

  nothing : (q : List ℕ) (a b t u : Tree) (us : List HypothesisUse) → Fine th m t → at t q ≡ Some a → put_all t us ≡ Ok u → is_same a b ≡ true → us ≡ []
      → Joins us q b t u
  nothing q a b t u us ft there p same nil = nothing_leads th m G H sorted bare us q b t u ft (there ∙ ap Some (same_here a b same)) nil p

  mutual
    pub joined_leads : (a b : Tree) (q : List ℕ) (us : List HypothesisUse) (t u : Tree) → Fine th m t → Fine th m a → Fine th m b → at t q ≡ Some a
        → IsSpecial G t q → joined G H q a b ≡ Some us → put_all t us ≡ Ok u → UsesLead th m G H us q b t u
    joined_leads (Var n s) b q us t u ft fa fb there special e p =
        meeting (is_same (Var n s) b) (first_use 0 H q (Var n s) b) None us e
        (λ same nil. nothing q (Var n s) b t u us ft there p same nil)
        (λ x e one. used q (Var n s) b t u us x ft fa fb there special p e one)
        (λ z. absurd (cc))
    joined_leads (App f s ts) (Var n k) q us t u ft fa fb there special e p =
        meeting false (first_use 0 H q (App f s ts) (Var n k)) None us e
        (λ z. absurd (cc))
        (λ x e one. used q (App f s ts) (Var n k) t u us x ft fa fb there special p e one)
        (λ z. absurd (cc))
    joined_leads (App f s ts) (App g k vs) q us t u ft fa fb there special e p =
        meeting (is_same (App f s ts) (App g k vs)) (first_use 0 H q (App f s ts) (App g k vs))
        (if (f == g) && (s == k) then all_joined G H f q 0 ts vs else None) us e
        (λ same nil. nothing q (App f s ts) (App g k vs) t u us ft there p same nil)
        (λ x e one. used q (App f s ts) (App g k vs) t u us x ft fa fb there special p e one)
        (inside ((f == g) && (s == k)) refl
        (λ x. all_joined_leads ts vs f s [] q 0 us t u ft (args_fine th m f s ts fa) (args_fine th m g k vs fb) refl
        (there ∙ ap (λ l. Some (App f s l)) (sym (trees_of-list_of ts))) special x p))
      where
        inside : (v : Bool) → ((f == g) && (s == k)) ≡ v → (all_joined G H f q 0 ts vs ≡ Some us → Joins us q (row f s [] vs) t u)
            → (if v then all_joined G H f q 0 ts vs else None) ≡ Some us → Joins us q (App g k vs) t u
        inside true v ih x =
            let both = and_parts (f == g) (s == k) v in
            let P : Tree → Type 0 = λ y. Joins us q y t u in
            let r : row f s [] vs ≡ App g k vs
            = ap (App f s) (trees_of-list_of vs) ∙ ap (λ y. App y s vs) (eqb-true f g both.0) ∙ ap (λ y. App g y vs) (eqb-true s k both.1) in
            subst P r (ih x)
        inside false v ih x = absurd (cc)

    all_joined_leads : (ts vs : Trees) (f s : ℕ) (front : List Tree) (q : List ℕ) (i : ℕ) (us : List HypothesisUse) (t u : Tree) → Fine th m t
        → FineTerms th m (list_of ts) → FineTerms th m (list_of vs) → i ≡ length front → at t q ≡ Some (row f s front ts) → IsSpecial G t q
        → all_joined G H f q i ts vs ≡ Some us → put_all t us ≡ Ok u → UsesLead th m G H us q (row f s front vs) t u
    all_joined_leads none none f s front q i us t u ft fa fb n there special e p =
        nothing_leads th m G H sorted bare us q (row f s front none) t u ft there (sym (same_Some [] us e)) p
    all_joined_leads none (more b bs) f s front q i us t u ft fa fb n there special e p = absurd (cc)
    all_joined_leads (more a as') none f s front q i us t u ft fa fb n there special e p = absurd (cc)
    all_joined_leads (more a as') (more b bs) f s front q i us t u ft fa fb n there special e p =
        besides (is_same a b) (is_place G f i) (joined G H (q ++ i ∷ []) a b) (all_joined G H f q (i + 1) as' bs) us e
        (λ same rest.
        let P : Tree → Type 0 = λ y. Joins us q y t u in
        subst P (row_next f s front b bs)
        (all_joined_leads as' bs f s (front ++ b ∷ []) q (i + 1) us t u ft fa.1 fb.1
        (ap (λ k. k + 1) n ∙ sym (longer front b))
        (there ∙ ap (λ y. Some (row f s front (more y as'))) (same_here a b same) ∙ ap Some (sym (row_next f s front b as'))) special rest p))
        (λ place x.
        let P : List HypothesisUse → Type 0 = λ l. Joins l q (row f s front (more b bs)) t u in
        let N : ℕ → Type 0 = λ k. joined G H (q ++ k ∷ []) a b ≡ Some x.us in
        let g = place_there G f (length front) (ap (is_place G f) (sym n) ∙ place) in
        let y : AfterOne th m G H sorted bare x.us x.vs q f s front b as' t u
        = after_one th m G H sorted bare x.us x.vs q f s front a b as' t u there special (ap (put_all t) (sym x.whole) ∙ p)
        (λ w e. joined_leads a b (q ++ length front ∷ []) x.us t w ft fa.0 fb.0
        (at_deeper q t f s _ (length front) a there (row_arg front a as'))
        (special_deeper G q t f s _ (length front) a special there g (row_arg front a as'))
        (subst N n x.first) e) in
        let M : Tree → Type 0 = λ z. Joins x.vs q z y.w u in
        subst P (sym x.whole)
        (both_lead th m G H sorted bare x.us x.vs q f s front b as' t u (row f s front (more b bs)) y
        (subst M (row_next f s front b bs)
        (all_joined_leads as' bs f s (front ++ b ∷ []) q (i + 1) x.vs y.w u y.first.led.fine fa.1 fb.1
        (ap (λ k. k + 1) n ∙ sym (longer front b)) y.there y.special x.last y.last))))
