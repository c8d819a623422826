-- Join's uses lead from a term to the one in which the other side stands.
use Rattle.std.proofs.Common.{◌≡◌, ◌⊎◌, inl, inr, ℕ, zero, suc, ◌+◌, ◌≤◌, length, Bool, true, false, ◌==◌, ◌&&◌, if◌then◌else◌, List, [], ◌∷◌, ◌++◌, Option, Some, None, Ok, refl, ap, sym, subst, ◌∙◌, arith}
use Rattle.std.specs.List.{slice_get, AllByRecursion}
use Rattle.std.specs.Option.{option_or, unwrap_or}
use Rattle.std.proofs.lemmas.Bool.{eqb-true, and_parts}
use Rattle.std.proofs.lemmas.Option.{same_Some}
use Rattle.circ_term.specs.Tree.{Tree, Trees, Var, App, none, more, sort_of, list_of, at}
use Rattle.circ_term.proofs.Trees.{trees_of-list_of}
use Rattle.circ_term.specs.Order.{is_same}
use Rattle.circ_term.specs.Substitution.{Substitution, KeepsSorts, instance}
use Rattle.circ_term.proofs.Order.{same_here}
use Rattle.circ_theory.specs.Signature.{Signature, IsSort, IsWellSorted, HaveSorts, IsSubstitution}
use Rattle.circ_theory.specs.Theory.{Theory, Pair, sides}
use Rattle.circ_theory.specs.Variables.{sorted, variables_of}
use Rattle.circ_theory.specs.Fresh.{above, all_above}
use Rattle.circ_theory.specs.declared.way.Way.{Way}
use Rattle.circ_theory.specs.declared.way.Way.TheVariants.{Forth, Back}
use Rattle.circ_theory.proofs.Lists.{all_at}
use Rattle.circ_special.specs.Special.{IsSpecial}
use Rattle.circ_match.specs.Matcher.{has_variable, have_variable}
use Rattle.circ_rewrite.specs.Matching.{image, images, matching}
use Rattle.circ_rewrite.specs.Due.{terms_by}
use Rattle.circ_rewrite.proofs.Linked.{fit_given, matching_substitution}
use Rattle.circ_rewrite.proofs.MatchingFacts.{matching-sorts}
use Rattle.circ_plain_search.specs.Joining.{pair_matching, pair_matches, is_place, HypothesisUse, put_all}
use Rattle.circ_plain_search.proofs.Terms.{Fine, FineTerms, args_fine, either}
use Rattle.circ_plain_search.proofs.Special.{place_there, special_deeper, at_deeper}
use Rattle.circ_plain_search.proofs.Uses.{row, row_arg, row_next, longer}
use Rattle.circ_theory.specs.Goal.{Goal}
use Rattle.circ_proof.specs.Link.{Setting}
use Rattle.circ_rewrite.specs.Replacement.{Passes}
use Rattle.circ_conditional_norm.specs.Work.{Work, Made, Out, Past, map_found}
use Rattle.circ_conditional_norm.specs.Tries.{Normaliser, tried}
use Rattle.circ_conditional_norm.proofs.Working.{found_map, found_next, same_found}
use Rattle.circ_conditional_norm.proofs.Given.{gives_back}
use Rattle.circ_conditional_norm.proofs.Linked.{IsLinking, holds_lead, lead_same, all_sorted}
use Rattle.circ_conditional_search.specs.Joining.{use_passing, pair_use_trying, one_use_trying, first_use_trying, meets_trying, found_then, beside_trying, no_join, joined_trying, all_joined_trying}
use Rattle.circ_conditional_search.proofs.GoalTerms.{OfTerm, OfPairs, all_terms}
use Rattle.circ_conditional_search.proofs.Nesting.{IsNesting, holds_nest}
use Rattle.circ_conditional_search.proofs.Normals.{IsFining, low_pairs, holds_fine}
use Rattle.circ_conditional_search.proofs.Derived.{FineCond, FineGoal, FineGoals, are_conditions, goals_sorted}
use Rattle.circ_conditional_search.proofs.Uses.{IsUse, UsesLead, nothing_leads, one_leads, beyond, both_lead, InParts, in_parts}

pair_matching_sorts : (p : Pair) (a b : Tree) → KeepsSorts (pair_matching p a b)
pair_matching_sorts p a b n s = go (image p.left a n s) (matching-sorts p.left a n s) (matching-sorts p.right b n s)
  where
    go : (o : Option Tree) → sort_of (unwrap_or o (Var n s)) ≡ s → sort_of (matching p.right b n s) ≡ s
        → sort_of (unwrap_or (option_or o (image p.right b n s)) (Var n s)) ≡ s
    go (Some x) l r = l
    go None l r = r

pair_substitution : (sig : Signature) (p : Pair) (a b : Tree) → IsWellSorted sig a → IsWellSorted sig b → IsSubstitution sig (pair_matching p a b)
pair_substitution sig p a b wa wb n s l = (pair_matching_sorts p a b n s, go (image p.left a n s) refl)
  where
    go : (o : Option Tree) → image p.left a n s ≡ o → IsWellSorted sig (unwrap_or (option_or o (image p.right b n s)) (Var n s))
    go (Some x) e = let w = (matching_substitution sig p.left a wa n s l).1 in rw e at w
    go None e = (matching_substitution sig p.right b wb n s l).1

-- the subterms that variables are given are fine
mutual
  pub image_fine : (th : Theory) (m : ℕ) (p t : Tree) (n s : ℕ) (u : Tree) → Fine th m t → image p t n s ≡ Some u → Fine th m u
  image_fine th m (Var k j) t n s u f e = go ((k == n) && (j == s)) (sort_of t == s) e
    where
      go : (a b : Bool) → (if a then (if b then Some t else None) else None) ≡ Some u → Fine th m u
      go false b x = absurd (cc)
      go true false x = absurd (cc)
      go true true x = subst (λ v. Fine th m v) (same_Some t u x) f
  image_fine th m (App f k ps) (Var i j) n s u h e = absurd (cc)
  image_fine th m (App f k ps) (App g j ts) n s u h e = images_fine th m ps ts n s u (args_fine th m g j ts h) e

  images_fine : (th : Theory) (m : ℕ) (ps ts : Trees) (n s : ℕ) (u : Tree) → FineTerms th m (list_of ts) → images ps ts n s ≡ Some u → Fine th m u
  images_fine th m none ts n s u h e = absurd (cc)
  images_fine th m (more p ps) none n s u h e = absurd (cc)
  images_fine th m (more p ps) (more t ts) n s u h e = go (image p t n s) refl (image_fine th m p t n s u h.0) (images_fine th m ps ts n s u h.1)
    where
      go : (o : Option Tree) → image p t n s ≡ o → (image p t n s ≡ Some u → Fine th m u) → (images ps ts n s ≡ Some u → Fine th m u) → Fine th m u
      go None f a b = b (rw f at e)
      go (Some x) f a b = a (f ∙ (rw f at e))

-- a variable of a well-sorted term
mutual
  pub variable_sort : (sig : Signature) (t : Tree) (n s : ℕ) → IsWellSorted sig t → has_variable t n s ≡ true → IsSort sig s
  variable_sort sig (Var m k) n s w h =
      let p = and_parts (m == n) (k == s) h in
      subst (IsSort sig) (eqb-true k s p.1) w
  variable_sort sig (App f k ts) n s w h = variable_sorts sig ts w.0.args n s w.3 h

  variable_sorts : (sig : Signature) (ts : Trees) (ss : List ℕ) (n s : ℕ) → HaveSorts sig ts ss → have_variable ts n s ≡ true → IsSort sig s
  variable_sorts sig none ss n s w h = absurd (cc)
  variable_sorts sig (more t ts) [] n s w h = absurd w
  variable_sorts sig (more t ts) (k ∷ ss) n s w h =
      either (has_variable t n s) (have_variable ts n s) h (λ e. variable_sort sig t n s w.1 e) (λ e. variable_sorts sig ts ss n s w.2 e)

mutual
  pub variable_low : (t : Tree) (n s : ℕ) → has_variable t n s ≡ true → n + 1 ≤ above t
  variable_low (Var m k) n s h = let e = eqb-true m n (and_parts (m == n) (k == s) h).0 in omega (arith, e)
  variable_low (App f k ts) n s h = variables_low ts n s h

  variables_low : (ts : Trees) (n s : ℕ) → have_variable ts n s ≡ true → n + 1 ≤ all_above ts
  variables_low none n s h = absurd (cc)
  variables_low (more t ts) n s h =
      either (has_variable t n s) (have_variable ts n s) h
      (λ e. let x = variable_low t n s e in omega (arith, x)) (λ e. let x = variables_low ts n s e in omega (arith, x))

module _ (th : Theory) (m : ℕ) (p : Pair) (a b : Tree) (fa : Fine th m a) (fb : Fine th m b) where
  -- what a variable is given, itself where the sides lack it
  matching_fine : (t : Tree) → Fine th m t → OfTerm (λ n s. Fine th m (pair_matching p a b n s)) t
  matching_fine t ft n s h = first (image p.left a n s) refl
    where
      second : (o : Option Tree) → image p.right b n s ≡ o → Fine th m (unwrap_or o (Var n s))
      second (Some x) e = image_fine th m p.right b n s x fb e
      second None e = record { sorted = variable_sort th.signature t n s ft.sorted h; within = refl; low = (let x = variable_low t n s h in let y = ft.low in omega (arith, x, y)) }

      first : (o : Option Tree) → image p.left a n s ≡ o → Fine th m (unwrap_or (option_or o (image p.right b n s)) (Var n s))
      first (Some x) e = image_fine th m p.left a n s x fa e
      first None e = second (image p.right b n s) refl

  matching_pairs : (ps : List Pair) → AllByRecursion (FineCond th m) ps → OfPairs (λ n s. Fine th m (pair_matching p a b n s)) ps
  matching_pairs [] f = tt
  matching_pairs (q ∷ ps) f = ((matching_fine q.left f.0.left, matching_fine q.right f.0.right), matching_pairs ps f.1)

module _ (c : Setting) (m : ℕ) (fine : FineGoals c.theory m c.hypotheses) (f : Normaliser) (links : IsLinking c f) (fining : IsFining c.theory m f) (nest : IsNesting 7 f) where
  abbrev th : Theory
  th = c.theory

  abbrev H : List Goal
  H = c.hypotheses

  -- the hypotheses from a number on
  abbrev From : ℕ → List Goal → Type 0
  From n hs = (k : ℕ) → slice_get hs k ≡ slice_get H (k + n)

  from_next : (n : ℕ) (h : Goal) (hs : List Goal) → From n (h ∷ hs) → From (n + 1) hs
  from_next n h hs g k = g (suc k) ∙ ap (slice_get H) (let e : suc k + n ≡ k + (n + 1) = omega arith in e)

  from_this : (n : ℕ) (h : Goal) (hs : List Goal) → From n (h ∷ hs) → slice_get H n ≡ Some h
  from_this n h hs g = ap (slice_get H) (let e : n ≡ zero + n = omega arith in e) ∙ sym (g zero)

  pub from_all : From 0 H
  from_all k = ap (slice_get H) (let e : k ≡ k + 0 = omega arith in e)

  -- a hypothesis with its left side on x and its right side on y
  record IsPairUse (n : ℕ) (h : Goal) (x y : Tree) (cs : Passes) : Type 0 where
    left : instance (pair_matching (sides h) x y) h.left ≡ x
    right : instance (pair_matching (sides h) x y) h.right ≡ y
    attempt : (k : ℕ) × (l : ℕ) × (tried (Some f) (pair_matching (sides h) x y) h.conds k ≡ Made (Some cs) l)

  pair_is : (way : Way) (n : ℕ) (h : Goal) (q : List ℕ) (new x y : Tree) (k : ℕ) (u : HypothesisUse) (l : ℕ) → pair_use_trying f n way h q new x y k ≡ Made (Some u) l
      → (cs : Passes) × IsPairUse n h x y cs × (use_passing n way q (terms_by (pair_matching (sides h) x y) (sorted (variables_of h))) cs new ≡ u)
  pair_is way n h q new x y k u l e = go (pair_matches (sides h) x y) refl e
    where
      σ : Substitution
      σ = pair_matching (sides h) x y

      made : Passes → HypothesisUse
      made cs = use_passing n way q (terms_by σ (sorted (variables_of h))) cs new

      go : (v : Bool) → pair_matches (sides h) x y ≡ v → (if v then map_found made (tried (Some f) σ h.conds k) else Made None k) ≡ Made (Some u) l
          → (cs : Passes) × IsPairUse n h x y cs × (made cs ≡ u)
      go false g z = absurd (cc)
      go true g z =
          let both = and_parts (is_same (instance σ h.left) x) (is_same (instance σ h.right) y) g in
          let r = found_map made (tried (Some f) σ h.conds k) u l z in
          (r.0, record { left = same_here (instance σ h.left) x both.0; right = same_here (instance σ h.right) y both.1; attempt = (k, l, r.1) }, r.2)

  module _ (q : List ℕ) (a b : Tree) (fa : Fine th m a) (fb : Fine th m b) where
    forth_is : (n : ℕ) (h : Goal) (k : ℕ) (u : HypothesisUse) (l : ℕ) → slice_get H n ≡ Some h → pair_use_trying f n Forth h q b a b k ≡ Made (Some u) l → IsUse c m q a b u
    forth_is n h k u l there e =
        let r = pair_is Forth n h q b a b k u l e in
        let p : Pair = sides h in
        let σ : Substitution = pair_matching p a b in
        let g = all_at (FineGoal th m) H n h fine there in
        let back = gives_back h σ in
        let s = pair_substitution th.signature p a b fa.sorted fb.sorted in
        let sorted_conds = all_sorted th h.conds (are_conditions th m h.conds g.conds) in
        let vars = matching_pairs th m p a b fa fb h.conds g.conds in
        subst (IsUse c m q a b) r.2 (record {
          hypothesis = h;
          listed = there;
          path = refl;
          fit = fit_given σ (pair_matching_sorts p a b) (sorted (variables_of h));
          old = back.left ∙ r.1.left;
          made = back.right ∙ r.1.right;
          new = refl;
          terms = all_terms (Fine th m) h σ (matching_fine th m p a b fa fb h.left g.left) (matching_fine th m p a b fa fb h.right g.right) vars;
          low = fb.low;
          holds = lead_same c σ _ h.conds r.0 back.conds (holds_lead c (Some f) links σ s h.conds sorted_conds r.1.attempt.0 r.0 r.1.attempt.1 r.1.attempt.2);
          chains = holds_fine th m (Some f) fining σ h.conds (low_pairs th m σ s h.conds sorted_conds vars) r.1.attempt.0 r.0 r.1.attempt.1 r.1.attempt.2;
          nests = holds_nest 7 f nest σ h.conds r.1.attempt.0 r.0 r.1.attempt.1 r.1.attempt.2;
        })

    back_is : (n : ℕ) (h : Goal) (k : ℕ) (u : HypothesisUse) (l : ℕ) → slice_get H n ≡ Some h → pair_use_trying f n Back h q b b a k ≡ Made (Some u) l → IsUse c m q a b u
    back_is n h k u l there e =
        let r = pair_is Back n h q b b a k u l e in
        let p : Pair = sides h in
        let σ : Substitution = pair_matching p b a in
        let g = all_at (FineGoal th m) H n h fine there in
        let back = gives_back h σ in
        let s = pair_substitution th.signature p b a fb.sorted fa.sorted in
        let sorted_conds = all_sorted th h.conds (are_conditions th m h.conds g.conds) in
        let vars = matching_pairs th m p b a fb fa h.conds g.conds in
        subst (IsUse c m q a b) r.2 (record {
          hypothesis = h;
          listed = there;
          path = refl;
          fit = fit_given σ (pair_matching_sorts p b a) (sorted (variables_of h));
          old = back.right ∙ r.1.right;
          made = back.left ∙ r.1.left;
          new = refl;
          terms = all_terms (Fine th m) h σ (matching_fine th m p b a fb fa h.left g.left) (matching_fine th m p b a fb fa h.right g.right) vars;
          low = fb.low;
          holds = lead_same c σ _ h.conds r.0 back.conds (holds_lead c (Some f) links σ s h.conds sorted_conds r.1.attempt.0 r.0 r.1.attempt.1 r.1.attempt.2);
          chains = holds_fine th m (Some f) fining σ h.conds (low_pairs th m σ s h.conds sorted_conds vars) r.1.attempt.0 r.0 r.1.attempt.1 r.1.attempt.2;
          nests = holds_nest 7 f nest σ h.conds r.1.attempt.0 r.0 r.1.attempt.1 r.1.attempt.2;
        })

    one_is : (n : ℕ) (h : Goal) (k : ℕ) (u : HypothesisUse) (l : ℕ) → slice_get H n ≡ Some h → one_use_trying f n h q a b k ≡ Made (Some u) l → IsUse c m q a b u
    one_is n h k u l there e = go (found_next (pair_use_trying f n Forth h q b a b k) (pair_use_trying f n Back h q b b a) u l e)
      where
        go : (pair_use_trying f n Forth h q b a b k ≡ Made (Some u) l)
            ⊎ ((j : ℕ) × (pair_use_trying f n Forth h q b a b k ≡ Made None j) × (pair_use_trying f n Back h q b b a j ≡ Made (Some u) l)) → IsUse c m q a b u
        go (inl x) = forth_is n h k u l there x
        go (inr x) = back_is n h x.0 u l there x.2

    pub first_use_is : (n : ℕ) (hs : List Goal) (k : ℕ) (u : HypothesisUse) (l : ℕ) → From n hs → first_use_trying f n hs q a b k ≡ Made (Some u) l → IsUse c m q a b u
    first_use_is n [] k u l g e = absurd (cc)
    first_use_is n (h ∷ hs) k u l g e =
        go (found_next (one_use_trying f n h q a b k) (first_use_trying f (n + 1) hs q a b) u l e) (λ j x. first_use_is (n + 1) hs j u l (from_next n h hs g) x)
      where
        go : (one_use_trying f n h q a b k ≡ Made (Some u) l)
            ⊎ ((j : ℕ) × (one_use_trying f n h q a b k ≡ Made None j) × (first_use_trying f (n + 1) hs q a b j ≡ Made (Some u) l))
            → ((j : ℕ) → first_use_trying f (n + 1) hs q a b j ≡ Made (Some u) l → IsUse c m q a b u) → IsUse c m q a b u
        go (inl x) ih = one_is n h k u l (from_this n h hs g) x
        go (inr x) ih = ih x.0 x.2

meeting : {P : Type 0} (s : Bool) (first : ℕ → Work (Option HypothesisUse)) (inside : ℕ → Work (Option (List HypothesisUse))) (k : ℕ) (us : List HypothesisUse) (l : ℕ)
    → meets_trying s first inside k ≡ Made (Some us) l → (s ≡ true → us ≡ [] → P) → ((x : HypothesisUse) → first k ≡ Made (Some x) l → us ≡ x ∷ [] → P)
    → ((j : ℕ) → inside j ≡ Made (Some us) l → P) → P
meeting true first inside k us l e same used into = same refl (sym (same_found [] us k l e).0)
meeting {P = P} false first inside k us l e same used into = go (found_next (map_found (λ u. u ∷ []) (first k)) inside us l e)
  where
    go : (map_found (λ u. u ∷ []) (first k) ≡ Made (Some us) l) ⊎ ((j : ℕ) × (map_found (λ u. u ∷ []) (first k) ≡ Made None j) × (inside j ≡ Made (Some us) l)) → P
    go (inl x) = let h = found_map (λ u. u ∷ []) (first k) us l x in used h.0 h.1 (sym h.2)
    go (inr x) = into x.0 x.2

record Beside (one rest : ℕ → Work (Option (List HypothesisUse))) (k : ℕ) (all : List HypothesisUse) (l : ℕ) : Type 0 where
  us : List HypothesisUse
  vs : List HypothesisUse
  between : ℕ
  first : one k ≡ Made (Some us) between
  last : rest between ≡ Made (Some vs) l
  whole : all ≡ us ++ vs

pub then_found : {A B : Type 0} (w : Work (Option A)) (g : A → ℕ → Work (Option B)) (b : B) (l : ℕ) → found_then w g ≡ Made (Some b) l
    → (a : A) × (k : ℕ) × (w ≡ Made (Some a) k) × (g a k ≡ Made (Some b) l)
then_found (Made (Some a) k) g b l e = (a, k, refl, e)
then_found (Made None k) g b l e = absurd (cc)
then_found Out g b l e = absurd (cc)
then_found (Past x k) g b l e = absurd (cc)

besides : {P : Type 0} (same place : Bool) (one rest : ℕ → Work (Option (List HypothesisUse))) (k : ℕ) (all : List HypothesisUse) (l : ℕ)
    → beside_trying same place one rest k ≡ Made (Some all) l → (same ≡ true → rest k ≡ Made (Some all) l → P) → (place ≡ true → Beside one rest k all l → P) → P
besides true p one rest k all l e left right = left refl e
besides false false one rest k all l e left right = absurd (cc)
besides false true one rest k all l e left right =
    let a = then_found (one k) (λ us j. map_found (λ vs. us ++ vs) (rest j)) all l e in
    let b = found_map (λ vs. a.0 ++ vs) (rest a.1) all l a.3 in
    right refl (record { us = a.0; vs = b.0; between = a.1; first = a.2; last = b.1; whole = sym b.2 })

module _ (c : Setting) (m : ℕ) (fine : FineGoals c.theory m c.hypotheses) (f : Normaliser) (links : IsLinking c f) (fining : IsFining c.theory m f) (nest : IsNesting 7 f) where
  abbrev base : Theory
  base = c.theory

  abbrev join : (q : List ℕ) → (a b : Tree) → (budget : ℕ) → Work (Option (List HypothesisUse))
  join = joined_trying f c.places c.hypotheses

  abbrev join_all : (g : ℕ) → (q : List ℕ) → (i : ℕ) → (ts us : Trees) → (budget : ℕ) → Work (Option (List HypothesisUse))
  join_all = all_joined_trying f c.places c.hypotheses

  used : (q : List ℕ) (a b t u : Tree) (us : List HypothesisUse) (x : HypothesisUse) (k l : ℕ) → Fine base m t → Fine base m a → Fine base m b → at t q ≡ Some a
      → IsSpecial c.places t q → put_all t us ≡ Ok u → first_use_trying f 0 c.hypotheses q a b k ≡ Made (Some x) l → us ≡ x ∷ [] → UsesLead c m us q b t u
  used q a b t u us x k l ft fa fb there special p e one =
      one_leads c m (goals_sorted base m c.hypotheses fine) us q a b t u x ft
      (first_use_is c m fine f links fining nest q a b fa fb 0 c.hypotheses k x l (from_all c m fine f links fining nest) e) there special one p

  nothing : (q : List ℕ) (a b t u : Tree) (us : List HypothesisUse) → Fine base m t → at t q ≡ Some a → put_all t us ≡ Ok u → is_same a b ≡ true → us ≡ []
      → UsesLead c m us q b t u
  nothing q a b t u us ft there p same nil =
      nothing_leads c m (goals_sorted base m c.hypotheses fine) us q b t u ft (there ∙ ap Some (same_here a b same)) nil p

  mutual
    pub joined_leads : (a b : Tree) (q : List ℕ) (us : List HypothesisUse) (t u : Tree) (k l : ℕ) → Fine base m t → Fine base m a → Fine base m b → at t q ≡ Some a
        → IsSpecial c.places t q → join q a b k ≡ Made (Some us) l → put_all t us ≡ Ok u → UsesLead c m us q b t u
    joined_leads (Var n s) b q us t u k l ft fa fb there special e p =
        meeting (is_same (Var n s) b) (first_use_trying f 0 c.hypotheses q (Var n s) b) no_join k us l e
        (λ same nil. nothing q (Var n s) b t u us ft there p same nil)
        (λ x e one. used q (Var n s) b t u us x k l ft fa fb there special p e one)
        (λ j z. absurd (cc))
    joined_leads (App g s ts) (Var n i) q us t u k l ft fa fb there special e p =
        meeting false (first_use_trying f 0 c.hypotheses q (App g s ts) (Var n i)) no_join k us l e
        (λ z. absurd (cc))
        (λ x e one. used q (App g s ts) (Var n i) t u us x k l ft fa fb there special p e one)
        (λ j z. absurd (cc))
    joined_leads (App g s ts) (App d i vs) q us t u k l ft fa fb there special e p =
        meeting (is_same (App g s ts) (App d i vs)) (first_use_trying f 0 c.hypotheses q (App g s ts) (App d i vs))
        (if (g == d) && (s == i) then join_all g q 0 ts vs else no_join) k us l e
        (λ same nil. nothing q (App g s ts) (App d i vs) t u us ft there p same nil)
        (λ x e one. used q (App g s ts) (App d i vs) t u us x k l ft fa fb there special p e one)
        (λ j z. inside j ((g == d) && (s == i)) refl
        (λ x. all_joined_leads ts vs g s [] q 0 us t u j l ft (args_fine base m g s ts fa) (args_fine base m d i vs fb) refl
        (there ∙ ap (λ y. Some (App g s y)) (sym (trees_of-list_of ts))) special x p) z)
      where
        inside : (j : ℕ) (v : Bool) → ((g == d) && (s == i)) ≡ v → (join_all g q 0 ts vs j ≡ Made (Some us) l → UsesLead c m us q (row g s [] vs) t u)
            → (if v then join_all g q 0 ts vs else no_join) j ≡ Made (Some us) l → UsesLead c m us q (App d i vs) t u
        inside j true v ih x =
            let both = and_parts (g == d) (s == i) v in
            let P : Tree → Type 0 = λ y. UsesLead c m us q y t u in
            let r : row g s [] vs ≡ App d i vs
            = ap (App g s) (trees_of-list_of vs) ∙ ap (λ y. App y s vs) (eqb-true g d both.0) ∙ ap (λ y. App d y vs) (eqb-true s i both.1) in
            subst P r (ih x)
        inside j false v ih x = absurd (cc)

    all_joined_leads : (ts vs : Trees) (g s : ℕ) (front : List Tree) (q : List ℕ) (i : ℕ) (us : List HypothesisUse) (t u : Tree) (k l : ℕ) → Fine base m t
        → FineTerms base m (list_of ts) → FineTerms base m (list_of vs) → i ≡ length front → at t q ≡ Some (row g s front ts) → IsSpecial c.places t q
        → join_all g q i ts vs k ≡ Made (Some us) l → put_all t us ≡ Ok u → UsesLead c m us q (row g s front vs) t u
    all_joined_leads none none g s front q i us t u k l ft fa fb n there special e p =
        nothing_leads c m (goals_sorted base m c.hypotheses fine) us q (row g s front none) t u ft there (sym (same_found [] us k l e).0) p
    all_joined_leads none (more b bs) g s front q i us t u k l ft fa fb n there special e p = absurd (cc)
    all_joined_leads (more a as') none g s front q i us t u k l ft fa fb n there special e p = absurd (cc)
    all_joined_leads (more a as') (more b bs) g s front q i us t u k l ft fa fb n there special e p =
        besides (is_same a b) (is_place c.places g i) (join (q ++ i ∷ []) a b) (join_all g q (i + 1) as' bs) k us l e
        (λ same rest.
        let P : Tree → Type 0 = λ y. UsesLead c m us q y t u in
        subst P (row_next g s front b bs)
        (all_joined_leads as' bs g s (front ++ b ∷ []) q (i + 1) us t u k l ft fa.1 fb.1
        (ap (λ j. j + 1) n ∙ sym (longer front b))
        (there ∙ ap (λ y. Some (row g s front (more y as'))) (same_here a b same) ∙ ap Some (sym (row_next g s front b as'))) special rest p))
        (λ place x.
        let P : List HypothesisUse → Type 0 = λ y. UsesLead c m y q (row g s front (more b bs)) t u in
        let N : ℕ → Type 0 = λ j. join (q ++ j ∷ []) a b k ≡ Made (Some x.us) x.between in
        let d = place_there c.places g (length front) (ap (is_place c.places g) (sym n) ∙ place) in
        let parts : InParts x.us x.vs t u = in_parts x.us x.vs t u (ap (put_all t) (sym x.whole) ∙ p) in
        let first = joined_leads a b (q ++ length front ∷ []) x.us t parts.between k x.between ft fa.0 fb.0
        (at_deeper q t g s _ (length front) a there (row_arg front a as'))
        (special_deeper c.places q t g s _ (length front) a special there d (row_arg front a as'))
        (subst N n x.first) parts.first in
        let y = beyond c m (goals_sorted base m c.hypotheses fine) x.us q g s front a b as' t parts.between there special first in
        let M : Tree → Type 0 = λ z. UsesLead c m x.vs q z parts.between u in
        subst P (sym x.whole)
        (both_lead c m (goals_sorted base m c.hypotheses fine) x.us x.vs q g s front b as' t parts.between u (row g s front (more b bs)) y
        (subst M (row_next g s front b bs)
        (all_joined_leads as' bs g s (front ++ b ∷ []) q (i + 1) x.vs parts.between u x.between l first.led.fine fa.1 fb.1
        (ap (λ j. j + 1) n ∙ sym (longer front b)) y.there y.special x.last parts.last))))
