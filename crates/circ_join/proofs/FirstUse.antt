-- Hypotheses that are tried on two terms, one place of the index after the other.
use Rattle.std.proofs.Common.{◌≡◌, ◌≤◌, ◌<◌, ℕ, zero, suc, ◌+◌, ◌*◌, ◌/◌, ◌%◌, ◌==◌, Bool, true, false, ◌||◌, if◌then◌else◌, List, [], ◌∷◌, map, length, Option, Some, None, refl, ap, sym, subst, ◌∙◌, arith}
use Rattle.std.specs.List.{slice_get}
use Rattle.std.proofs.lemmas.Option.{same_Some}
use Rattle.circ_term.specs.Tree.{Tree}
use Rattle.circ_term.specs.Subst.{Bound, substitution_of}
use Rattle.circ_theory.specs.Goal.{Goal}
use Rattle.circ_theory.specs.declared.way.Way.{Way}
use Rattle.circ_theory.specs.declared.way.Way.TheVariants.{Forth, Back}
use Rattle.circ_match.specs.Matcher.{has_variable}
use Rattle.circ_index.specs.Finding.{PairMatches, NoneMatches, FindsFirstPair, both_ways}
use Rattle.circ_rewrite.specs.Due.{terms_by}
use Rattle.circ_rewrite.specs.declared.fault.RewriteFault.{RewriteFault}
use Rattle.circ_conditional_norm.specs.Tries.{Normaliser, tried}
use Rattle.circ_conditional_norm.specs.Work.{Work, Made, Out, Past, or_next, map_found}
use Rattle.circ_tries.specs.Trying.{Hinders}
use Rattle.circ_tries.proofs.Faulting.{hinders_next, hinders_same}
use Rattle.circ_plain_search.specs.Joining.{HypothesisUse, hypothesis_variables}
use Rattle.circ_conditional_search.specs.Joining.{use_passing, pair_use_trying, first_use_trying}
use Rattle.circ_join.specs.Binding.{BindsSides}
use Rattle.circ_join.specs.Hypotheses.{both_sides, way_at}
use Rattle.circ_join.specs.Trying.{use_by}
use Rattle.circ_join.proofs.BothSides.{no_pair_match, pair_match, pair_same}

-- the places of the hypotheses
abbrev pub places : List Goal → List (Tree × Tree)
places H = both_ways (map both_sides H)

next_next : {A : Type 0} (w : Work (Option A)) (f g : ℕ → Work (Option A)) → or_next (or_next w f) g ≡ or_next w (λ l. or_next (f l) g)
next_next (Made (Some a) k) f g = refl
next_next (Made None k) f g = refl
next_next Out f g = refl
next_next (Past x k) f g = refl

-- a pair that is turned matches where the pair matches the two terms turned
turned : (g : Goal) (a b : Tree) (σ : List Bound) → PairMatches a b (g.right, g.left) (Some σ) → PairMatches b a (both_sides g) (Some σ)
turned g a b σ m = record { sorts = m.sorts; makes = (m.makes.1, m.makes.0); binds = λ n s. m.binds n s ∙ swap (has_variable g.right n s) (has_variable g.left n s) }
  where
    swap : (x y : Bool) → (x || y) ≡ (y || x)
    swap true true = refl
    swap true false = refl
    swap false true = refl
    swap false false = refl

module _ (f : Normaliser) (q : List ℕ) where
  no_use : (n : ℕ) (way : Way) (h : Goal) (new a b : Tree) (k : ℕ) → PairMatches a b (both_sides h) None → pair_use_trying f n way h q new a b k ≡ Made None k
  no_use n way h new a b k m =
      let u : Goal → Work (Option HypothesisUse) = λ x. pair_use_trying f n way x q new a b k in
      rw (no_pair_match h a b m) refl

  matched : (n : ℕ) (way : Way) (h : Goal) (new a b : Tree) (σ : List Bound) (k : ℕ) → PairMatches a b (both_sides h) (Some σ)
      → pair_use_trying f n way h q new a b k
      ≡ map_found (λ passes. use_passing n way q (terms_by (substitution_of σ) (hypothesis_variables h)) passes new) (tried (Some f) (substitution_of σ) h.conds k)
  matched n way h new a b σ k m =
      rw (pair_match h a b σ m)
      (ap (λ τ. map_found (λ passes. use_passing n way q (terms_by τ (hypothesis_variables h)) passes new) (tried (Some f) τ h.conds k)) (pair_same h a b σ m))

  module _ (a b : Tree) where
    -- the hypotheses from a place on
    abbrev pub uses_from : (n : ℕ) → List Goal → (place : ℕ) → (budget : ℕ) → Work (Option HypothesisUse)
    uses_from n [] p k = Made None k
    uses_from n (h ∷ H) zero k = first_use_trying f n (h ∷ H) q a b k
    uses_from n (h ∷ H) (suc zero) k = or_next (pair_use_trying f n Back h q b b a k) (first_use_trying f (n + 1) H q a b)
    uses_from n (h ∷ H) (suc (suc p)) k = uses_from (n + 1) H p k

    -- the one at a place
    abbrev use_at : (n : ℕ) → List Goal → (place : ℕ) → (budget : ℕ) → Work (Option HypothesisUse)
    use_at n [] p k = Made None k
    use_at n (h ∷ H) zero k = pair_use_trying f n Forth h q b a b k
    use_at n (h ∷ H) (suc zero) k = pair_use_trying f n Back h q b b a k
    use_at n (h ∷ H) (suc (suc p)) k = use_at (n + 1) H p k

    pub from_start : (n : ℕ) (H : List Goal) (k : ℕ) → uses_from n H 0 k ≡ first_use_trying f n H q a b k
    from_start n [] k = refl
    from_start n (h ∷ H) k = refl

    -- of these, none from the first place on matches before the second
    abbrev NoneFrom : List Goal → (from to : ℕ) → Type 0
    NoneFrom H from to = NoneMatches (PairMatches a b) (places H) from to

    forth_not : (h : Goal) (H : List Goal) (to : ℕ) → 1 ≤ to → NoneFrom (h ∷ H) 0 to → (n k : ℕ) → pair_use_trying f n Forth h q b a b k ≡ Made None k
    forth_not h H to e g = λ n k. no_use n Forth h b a b k (g 0 (both_sides h) (omega arith) (omega (arith, e)) refl)

    back_not : (h : Goal) (H : List Goal) (from to : ℕ) → from ≤ 1 → 2 ≤ to → NoneFrom (h ∷ H) from to → (n k : ℕ) → pair_use_trying f n Back h q b b a k ≡ Made None k
    back_not h H from to d e g = λ n k. no_use n Back h b b a k (λ τ s x. g 1 (h.right, h.left) (omega (arith, d)) (omega (arith, e)) refl τ s (x.1, x.0))

    later : (h : Goal) (H : List Goal) (from to : ℕ) → NoneFrom (h ∷ H) (suc (suc from)) (suc (suc to)) → NoneFrom H from to
    later h H from to g = λ n x low below at. g (suc (suc n)) x (omega (arith, low)) (omega (arith, below)) at

    from_first : (h : Goal) (H : List Goal) (from to : ℕ) → from ≤ 2 → NoneFrom (h ∷ H) from (suc (suc to)) → NoneFrom H 0 to
    from_first h H from to e g = λ n x low below at. g (suc (suc n)) x (omega (arith, e)) (omega (arith, below)) at

    -- the first hypothesis is not used, either way
    skip : (n : ℕ) (h : Goal) (H : List Goal) (k : ℕ) → pair_use_trying f n Forth h q b a b k ≡ Made None k → pair_use_trying f n Back h q b b a k ≡ Made None k
        → first_use_trying f n (h ∷ H) q a b k ≡ first_use_trying f (n + 1) H q a b k
    skip n h H k x y =
        ap (λ w. or_next (or_next w (pair_use_trying f n Back h q b b a)) (first_use_trying f (n + 1) H q a b)) x
        ∙ ap (λ w. or_next w (first_use_trying f (n + 1) H q a b)) y

    pub none_from : (n : ℕ) (H : List Goal) (p k : ℕ) → FindsFirstPair (map both_sides H) p a b None → uses_from n H p k ≡ Made None k
    none_from n [] p k g = refl
    none_from n (h ∷ H) zero k g =
        skip n h H k (forth_not h H (length (places (h ∷ H))) (omega arith) g n k) (back_not h H 0 (length (places (h ∷ H))) (omega arith) (omega arith) g n k)
        ∙ sym (from_start (n + 1) H k) ∙ none_from (n + 1) H 0 k (from_first h H 0 (length (places H)) (omega arith) g)
    none_from n (h ∷ H) (suc zero) k g =
        ap (λ w. or_next w (first_use_trying f (n + 1) H q a b)) (back_not h H 1 (length (places (h ∷ H))) (omega arith) (omega arith) g n k)
        ∙ sym (from_start (n + 1) H k) ∙ none_from (n + 1) H 0 k (from_first h H 1 (length (places H)) (omega arith) g)
    none_from n (h ∷ H) (suc (suc p)) k g = none_from (n + 1) H p k (later h H p (length (places H)) g)

    -- the rest after the place that is found
    from_next : (n : ℕ) (H : List Goal) (w : Work (Option HypothesisUse)) → or_next w (first_use_trying f n H q a b) ≡ or_next w (uses_from n H 0)
    from_next n H w = ap (or_next w) (λ i l. sym (from_start n H l) i)

    pub found_from : (n : ℕ) (H : List Goal) (p m k : ℕ) (σ : List Bound) → FindsFirstPair (map both_sides H) p a b (Some (m, σ))
        → uses_from n H p k ≡ or_next (use_at n H m k) (uses_from n H (suc m))
    found_from n [] p m k σ g = absurd (let z = g.1.1 in cc)
    found_from n (h ∷ H) zero zero k σ g =
        next_next (pair_use_trying f n Forth h q b a b k) (pair_use_trying f n Back h q b b a) (first_use_trying f (n + 1) H q a b)
    found_from n (h ∷ H) zero (suc zero) k σ g =
        ap (λ w. or_next (or_next w (pair_use_trying f n Back h q b b a)) (first_use_trying f (n + 1) H q a b)) (forth_not h H 1 (omega arith) g.2 n k)
        ∙ from_next (n + 1) H (pair_use_trying f n Back h q b b a k)
    found_from n (h ∷ H) zero (suc (suc m)) k σ g =
        skip n h H k (forth_not h H (suc (suc m)) (omega arith) g.2 n k) (back_not h H 0 (suc (suc m)) (omega arith) (omega arith) g.2 n k)
        ∙ sym (from_start (n + 1) H k) ∙ found_from (n + 1) H 0 m k σ (omega arith, g.1, from_first h H 0 m (omega arith) g.2)
    found_from n (h ∷ H) (suc zero) zero k σ g = absurd (omega (arith, g.0))
    found_from n (h ∷ H) (suc zero) (suc zero) k σ g = from_next (n + 1) H (pair_use_trying f n Back h q b b a k)
    found_from n (h ∷ H) (suc zero) (suc (suc m)) k σ g =
        ap (λ w. or_next w (first_use_trying f (n + 1) H q a b)) (back_not h H 1 (suc (suc m)) (omega arith) (omega arith) g.2 n k)
        ∙ sym (from_start (n + 1) H k) ∙ found_from (n + 1) H 0 m k σ (omega arith, g.1, from_first h H 1 m (omega arith) g.2)
    found_from n (h ∷ H) (suc (suc p)) zero k σ g = absurd (omega (arith, g.0))
    found_from n (h ∷ H) (suc (suc p)) (suc zero) k σ g = absurd (omega (arith, g.0))
    found_from n (h ∷ H) (suc (suc p)) (suc (suc m)) k σ g = found_from (n + 1) H p m k σ (omega (arith, g.0), g.1, later h H p m g.2)

    -- ---- what is found at a place

    -- the hypothesis at a place of the index, with what is matched there
    pub record IsFound (H : List Goal) (m : ℕ) (σ : List Bound) (h : Goal) : Type 0 where
      pub there : slice_get H (m / 2) ≡ Some h
      pub binds : BindsSides h σ

    -- the same use of a hypothesis with another number
    abbrev numbered : (n m : ℕ) → Goal → List Bound → ℕ → Work (Option HypothesisUse)
    numbered n m h σ k =
        map_found (λ passes. use_passing (n + m / 2) (way_at m) q (terms_by (substitution_of σ) (hypothesis_variables h)) passes b) (tried (Some f) (substitution_of σ) h.conds k)

    next_numbered : (n m : ℕ) (h : Goal) (σ : List Bound) (k : ℕ) → numbered (n + 1) m h σ k ≡ numbered n (suc (suc m)) h σ k
    next_numbered n m h σ k =
        let number : n + 1 + m / 2 ≡ n + suc (suc m) / 2 = omega arith in
        let rest : m % 2 ≡ suc (suc m) % 2 = omega arith in
        let made : ℕ → Way → Work (Option HypothesisUse) = λ x w.
        map_found (λ passes. use_passing x w q (terms_by (substitution_of σ) (hypothesis_variables h)) passes b) (tried (Some f) (substitution_of σ) h.conds k) in
        ap (λ x. made x (way_at m)) number ∙ ap (λ x. made (n + suc (suc m) / 2) (if x == 0 then Forth else Back)) rest

    found_at : (n : ℕ) (H : List Goal) (m k : ℕ) (σ : List Bound) (h : Goal) → ((x : Tree × Tree) × (slice_get (places H) m ≡ Some x) × PairMatches a b x (Some σ))
        → slice_get H (m / 2) ≡ Some h → BindsSides h σ × (use_at n H m k ≡ numbered n m h σ k)
    found_at n [] m k σ h g e = absurd (let z = g.1 in cc)
    found_at n (x ∷ H) zero k σ h g e =
        let here : PairMatches a b (both_sides x) (Some σ) = subst (λ y. PairMatches a b y (Some σ)) (sym (same_Some (both_sides x) g.0 g.1)) g.2 in
        let is : x ≡ h = same_Some x h e in
        let number : n ≡ n + 0 / 2 = omega arith in (
          subst (λ y. BindsSides y σ) is here.binds,
          matched n Forth x b a b σ k here ∙ ap (λ y. map_found (λ passes. use_passing y Forth q (terms_by (substitution_of σ) (hypothesis_variables x)) passes b) (tried (Some f) (substitution_of σ) x.conds k)) number
              ∙ ap (λ y. numbered n 0 y σ k) is,
        )
    found_at n (x ∷ H) (suc zero) k σ h g e =
        let there : PairMatches a b (x.right, x.left) (Some σ) = subst (λ y. PairMatches a b y (Some σ)) (sym (same_Some (x.right, x.left) g.0 g.1)) g.2 in
        let here = turned x a b σ there in
        let is : x ≡ h = same_Some x h e in
        let number : n ≡ n + 1 / 2 = omega arith in (
          subst (λ y. BindsSides y σ) is here.binds,
          matched n Back x b b a σ k here ∙ ap (λ y. map_found (λ passes. use_passing y Back q (terms_by (substitution_of σ) (hypothesis_variables x)) passes b) (tried (Some f) (substitution_of σ) x.conds k)) number
              ∙ ap (λ y. numbered n 1 y σ k) is,
        )
    found_at n (x ∷ H) (suc (suc m)) k σ h g e =
        let half : suc (suc m) / 2 ≡ suc (m / 2) = omega arith in
        let there : slice_get H (m / 2) ≡ Some h = sym (ap (slice_get (x ∷ H)) half) ∙ e in
        let rest = found_at (n + 1) H m k σ h (g.0, g.1, g.2) there in
        (rest.0, rest.1 ∙ next_numbered n m h σ k)

    pub used_at : (H : List Goal) (p m k : ℕ) (σ : List Bound) (h : Goal) → FindsFirstPair (map both_sides H) p a b (Some (m, σ)) → slice_get H (m / 2) ≡ Some h
        → BindsSides h σ × (use_at 0 H m k ≡ use_by f m h q b (substitution_of σ) k)
    used_at H p m k σ h g e =
        let x = found_at 0 H m k σ h g.1 e in
        let number : 0 + m / 2 ≡ m / 2 = omega arith in
        (x.0, x.1 ∙ ap (λ y. map_found (λ passes. use_passing y (way_at m) q (terms_by (substitution_of σ) (hypothesis_variables h)) passes b) (tried (Some f) (substitution_of σ) h.conds k)) number)

    -- ---- what comes of the use that is found

    pub found_is : (H : List Goal) (p m k : ℕ) (σ : List Bound) (h : Goal) → FindsFirstPair (map both_sides H) p a b (Some (m, σ)) → slice_get H (m / 2) ≡ Some h
        → uses_from 0 H p k ≡ or_next (use_by f m h q b (substitution_of σ) k) (uses_from 0 H (m + 1))
    found_is H p m k σ h g e =
        let next : suc m ≡ m + 1 = omega arith in
        found_from 0 H p m k σ g ∙ ap (λ w. or_next w (uses_from 0 H (suc m))) (used_at H p m k σ h g e).1
        ∙ ap (λ n. or_next (use_by f m h q b (substitution_of σ) k) (uses_from 0 H n)) next

    pub found_hinders : (H : List Goal) (p m k : ℕ) (σ : List Bound) (h : Goal) → FindsFirstPair (map both_sides H) p a b (Some (m, σ)) → slice_get H (m / 2) ≡ Some h
        → (e : RewriteFault) (l : ℕ) → Hinders e l (use_by f m h q b (substitution_of σ) k) → Hinders e l (uses_from 0 H p k)
    found_hinders H p m k σ h g x e l y =
        let w = use_by f m h q b (substitution_of σ) k in
        hinders_same e l (uses_from 0 H p k) (or_next w (uses_from 0 H (m + 1))) (found_is H p m k σ h g x) (hinders_next (uses_from 0 H (m + 1)) e l w y)

    pub found_applies : (H : List Goal) (p m k : ℕ) (σ : List Bound) (h : Goal) → FindsFirstPair (map both_sides H) p a b (Some (m, σ)) → slice_get H (m / 2) ≡ Some h
        → (u : HypothesisUse) (l : ℕ) → use_by f m h q b (substitution_of σ) k ≡ Made (Some u) l → uses_from 0 H p k ≡ Made (Some u) l
    found_applies H p m k σ h g x u l y = found_is H p m k σ h g x ∙ ap (λ w. or_next w (uses_from 0 H (m + 1))) y

    pub found_fails : (H : List Goal) (p m k : ℕ) (σ : List Bound) (h : Goal) → FindsFirstPair (map both_sides H) p a b (Some (m, σ)) → slice_get H (m / 2) ≡ Some h
        → (l : ℕ) → use_by f m h q b (substitution_of σ) k ≡ Made None l → uses_from 0 H p k ≡ uses_from 0 H (m + 1) l
    found_fails H p m k σ h g x l y = found_is H p m k σ h g x ∙ ap (λ w. or_next w (uses_from 0 H (m + 1))) y

-- the hypothesis at a place
pub hypothesis_there : (H : List Goal) (m : ℕ) → m < 2 * length H → (h : Goal) × (slice_get H (m / 2) ≡ Some h)
hypothesis_there H m e = there H (m / 2) (omega (arith, e))
  where
    there : (gs : List Goal) (n : ℕ) → n < length gs → (h : Goal) × (slice_get gs n ≡ Some h)
    there [] n h = absurd (omega (arith, h))
    there (g ∷ gs) zero h = (g, refl)
    there (g ∷ gs) (suc n) h = there gs n (omega (arith, h))
