-- Rules that are tried on a term, one place of the index after the other.
use Rattle.std.proofs.Common.{◌≡◌, ◌≤◌, ◌<◌, ℕ, zero, suc, ◌+◌, List, [], ◌∷◌, ◌++◌, drop, map, length, get_or, Option, Some, None, refl, ap, sym, subst, ◌∙◌, arith}
use Rattle.std.specs.List.{slice_get}
use Rattle.std.proofs.lemmas.Option.{same_Some, slice_get_within, slice_get_read}
use Rattle.circ_term.specs.Tree.{Tree}
use Rattle.circ_term.specs.Subst.{Bound, substitution_of}
use Rattle.circ_index.specs.Finding.{LeftMatches, NoneMatches, FindsFirst}
use Rattle.circ_rewrite.specs.Matching.{matching}
use Rattle.circ_rewrite.specs.declared.fault.RewriteFault.{RewriteFault}
use Rattle.circ_rewrite.proofs.MatchingFacts.{matches-instance, no_match, matcher_agrees}
use Rattle.circ_conditional_norm.specs.Tries.{Normaliser}
use Rattle.circ_conditional_norm.specs.Work.{Work, Made, Out, Past, or_next}
use Rattle.circ_tries.specs.Trying.{Hinders}
use Rattle.circ_tries.proofs.Faulting.{hinders_next, hinders_same}
use Rattle.circ_plain_search.specs.Joining.{HypothesisUse}
use Rattle.circ_attempt.specs.Rules.{HypothesisRule, old_side, rule_use, first_rule_use}
use Rattle.circ_own_rules.specs.Rules.{plain_rule, plain_rules}
use Rattle.circ_own_rules.specs.Using.{rule_use_by, BindsOld}
use Rattle.circ_own_rules.specs.declared.rule.HypothesisRule.{HypothesisRule as TheRule}

-- what is found is one of the rules
pub found_within : (L : List HypothesisRule) (t : Tree) (from n : ℕ) (σ : List Bound) → FindsFirst (map old_side L) from t (Some (n, σ)) → n < length L
found_within L t from n σ f = let k = slice_get_within (map old_side L) n f.1.0 f.1.1 in omega (arith, k, same L)
  where
    same : (rs : List HypothesisRule) → length (map old_side rs) ≡ length rs
    same [] = refl
    same (r ∷ rs) = ap suc (same rs)

-- rules are as many, and stand at the same places, as contracts see them
as_many : (rs : List TheRule) → length (plain_rules rs) ≡ length rs
as_many [] = refl
as_many (r ∷ rs) = ap suc (as_many rs)

seen_there : (rs : List TheRule) (n : ℕ) (r : TheRule) → slice_get rs n ≡ Some r → slice_get (plain_rules rs) n ≡ Some (plain_rule r)
seen_there [] n r e = absurd (cc)
seen_there (x ∷ rs) zero r e = ap (λ y. Some (plain_rule y)) (same_Some x r e)
seen_there (x ∷ rs) (suc n) r e = seen_there rs n r e

pub rule_within : (L : List HypothesisRule) (rs : List TheRule) (n : ℕ) → plain_rules rs ≡ L → n < length L → n < length rs
rule_within L rs n e h = omega (arith, h, as_many rs, ap length e)

-- the rule at a place, as contracts see it
pub rule_there : (L : List HypothesisRule) (rs : List TheRule) (n : ℕ) (r : TheRule) → plain_rules rs ≡ L → n < length L → r ≡ get_or rs n r → slice_get L n ≡ Some (plain_rule r)
rule_there L rs n r e h a = ap (λ xs. slice_get xs n) (sym e) ∙ seen_there rs n r (slice_get_read rs (length rs) n r refl (rule_within L rs n e h) a)

module _ (f : Normaliser) (q : List ℕ) (t : Tree) where
  -- of the sides that are replaced, none from the first place on matches before the second
  abbrev NoneFrom : List HypothesisRule → (from to : ℕ) → Type 0
  NoneFrom L from to = NoneMatches (LeftMatches t) (map old_side L) from to

  no_use : (r : HypothesisRule) (k : ℕ) → LeftMatches t (old_side r) None → rule_use f r q t k ≡ Made None k
  no_use r k h = rw (no_match (old_side r) t h) refl

  matched : (r : HypothesisRule) (σ : List Bound) (k : ℕ) → LeftMatches t (old_side r) (Some σ) → rule_use f r q t k ≡ rule_use_by f r q t (substitution_of σ) k
  matched r σ k m =
      let same : matching (old_side r) t ≡ substitution_of σ = λ i n s. sym (matcher_agrees (old_side r) t σ m n s) i in
      rw (matches-instance (substitution_of σ) m.sorts (old_side r) t m.makes) (ap (λ τ. rule_use_by f r q t τ k) same)

  first_not : (r : HypothesisRule) (L : List HypothesisRule) (to : ℕ) → 1 ≤ to → NoneFrom (r ∷ L) 0 to → (k : ℕ) → rule_use f r q t k ≡ Made None k
  first_not r L to e g = λ k. no_use r k (g 0 (old_side r) (omega arith) (omega (arith, e)) refl)

  later : (r : HypothesisRule) (L : List HypothesisRule) (from to : ℕ) → NoneFrom (r ∷ L) (suc from) (suc to) → NoneFrom L from to
  later r L from to g = λ n x low below at. g (suc n) x (omega (arith, low)) (omega (arith, below)) at

  behind_first : (r : HypothesisRule) (L : List HypothesisRule) (to : ℕ) → NoneFrom (r ∷ L) 0 (suc to) → NoneFrom L 0 to
  behind_first r L to g = λ n x low below at. g (suc n) x (omega arith) (omega (arith, below)) at

  pub none_from : (L : List HypothesisRule) (from k : ℕ) → FindsFirst (map old_side L) from t None → first_rule_use f (drop from L) q t k ≡ Made None k
  none_from [] zero k g = refl
  none_from [] (suc from) k g = refl
  none_from (r ∷ L) zero k g =
      ap (λ w. or_next w (first_rule_use f L q t)) (first_not r L (length (map old_side (r ∷ L))) (omega arith) g k)
      ∙ none_from L 0 k (behind_first r L (length (map old_side L)) g)
  none_from (r ∷ L) (suc from) k g = none_from L from k (later r L from (length (map old_side L)) g)

  pub found_from : (L : List HypothesisRule) (from n k : ℕ) (σ : List Bound) (r : HypothesisRule) → FindsFirst (map old_side L) from t (Some (n, σ)) → slice_get L n ≡ Some r
      → BindsOld r σ × (first_rule_use f (drop from L) q t k ≡ or_next (rule_use_by f r q t (substitution_of σ) k) (first_rule_use f (drop (suc n) L) q t))
  found_from [] from n k σ r g e = absurd (let z = g.1.1 in cc)
  found_from (x ∷ L) zero zero k σ r g e =
      let here : LeftMatches t (old_side x) (Some σ) = subst (λ y. LeftMatches t y (Some σ)) (sym (same_Some (old_side x) g.1.0 g.1.1)) g.1.2 in
      let is : x ≡ r = same_Some x r e in (
        subst (λ y. BindsOld y σ) is here.binds,
        ap (λ w. or_next w (first_rule_use f L q t)) (matched x σ k here ∙ ap (λ y. rule_use_by f y q t (substitution_of σ) k) is),
      )
  found_from (x ∷ L) zero (suc n) k σ r g e =
      let rest = found_from L 0 n k σ r (omega arith, g.1, behind_first x L n g.2) e in
      (rest.0, ap (λ w. or_next w (first_rule_use f L q t)) (first_not x L (suc n) (omega arith) g.2 k) ∙ rest.1)
  found_from (x ∷ L) (suc from) zero k σ r g e = absurd (omega (arith, g.0))
  found_from (x ∷ L) (suc from) (suc n) k σ r g e = found_from L from n k σ r (omega (arith, g.0), g.1, later x L from n g.2) e

  -- ---- what comes of the use that is found

  module _ (L : List HypothesisRule) (from n k : ℕ) (σ : List Bound) (r : HypothesisRule) (g : FindsFirst (map old_side L) from t (Some (n, σ))) (x : slice_get L n ≡ Some r) where
    abbrev this : Work (Option HypothesisUse)
    this = rule_use_by f r q t (substitution_of σ) k

    abbrev rest : ℕ → Work (Option HypothesisUse)
    rest = first_rule_use f (drop (n + 1) L) q t

    found_is : first_rule_use f (drop from L) q t k ≡ or_next this rest
    found_is =
        let next : suc n ≡ n + 1 = omega arith in
        (found_from L from n k σ r g x).1 ∙ ap (λ m. or_next this (first_rule_use f (drop m L) q t)) next

    pub found_hinders : (e : RewriteFault) (l : ℕ) → Hinders e l this → Hinders e l (first_rule_use f (drop from L) q t k)
    found_hinders e l y = hinders_same e l (first_rule_use f (drop from L) q t k) (or_next this rest) found_is (hinders_next rest e l this y)

    pub found_applies : (u : HypothesisUse) (l : ℕ) → this ≡ Made (Some u) l → first_rule_use f (drop from L) q t k ≡ Made (Some u) l
    found_applies u l y = found_is ∙ ap (λ w. or_next w rest) y

    pub found_fails : (l : ℕ) → this ≡ Made None l → first_rule_use f (drop from L) q t k ≡ rest l
    found_fails l y = found_is ∙ ap (λ w. or_next w rest) y

  -- ---- of two lists, one behind the other

  next_next : (w : Work (Option HypothesisUse)) (g h : ℕ → Work (Option HypothesisUse)) → or_next (or_next w g) h ≡ or_next w (λ l. or_next (g l) h)
  next_next (Made (Some a) k) g h = refl
  next_next (Made None k) g h = refl
  next_next Out g h = refl
  next_next (Past x k) g h = refl

  module _ (own : List HypothesisRule) where
    abbrev behind : ℕ → Work (Option HypothesisUse)
    behind = first_rule_use f own q t

    both_lists : (L : List HypothesisRule) (k : ℕ) → first_rule_use f (L ++ own) q t k ≡ or_next (first_rule_use f L q t k) behind
    both_lists [] k = refl
    both_lists (r ∷ L) k =
        ap (or_next (rule_use f r q t k)) (λ i l. both_lists L l i) ∙ sym (next_next (rule_use f r q t k) (first_rule_use f L q t) behind)

    module _ (L : List HypothesisRule) (k : ℕ) where
      pub first_hinders : (e : RewriteFault) (l : ℕ) → Hinders e l (first_rule_use f L q t k) → Hinders e l (first_rule_use f (L ++ own) q t k)
      first_hinders e l y =
          hinders_same e l (first_rule_use f (L ++ own) q t k) (or_next (first_rule_use f L q t k) behind) (both_lists L k)
          (hinders_next behind e l (first_rule_use f L q t k) y)

      pub first_applies : (u : HypothesisUse) (l : ℕ) → first_rule_use f L q t k ≡ Made (Some u) l → first_rule_use f (L ++ own) q t k ≡ Made (Some u) l
      first_applies u l y = both_lists L k ∙ ap (λ w. or_next w behind) y

      pub first_fails : (l : ℕ) → first_rule_use f L q t k ≡ Made None l → first_rule_use f (L ++ own) q t k ≡ behind l
      first_fails l y = both_lists L k ∙ ap (λ w. or_next w behind) y
