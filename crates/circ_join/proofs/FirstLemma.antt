-- Lemmas that are tried on a term, one place of the index after the other.
use Rattle.std.proofs.Common.{◌≡◌, ◌≤◌, ◌<◌, ℕ, zero, suc, ◌+◌, List, [], ◌∷◌, drop, map, length, Some, None, refl, ap, sym, subst, ◌∙◌, arith}
use Rattle.std.specs.List.{slice_get, AllByRecursion}
use Rattle.std.specs.List.Sorted.{IsStrictlySortedBy}
use Rattle.std.proofs.lemmas.Option.{same_Some, slice_get_within}
use Rattle.circ_term.specs.Tree.{Tree}
use Rattle.circ_term.specs.Substitution.{instance}
use Rattle.circ_term.specs.Subst.{Bound, bound_cmp, substitution_of}
use Rattle.circ_theory.specs.declared.way.Way.TheVariants.{Forth}
use Rattle.circ_theory.proofs.BoundTerms.{bound_terms, variables_apart}
use Rattle.circ_theory.specs.Variables.{variables_of}
use Rattle.circ_index.specs.Finding.{LeftMatches, NoneMatches, FindsFirst}
use Rattle.circ_rewrite.specs.Due.{IsRewriteRule, rule_goal, rule_variables, terms_by}
use Rattle.circ_rewrite.specs.Matching.{matching}
use Rattle.circ_rewrite.specs.declared.fault.RewriteFault.{RewriteFault}
use Rattle.circ_rewrite.specs.declared.parts.Rule.{Rule}
use Rattle.circ_rewrite.proofs.MatchingFacts.{matches-instance, no_match, matcher_agrees}
use Rattle.circ_rewrite.proofs.RuleTerms.{of_left}
use Rattle.circ_conditional_norm.specs.Tries.{Normaliser, tried}
use Rattle.circ_conditional_norm.specs.Work.{Made, or_next, map_found}
use Rattle.circ_tries.specs.Trying.{Hinders}
use Rattle.circ_tries.proofs.Faulting.{hinders_next, hinders_same}
use Rattle.circ_plain_search.specs.Joining.{HypothesisUse, rule_number}
use Rattle.circ_conditional_search.specs.Joining.{use_passing, lemma_use_trying, first_lemma_trying}
use Rattle.circ_join.specs.Binding.{BindsLeft}
use Rattle.circ_join.specs.Lemmas.{left_of}
use Rattle.circ_join.specs.Trying.{lemma_use_by}

-- where just the variables of the left side are bound, the bound terms are the rule's terms
pub lemma_terms : (r : Rule) (σ : List Bound) → IsRewriteRule r → BindsLeft r σ → IsStrictlySortedBy bound_cmp σ
    → map (λ b. b.term) σ ≡ terms_by (substitution_of σ) (rule_variables r)
lemma_terms r σ ok binds o = bound_terms σ (variables_of (rule_goal r)) o (variables_apart (rule_goal r)) (λ n s. binds n s ∙ of_left r ok n s)

-- what is found is one of the lemmas
pub found_within : (L : List Rule) (t : Tree) (from n : ℕ) (σ : List Bound) → FindsFirst (map left_of L) from t (Some (n, σ)) → n < length L
found_within L t from n σ f = let k = slice_get_within (map left_of L) n f.1.0 f.1.1 in omega (arith, k, same L)
  where
    same : (rs : List Rule) → length (map left_of rs) ≡ length rs
    same [] = refl
    same (r ∷ rs) = ap suc (same rs)

module _ (f : Normaliser) (q : List ℕ) (t : Tree) where
  -- of the left sides, none from the first place on matches before the second
  abbrev NoneFrom : List Rule → (from to : ℕ) → Type 0
  NoneFrom L from to = NoneMatches (LeftMatches t) (map left_of L) from to

  no_use : (r : Rule) (k : ℕ) → LeftMatches t r.left None → lemma_use_trying f r q t k ≡ Made None k
  no_use r k h = rw (no_match r.left t h) refl

  matched : (r : Rule) (σ : List Bound) (k : ℕ) → LeftMatches t r.left (Some σ) → lemma_use_trying f r q t k ≡ lemma_use_by f r q (substitution_of σ) k
  matched r σ k m =
      let same : matching r.left t ≡ substitution_of σ = λ i n s. sym (matcher_agrees r.left t σ m n s) i in
      rw (matches-instance (substitution_of σ) m.sorts r.left t m.makes)
      (ap (λ τ. map_found (λ passes. use_passing (rule_number r.name) Forth q (terms_by τ (rule_variables r)) passes (instance τ r.right)) (tried (Some f) τ r.conds k)) same)

  first_not : (r : Rule) (L : List Rule) (to : ℕ) → 1 ≤ to → NoneFrom (r ∷ L) 0 to → (k : ℕ) → lemma_use_trying f r q t k ≡ Made None k
  first_not r L to e g = λ k. no_use r k (g 0 r.left (omega arith) (omega (arith, e)) refl)

  later : (r : Rule) (L : List Rule) (from to : ℕ) → NoneFrom (r ∷ L) (suc from) (suc to) → NoneFrom L from to
  later r L from to g = λ n x low below at. g (suc n) x (omega (arith, low)) (omega (arith, below)) at

  behind_first : (r : Rule) (L : List Rule) (to : ℕ) → NoneFrom (r ∷ L) 0 (suc to) → NoneFrom L 0 to
  behind_first r L to g = λ n x low below at. g (suc n) x (omega arith) (omega (arith, below)) at

  pub none_from : (L : List Rule) (from k : ℕ) → FindsFirst (map left_of L) from t None → first_lemma_trying f (drop from L) q t k ≡ Made None k
  none_from [] zero k g = refl
  none_from [] (suc from) k g = refl
  none_from (r ∷ L) zero k g =
      ap (λ w. or_next w (first_lemma_trying f L q t)) (first_not r L (length (map left_of (r ∷ L))) (omega arith) g k)
      ∙ none_from L 0 k (behind_first r L (length (map left_of L)) g)
  none_from (r ∷ L) (suc from) k g = none_from L from k (later r L from (length (map left_of L)) g)

  pub found_from : (L : List Rule) (from n k : ℕ) (σ : List Bound) (r : Rule) → FindsFirst (map left_of L) from t (Some (n, σ)) → slice_get L n ≡ Some r
      → BindsLeft r σ × (first_lemma_trying f (drop from L) q t k ≡ or_next (lemma_use_by f r q (substitution_of σ) k) (first_lemma_trying f (drop (suc n) L) q t))
  found_from [] from n k σ r g e = absurd (let z = g.1.1 in cc)
  found_from (x ∷ L) zero zero k σ r g e =
      let here : LeftMatches t x.left (Some σ) = subst (λ y. LeftMatches t y (Some σ)) (sym (same_Some x.left g.1.0 g.1.1)) g.1.2 in
      let is : x ≡ r = same_Some x r e in (
        subst (λ y. BindsLeft y σ) is here.binds,
        ap (λ w. or_next w (first_lemma_trying f L q t)) (matched x σ k here ∙ ap (λ y. lemma_use_by f y q (substitution_of σ) k) is),
      )
  found_from (x ∷ L) zero (suc n) k σ r g e =
      let rest = found_from L 0 n k σ r (omega arith, g.1, behind_first x L n g.2) e in
      (rest.0, ap (λ w. or_next w (first_lemma_trying f L q t)) (first_not x L (suc n) (omega arith) g.2 k) ∙ rest.1)
  found_from (x ∷ L) (suc from) zero k σ r g e = absurd (omega (arith, g.0))
  found_from (x ∷ L) (suc from) (suc n) k σ r g e = found_from L from n k σ r (omega (arith, g.0), g.1, later x L from n g.2) e

  -- ---- what comes of the use that is found

  found_is : (L : List Rule) (from n k : ℕ) (σ : List Bound) (r : Rule) → FindsFirst (map left_of L) from t (Some (n, σ)) → slice_get L n ≡ Some r
      → first_lemma_trying f (drop from L) q t k ≡ or_next (lemma_use_by f r q (substitution_of σ) k) (first_lemma_trying f (drop (n + 1) L) q t)
  found_is L from n k σ r g x =
      let next : suc n ≡ n + 1 = omega arith in
      (found_from L from n k σ r g x).1 ∙ ap (λ m. or_next (lemma_use_by f r q (substitution_of σ) k) (first_lemma_trying f (drop m L) q t)) next

  pub found_hinders : (L : List Rule) (from n k : ℕ) (σ : List Bound) (r : Rule) → FindsFirst (map left_of L) from t (Some (n, σ)) → slice_get L n ≡ Some r
      → (e : RewriteFault) (l : ℕ) → Hinders e l (lemma_use_by f r q (substitution_of σ) k) → Hinders e l (first_lemma_trying f (drop from L) q t k)
  found_hinders L from n k σ r g x e l y =
      let w = lemma_use_by f r q (substitution_of σ) k in
      let rest = first_lemma_trying f (drop (n + 1) L) q t in
      hinders_same e l (first_lemma_trying f (drop from L) q t k) (or_next w rest) (found_is L from n k σ r g x) (hinders_next rest e l w y)

  pub found_applies : (L : List Rule) (from n k : ℕ) (σ : List Bound) (r : Rule) → FindsFirst (map left_of L) from t (Some (n, σ)) → slice_get L n ≡ Some r
      → (u : HypothesisUse) (l : ℕ) → lemma_use_by f r q (substitution_of σ) k ≡ Made (Some u) l → first_lemma_trying f (drop from L) q t k ≡ Made (Some u) l
  found_applies L from n k σ r g x u l y = found_is L from n k σ r g x ∙ ap (λ w. or_next w (first_lemma_trying f (drop (n + 1) L) q t)) y

  pub found_fails : (L : List Rule) (from n k : ℕ) (σ : List Bound) (r : Rule) → FindsFirst (map left_of L) from t (Some (n, σ)) → slice_get L n ≡ Some r
      → (l : ℕ) → lemma_use_by f r q (substitution_of σ) k ≡ Made None l → first_lemma_trying f (drop from L) q t k ≡ first_lemma_trying f (drop (n + 1) L) q t l
  found_fails L from n k σ r g x l y = found_is L from n k σ r g x ∙ ap (λ w. or_next w (first_lemma_trying f (drop (n + 1) L) q t)) y

-- the lemma at a place
pub lemma_there : (L : List Rule) (n : ℕ) → n < length L → (r : Rule) × (slice_get L n ≡ Some r)
lemma_there [] n h = absurd (omega (arith, h))
lemma_there (r ∷ L) zero h = (r, refl)
lemma_there (r ∷ L) (suc n) h = lemma_there L n (omega (arith, h))

-- each lemma rewrites
pub rule_rewrites : (L : List Rule) (r : Rule) (n : ℕ) → AllByRecursion IsRewriteRule L → slice_get L n ≡ Some r → IsRewriteRule r
rule_rewrites [] r n ok e = absurd (cc)
rule_rewrites (x ∷ L) r zero ok e = subst IsRewriteRule (same_Some x r e) ok.0
rule_rewrites (x ∷ L) r (suc n) ok e = rule_rewrites L r n ok.1 e
