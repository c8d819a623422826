-- The substitution of a certificate: the one that matching gives for an instance.
use Rattle.std.proofs.Common.{◌≡◌, ℕ, List, [], ◌∷◌, Bool, true, false, nat_lt, length, if◌then◌else◌, Some, None, unwrap_or, refl, ap, sym, ◌∙◌, subst}
use Rattle.std.proofs.lemmas.Bool.{lt-ltb, ltb-true}
use Rattle.circ_term.specs.Tree.{Tree, Trees, Var, App, none, more, sort_of}
use Rattle.circ_term.specs.Substitution.{Substitution, KeepsSorts, instance, instances}
use Rattle.circ_theory.specs.Signature.{Signature, IsWellSorted, HaveSorts, IsSubstitution}
use Rattle.circ_match.specs.Matcher.{has_variable}
use Rattle.circ_match.proofs.Variables.{instance-variable}
use Rattle.circ_rewrite.specs.Matching.{matching}
use Rattle.circ_rewrite.proofs.MatchingFacts.{image-instance}
use Rattle.circ_soundness.proofs.Changing.{DifferAt}

-- a substitution of well-sorted terms, changed to keep the numbers that are no sorts
abbrev pub masked : Signature → Substitution → Substitution
masked sig σ = λ n s. if nat_lt s (length sig.sorts) then σ n s else Var n s

pub masked_keeps : (sig : Signature) (σ : Substitution) → IsSubstitution sig σ → KeepsSorts (masked sig σ)
masked_keeps sig σ i n s = go (nat_lt s (length sig.sorts)) refl
  where
    go : (b : Bool) → nat_lt s (length sig.sorts) ≡ b → sort_of (if b then σ n s else Var n s) ≡ s
    go true e = (i n s (ltb-true s (length sig.sorts) e)).0
    go false e = refl

pub masked_sorted : (sig : Signature) (σ : Substitution) → IsSubstitution sig σ → IsSubstitution sig (masked sig σ)
masked_sorted sig σ i n s h = let x = lt-ltb s (length sig.sorts) h in rw x (i n s h)

mutual
  pub masked_same : (sig : Signature) (σ : Substitution) (t : Tree) → IsWellSorted sig t → instance (masked sig σ) t ≡ instance σ t
  masked_same sig σ (Var n s) w = let x = lt-ltb s (length sig.sorts) w in rw x refl
  masked_same sig σ (App f s ts) w = ap (App f s) (masked_sames sig σ ts w.0.args w.3)

  pub masked_sames : (sig : Signature) (σ : Substitution) (ts : Trees) (ss : List ℕ) → HaveSorts sig ts ss → instances (masked sig σ) ts ≡ instances σ ts
  masked_sames sig σ none ss h = refl
  masked_sames sig σ (more t ts) [] h = absurd h
  masked_sames sig σ (more t ts) (s ∷ ss) h =
      ap (λ x. more x (instances (masked sig σ) ts)) (masked_same sig σ t h.1) ∙ ap (more (instance σ t)) (masked_sames sig σ ts ss h.2)

-- what matching gives for an instance
pub matching_is : (τ : Substitution) → KeepsSorts τ → (p : Tree) (n s : ℕ) → matching p (instance τ p) n s ≡ (if has_variable p n s then τ n s else Var n s)
matching_is τ k p n s = ap (λ o. unwrap_or o (Var n s)) (image-instance τ k p n s) ∙ go (has_variable p n s)
  where
    go : (b : Bool) → unwrap_or (if b then Some (τ n s) else None) (Var n s) ≡ (if b then τ n s else Var n s)
    go true = refl
    go false = refl

pub matching_makes : (τ : Substitution) → KeepsSorts τ → (p : Tree) → instance (matching p (instance τ p)) p ≡ instance τ p
matching_makes τ k p = instance-variable (matching p (instance τ p)) τ p (λ n s o. matching_is τ k p n s ∙ rw o refl)

pub matching_sorted : (sig : Signature) (τ : Substitution) → KeepsSorts τ → IsSubstitution sig τ → (p : Tree) → IsSubstitution sig (matching p (instance τ p))
matching_sorted sig τ k i p n s h =
    let P : Tree → Type 0 = λ y. (sort_of y ≡ s) × IsWellSorted sig y in
    subst P (sym (matching_is τ k p n s)) (go (has_variable p n s))
  where
    go : (b : Bool) → (sort_of (if b then τ n s else Var n s) ≡ s) × IsWellSorted sig (if b then τ n s else Var n s)
    go true = i n s h
    go false = (refl, h)

-- two instances whose substitutions differ at one variable are matched by two that do
pub matching_differ : (k s : ℕ) (σ τ : Substitution) → KeepsSorts σ → KeepsSorts τ → DifferAt k s σ τ → (p : Tree)
    → DifferAt k s (matching p (instance σ p)) (matching p (instance τ p))
matching_differ k s σ τ a b d p n r ne = matching_is σ a p n r ∙ go (has_variable p n r) ∙ sym (matching_is τ b p n r)
  where
    go : (v : Bool) → (if v then σ n r else Var n r) ≡ (if v then τ n r else Var n r)
    go true = d n r ne
    go false = refl

pub masked_differ : (sig : Signature) (k s : ℕ) (σ τ : Substitution) → DifferAt k s σ τ → DifferAt k s (masked sig σ) (masked sig τ)
masked_differ sig k s σ τ d n r ne = go (nat_lt r (length sig.sorts))
  where
    go : (v : Bool) → (if v then σ n r else Var n r) ≡ (if v then τ n r else Var n r)
    go true = d n r ne
    go false = refl
