-- What is known of a term is determined by the term.
use Rattle.std.proofs.Common.{◌≡◌, ℕ, List, [], ◌∷◌, Option, Some, None, refl, ap, sym, subst, ◌∙◌}
use Rattle.std.proofs.lemmas.Option.{same_Some}
use Rattle.circ_term.specs.Tree.{Tree, replaced}
use Rattle.circ_rewrite.specs.Replacement.{Replacement, Traced, placed, traced}
use Rattle.circ_rewrite.specs.Norm.{first_due}
use Rattle.circ_rewrite.specs.Standing.{IsSettled, HasSettledBelow}
use Rattle.circ_chain.specs.Chain.{IsStep, Chain, Reduces}
use Rattle.circ_chain.specs.Through.{AreBelow, Readies}
use Rattle.circ_chain.proofs.Roots.{root_first, root_settled}

module _ (due : Tree → Option Replacement) where
  -- a step is determined by the term
  step_unique : (b d c e : ℕ) (t u x : Tree) (tr sr : Traced) → IsStep due b d t tr u → IsStep due c e t sr x → (tr ≡ sr) × (u ≡ x)
  step_unique b d c e t u x tr sr r s =
      let same : placed tr.path r.replacement ≡ placed sr.path s.replacement =
      same_Some (placed tr.path r.replacement) (placed sr.path s.replacement) (sym r.is_first.first ∙ s.is_first.first) in (
        r.is_trace ∙ ap traced same ∙ sym s.is_trace,
        same_Some u x (sym r.is_first.made ∙ ap (λ q. replaced t q.path q.replacement.new) same ∙ s.is_first.made),
      )

  -- a settled term takes none
  no_step : (b d : ℕ) (t u : Tree) (tr : Traced) → IsSettled due t → IsStep due b d t tr u → ⊥
  no_step b d t u tr h s = let z : None ≡ Some (placed tr.path s.replacement) = sym h ∙ s.is_first.first in cc

  -- a term whose arguments are settled takes none below its root
  no_step_below : (b d : ℕ) (t u : Tree) (tr : Traced) → HasSettledBelow due t → (tr.path ≡ [] → ⊥) → IsStep due b d t tr u → ⊥
  no_step_below b d t u tr h below s = go (due t) refl
    where
      go : (o : Option Replacement) → due t ≡ o → ⊥
      go None e = no_step b d t u tr (root_settled due t h e) s
      go (Some r) e =
          let same : placed tr.path s.replacement ≡ placed [] r =
          same_Some (placed tr.path s.replacement) (placed [] r) (sym s.is_first.first ∙ root_first due t r h e) in
          below (ap (λ q. q.path) same)

  -- traces and normal form
  pub reduces_unique : (b d c e : ℕ) (ts us : List Traced) (t v x : Tree) → Reduces due b d t ts v → Reduces due c e t us x → (ts ≡ us) × (v ≡ x)
  reduces_unique b d c e [] [] t v x r s = (refl, sym r.0 ∙ s.0)
  reduces_unique b d c e [] (sr ∷ us) t v x r s = absurd (no_step c e t s.0.0 sr (ap (first_due due) r.0 ∙ r.1) s.0.1)
  reduces_unique b d c e (tr ∷ ts) [] t v x r s = absurd (no_step b d t r.0.0 tr (ap (first_due due) s.0 ∙ s.1) r.0.1)
  reduces_unique b d c e (tr ∷ ts) (sr ∷ us) t v x r s =
      let one = step_unique b d c e t r.0.0 s.0.0 tr sr r.0.1 s.0.1 in
      let rest = reduces_unique b d c e ts us s.0.0 v x (subst (λ y. Reduces due b d y ts v) one.1 (r.0.2, r.1)) (s.0.2, s.1) in
      (ap (λ y. y ∷ ts) one.0 ∙ ap (λ ys. sr ∷ ys) rest.0, rest.1)

  -- traces below the root, and the term with settled arguments to which they lead
  ready_unique : (b d c e : ℕ) (ts us : List Traced) (t v x : Tree) → Chain due b d t ts v → AreBelow ts → HasSettledBelow due v → Chain due c e t us x → AreBelow us → HasSettledBelow due x
      → (ts ≡ us) × (v ≡ x)
  ready_unique b d c e [] [] t v x r k h s l i = (refl, sym r ∙ s)
  ready_unique b d c e [] (sr ∷ us) t v x r k h s l i = absurd (no_step_below c e t s.0 sr (subst (HasSettledBelow due) (sym r) h) l.0 s.1)
  ready_unique b d c e (tr ∷ ts) [] t v x r k h s l i = absurd (no_step_below b d t r.0 tr (subst (HasSettledBelow due) (sym s) i) k.0 r.1)
  ready_unique b d c e (tr ∷ ts) (sr ∷ us) t v x r k h s l i =
      let one = step_unique b d c e t r.0 s.0 tr sr r.1 s.1 in
      let rest = ready_unique b d c e ts us s.0 v x (subst (λ y. Chain due b d y ts v) one.1 r.2) k.1 h s.2 l.1 i in
      (ap (λ y. y ∷ ts) one.0 ∙ ap (λ ys. sr ∷ ys) rest.0, rest.1)

  pub readies_unique : (b d c e : ℕ) (ts us : List Traced) (t v x : Tree) → Readies due b d t ts v → Readies due c e t us x → (ts ≡ us) × (v ≡ x)
  readies_unique b d c e ts us t v x r s = ready_unique b d c e ts us t v x r.chain r.below r.settled s.chain s.below s.settled
