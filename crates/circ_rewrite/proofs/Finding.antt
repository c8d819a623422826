-- What is due at a root, as the code looks for it.
use Rattle.std.proofs.Common.{◌≡◌, ℕ, Bool, true, false, List, Some, None, refl, ap, sym, ◌∙◌}
use Rattle.circ_term.specs.Tree.{Tree, Var, App, operator_number}
use Rattle.circ_term.specs.Order.{is_same}
use Rattle.circ_term.specs.Substitution.{Substitution, KeepsSorts}
use Rattle.circ_term.proofs.Order.{same_here}
use Rattle.std.proofs.lemmas.Option.{same_Some}
use Rattle.circ_match.specs.Matcher.{Makes}
use Rattle.circ_theory.specs.Signature.{Signature}
use Rattle.circ_theory.specs.Theory.{Pair}
use Rattle.circ_aci.specs.Canonical.{canonical_under}
use Rattle.circ_rewrite.specs.Replacement.{Replacement, By_content}
use Rattle.circ_rewrite.specs.Due.{assumed, content_due, rule_due, ruled, due_under}
use Rattle.circ_rewrite.specs.declared.parts.Rule.{Rule}
use Rattle.circ_rewrite.proofs.MatchingFacts.{is_same_term, no_match}

differs : (s t : Tree) → (s ≡ t → ⊥) → is_same s t ≡ false
differs s t h = go (is_same s t) refl
  where
    go : (b : Bool) → is_same s t ≡ b → b ≡ false
    go true e = absurd (h (same_here s t e))
    go false e = refl

-- ---- the order of the choices

pub due_assumed : (sig : Signature) (rs : List Rule) (A : List Pair) (t : Tree) (r : Replacement) → assumed 0 A t ≡ Some r → due_under sig rs A t ≡ Some r
due_assumed sig rs A (Var n s) r e = e
due_assumed sig rs A (App f s ts) r e = rw e refl

pub due_content : (sig : Signature) (rs : List Rule) (A : List Pair) (t : Tree) (f : ℕ) → assumed 0 A t ≡ None → operator_number t ≡ Some f
    → (canonical_under sig f t ≡ t → ⊥) → due_under sig rs A t ≡ Some (record { reason = By_content f (canonical_under sig f t); new = canonical_under sig f t })
due_content sig rs A (Var n s) f e o h = absurd (cc)
due_content sig rs A (App g s ts) f e o h = rw (e, other (same_Some g f o) h) refl
  where
    other : g ≡ f → (canonical_under sig f (App g s ts) ≡ App g s ts → ⊥)
        → content_due sig (App g s ts) ≡ Some (record { reason = By_content f (canonical_under sig f (App g s ts)); new = canonical_under sig f (App g s ts) })
    other same h =
        let no : is_same (canonical_under sig g (App g s ts)) (App g s ts) ≡ false =
        differs (canonical_under sig g (App g s ts)) (App g s ts) (λ z. h (ap (λ k. canonical_under sig k (App g s ts)) (sym same) ∙ z)) in
        rw no (ap (λ k. Some (record { reason = By_content k (canonical_under sig k (App g s ts)); new = canonical_under sig k (App g s ts) })) same)

pub due_ruled : (sig : Signature) (rs : List Rule) (A : List Pair) (t : Tree) (f : ℕ) → assumed 0 A t ≡ None → operator_number t ≡ Some f
    → canonical_under sig f t ≡ t → due_under sig rs A t ≡ ruled rs t
due_ruled sig rs A (Var n s) f e o h = absurd (cc)
due_ruled sig rs A (App g s ts) f e o h =
    let same = same_Some g f o in
    rw (e, is_same_term (canonical_under sig g (App g s ts)) (App g s ts) (ap (λ k. canonical_under sig k (App g s ts)) same ∙ h)) refl

-- ---- one rule

pub rule_does_not : (r : Rule) (t : Tree) → ((τ : Substitution) → KeepsSorts τ → Makes r.left t τ → ⊥) → rule_due r t ≡ None
rule_does_not r t h = rw (no_match r.left t h) refl
