-- The parameters of a derivative before a substitution.
use Rattle.std.proofs.Common.{◌≡◌, ◌≤◌, ◌<◌, ◌+◌, ◌-◌, ℕ, suc, Bool, true, false, not, nat_lt, ◌&&◌, if◌then◌else◌, List, [], ◌∷◌, ◌++◌, length, take, drop, get_or, Option, Some, None}
use Rattle.std.proofs.Common.{refl, sym, ap, ◌∙◌}
use Rattle.std.proofs.lemmas.List.{take_more, drop_more, drop_all}
use Rattle.circ_term.specs.Tree.{Tree}
use Rattle.circ_term.specs.Substitution.{Substitution}
use Rattle.circ_theory.specs.Observing.{derivative_with}
use Rattle.circ_match.specs.Matcher.{has_variable}
use Rattle.circ_expansion.specs.Expand.{extended}
use Rattle.circ_uses.specs.Valuations.{over_number, valued_by, with_overs}
use Rattle.circ_uses.specs.declared.by.Over.{Over}

-- with one over another substitution
abbrev pub with_over : Over → Substitution → Substitution
with_over o σ = extended (derivative_with 0 o.body) o.first σ (valued_by o.params.value)

-- what a variable becomes by the parameter that it is, if it is one
abbrev pub read : Over → Substitution → (n s : ℕ) → Option ℕ → Tree
read o σ n s None = σ n s
read o σ n s (Some j) = valued_by o.params.value j s

pub over_read : (o : Over) (σ : Substitution) (n s : ℕ) → with_over o σ n s ≡ read o σ n s (over_number o n s)
over_read o σ n s = go (not (nat_lt n o.first) && has_variable o.body (suc (n - o.first)) s)
  where
    go : (b : Bool) → (if b then valued_by o.params.value (suc (n - o.first)) s else σ n s)
        ≡ read o σ n s (if b then Some (suc (n - o.first)) else None)
    go true = refl
    go false = refl

pub overs_last : (σ : Substitution) (os : List Over) (o : Over) → with_overs σ (os ++ o ∷ []) ≡ with_over o (with_overs σ os)
overs_last σ [] o = refl
overs_last σ (x ∷ os) o = overs_last (with_over x σ) os o

-- up to one that is read, and it
pub overs_read : (σ : Substitution) (os : List Over) (i : ℕ) (o : Over) → i < length os → o ≡ get_or os i o → (n s : ℕ)
    → with_overs σ (take (i + 1) os) n s ≡ read o (with_overs σ (take i os)) n s (over_number o n s)
overs_read σ os i o h e n s =
    ap (λ xs. with_overs σ xs n s) (take_more os i o h ∙ ap (λ y. take i os ++ y ∷ []) (sym e))
    ∙ ap (λ τ. τ n s) (overs_last σ (take i os) o) ∙ over_read o (with_overs σ (take i os)) n s

-- .. and so from what all come to
pub overs_back : (σ : Substitution) (os : List Over) (left i : ℕ) (o : Over) (n s : ℕ) → i + 1 ≡ left → i < length os → o ≡ get_or os i o
    → (x : Option ℕ) → over_number o n s ≡ x → (v : Tree) → with_overs σ (take left os) n s ≡ v → read o (with_overs σ (take i os)) n s x ≡ v
overs_back σ os left i o n s l h e x is v all =
    ap (read o (with_overs σ (take i os)) n s) (sym is) ∙ sym (overs_read σ os i o h e n s) ∙ ap (λ k. with_overs σ (take k os) n s) l ∙ all

-- those of a substitution are copied
pub overs_copied : (σ : Substitution) (copy new os : List Over) (i : ℕ) (x y : Over) → i < length os → x ≡ get_or os i x → new ≡ copy ++ y ∷ [] → y.body ≡ x.body
    → y.first ≡ x.first → y.params.value ≡ x.params.value → with_overs (with_overs σ copy) (drop i os) ≡ with_overs σ os
    → with_overs (with_overs σ new) (drop (i + 1) os) ≡ with_overs σ os
overs_copied σ copy new os i x y lt is e b f p inv =
    let rest = drop (i + 1) os in
    let τ = with_overs σ copy in
    let next : drop i os ≡ x ∷ rest = drop_more os i x lt ∙ ap (λ z. z ∷ rest) (sym is) in
    let same : with_over y τ ≡ with_over x τ = λ k. extended (derivative_with 0 (b k)) (f k) τ (valued_by (p k)) in
    ap (λ zs. with_overs (with_overs σ zs) rest) e ∙ ap (λ υ. with_overs υ rest) (overs_last σ copy y ∙ same) ∙ ap (with_overs τ) (sym next) ∙ inv

pub overs_done : (σ : Substitution) (copy os : List Over) (i : ℕ) → length os ≤ i → with_overs (with_overs σ copy) (drop i os) ≡ with_overs σ os
    → with_overs σ copy ≡ with_overs σ os
overs_done σ copy os i h inv = ap (with_overs (with_overs σ copy)) (sym (drop_all i os h)) ∙ inv
