-- Derivatives with fresh parameters stand for those with any parameters.
use Rattle.std.proofs.Common.{◌≡◌, ◌≤◌, ◌<◌, ◌+◌, ◌-◌, ℕ, zero, suc, true, nat_lt, ◌==◌, ◌&&◌, if◌then◌else◌, List, [], ◌∷◌, inl, inr}
use Rattle.std.proofs.Common.{refl, ap, sym, subst, ◌∙◌, arith}
use Rattle.std.specs.List.{AllByRecursion}
use Rattle.std.proofs.lemmas.Bool.{cases_Bool, eqb-true, eq-eqb, ne_eqb, and_parts, lt-ltb, le-ltb}
use Rattle.circ_term.specs.Tree.{Tree, Trees, Var, App, none, more}
use Rattle.circ_term.specs.Substitution.{Substitution, instance, instances, composed}
use Rattle.circ_term.proofs.Instances.{instance-instance}
use Rattle.circ_theory.specs.Signature.{Signature, IsSubstitution}
use Rattle.circ_theory.specs.Theory.{Derivative}
use Rattle.circ_theory.specs.Variables.{Variable, occurrences}
use Rattle.circ_theory.specs.WellFormed.{IsDerivative}
use Rattle.circ_theory.specs.Experiment.{plug, derived}
use Rattle.circ_special.proofs.Agreeing.{stands, same_instance}
use Rattle.circ_special.proofs.Distinct.{IsHoleOfSort, body_holes}
use Rattle.circ_theory.specs.Fresh.{above, all_above, numbered_from}
use Rattle.circ_soundness.proofs.Changing.{DifferAt}

-- ---- what stands at the hole, and at the parameters

pub plug_hole : (h : ℕ) (t : Tree) (p : Substitution) → plug h t p 0 h ≡ t
plug_hole h t p = rw (eq-eqb h h refl) refl

pub plug_parameter : (h : ℕ) (t : Tree) (p : Substitution) (n s : ℕ) → plug h t p (suc n) s ≡ p (suc n) s
plug_parameter h t p n s = rw (ne_eqb (suc n) 0 (λ e. absurd (omega (arith, e)))) refl

pub plug_differs : (h : ℕ) (t : Tree) (p : Substitution) → DifferAt 0 h p (plug h t p)
plug_differs h t p n s e = rw e refl

pub stands_where : (P : Variable → Type 0) (vs : List Variable) → AllByRecursion P vs → (m k : ℕ) → stands m k vs ≡ true → P (record { number = m; sort = k })
stands_where P [] a m k e = absurd (cc)
stands_where P (v ∷ vs) a m k e = elim (cases_Bool ((m == v.number) && (k == v.sort))) [
  | inl h ↦
      let x = and_parts (m == v.number) (k == v.sort) h in
      let same : v ≡ record { number = m; sort = k } =
      ap (λ n. record { number = n; sort = v.sort }) (sym (eqb-true m v.number x.0))
      ∙ ap (λ s. record { number = m; sort = s }) (sym (eqb-true k v.sort x.1)) in
      subst P same a.0
  | inr h ↦ stands_where P vs a.1 m k (rw h at e)
]

-- the body has no other variables
pub same_body : (sig : Signature) (d : Derivative) → IsDerivative sig d → (σ τ : Substitution) → σ 0 d.hole ≡ τ 0 d.hole
    → ((n s : ℕ) → σ (suc n) s ≡ τ (suc n) s) → instance σ d.body ≡ instance τ d.body
same_body sig d i σ τ hole params =
    same_instance σ τ d.body (λ m k e. go m k (stands_where (IsHoleOfSort d.hole) (occurrences d.body) (body_holes sig d i) m k e))
  where
    go : (m k : ℕ) → IsHoleOfSort d.hole (record { number = m; sort = k }) → σ m k ≡ τ m k
    go zero k h = ap (σ 0) (h refl) ∙ hole ∙ ap (τ 0) (sym (h refl))
    go (suc m) k h = params m k

-- ---- fresh parameters

-- σ below k, and the parameters 1, 2 and so on from k on
abbrev pub with_parameters : ℕ → Substitution → Substitution → Substitution
with_parameters k σ p = λ n s. if nat_lt n k then σ n s else p (suc (n - k)) s

pub with_parameters_below : (k : ℕ) (σ p : Substitution) (n s : ℕ) → n < k → with_parameters k σ p n s ≡ σ n s
with_parameters_below k σ p n s h = rw (lt-ltb n k h) refl

with_parameters_above : (k : ℕ) (σ p : Substitution) (n s : ℕ) → with_parameters k σ p (k + n) s ≡ p (suc n) s
with_parameters_above k σ p n s =
    let e : (k + n) - k ≡ n = omega arith in
    let h : k ≤ k + n = omega arith in
    let x = le-ltb (k + n) k h in
    rw (x, e) refl

pub with_parameters_sorted : (sig : Signature) (k : ℕ) (σ p : Substitution) → IsSubstitution sig σ → IsSubstitution sig p
    → IsSubstitution sig (with_parameters k σ p)
with_parameters_sorted sig k σ p a b n s h = elim (cases_Bool (nat_lt n k)) [
  | inl e ↦ rw e (a n s h)
  | inr e ↦ rw e (b (suc (n - k)) s h)
]

mutual
  pub instance_below : (k : ℕ) (σ p : Substitution) (t : Tree) → above t ≤ k → instance (with_parameters k σ p) t ≡ instance σ t
  instance_below k σ p (Var n s) h = with_parameters_below k σ p n s (omega (arith, h))
  instance_below k σ p (App f s ts) h = ap (App f s) (instances_below k σ p ts h)

  instances_below : (k : ℕ) (σ p : Substitution) (ts : Trees) → all_above ts ≤ k → instances (with_parameters k σ p) ts ≡ instances σ ts
  instances_below k σ p none h = refl
  instances_below k σ p (more t ts) h =
      ap (λ x. more x (instances (with_parameters k σ p) ts)) (instance_below k σ p t (omega (arith, h)))
      ∙ ap (more (instance σ t)) (instances_below k σ p ts (omega (arith, h)))

-- Where k is above the numbers of t: the derivative on t with its parameters numbered from k, and these then taken for any.
pub derived-with_parameters : (sig : Signature) (d : Derivative) → IsDerivative sig d → (k : ℕ) (σ p : Substitution) (t : Tree) → above t ≤ k
    → instance (with_parameters k σ p) (derived d t (numbered_from k)) ≡ derived d (instance σ t) p
derived-with_parameters sig d i k σ p t b =
    let ρ = with_parameters k σ p in
    let here = plug d.hole t (numbered_from k) in
    let there = plug d.hole (instance σ t) p in
    instance-instance ρ here d.body
    ∙ same_body sig d i (composed ρ here) there
    (ap (instance ρ) (plug_hole d.hole t (numbered_from k)) ∙ instance_below k σ p t b ∙ sym (plug_hole d.hole (instance σ t) p))
    (λ n s. let e : (suc n) - 1 ≡ n = omega arith in
    ap (instance ρ) (plug_parameter d.hole t (numbered_from k) n s) ∙ ap (λ m. ρ (k + m) s) e ∙ with_parameters_above k σ p n s
    ∙ sym (plug_parameter d.hole (instance σ t) p n s))
