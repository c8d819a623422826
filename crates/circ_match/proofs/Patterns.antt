-- How bindings are extended: by a ground pattern, by an operator's arguments one after another, by two patterns.
use Rattle.std.proofs.Common.{◌≡◌, ◌↔◌, ℕ, Bool, true, false, ◌||◌, List, length, Result, Ok, Err, IfOk, IsTrue, [], is_some, unwrap_or, refl, ap, sym, ◌∙◌}
use Rattle.circ_term.specs.Tree.{Tree, Trees, Var, App, none, more, list_of, trees_of, is_ground, are_ground}
use Rattle.circ_term.proofs.Trees.{list_of-trees_of}
use Rattle.circ_term.specs.Substitution.{Substitution, KeepsSorts, instance, instances}
use Rattle.circ_term.specs.Subst.{Bound, found, substitution_of}
use Rattle.circ_term.proofs.Instances.{instance-is_ground, length-instances}
use Rattle.std.proofs.lemmas.Bool.{and_parts}
use Rattle.circ_match.specs.Matcher.{IsMatcher, Makes, has_variable, have_variable}
use Rattle.circ_match.specs.Extending.{MakeAll, Agrees, Extends, BindsBesides}

-- problems that the same substitutions solve
extends_alike : (σ ρ : List Bound) (P Q : Substitution → Type 0) (b : Bool) → ((τ : Substitution) → P τ ↔ Q τ) → Extends σ ρ P b → Extends σ ρ Q b
extends_alike σ ρ P Q true e h = λ τ k. ((λ a. let x = (h τ k).0 a in (x.0, (e τ).0 x.1)), (λ x. (h τ k).1 (x.0, (e τ).1 x.1)))
extends_alike σ ρ P Q false e h = λ τ k a q. h τ k a ((e τ).1 q)

-- a ground pattern is its own instance, and binds nothing
pub extends_ground : (σ : List Bound) (pattern term : Tree) (b : Bool) → is_ground pattern ≡ true → (IsTrue b ↔ (pattern ≡ term))
    → Extends σ σ (Makes pattern term) b
extends_ground σ pattern term true g h = λ τ k. ((λ a. (a, instance-is_ground τ pattern g ∙ h.0 refl)), (λ x. x.0))
extends_ground σ pattern term false g h = λ τ k a m. absurd (let z = h.1 (sym (instance-is_ground τ pattern g) ∙ m) in cc)

mutual
  pub has_variable-is_ground : (t : Tree) (n s : ℕ) → is_ground t ≡ true → has_variable t n s ≡ false
  has_variable-is_ground (Var m k) n s g = absurd (cc)
  has_variable-is_ground (App f k ts) n s g = have_variable-are_ground ts n s g

  pub have_variable-are_ground : (ts : Trees) (n s : ℕ) → are_ground ts ≡ true → have_variable ts n s ≡ false
  have_variable-are_ground none n s g = refl
  have_variable-are_ground (more t ts) n s g =
      let parts = and_parts (is_ground t) (are_ground ts) g in
      rw (has_variable-is_ground t n s parts.0, have_variable-are_ground ts n s parts.1) refl

pub binds_ground : (σ : List Bound) (pattern : Tree) (b : Bool) → is_ground pattern ≡ true → BindsBesides σ σ (has_variable pattern) b
binds_ground σ pattern false g = tt
binds_ground σ pattern true g = λ n s. rw (has_variable-is_ground pattern n s g) (none_besides (is_some (found σ n s)))
  where
    none_besides : (a : Bool) → a ≡ (a || false)
    none_besides true = refl
    none_besides false = refl

-- under one operator the arguments decide
pub extends_application : {E : Type 0} (r : Result Bool E) (σ ρ : List Bound) (pattern term : Tree) (f s g k : ℕ) (ps ts : Trees)
    → App f s ps ≡ pattern → App g k ts ≡ term → f ≡ g → s ≡ k → IfOk r (Extends σ ρ (MakeAll ps ts)) → IfOk r (Extends σ ρ (Makes pattern term))
extends_application (Err e) σ ρ pattern term f s g k ps ts p t same_op same_sort h = tt
extends_application (Ok b) σ ρ pattern term f s g k ps ts p t same_op same_sort h =
    extends_alike σ ρ (MakeAll ps ts) (Makes pattern term) b (λ τ. (there τ, back τ)) h
  where
    there : (τ : Substitution) → instances τ ps ≡ ts → instance τ pattern ≡ term
    there τ e = ap (instance τ) (sym p) ∙ ap (App f s) e ∙ rw (same_op, same_sort) t

    args : (us vs : Trees) → App f s us ≡ App g k vs → us ≡ vs
    args us vs e = cc

    back : (τ : Substitution) → instance τ pattern ≡ term → instances τ ps ≡ ts
    back τ e = args (instances τ ps) ts (ap (instance τ) p ∙ e ∙ sym t)

-- only as many terms as there are patterns
pub same_length : (τ : Substitution) (ps ts : List Tree) → MakeAll (trees_of ps) (trees_of ts) τ → length ps ≡ length ts
same_length τ ps ts e =
    sym (ap length (list_of-trees_of ps)) ∙ sym (length-instances τ (trees_of ps)) ∙ ap (λ us. length (list_of us)) e ∙ ap length (list_of-trees_of ts)

-- from one argument to the next
pub makes_next : (τ : Substitution) (A B C : Type 0) (p t : Tree) (ps ts : Trees) → (B ↔ (A × Makes p t τ)) → ((A × MakeAll (more p ps) (more t ts) τ) ↔ C)
    → (B × MakeAll ps ts τ) ↔ C
makes_next τ A B C p t ps ts one all = (
  (λ b. let a = one.0 b.0 in all.0 (a.0, ap (λ x. more x (instances τ ps)) a.1 ∙ ap (more t) b.1)),
  (λ s. let a = all.1 s in (one.1 (a.0, cc), cc)),
)

pub binds_next : (a b c d e : Bool) → b ≡ (a || c) → (a || (c || d)) ≡ e → (b || d) ≡ e
binds_next true b c d e p q = rw p q
binds_next false b c d e p q = rw p q

agrees_itself : (σ : List Bound) → Agrees (substitution_of σ) σ
agrees_itself σ n s t e = ap (λ o. unwrap_or o (Var n s)) e

-- the bindings that two patterns make, one after the other, from none
pub matcher_of_both : (σ ρ : List Bound) (P Q : Substitution → Type 0) (vs ws : (number sort : ℕ) → Bool) → KeepsSorts (substitution_of ρ)
    → Extends [] σ P true → Extends σ ρ Q true → BindsBesides [] σ vs true → BindsBesides σ ρ ws true
    → IsMatcher (λ τ. P τ × Q τ) (λ n s. vs n s || ws n s) ρ
matcher_of_both σ ρ P Q vs ws k p q v w =
    let second = (q (substitution_of ρ) k).0 (agrees_itself ρ) in
    let first = (p (substitution_of ρ) k).0 second.0 in
    record { sorts = k; makes = (first.1, second.1); binds = λ n s. w n s ∙ ap (λ b. b || ws n s) (v n s) }
