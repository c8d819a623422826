-- Matching as a function is what matching means.
use Rattle.std.proofs.Common.{◌≡◌, ℕ, Bool, true, false, ◌==◌, ◌&&◌, ◌||◌, if◌then◌else◌, List, Option, Some, None, unwrap_or, is_some, refl, ap, sym, subst, ◌∙◌}
use Rattle.std.specs.Option.{option_or}
use Rattle.std.proofs.lemmas.Bool.{eqb-true, eq-eqb, and_parts}
use Rattle.std.proofs.lemmas.Option.{same_Some}
use Rattle.circ_term.specs.Tree.{Tree, Trees, Var, App, none, more, sort_of}
use Rattle.circ_term.specs.Order.{is_same}
use Rattle.circ_term.specs.Substitution.{Substitution, KeepsSorts, instance, instances}
use Rattle.circ_term.specs.Subst.{Bound, found, substitution_of}
use Rattle.circ_term.proofs.Order.{same_here, same_itself}
use Rattle.circ_match.specs.Matcher.{IsMatcher, Makes, has_variable, have_variable}
use Rattle.circ_match.proofs.Variables.{instance-variable}
use Rattle.circ_rewrite.specs.Matching.{image, images, matching, matches, MatchingDecides}

pub is_same_term : (t u : Tree) → t ≡ u → is_same t u ≡ true
is_same_term t u e = subst (λ x. is_same t x ≡ true) e (same_itself t)

-- the image of a variable in an instance of the pattern is what the substitution gives it
either : (a b : Bool) (x : Tree) → option_or (if a then Some x else None) (if b then Some x else None) ≡ (if a || b then Some x else None)
either true b x = refl
either false b x = refl

mutual
  pub image-instance : (τ : Substitution) → KeepsSorts τ → (p : Tree) (n s : ℕ) → image p (instance τ p) n s ≡ (if has_variable p n s then Some (τ n s) else None)
  image-instance τ k (Var m j) n s = go ((m == n) && (j == s)) refl
    where
      go : (b : Bool) → ((m == n) && (j == s)) ≡ b → (if b then (if sort_of (τ m j) == s then Some (τ m j) else None) else None) ≡ (if b then Some (τ n s) else None)
      go false e = refl
      go true e =
          let parts = and_parts (m == n) (j == s) e in
          let a : m ≡ n = eqb-true m n parts.0 in
          let c : j ≡ s = eqb-true j s parts.1 in
          let there : τ m j ≡ τ n s = ap (λ x. τ x j) a ∙ ap (τ n) c in
          rw there (rw (eq-eqb (sort_of (τ n s)) s (k n s)) refl)
  image-instance τ k (App f j ps) n s = images-instances τ k ps n s

  pub images-instances : (τ : Substitution) → KeepsSorts τ → (ps : Trees) (n s : ℕ) → images ps (instances τ ps) n s ≡ (if have_variable ps n s then Some (τ n s) else None)
  images-instances τ k none n s = refl
  images-instances τ k (more p ps) n s = rw (image-instance τ k p n s, images-instances τ k ps n s) (either (has_variable p n s) (have_variable ps n s) (τ n s))

-- a substitution that makes the pattern the term is the function's on the pattern's variables
pub matching-instance : (τ : Substitution) → KeepsSorts τ → (p t : Tree) → instance τ p ≡ t → (n s : ℕ) → has_variable p n s ≡ true → matching p t n s ≡ τ n s
matching-instance τ k p t e n s o =
    let here : image p (instance τ p) n s ≡ Some (τ n s) = image-instance τ k p n s ∙ rw o refl in
    rw (← e, here) refl

pub matches-instance : (τ : Substitution) → KeepsSorts τ → (p t : Tree) → instance τ p ≡ t → matches p t ≡ true
matches-instance τ k p t e = is_same_term (instance (matching p t) p) t (instance-variable (matching p t) τ p (matching-instance τ k p t e) ∙ e)

-- the function's substitution keeps sorts
mutual
  image-sort : (p t : Tree) (n s : ℕ) (u : Tree) → image p t n s ≡ Some u → sort_of u ≡ s
  image-sort (Var m k) t n s u e = go ((m == n) && (k == s)) (sort_of t == s) refl e
    where
      go : (a b : Bool) → (sort_of t == s) ≡ b → (if a then (if b then Some t else None) else None) ≡ Some u → sort_of u ≡ s
      go false b f x = absurd (cc)
      go true false f x = absurd (cc)
      go true true f x = ap sort_of (sym (same_Some t u x)) ∙ eqb-true (sort_of t) s f
  image-sort (App f k ps) (Var m j) n s u e = absurd (cc)
  image-sort (App f k ps) (App g j ts) n s u e = images-sort ps ts n s u e

  images-sort : (ps ts : Trees) (n s : ℕ) (u : Tree) → images ps ts n s ≡ Some u → sort_of u ≡ s
  images-sort none ts n s u e = absurd (cc)
  images-sort (more p ps) none n s u e = absurd (cc)
  images-sort (more p ps) (more t ts) n s u e = go (image p t n s) refl (image-sort p t n s u) (images-sort ps ts n s u)
    where
      go : (o : Option Tree) → image p t n s ≡ o → (image p t n s ≡ Some u → sort_of u ≡ s) → (images ps ts n s ≡ Some u → sort_of u ≡ s) → sort_of u ≡ s
      go None f a b = b (rw f at e)
      go (Some x) f a b = a (f ∙ (rw f at e))

pub matching-sorts : (p t : Tree) → KeepsSorts (matching p t)
matching-sorts p t n s = go (image p t n s) refl
  where
    go : (o : Option Tree) → image p t n s ≡ o → sort_of (unwrap_or (image p t n s) (Var n s)) ≡ s
    go None f = rw f refl
    go (Some x) f = rw f (image-sort p t n s x f)

-- what the function says
pub matching_decides : (p t : Tree) → MatchingDecides p t
matching_decides p t = record {
  matches = ((λ m. (matching p t, matching-sorts p t, same_here (instance (matching p t) p) t m)), (λ x. matches-instance x.0 x.1 p t x.2));
  sorts = matching-sorts p t;
  only = λ τ k m n s h. sym (matching-instance τ k p t m n s h);
}

-- where no substitution makes the pattern the term, it does not match
pub no_match : (p t : Tree) → ((τ : Substitution) → KeepsSorts τ → Makes p t τ → ⊥) → matches p t ≡ false
no_match p t h = go (matches p t) refl
  where
    go : (b : Bool) → matches p t ≡ b → b ≡ false
    go false e = refl
    go true e = absurd (h (matching p t) (matching-sorts p t) (same_here (instance (matching p t) p) t e))

-- a matcher gives each variable, bound or not, what the function gives it
pub matcher_agrees : (p t : Tree) (σ : List Bound) → IsMatcher (Makes p t) (has_variable p) σ → (n s : ℕ) → substitution_of σ n s ≡ matching p t n s
matcher_agrees p t σ m n s = go (has_variable p n s) refl
  where
    there : image p t n s ≡ (if has_variable p n s then Some (substitution_of σ n s) else None)
    there = ap (λ u. image p u n s) (sym m.makes) ∙ image-instance (substitution_of σ) m.sorts p n s

    unbound : (o : Option Tree) → is_some o ≡ false → unwrap_or o (Var n s) ≡ Var n s
    unbound None e = refl
    unbound (Some u) e = absurd (cc)

    go : (b : Bool) → has_variable p n s ≡ b → substitution_of σ n s ≡ matching p t n s
    go true o =
        let here : image p t n s ≡ Some (substitution_of σ n s) = there ∙ rw o refl in
        sym (ap (λ u. unwrap_or u (Var n s)) here)
    go false o =
        let here : image p t n s ≡ None = there ∙ rw o refl in
        let none : is_some (found σ n s) ≡ false = m.binds n s ∙ rw o refl in
        unbound (found σ n s) none ∙ sym (ap (λ u. unwrap_or u (Var n s)) here)
