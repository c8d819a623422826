-- From one instance of a term to another that differs at one variable: one occurrence after the other, or all at once where there is but one.
use Rattle.std.proofs.Common.{◌≡◌, ℕ, zero, suc, Bool, true, false, ◌==◌, ◌&&◌, ◌||◌, List, [], ◌∷◌, Some, ◌⊎◌, inl, inr}
use Rattle.std.proofs.Common.{refl, ap, sym, subst, ◌∙◌}
use Rattle.std.specs.List.{slice_get}
use Rattle.std.proofs.lemmas.Bool.{cases_Bool, eqb-true, eq-eqb, and_parts}
use Rattle.std.proofs.lemmas.Option.{same_Some}
use Rattle.circ_term.specs.Tree.{Tree, Trees, Var, App, none, more, list_of, at, walk, put_at, replaced}
use Rattle.circ_term.proofs.Trees.{trees_of-list_of}
use Rattle.circ_term.specs.Substitution.{Substitution, instance, instances}
use Rattle.circ_term.proofs.Paths.{nowhere}
use Rattle.circ_theory.specs.Signature.{Signature, IsSort, IsSubstitution}
use Rattle.circ_theory.specs.Variables.{occurrences, all_occurrences}
use Rattle.circ_special.proofs.Agreeing.{stands, stands-append, same_instance, same_instances}
use Rattle.circ_special.proofs.Distinct.{AreDistinct, parts_apart}
use Rattle.circ_soundness.proofs.Filling.{Filler, Fills, FillsAll, IsOfSort}

-- the two substitutions differ at the variable (k, s) at most
abbrev pub DifferAt : (k s : ℕ) → Substitution → Substitution → Type 0
DifferAt k s σ τ = (n r : ℕ) → ((n == k) && (r == s)) ≡ false → σ n r ≡ τ n r

-- at each place one or the other
abbrev pub Mixed : Substitution → Substitution → Filler
Mixed σ τ n s u = (u ≡ σ n s) ⊎ (u ≡ τ n s)

pub mixed_sorted : (sig : Signature) (σ τ : Substitution) → IsSubstitution sig σ → IsSubstitution sig τ → (n s : ℕ) (u : Tree) → IsSort sig s → Mixed σ τ n s u
    → IsOfSort sig s u
mixed_sorted sig σ τ a b n s u w (inl e) = let P : Tree → Type 0 = IsOfSort sig s in subst P (sym e) (a n s w)
mixed_sorted sig σ τ a b n s u w (inr e) = let P : Tree → Type 0 = IsOfSort sig s in subst P (sym e) (b n s w)

mutual
  fills_left : (σ τ : Substitution) (t : Tree) → Fills (Mixed σ τ) t (instance σ t)
  fills_left σ τ (Var n s) = inl refl
  fills_left σ τ (App f s ts) = (refl, refl, all_fill_left σ τ ts)

  pub all_fill_left : (σ τ : Substitution) (ts : Trees) → FillsAll (Mixed σ τ) ts (instances σ ts)
  all_fill_left σ τ none = tt
  all_fill_left σ τ (more t ts) = (fills_left σ τ t, all_fill_left σ τ ts)

mutual
  pub fills_right : (σ τ : Substitution) (t : Tree) → Fills (Mixed σ τ) t (instance τ t)
  fills_right σ τ (Var n s) = inr refl
  fills_right σ τ (App f s ts) = (refl, refl, all_fill_right σ τ ts)

  all_fill_right : (σ τ : Substitution) (ts : Trees) → FillsAll (Mixed σ τ) ts (instances τ ts)
  all_fill_right σ τ none = tt
  all_fill_right σ τ (more t ts) = (fills_right σ τ t, all_fill_right σ τ ts)

-- ---- one occurrence after another

-- u, which is t with one or the other at each place, becomes v where the occurrence of (k, s) at p is changed from the one to the other
pub record Changes (σ τ : Substitution) (k s : ℕ) (t : Tree) (p : List ℕ) (u v : Tree) : Type 0 where
  pub variable : at t p ≡ Some (Var k s)
  pub mixed : Fills (Mixed σ τ) t u
  pub old : at u p ≡ Some (σ k s)
  pub new : replaced u p (τ k s) ≡ Some v

-- the same in the i-th of these terms
record ChangesOne (σ τ : Substitution) (k s : ℕ) (ts : Trees) (i : ℕ) (p : List ℕ) (us vs : Trees) : Type 0 where
  from : Tree
  given : slice_get (list_of ts) i ≡ Some from
  before : Tree
  there : slice_get (list_of us) i ≡ Some before
  after : Tree
  change : Changes σ τ k s from p before after
  mixed : FillsAll (Mixed σ τ) ts us
  whole : put_at us i after ≡ vs

in_first : (σ τ : Substitution) (k s : ℕ) (t : Tree) (p : List ℕ) (u v : Tree) (ts us : Trees) → FillsAll (Mixed σ τ) ts us → Changes σ τ k s t p u v
    → ChangesOne σ τ k s (more t ts) 0 p (more u us) (more v us)
in_first σ τ k s t p u v ts us f c = record {
  from = t;
  given = refl;
  before = u;
  there = refl;
  after = v;
  change = c;
  mixed = (c.mixed, f);
  whole = ap (more v) (trees_of-list_of us);
}

in_rest : (σ τ : Substitution) (k s : ℕ) (t u : Tree) (ts us vs : Trees) (i : ℕ) (p : List ℕ) → Fills (Mixed σ τ) t u → ChangesOne σ τ k s ts i p us vs
    → ChangesOne σ τ k s (more t ts) (suc i) p (more u us) (more u vs)
in_rest σ τ k s t u ts us vs i p f c = record {
  from = c.from;
  given = c.given;
  before = c.before;
  there = c.there;
  after = c.after;
  change = c.change;
  mixed = (f, c.mixed);
  whole = ap (more u) c.whole;
}

in_term : (σ τ : Substitution) (k s f r : ℕ) (ts us vs : Trees) (i : ℕ) (p : List ℕ) → ChangesOne σ τ k s ts i p us vs
    → Changes σ τ k s (App f r ts) (i ∷ p) (App f r us) (App f r vs)
in_term σ τ k s f r ts us vs i p c = record {
  variable = rw c.given c.change.variable;
  mixed = (refl, refl, c.mixed);
  old = rw c.there c.change.old;
  new = let g = c.there in let n = c.change.new in rw (g, n) (ap (λ x. Some (App f r x)) c.whole);
}

-- What passes over each change of an occurrence passes from the one instance to the other.
mutual
  pub passes : (σ τ : Substitution) (k s : ℕ) → DifferAt k s σ τ → (t : Tree) (P : Tree → Type 0)
      → ((u v : Tree) (p : List ℕ) → Changes σ τ k s t p u v → P u → P v) → P (instance σ t) → P (instance τ t)
  passes σ τ k s d (Var n r) P step start = elim (cases_Bool ((n == k) && (r == s))) [
    | inl e ↦
        let en = eqb-true n k (and_parts (n == k) (r == s) e).0 in
        let er = eqb-true r s (and_parts (n == k) (r == s) e).1 in
        let same : (ρ : Substitution) → ρ n r ≡ ρ k s = λ ρ. ap (λ x. ρ x r) en ∙ ap (ρ k) er in
        step (σ n r) (τ n r) [] (record {
          variable = ap (λ x. Some (Var x r)) en ∙ ap (λ x. Some (Var k x)) er;
          mixed = inl refl;
          old = ap Some (same σ);
          new = ap Some (sym (same τ));
        }) start
    | inr e ↦ subst P (d n r e) start
  ]
  passes σ τ k s d (App f r ts) P step start =
      all_pass σ τ k s d ts (λ us. P (App f r us)) (λ us vs i p c. step (App f r us) (App f r vs) (i ∷ p) (in_term σ τ k s f r ts us vs i p c)) start

  all_pass : (σ τ : Substitution) (k s : ℕ) → DifferAt k s σ τ → (ts : Trees) (P : Trees → Type 0)
      → ((us vs : Trees) (i : ℕ) (p : List ℕ) → ChangesOne σ τ k s ts i p us vs → P us → P vs) → P (instances σ ts) → P (instances τ ts)
  all_pass σ τ k s d none P step start = start
  all_pass σ τ k s d (more t ts) P step start =
      let us = instances σ ts in
      let first : P (more (instance τ t) us) =
      passes σ τ k s d t (λ x. P (more x us))
      (λ u v p c. step (more u us) (more v us) 0 p (in_first σ τ k s t p u v ts us (all_fill_left σ τ ts) c)) start in
      let x = instance τ t in
      all_pass σ τ k s d ts (λ ws. P (more x ws))
      (λ vs ws i p c. step (more x vs) (more x ws) (suc i) p (in_rest σ τ k s t x ts vs ws i p (fills_right σ τ t) c)) first

-- ---- a variable that stands once

mutual
  pub stands_at : (k s : ℕ) (q : List ℕ) (t : Tree) → at t q ≡ Some (Var k s) → stands k s (occurrences t) ≡ true
  stands_at k s [] t e = ap (λ x. stands k s (occurrences x)) (same_Some t (Var k s) e) ∙ (rw (eq-eqb k k refl, eq-eqb s s refl) refl)
  stands_at k s (i ∷ q) (Var n r) e = nowhere q (Var k s) e
  stands_at k s (i ∷ q) (App f r ts) e = all_stand_at k s i q ts e

  all_stand_at : (k s i : ℕ) (q : List ℕ) (ts : Trees) → walk (slice_get (list_of ts) i) q ≡ Some (Var k s) → stands k s (all_occurrences ts) ≡ true
  all_stand_at k s i q none e = nowhere q (Var k s) e
  all_stand_at k s zero q (more t ts) e = stands-append k s (occurrences t) (all_occurrences ts) ∙ (rw (stands_at k s q t e) refl)
  all_stand_at k s (suc i) q (more t ts) e =
      stands-append k s (occurrences t) (all_occurrences ts) ∙ ap (λ b. stands k s (occurrences t) || b) (all_stand_at k s i q ts e)
      ∙ or_true (stands k s (occurrences t))
    where
      or_true : (b : Bool) → (b || true) ≡ true
      or_true true = refl
      or_true false = refl

-- two variables of which one stands here and the other does not
other : (k s n r : ℕ) (vs : List _) → stands k s vs ≡ false → stands n r vs ≡ true → ((n == k) && (r == s)) ≡ false
other k s n r vs z h = elim (cases_Bool ((n == k) && (r == s))) [
  | inl e ↦
      let x = and_parts (n == k) (r == s) e in
      absurd (let same = sym h ∙ ap (λ m. stands m r vs) (eqb-true n k x.0) ∙ ap (λ m. stands k m vs) (eqb-true r s x.1) ∙ z in cc)
  | inr e ↦ e
]

-- one of these terms is replaced, which makes the others
record Replaces (ts us : Trees) (i : ℕ) (q : List ℕ) (b : Tree) : Type 0 where
  old : Tree
  there : slice_get (list_of ts) i ≡ Some old
  new : Tree
  made : replaced old q b ≡ Some new
  whole : put_at ts i new ≡ us

-- Where the variable stands once, to change a substitution at it is to replace the term there.
mutual
  pub replaced_once : (k s : ℕ) (σ τ : Substitution) → DifferAt k s σ τ → (q : List ℕ) (t : Tree) → AreDistinct (occurrences t) → at t q ≡ Some (Var k s)
      → replaced (instance σ t) q (τ k s) ≡ Some (instance τ t)
  replaced_once k s σ τ d [] t a e = ap (λ x. Some (instance τ x)) (sym (same_Some t (Var k s) e))
  replaced_once k s σ τ d (i ∷ q) (Var n r) a e = nowhere q (Var k s) e
  replaced_once k s σ τ d (i ∷ q) (App f r ts) a e =
      let h = one_replaced k s σ τ d i q ts a e in
      rw (h.there, h.made) (ap (λ us. Some (App f r us)) h.whole)

  one_replaced : (k s : ℕ) (σ τ : Substitution) → DifferAt k s σ τ → (i : ℕ) (q : List ℕ) (ts : Trees) → AreDistinct (all_occurrences ts)
      → walk (slice_get (list_of ts) i) q ≡ Some (Var k s) → Replaces (instances σ ts) (instances τ ts) i q (τ k s)
  one_replaced k s σ τ d i q none a e = nowhere q (Var k s) e
  one_replaced k s σ τ d zero q (more t ts) a e =
      let p = parts_apart (occurrences t) (all_occurrences ts) a in
      let gone = p.apart k s (stands_at k s q t e) in
      record {
        old = instance σ t;
        there = refl;
        new = instance τ t;
        made = replaced_once k s σ τ d q t p.first e;
        whole = ap (more (instance τ t))
            (trees_of-list_of (instances σ ts) ∙ same_instances σ τ ts (λ n r h. d n r (other k s n r (all_occurrences ts) gone h)));
      }
  one_replaced k s σ τ d (suc i) q (more t ts) a e =
      let p = parts_apart (occurrences t) (all_occurrences ts) a in
      let there = all_stand_at k s i q ts e in
      let gone : stands k s (occurrences t) ≡ false = elim (cases_Bool (stands k s (occurrences t))) [
        | inl h ↦ absurd (let z = p.apart k s h in cc)
        | inr h ↦ h
      ] in
      let r = one_replaced k s σ τ d i q ts p.second e in
      record {
        old = r.old;
        there = r.there;
        new = r.new;
        made = r.made;
        whole = ap (more (instance σ t)) r.whole
            ∙ ap (λ x. more x (instances τ ts)) (same_instance σ τ t (λ n j h. d n j (other k s n j (occurrences t) gone h)));
      }
