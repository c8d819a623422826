-- In a well-sorted term the parameters of an instance can be taken as well-sorted terms.
use Rattle.std.proofs.Common.{◌≡◌, ℕ, Bool, true, false, ◌==◌, ◌&&◌, ◌||◌, if◌then◌else◌, List, [], ◌∷◌, Some, inl, inr, refl, ap, sym, subst, ◌∙◌}
use Rattle.std.proofs.lemmas.Bool.{cases_Bool, eqb-true, and_parts}
use Rattle.circ_term.specs.Tree.{Tree, Trees, Var, App, none, more, sort_of, at}
use Rattle.circ_term.specs.Substitution.{Substitution, KeepsSorts, instance, instances}
use Rattle.circ_theory.specs.Signature.{Signature, IsWellSorted, HaveSorts, IsSubstitution}
use Rattle.circ_theory.specs.Theory.{Theory, Derivative}
use Rattle.circ_theory.specs.Experiment.{plug, derived}
use Rattle.circ_theory.specs.Variables.{occurrences, all_occurrences}
use Rattle.circ_theory.proofs.Sorting.{at_sorted}
use Rattle.circ_special.specs.Guarded.{IsInstanceAt}
use Rattle.circ_special.proofs.Agreeing.{stands, stands-append, same_instance}

or_false : (b : Bool) → (b || false) ≡ b
or_false true = refl
or_false false = refl

-- where an instance is well-sorted, so is what each variable of the term is given
mutual
  given_sorted : (sig : Signature) (σ : Substitution) (t : Tree) (m k : ℕ) → IsWellSorted sig (instance σ t) → stands m k (occurrences t) ≡ true
      → IsWellSorted sig (σ m k)
  given_sorted sig σ (Var n s) m k w e =
      let same = and_parts (m == n) (k == s) (sym (or_false ((m == n) && (k == s))) ∙ e) in
      let P : Tree → Type 0 = IsWellSorted sig in
      subst P (sym (ap (λ x. σ x k) (eqb-true m n same.0) ∙ ap (σ n) (eqb-true k s same.1))) w
  given_sorted sig σ (App f s ts) m k w e = all_given_sorted sig σ ts w.0.args m k w.3 e

  all_given_sorted : (sig : Signature) (σ : Substitution) (ts : Trees) (ss : List ℕ) (m k : ℕ) → HaveSorts sig (instances σ ts) ss
      → stands m k (all_occurrences ts) ≡ true → IsWellSorted sig (σ m k)
  all_given_sorted sig σ none ss m k w e = absurd (cc)
  all_given_sorted sig σ (more t ts) [] m k w e = absurd w
  all_given_sorted sig σ (more t ts) (s ∷ ss) m k w e = elim (cases_Bool (stands m k (occurrences t))) [
    | inl h ↦ given_sorted sig σ t m k w.1 h
    | inr h ↦ all_given_sorted sig σ ts ss m k w.2 (rw h at (sym (stands-append m k (occurrences t) (all_occurrences ts)) ∙ e))
  ]

-- t at the hole, where it has the hole's sort
pub plug_keeps : (h : ℕ) (t : Tree) (p : Substitution) → sort_of t ≡ h → KeepsSorts p → KeepsSorts (plug h t p)
plug_keeps h t p e keeps m k = elim (cases_Bool ((m == 0) && (k == h))) [
  | inl v ↦ rw v (e ∙ sym (eqb-true k h (and_parts (m == 0) (k == h) v).1))
  | inr v ↦ rw v (keeps m k)
]

-- an instance at the path q whose parameters are well-sorted
pub record IsSortedInstance (th : Theory) (t : Tree) (n s : ℕ) (d : Derivative) (q : List ℕ) : Type 0 where
  pub parameters : Substitution
  pub sorted : IsSubstitution th.signature parameters
  pub there : at t q ≡ Some (derived d (Var n s) parameters)

-- what is given to other variables than the body's does not count
pub instance_sorted : (th : Theory) (t : Tree) (n s : ℕ) (d : Derivative) (q r : List ℕ) → IsWellSorted th.signature t → IsInstanceAt th t n s d q r
    → IsSortedInstance th t n s d q
instance_sorted th t n s d q r w i =
    let x = Var n s in
    let σ = plug d.hole x i.parameters in
    let vs = occurrences d.body in
    let τ : Substitution = λ m k. if stands m k vs then σ m k else Var m k in
    let keeps : KeepsSorts σ = plug_keeps d.hole x i.parameters (sym i.sort) i.keeps_sorts in
    let whole : IsWellSorted th.signature (instance σ d.body) = at_sorted th q t (instance σ d.body) w i.there in
    record {
      parameters = τ;
      sorted = λ m k h. elim (cases_Bool (stands m k vs)) [
        | inl e ↦ rw e (keeps m k, given_sorted th.signature σ d.body m k whole e)
        | inr e ↦ rw e (refl, h)
      ];
      there = i.there
          ∙ ap Some (same_instance σ (plug d.hole x τ) d.body (λ m k e. elim (cases_Bool ((m == 0) && (k == d.hole))) [
            | inl v ↦ rw v refl
            | inr v ↦ rw (v, e) refl
          ]));
    }
