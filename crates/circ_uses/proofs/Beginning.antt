-- The start terms of certificates.
use Rattle.std.proofs.Common.{◌≡◌, ◌≤◌, ℕ, ◌+◌, suc, length, List, [], ◌∷◌, Option, Some, None, Result, Ok, Err, unwrap_or, refl, ap, sym, subst, ◌∙◌, arith}
use Rattle.std.specs.List.{slice_get, filter}
use Rattle.std.specs.Option.{option_map}
use Rattle.std.specs.Result.{IfOk}
use Rattle.std.proofs.lemmas.Option.{same_Some}
use Rattle.std.proofs.lemmas.List.{length-map}
use Rattle.circ_term.specs.Tree.{Tree, App}
use Rattle.circ_term.specs.Limits.{Builds}
use Rattle.circ_term.specs.declared.fault.TermFault.{TermFault}
use Rattle.circ_term.specs.Substitution.{Substitution}
use Rattle.circ_theory.specs.Signature.{Operator}
use Rattle.circ_theory.specs.Theory.{Theory, Derivative}
use Rattle.circ_theory.specs.Experiment.{plug, derived}
use Rattle.circ_theory.specs.Fresh.{numbered_from, given_parameters, parameter_sorts, variables_from}
use Rattle.circ_theory.specs.WellFormed.{IsWellFormed, IsDerivative}
use Rattle.circ_theory.specs.Variables.{Variable, occurrences}
use Rattle.circ_theory.specs.Observing.{is_parameter}
use Rattle.circ_theory.proofs.Rewriting.{contains_at}
use Rattle.circ_theory.proofs.Derived.{derived-numbered_from}
use Rattle.circ_special.specs.declared.place.Place.{Place}
use Rattle.circ_proof.specs.Certified.{start_args, start_term}
use Rattle.circ_entry.specs.Entries.{derivative_at, no_derivative}
use Rattle.circ_uses.specs.Starting.{StartsWith}
use Rattle.circ_uses.specs.Valuations.{valued_by}
use Rattle.circ_uses.specs.declared.valuation.Valuation.{Valuation}
use Rattle.circ_expansion.proofs.Alike.{ext}

-- terms for parameters that are the same everywhere
derived_same : (d : Derivative) (t : Tree) (p q : Substitution) → ((n s : ℕ) → p n s ≡ q n s) → derived d t p ≡ derived d t q
derived_same d t p q e = ap (derived d t) (ext (λ n. ext (e n)))

length_from : (k : ℕ) (ss : List ℕ) → length (variables_from k ss) ≡ length ss
length_from k [] = refl
length_from k (s ∷ ss) = ap suc (length_from (k + 1) ss)

module _ (th : Theory) (ok : IsWellFormed th) (n k : ℕ) (ss : List ℕ) (e : Some ss ≡ option_map parameter_sorts (slice_get th.derivatives n)) where
  listed : (d : Derivative) × (slice_get th.derivatives n ≡ Some d)
  listed = go (slice_get th.derivatives n) e
    where
      go : (o : Option Derivative) → Some ss ≡ option_map parameter_sorts o → (d : Derivative) × (o ≡ Some d)
      go None e = absurd (cc)
      go (Some d) e = (d, refl)

  sorts_are : ss ≡ parameter_sorts listed.0
  sorts_are = same_Some ss (parameter_sorts listed.0) (e ∙ ap (option_map parameter_sorts) listed.1)

  is_derivative : IsDerivative th.signature listed.0
  is_derivative = ok.derivatives listed.0 (contains_at th.derivatives n listed.0 listed.1)

  pub few_sorts : length ss ≤ 8
  few_sorts =
      let vs : List Variable = filter is_parameter (occurrences listed.0.body) in
      let f = is_derivative.few in
      omega (arith, f, ap length sorts_are, length-map vs (λ v. v.sort), length-map vs (λ v. v.number))

  pub few_terms : (ts : List Tree) → ts ≡ variables_from k ss → length ts ≤ 16
  few_terms ts f = omega (arith, few_sorts, ap length f, length_from k ss)

  pub starts_with : (ts : List Tree) → ts ≡ variables_from k ss → (v : Valuation) → ((m s : ℕ) → valued_by v m s ≡ given_parameters ts m s) → StartsWith th n k v
  starts_with ts f v g t =
      let d = listed.0 in
      let is : derivative_at th n ≡ d = ap (λ o. unwrap_or o no_derivative) listed.1 in
      ap (λ x. derived x t (valued_by v)) is ∙ derived_same d t (valued_by v) (given_parameters ts) g
      ∙ ap (λ us. derived d t (given_parameters us)) (f ∙ ap (variables_from k) sorts_are) ∙ derived-numbered_from th.signature d is_derivative t k
      ∙ ap (λ x. derived x t (numbered_from k)) (sym is)

pub starts_with_none : (th : Theory) (n k : ℕ) (v : Valuation) → None ≡ option_map parameter_sorts (slice_get th.derivatives n) → StartsWith th n k v
starts_with_none th n k v e t =
    let is : derivative_at th n ≡ no_derivative = ap (λ o. unwrap_or o no_derivative) (go (slice_get th.derivatives n) e) in
    ap (λ x. derived x t (valued_by v)) is ∙ ap (λ x. derived x t (numbered_from k)) (sym is)
  where
    go : (o : Option Derivative) → None ≡ option_map parameter_sorts o → o ≡ None
    go None e = refl
    go (Some d) e = absurd (cc)

pub start_made : (r : Result Tree TermFault) (th : Theory) (o : Operator) (g : Place) (n j : ℕ) (v w : Valuation) (t : Tree) (k : ℕ) → j ≡ n → w ≡ v
    → t ≡ App g.op o.result (start_args g.arg 1 o.args) → StartsWith th n k v → k ≡ length o.args
    → Builds r (derived (derivative_at th j) t (valued_by w)) → Builds r (start_term o g (derivative_at th n))
start_made r th o g n j v w t k a b e h f x =
    subst (Builds r)
    (ap (λ i. derived (derivative_at th i) t (valued_by w)) a ∙ ap (λ u. derived (derivative_at th n) t (valued_by u)) b ∙ h t
    ∙ ap (λ u. derived (derivative_at th n) u (numbered_from k)) e
    ∙ ap (λ i. derived (derivative_at th n) (App g.op o.result (start_args g.arg 1 o.args)) (numbered_from i)) f) x

pub if_ok : {T E : Type 0} (P Q : T → Type 0) (r : Result T E) → ((x : T) → P x → Q x) → IfOk r P → IfOk r Q
if_ok P Q (Ok x) f h = f x h
if_ok P Q (Err e) f h = h
