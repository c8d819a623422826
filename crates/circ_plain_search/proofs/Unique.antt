-- A theory has one greatest special set, and one list of traces goes with it.
use Rattle.std.specs.Prelude.{◌≡◌, ℕ, List, [], ◌∷◌}
use Rattle.std.specs.List.{slice_get}
use Rattle.std.proofs.Common.{refl, ap, sym, subst, ◌∙◌}
use Rattle.std.proofs.lemmas.Option.{same_Some}
use Rattle.circ_term.specs.Tree.{Tree, Var}
use Rattle.circ_theory.specs.Signature.{Operator}
use Rattle.circ_theory.specs.Theory.{Theory, Derivative}
use Rattle.circ_special.specs.declared.place.Place.{Place}
use Rattle.circ_special.specs.Special.{IsPlace}
use Rattle.circ_rewrite.specs.Norm.{Normalised, Normal_form, Budget_spent, Limit_passed}
use Rattle.circ_rewrite.specs.Replacement.{Traced}
use Rattle.circ_proof.specs.Certified.{start_term, due}
use Rattle.circ_rewrite.specs.TheoryRules.{theory_rules}
use Rattle.circ_conditional_norm.specs.Norm.{conditional_norm}
use Rattle.circ_plain_search.specs.Greatest.{HasNormalForm, AreTraces, GreatestSpecialSet}
use Rattle.circ_plain_search.proofs.Increasing.{same_places}

-- a place has one operator, and one sort
pub one_operator : (th : Theory) (g : Place) (p q : IsPlace th g) → p.operator ≡ q.operator
one_operator th g p q = same_Some p.operator q.operator (sym p.listed ∙ q.listed)

pub one_sort : (th : Theory) (g : Place) (p q : IsPlace th g) → p.sort ≡ q.sort
one_sort th g p q = same_Some p.sort q.sort (sym p.argument ∙ ap (λ (o : Operator). slice_get o.args g.arg) (one_operator th g p q) ∙ q.argument)

-- what a normal form is, and its traces
abbrev normal_of : Normalised → Tree
normal_of (Normal_form u ts left) = u
normal_of Budget_spent = Var 0 0
normal_of (Limit_passed l left) = Var 0 0

abbrev traces_of : Normalised → List Traced
traces_of (Normal_form u ts left) = ts
traces_of Budget_spent = []
traces_of (Limit_passed l left) = []

module _ (th : Theory) (budget : ℕ) where
  module _ (g : Place) (d : Derivative) (t u : Tree) (ts us : List Traced) (a : HasNormalForm th budget g d t ts) (b : HasNormalForm th budget g d u us) where
    one_form : Normal_form t ts a.left ≡ Normal_form u us b.left
    one_form =
        sym a.form ∙ ap (λ o. conditional_norm 0 th.signature (theory_rules th) [] budget (start_term o g d)) (one_operator th g a.place b.place) ∙ b.form

    pub one_normal : t ≡ u
    one_normal = ap normal_of one_form

    pub one_trace : ts ≡ us
    one_trace = ap traces_of one_form

  one_list : (xs : List (Place × Derivative)) (tss uss : List (List Traced)) → AreTraces th budget xs tss → AreTraces th budget xs uss → tss ≡ uss
  one_list [] [] [] a b = refl
  one_list [] [] (us ∷ uss) a b = absurd b
  one_list [] (ts ∷ tss) uss a b = absurd a
  one_list (x ∷ xs) [] uss a b = absurd a
  one_list (x ∷ xs) (ts ∷ tss) [] a b = absurd b
  one_list (x ∷ xs) (ts ∷ tss) (us ∷ uss) a b =
      ap (λ r. r ∷ tss) (one_trace x.0 x.1 a.0.0 b.0.0 ts us a.0.1 b.0.1) ∙ ap (λ rs. us ∷ rs) (one_list xs tss uss a.1 b.1)

  pub one_set : (G F : List Place) (tss uss : List (List Traced)) → GreatestSpecialSet th budget G tss → GreatestSpecialSet th budget F uss
      → (G ≡ F) × (tss ≡ uss)
  one_set G F tss uss a b =
      let e = same_places G F a.increasing b.increasing (b.greatest G a.self_guarded) (a.greatest F b.self_guarded) in
      let P : List Place → Type 0 = λ H. AreTraces th budget (due th H) tss in
      (e, one_list (due th F) tss uss (subst P e a.recorded) b.recorded)
