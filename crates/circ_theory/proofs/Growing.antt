-- Theories with one part more are well-formed.
use Rattle.std.proofs.Common.{◌≡◌, ◌<◌, ◌≤◌, ◌+◌, ℕ, List, [], ◌∷◌, ◌++◌, length, Some, ◌⊎◌, inl, inr, refl, subst, arith}
use Rattle.std.specs.List.{slice_get, Contains}
use Rattle.std.proofs.lemmas.List.Elements.{Contains-push_cases}
use Rattle.circ_term.specs.Tree.{Tree, Trees, Var, App, none, more, sort_of}
use Rattle.circ_pairs.specs.declared.goals.Equation.{Equation}
use Rattle.circ_pairs.specs.declared.goals.Goal.{Goal}
use Rattle.circ_theory.specs.Limits.{sort_limit, variable_limit, operator_limit, equation_limit, condition_limit}
use Rattle.circ_theory.specs.Signature.{Signature, Operator, IsSort, IsWellSorted, HaveSorts}
use Rattle.circ_pairs.specs.Pair.{Pair}
use Rattle.circ_pairs.specs.Goal.{goal_of, sides}
use Rattle.circ_theory.specs.Theory.{Theory, Declared, Derivative, CaseList, IsHidden, IsWellSortedPair, IsWellSortedGoal}
use Rattle.circ_pairs.specs.Variables.{IsInOrder}
use Rattle.circ_theory.specs.Operators.{IsOperator}
use Rattle.circ_theory.specs.WellFormed.{IsDerivative, IsCaseList, IsWellFormed}
use Rattle.circ_theory.specs.Adding.{with_sort, with_op, with_equation}
use Rattle.circ_theory.proofs.Lists.{slice_get-front}

-- what is a sort or an operator of a signature is one of the other
pub record Extends (a b : Signature) : Type 0 where
  pub sorts : (s : ℕ) → IsSort a s → IsSort b s
  pub ops : (f : ℕ) (o : Operator) → slice_get a.ops f ≡ Some o → slice_get b.ops f ≡ Some o

mutual
  stays_sorted : (a b : Signature) → Extends a b → (t : Tree) → IsWellSorted a t → IsWellSorted b t
  stays_sorted a b e (Var n s) h = e.sorts s h
  stays_sorted a b e (App f s ts) h = (h.0, e.ops f h.0 h.1, h.2, keep_sorts a b e ts h.0.args h.3)

  keep_sorts : (a b : Signature) → Extends a b → (ts : Trees) (ss : List ℕ) → HaveSorts a ts ss → HaveSorts b ts ss
  keep_sorts a b e none [] h = h
  keep_sorts a b e none (s ∷ ss) h = h
  keep_sorts a b e (more t ts) [] h = h
  keep_sorts a b e (more t ts) (s ∷ ss) h = (h.0, stays_sorted a b e t h.1, keep_sorts a b e ts ss h.2)

pair_stays : (a b : Signature) → Extends a b → (p : Pair) → IsWellSortedPair a p → IsWellSortedPair b p
pair_stays a b x p h = record { left = stays_sorted a b x p.left h.left; right = stays_sorted a b x p.right h.right; same_sort = h.same_sort }

-- what is hidden in u is so in th
abbrev pub HidesNoMore : Theory → Theory → Type 0
HidesNoMore th u = (s : ℕ) → IsHidden u s → IsHidden th s

pub same_hidden : (th u : Theory) → u.derivatives ≡ th.derivatives → HidesNoMore th u
same_hidden th u e s i =
    record { derivative = i.derivative; listed = (let P : List Derivative → Type 0 = λ ds. Contains ds i.derivative in subst P e i.listed); hole = i.hole }

pub goal_stays : (th u : Theory) → Extends th.signature u.signature → HidesNoMore th u → (g : Goal) → IsWellSortedGoal th g → IsWellSortedGoal u g
goal_stays th u x v g h = record {
  sorted = pair_stays th.signature u.signature x (sides g) h.sorted;
  conds = λ p c. record {
    sorted = pair_stays th.signature u.signature x p (h.conds p c).sorted;
    visible = λ i. (h.conds p c).visible (v (sort_of p.left) i);
  };
}

operator_stays : (a b : Signature) → Extends a b → (o : Operator) → IsOperator a o → IsOperator b o
operator_stays a b x o h = record { is_form = h.is_form; args = λ s c. x.sorts s (h.args s c); result = x.sorts o.result h.result; few = h.few; fits = h.fits; marked = h.marked }

derivative_stays : (a b : Signature) → Extends a b → (d : Derivative) → IsDerivative a d → IsDerivative b d
derivative_stays a b x d h = record {
  hole = x.sorts d.hole h.hole;
  body = stays_sorted a b x d.body h.body;
  one_hole = h.one_hole;
  numbered = h.numbered;
  few = h.few;
}

pub case_list_stays : (th u : Theory) → Extends th.signature u.signature → u.derivatives ≡ th.derivatives → (l : CaseList) → IsCaseList th l → IsCaseList u l
case_list_stays th u x e l h = record {
  sort = x.sorts l.sort h.sort;
  visible = λ i. h.visible (same_hidden th u e l.sort i);
  some = h.some;
  different = h.different;
  constants = λ c k. let o = h.constants c k in (o.0, (x.ops c o.0 o.1.0, o.1.1, o.1.2));
  few = h.few;
}

pub length-push : {X : Type 0} (xs : List X) (x : X) → length (xs ++ x ∷ []) ≡ length xs + 1
length-push [] x = refl
length-push (y ∷ xs) x = let e = length-push xs x in omega arith

pub sort_grows : (th : Theory) (name : List ℕ) → IsWellFormed th → length th.signature.sorts < sort_limit → IsWellFormed (with_sort th name)
sort_grows th name h room =
    let b : Signature = (with_sort th name).signature in
    let l = length-push th.signature.sorts name in
    let x : Extends th.signature b = record { sorts = λ s i. omega arith; ops = λ f o g. g } in
    record {
      equations = λ e c. goal_stays th (with_sort th name) x (same_hidden th (with_sort th name) refl) (goal_of e) (h.equations e c);
      in_order = h.in_order;
      few_conds = h.few_conds;
      variables = λ d c. x.sorts d.sort (h.variables d c);
      operators = λ o c. operator_stays th.signature b x o (h.operators o c);
      derivatives = λ d c. derivative_stays th.signature b x d (h.derivatives d c);
      cases = λ m c. case_list_stays th (with_sort th name) x refl m (h.cases m c);
      one_list = h.one_list;
      few_sorts = omega arith;
      few_variables = h.few_variables;
      few_ops = h.few_ops;
      few_equations = h.few_equations;
      few_derivatives = h.few_derivatives;
    }

-- other variables, of sorts that exist
pub vars_change : (th : Theory) (ds : List Declared) → IsWellFormed th → ((d : Declared) → Contains ds d → IsSort th.signature d.sort)
    → length ds ≤ variable_limit
    → IsWellFormed (record th { variables = ds })
vars_change th ds h sorts few = record {
  equations = λ e c. goal_stays th (record th { variables = ds }) (record { sorts = λ s i. i; ops = λ f o g. g }) (same_hidden th (record th { variables = ds }) refl) (goal_of e) (h.equations e c);
  in_order = h.in_order;
  few_conds = h.few_conds;
  variables = sorts;
  operators = h.operators;
  derivatives = h.derivatives;
  cases = λ m c. case_list_stays th (record th { variables = ds }) (record { sorts = λ s i. i; ops = λ f o g. g }) refl m (h.cases m c);
  one_list = h.one_list;
  few_sorts = h.few_sorts;
  few_variables = few;
  few_ops = h.few_ops;
  few_equations = h.few_equations;
  few_derivatives = h.few_derivatives;
}

pub var_grows : (th : Theory) (d : Declared) → IsWellFormed th → IsSort th.signature d.sort → length th.variables < variable_limit
    → IsWellFormed (record th { variables = th.variables ++ d ∷ [] })
var_grows th d h sort room =
    let l = length-push th.variables d in
    vars_change th (th.variables ++ d ∷ []) h (λ e c. either e (Contains-push_cases th.variables d e c)) (omega arith)
  where
    either : (e : Declared) → Contains th.variables e ⊎ (d ≡ e) → IsSort th.signature e.sort
    either e (inl c) = h.variables e c
    either e (inr q) = let P : Declared → Type 0 = λ x. IsSort th.signature x.sort in subst P q sort

pub op_grows : (th : Theory) (o : Operator) → IsWellFormed th → IsOperator th.signature o → length th.signature.ops < operator_limit
    → IsWellFormed (with_op th o)
op_grows th o h new room =
    let b : Signature = (with_op th o).signature in
    let l = length-push th.signature.ops o in
    let x : Extends th.signature b = record { sorts = λ s i. i; ops = λ f p g. slice_get-front th.signature.ops (o ∷ []) f p g } in
    record {
      equations = λ e c. goal_stays th (with_op th o) x (same_hidden th (with_op th o) refl) (goal_of e) (h.equations e c);
      in_order = h.in_order;
      few_conds = h.few_conds;
      variables = h.variables;
      operators = λ p c. either x p (Contains-push_cases th.signature.ops o p c);
      derivatives = λ d c. derivative_stays th.signature b x d (h.derivatives d c);
      cases = λ m c. case_list_stays th (with_op th o) x refl m (h.cases m c);
      one_list = h.one_list;
      few_sorts = h.few_sorts;
      few_variables = h.few_variables;
      few_ops = omega arith;
      few_equations = h.few_equations;
      few_derivatives = h.few_derivatives;
    }
  where
    either : Extends th.signature (with_op th o).signature → (p : Operator) → Contains th.signature.ops p ⊎ (o ≡ p) → IsOperator (with_op th o).signature p
    either x p (inl c) = operator_stays th.signature (with_op th o).signature x p (h.operators p c)
    either x p (inr e) = let P : Operator → Type 0 = IsOperator (with_op th o).signature in subst P e (operator_stays th.signature (with_op th o).signature x o new)

pub equation_grows : (th : Theory) (e : Equation) → IsWellFormed th → IsWellSortedGoal th (goal_of e) → IsInOrder (goal_of e)
    → length e.conds ≤ condition_limit → length th.equations < equation_limit
    → IsWellFormed (with_equation th e)
equation_grows th e h sorted order few room =
    let l = length-push th.equations e in
    let x : Extends th.signature th.signature = record { sorts = λ s i. i; ops = λ f p g. g } in
    let same = same_hidden th (with_equation th e) refl in
    record {
      equations = λ d c. goal_stays th (with_equation th e) x same (goal_of d) (either d (Contains-push_cases th.equations e d c));
      in_order = λ d c. ordered d (Contains-push_cases th.equations e d c);
      few_conds = λ d c. short d (Contains-push_cases th.equations e d c);
      variables = h.variables;
      operators = h.operators;
      derivatives = h.derivatives;
      cases = λ m c. case_list_stays th (with_equation th e) x refl m (h.cases m c);
      one_list = h.one_list;
      few_sorts = h.few_sorts;
      few_variables = h.few_variables;
      few_ops = h.few_ops;
      few_equations = omega arith;
      few_derivatives = h.few_derivatives;
    }
  where
    either : (d : Equation) → Contains th.equations d ⊎ (e ≡ d) → IsWellSortedGoal th (goal_of d)
    either d (inl c) = h.equations d c
    either d (inr q) = let P : Equation → Type 0 = λ x. IsWellSortedGoal th (goal_of x) in subst P q sorted

    ordered : (d : Equation) → Contains th.equations d ⊎ (e ≡ d) → IsInOrder (goal_of d)
    ordered d (inl c) = h.in_order d c
    ordered d (inr q) = let P : Equation → Type 0 = λ x. IsInOrder (goal_of x) in subst P q order

    short : (d : Equation) → Contains th.equations d ⊎ (e ≡ d) → length d.conds ≤ condition_limit
    short d (inl c) = h.few_conds d c
    short d (inr q) = let P : Equation → Type 0 = λ x. length x.conds ≤ condition_limit in subst P q few
