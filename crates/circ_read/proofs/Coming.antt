-- What the reader's functions come to is what a statement adds, or why it is refused.
use Rattle.std.proofs.Common.{◌≡◌, ℕ, List, [], ◌∷◌, Bool, Option, Some, None, Result, Ok, Err, inl, inr, refl, ap, sym, ◌∙◌, subst}
use Rattle.circ_term.specs.Tree.{Tree}
use Rattle.circ_theory.specs.declared.fault.TheoryFault.{TheoryFault}
use Rattle.circ_theory.specs.Theory.{Theory}
use Rattle.circ_theory.specs.Adding.{sort_number, sort_fault, equation_fault, with_sort}
use Rattle.circ_theory.specs.Observing.{derivative_fault, cases_fault, with_cases}
use Rattle.circ_statement.specs.Said.{Said, SaidSides, inclusion, sorts, operators, variables, equation, derivative, cases}
use Rattle.circ_read.specs.declared.cause.Cause.{Cause}
use Rattle.circ_read.specs.declared.cause.Cause.TheVariants.{UnknownSort, NoParse}
use Rattle.circ_read.specs.declared.cause.Fault.{Fault}
use Rattle.circ_read.specs.declared.cause.Fault.TheVariants.{Because, Memory}
use Rattle.circ_read.specs.Causes.{cause_of}
use Rattle.circ_read.specs.Adding.{AddsStatement, AddsAll, AddsEquation, AddsDerivative, first_fault, sort_numbers, constant_numbers, variable_fault, with_variable, operator_fault, with_operator, ReadsAlone, equation_lists, ReadsEquation, ReadsHole}
use Rattle.circ_read.proofs.GoalTerms.{goal_read}
use Rattle.circ_mixfix.specs.Answers.{long_count, first_long}
use Rattle.circ_read.specs.Refusing.{RefusesStatement, RefusesEquation, IsCauseOf, LacksOr, ReadsNotAlone, terms_text}
use Rattle.circ_read.specs.Outcomes.{adds, followed_by, all_added, or_cause, sort_named, constants_named, goal_added, equation_added, derivative_added, ComesTo}
use Rattle.circ_read.specs.Steps.{StepAnswers, SaidOutcome}

module _ {A : Type 0} (fault : Theory → A → Option TheoryFault) (with_one : Theory → A → Theory) where
  all_ok : (th : Theory) (parts : List A) (u : Theory) → all_added (λ v a. adds (fault v a) (with_one v a)) th parts ≡ Ok u → AddsAll fault with_one th parts u
  all_ok th [] u e = record { no_fault = refl; is = cc }
  all_ok th (a ∷ rest) u e = go (fault th a) refl (all_ok (with_one th a) rest u) e
    where
      go : (o : Option TheoryFault) → fault th a ≡ o → (all_added (λ v b. adds (fault v b) (with_one v b)) (with_one th a) rest ≡ Ok u → AddsAll fault with_one (with_one th a) rest u)
          → followed_by (adds o (with_one th a)) (λ v. all_added (λ w b. adds (fault w b) (with_one w b)) v rest) ≡ Ok u → AddsAll fault with_one th (a ∷ rest) u
      go None p later f = let r = later f in record { no_fault = rw p r.no_fault; is = r.is }
      go (Some x) p later f = absurd (cc)

  all_err : (th : Theory) (parts : List A) (c : Cause) → all_added (λ v a. adds (fault v a) (with_one v a)) th parts ≡ Err c → IsCauseOf (first_fault fault with_one th parts) c
  all_err th [] c e = absurd (cc)
  all_err th (a ∷ rest) c e = go (fault th a) refl (all_err (with_one th a) rest c) e
    where
      go : (o : Option TheoryFault) → fault th a ≡ o
          → (all_added (λ v b. adds (fault v b) (with_one v b)) (with_one th a) rest ≡ Err c → IsCauseOf (first_fault fault with_one (with_one th a) rest) c)
          → followed_by (adds o (with_one th a)) (λ v. all_added (λ w b. adds (fault w b) (with_one w b)) v rest) ≡ Err c → IsCauseOf (first_fault fault with_one th (a ∷ rest)) c
      go None p later f = rw p (later f)
      go (Some x) p later f = let s : c ≡ cause_of x = cc in rw p s

one_ok : (o : Option TheoryFault) (v u : Theory) → Ok u ≡ adds o v → (o ≡ None) × (u ≡ v)
one_ok None v u e = (refl, cc)
one_ok (Some f) v u e = absurd (cc)

one_err : (o : Option TheoryFault) (v : Theory) (c : Cause) → Err c ≡ adds o v → IsCauseOf o c
one_err None v c e = absurd (cc)
one_err (Some f) v c e = let s : c ≡ cause_of f = cc in s

record Found {A : Type 0} (o : Option A) (f : A → Result Theory Cause) (u : Theory) : Type 0 where
  value : A
  is : o ≡ Some value
  then : Ok u ≡ f value

found : {A : Type 0} (o : Option A) (missing : Cause) (f : A → Result Theory Cause) (u : Theory) → Ok u ≡ followed_by (or_cause o missing) f → Found o f u
found None missing f u e = absurd (cc)
found (Some a) missing f u e = record { value = a; is = refl; then = e }

lacking : {A : Type 0} (o : Option A) (missing : Cause) (f : A → Result Theory Cause) (Has : A → Cause → Type 0) (c : Cause) → ((a : A) → Err c ≡ f a → Has a c)
    → Err c ≡ followed_by (or_cause o missing) f → LacksOr o missing Has c
lacking None missing f Has c each e = let s : c ≡ missing = cc in s
lacking (Some a) missing f Has c each e = each a e

module _ (th : Theory) where
  module _ (left right : List (List ℕ)) (conds : List SaidSides) (exec : Bool) where
    abbrev lists : List (List (List ℕ))
    lists = equation_lists left right conds

    abbrev Alone : List Tree → Type 0
    Alone ts = ReadsAlone (first_long lists) (ReadsEquation th lists) ts

    terms_ok : (ts : List Tree) (u : Theory) → Alone ts → Ok u ≡ equation_added th exec ts → AddsEquation th lists exec u
    terms_ok ts u h e =
        let g = goal_read th left right conds ts h.reads in
        let p = one_ok (equation_fault th g.0.conds) _ u (e ∙ ap (goal_added th exec) (g.2)) in
        record { says = g.0; alone = subst Alone g.1 h; no_fault = p.0; is = p.1 }

    terms_err : (ts : List Tree) (c : Cause) → Alone ts → Err c ≡ equation_added th exec ts → RefusesEquation th lists c
    terms_err ts c h e =
        let g = goal_read th left right conds ts h.reads in
        inr (g.0, (subst Alone g.1 h, one_err (equation_fault th g.0.conds) _ c (e ∙ ap (goal_added th exec) (g.2))))

  module _ (term : List (List ℕ)) where
    hole_ok : (ts : List Tree) (u : Theory) → ReadsAlone (long_count term) (ReadsHole th term) ts → Ok u ≡ derivative_added th ts → AddsDerivative th term u
    hole_ok [] u h e = absurd (cc)
    hole_ok (t ∷ []) u h e = let p = one_ok (derivative_fault th t) _ u e in record { body = t; alone = h; no_fault = p.0; is = p.1 }
    hole_ok (t ∷ s ∷ ts) u h e = absurd (cc)

    hole_err : (ts : List Tree) (c : Cause) → ReadsAlone (long_count term) (ReadsHole th term) ts → Err c ≡ derivative_added th ts → RefusesStatement th (derivative term) c
    hole_err [] c h e = absurd (let z = h.reads.1 in cc)
    hole_err (t ∷ []) c h e = inr (t, (h, one_err (derivative_fault th t) _ c e))
    hole_err (t ∷ s ∷ ts) c h e = absurd (let z = h.reads.1 in cc)

  adds_as : (s : Said) (u : Theory) → ComesTo th s (Ok u) → AddsStatement th s u
  adds_as (inclusion name) u e = cc
  adds_as (sorts names) u e = all_ok sort_fault with_sort th names u (sym e)
  adds_as (operators forms args result a k i) u e =
      let x = found (sort_numbers th args) UnknownSort
      (λ ss. followed_by (sort_named th result) (λ s. all_added (λ v p. adds (operator_fault ss s a k i v p) (with_operator ss s a k i v p)) th forms)) u e in
      let y = found (sort_number th.signature result) UnknownSort
      (λ s. all_added (λ v p. adds (operator_fault x.value s a k i v p) (with_operator x.value s a k i v p)) th forms) u x.then in
      record {
        sorts = x.value;
        sort = y.value;
        args_are = x.is;
        result_is = y.is;
        adds = all_ok (operator_fault x.value y.value a k i) (with_operator x.value y.value a k i) th forms u (sym y.then);
      }
  adds_as (variables names sort) u e =
      let x = found (sort_number th.signature sort) UnknownSort (λ s. all_added (λ v w. adds (variable_fault s v w) (with_variable s v w)) th names) u e in
      record { number = x.value; sort_is = x.is; adds = all_ok (variable_fault x.value) (with_variable x.value) th names u (sym x.then) }
  adds_as (equation left right conds exec) u (Ok ts, g, e) = terms_ok left right conds exec ts u g e
  adds_as (equation left right conds exec) u (Err c, g, e) = absurd (cc)
  adds_as (derivative term) u (Ok ts, g, e) = hole_ok term ts u g e
  adds_as (derivative term) u (Err c, g, e) = absurd (cc)
  adds_as (cases sort names) u e =
      let x = found (sort_number th.signature sort) UnknownSort (λ s. followed_by (constants_named th s names) (λ cs. adds (cases_fault th s cs) (with_cases th s cs))) u e in
      let y = found (constant_numbers th x.value names) NoParse (λ cs. adds (cases_fault th x.value cs) (with_cases th x.value cs)) u x.then in
      let p = one_ok (cases_fault th x.value y.value) (with_cases th x.value y.value) u y.then in
      record { number = x.value; constants = y.value; sort_is = x.is; constants_are = y.is; no_fault = p.0; is = p.1 }

  refuses_as : (s : Said) (c : Cause) → ComesTo th s (Err c) → RefusesStatement th s c
  refuses_as (inclusion name) c e = cc
  refuses_as (sorts names) c e = all_err sort_fault with_sort th names c (sym e)
  refuses_as (operators forms args result a k i) c e =
      lacking (sort_numbers th args) UnknownSort
      (λ ss. followed_by (sort_named th result) (λ s. all_added (λ v p. adds (operator_fault ss s a k i v p) (with_operator ss s a k i v p)) th forms))
      (λ ss. LacksOr (sort_number th.signature result) UnknownSort (λ s. IsCauseOf (first_fault (operator_fault ss s a k i) (with_operator ss s a k i) th forms))) c
      (λ ss. lacking (sort_number th.signature result) UnknownSort
      (λ s. all_added (λ v p. adds (operator_fault ss s a k i v p) (with_operator ss s a k i v p)) th forms)
      (λ s. IsCauseOf (first_fault (operator_fault ss s a k i) (with_operator ss s a k i) th forms)) c
      (λ s f. all_err (operator_fault ss s a k i) (with_operator ss s a k i) th forms c (sym f))) e
  refuses_as (variables names sort) c e =
      lacking (sort_number th.signature sort) UnknownSort (λ s. all_added (λ v w. adds (variable_fault s v w) (with_variable s v w)) th names)
      (λ s. IsCauseOf (first_fault (variable_fault s) (with_variable s) th names)) c (λ s f. all_err (variable_fault s) (with_variable s) th names c (sym f)) e
  refuses_as (equation left right conds exec) c (Ok ts, g, e) = terms_err left right conds exec ts c g e
  refuses_as (equation left right conds exec) c (Err d, g, e) =
      let s : d ≡ c = cc in inl (subst (ReadsNotAlone (first_long (equation_lists left right conds)) (ReadsEquation th (equation_lists left right conds)) (terms_text th)) s g)
  refuses_as (derivative term) c (Ok ts, g, e) = hole_err term ts c g e
  refuses_as (derivative term) c (Err d, g, e) = let s : d ≡ c = cc in inl (subst (ReadsNotAlone (long_count term) (ReadsHole th term) (terms_text th)) s g)
  refuses_as (cases sort names) c e =
      lacking (sort_number th.signature sort) UnknownSort (λ s. followed_by (constants_named th s names) (λ cs. adds (cases_fault th s cs) (with_cases th s cs)))
      (λ s. LacksOr (constant_numbers th s names) NoParse (λ cs. IsCauseOf (cases_fault th s cs))) c
      (λ s. lacking (constant_numbers th s names) NoParse (λ cs. adds (cases_fault th s cs) (with_cases th s cs)) (λ cs. IsCauseOf (cases_fault th s cs)) c
      (λ cs. one_err (cases_fault th s cs) (with_cases th s cs) c)) e

-- the answer of a function, by what is defined
pub outcome_as : (th : Theory) (s : Said) (r : Result (Unit {0}) Fault) (u : Theory) → StepAnswers r u (ComesTo th s) → StepAnswers r u (SaidOutcome AddsStatement RefusesStatement th s)
outcome_as th s (Ok n) u h = adds_as th s u h
outcome_as th s (Err (Because c)) u h = refuses_as th s c h
outcome_as th s (Err Memory) u h = tt
