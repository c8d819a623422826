-- A statement has one outcome.
use Rattle.std.proofs.Common.{◌≡◌, ℕ, List, [], ◌∷◌, ◌++◌, Option, Some, None, Result, Ok, Err, Less, inl, inr, refl, sym, ap, ◌∙◌, subst}
use Rattle.std.proofs.lemmas.Option.{same_Some}
use Rattle.circ_term.specs.Tree.{Tree, trees_of}
use Rattle.circ_term.specs.Order.{trees_cmp}
use Rattle.circ_theory.specs.declared.fault.TheoryFault.{TheoryFault}
use Rattle.circ_theory.specs.Theory.{Theory}
use Rattle.circ_theory.specs.Adding.{sort_number, sort_fault, equation_fault, with_sort, with_equation}
use Rattle.circ_theory.specs.Observing.{derivative_fault, with_derivative, cases_fault, with_cases}
use Rattle.circ_mixfix.specs.Answers.{long_count, first_long}
use Rattle.circ_mixfix.proofs.Order.{trees_apart}
use Rattle.circ_statement.specs.Said.{Said, inclusion, sorts, operators, variables, equation, derivative, cases}
use Rattle.circ_read.specs.declared.cause.Cause.{Cause}
use Rattle.circ_read.specs.declared.cause.Cause.TheVariants as cause
use Rattle.circ_read.specs.Causes.{AreAlike, same, ambiguous, cause_of}
use Rattle.circ_read.specs.Adding.{AddsStatement, AddsAll, ReadsAlone, first_fault, sort_numbers, constant_numbers, variable_fault, with_variable, operator_fault, with_operator, equation_lists, goal_terms, ReadsEquation, ReadsHole}
use Rattle.circ_read.proofs.GoalTerms.{same_goal}
use Rattle.circ_read.specs.Refusing.{RefusesStatement, IsCauseOf, LacksOr, ReadsNotAlone, too_many_tokens, no_reading, two_readings, terms_text}
use Rattle.circ_read.specs.Text.{ReadsTo}
use Rattle.circ_read.specs.Failing.{FailsAt}
use Rattle.circ_read.specs.Includes.{Scope, scope, Includes, again, anew, AddsIn, AddsBy, included_name, with_variables}
use Rattle.circ_read.specs.RefusesIn.{RefusesInclusion, unknown, broken, RefusesIn, RefusesBy}
use Rattle.circ_read.specs.Steps.{SaidOutcome}
use Rattle.circ_read.proofs.Once.{SaidOnce, alike_of}
use Rattle.circ_read.proofs.TextOnce.{CutOnce, leads_once, leads_or_fails, fails_once}

not_below : (ts us : List Tree) → ts ≡ us → trees_cmp (trees_of ts) (trees_of us) ≡ Less → ⊥
not_below ts us e l = trees_apart (trees_of ts) (trees_of us) l (ap trees_of e)

module _ (l : Option ℕ) (R : List Tree → Type 0) (shown : List Tree → List ℕ) where
  pub alone_or_not : (ts : List Tree) (c : Cause) → ReadsAlone l R ts → ReadsNotAlone l R shown c → ⊥
  alone_or_not ts c h (too_many_tokens n e) = let s = h.short in cc
  alone_or_not ts c h (no_reading e lacks) = lacks ts h.reads
  alone_or_not ts c h (two_readings us vs e p k less) = not_below us vs (h.only us p ∙ sym (h.only vs k)) less

  pub not_alone_once : {B : Type 0} (c d : Cause) → ReadsNotAlone l R shown c → ReadsNotAlone l R shown d → AreAlike {A = B} (Err c) (Err d)
  not_alone_once {B} c d (too_many_tokens n e) (too_many_tokens m f) = let s : n ≡ m = cc in subst (λ k. AreAlike {A = B} (Err (cause.TooLong n)) (Err (cause.TooLong k))) s same
  not_alone_once c d (too_many_tokens n e) (no_reading f lacks) = absurd (cc)
  not_alone_once c d (too_many_tokens n e) (two_readings ts us f p k less) = absurd (cc)
  not_alone_once c d (no_reading e lacks) (too_many_tokens m f) = absurd (cc)
  not_alone_once c d (no_reading e lacks) (no_reading f lacks') = same
  not_alone_once c d (no_reading e lacks) (two_readings ts us f p k less) = absurd (lacks ts p)
  not_alone_once c d (two_readings ts us e p k less) (too_many_tokens m f) = absurd (cc)
  not_alone_once c d (two_readings ts us e p k less) (no_reading f lacks) = absurd (lacks ts p)
  not_alone_once c d (two_readings ts us e p k less) (two_readings ts' us' f p' k' less') = ambiguous

cause_once : {B : Type 0} (o : Option TheoryFault) (c d : Cause) → IsCauseOf o c → IsCauseOf o d → AreAlike {A = B} (Err c) (Err d)
cause_once None c d h k = absurd h
cause_once (Some f) c d h k = alike_of (Err c) (Err d) (Err (cause_of f)) (ap Err h) (ap Err k)

no_cause : (o : Option TheoryFault) (c : Cause) → o ≡ None → IsCauseOf o c → ⊥
no_cause None c e h = h
no_cause (Some f) c e h = cc

lacks_once : {A B : Type 0} (o : Option A) (missing : Cause) (Has : A → Cause → Type 0) → ((a : A) (c d : Cause) → Has a c → Has a d → AreAlike {A = B} (Err c) (Err d))
    → (c d : Cause) → LacksOr o missing Has c → LacksOr o missing Has d → AreAlike {A = B} (Err c) (Err d)
lacks_once None missing Has each c d h k = alike_of (Err c) (Err d) (Err missing) (ap Err h) (ap Err k)
lacks_once (Some a) missing Has each c d h k = each a c d h k

has_found : {A : Type 0} (o : Option A) (missing : Cause) (Has : A → Cause → Type 0) (a : A) (c : Cause) → o ≡ Some a → LacksOr o missing Has c → Has a c
has_found None missing Has a c e h = absurd (cc)
has_found (Some b) missing Has a c e h = subst (λ x. Has x c) (same_Some b a e) h

all_once : {A : Type 0} {fault : Theory → A → Option TheoryFault} {with_one : Theory → A → Theory} {th : Theory} {parts : List A} {u v : Theory} → AddsAll fault with_one th parts u
    → AddsAll fault with_one th parts v → v ≡ u
all_once h k = k.is ∙ sym h.is

adds_once : (th : Theory) (s : Said) (u v : Theory) → AddsStatement th s u → AddsStatement th s v → v ≡ u
adds_once th (inclusion name) u v h k = absurd h
adds_once th (sorts names) u v h k = all_once h k
adds_once th (operators forms args result a c i) u v h k =
    let ss : k.sorts ≡ h.sorts = same_Some k.sorts h.sorts (sym k.args_are ∙ h.args_are) in
    let s : k.sort ≡ h.sort = same_Some k.sort h.sort (sym k.result_is ∙ h.result_is) in
    all_once h.adds (subst (λ x. AddsAll (operator_fault h.sorts x a c i) (with_operator h.sorts x a c i) th forms v) s
    (subst (λ xs. AddsAll (operator_fault xs k.sort a c i) (with_operator xs k.sort a c i) th forms v) ss k.adds))
adds_once th (variables names sort) u v h k =
    let s : k.number ≡ h.number = same_Some k.number h.number (sym k.sort_is ∙ h.sort_is) in
    all_once h.adds (subst (λ x. AddsAll (variable_fault x) (with_variable x) th names v) s k.adds)
adds_once th (equation left right conds exec) u v h k =
    let e = same_goal k.says h.says (h.alone.only (goal_terms k.says) k.alone.reads) in
    k.is ∙ ap (λ g. with_equation th (record { left = g.left; right = g.right; conds = g.conds; exec = exec })) e ∙ sym h.is
adds_once th (derivative term) u v h k =
    let e = h.alone.only (k.body ∷ []) k.alone.reads in
    let t : k.body ≡ h.body = cc in
    k.is ∙ ap (with_derivative th) t ∙ sym h.is
adds_once th (cases sort names) u v h k =
    let s : k.number ≡ h.number = same_Some k.number h.number (sym k.sort_is ∙ h.sort_is) in
    let cs : k.constants ≡ h.constants = same_Some k.constants h.constants (sym k.constants_are ∙ ap (λ x. constant_numbers th x names) s ∙ h.constants_are) in
    k.is ∙ (λ i. with_cases th (s i) (cs i)) ∙ sym h.is

adds_or_refuses : (th : Theory) (s : Said) (u : Theory) (c : Cause) → AddsStatement th s u → RefusesStatement th s c → ⊥
adds_or_refuses th (inclusion name) u c h k = h
adds_or_refuses th (sorts names) u c h k = no_cause (first_fault sort_fault with_sort th names) c h.no_fault k
adds_or_refuses th (operators forms args result a d i) u c h k =
    no_cause (first_fault (operator_fault h.sorts h.sort a d i) (with_operator h.sorts h.sort a d i) th forms) c h.adds.no_fault
    (has_found (sort_number th.signature result) cause.UnknownSort (λ s. IsCauseOf (first_fault (operator_fault h.sorts s a d i) (with_operator h.sorts s a d i) th forms)) h.sort c h.result_is
    (has_found (sort_numbers th args) cause.UnknownSort
    (λ ss. LacksOr (sort_number th.signature result) cause.UnknownSort (λ s. IsCauseOf (first_fault (operator_fault ss s a d i) (with_operator ss s a d i) th forms))) h.sorts c h.args_are k))
adds_or_refuses th (variables names sort) u c h k =
    no_cause (first_fault (variable_fault h.number) (with_variable h.number) th names) c h.adds.no_fault
    (has_found (sort_number th.signature sort) cause.UnknownSort (λ s. IsCauseOf (first_fault (variable_fault s) (with_variable s) th names)) h.number c h.sort_is k)
adds_or_refuses th (equation left right conds exec) u c h (inl k) =
    let lists = equation_lists left right conds in
    alone_or_not (first_long lists) (ReadsEquation th lists) (terms_text th) (goal_terms h.says) c h.alone k
adds_or_refuses th (equation left right conds exec) u c h (inr k) =
    let e = same_goal k.0 h.says (h.alone.only (goal_terms k.0) k.1.0.reads) in
    no_cause (equation_fault th h.says.conds) c h.no_fault (subst (λ g. IsCauseOf (equation_fault th g.conds) c) e k.1.1)
adds_or_refuses th (derivative term) u c h (inl k) = alone_or_not (long_count term) (ReadsHole th term) (terms_text th) (h.body ∷ []) c h.alone k
adds_or_refuses th (derivative term) u c h (inr k) =
    let e = h.alone.only (k.0 ∷ []) k.1.0.reads in
    let t : k.0 ≡ h.body = cc in
    no_cause (derivative_fault th h.body) c h.no_fault (subst (λ x. IsCauseOf (derivative_fault th x) c) t k.1.1)
adds_or_refuses th (cases sort names) u c h k =
    no_cause (cases_fault th h.number h.constants) c h.no_fault
    (has_found (constant_numbers th h.number names) cause.NoParse (λ cs. IsCauseOf (cases_fault th h.number cs)) h.constants c h.constants_are
    (has_found (sort_number th.signature sort) cause.UnknownSort (λ s. LacksOr (constant_numbers th s names) cause.NoParse (λ cs. IsCauseOf (cases_fault th s cs))) h.number c h.sort_is k))

refuses_once : (th : Theory) (s : Said) (c d : Cause) → RefusesStatement th s c → RefusesStatement th s d → AreAlike {A = Theory} (Err c) (Err d)
refuses_once th (inclusion name) c d h k = alike_of (Err c) (Err d) (Err cause.UnknownTheory) (ap Err h) (ap Err k)
refuses_once th (sorts names) c d h k = cause_once (first_fault sort_fault with_sort th names) c d h k
refuses_once th (operators forms args result a b i) c d h k =
    lacks_once (sort_numbers th args) cause.UnknownSort
    (λ ss. LacksOr (sort_number th.signature result) cause.UnknownSort (λ s. IsCauseOf (first_fault (operator_fault ss s a b i) (with_operator ss s a b i) th forms)))
    (λ ss. lacks_once (sort_number th.signature result) cause.UnknownSort (λ s. IsCauseOf (first_fault (operator_fault ss s a b i) (with_operator ss s a b i) th forms))
    (λ s. cause_once (first_fault (operator_fault ss s a b i) (with_operator ss s a b i) th forms))) c d h k
refuses_once th (variables names sort) c d h k =
    lacks_once (sort_number th.signature sort) cause.UnknownSort (λ s. IsCauseOf (first_fault (variable_fault s) (with_variable s) th names))
    (λ s. cause_once (first_fault (variable_fault s) (with_variable s) th names)) c d h k
refuses_once th (equation left right conds exec) c d (inl h) (inl k) =
    let lists = equation_lists left right conds in not_alone_once (first_long lists) (ReadsEquation th lists) (terms_text th) c d h k
refuses_once th (equation left right conds exec) c d (inl h) (inr k) =
    let lists = equation_lists left right conds in absurd (alone_or_not (first_long lists) (ReadsEquation th lists) (terms_text th) (goal_terms k.0) c k.1.0 h)
refuses_once th (equation left right conds exec) c d (inr h) (inl k) =
    let lists = equation_lists left right conds in absurd (alone_or_not (first_long lists) (ReadsEquation th lists) (terms_text th) (goal_terms h.0) d h.1.0 k)
refuses_once th (equation left right conds exec) c d (inr h) (inr k) =
    let e = same_goal k.0 h.0 (h.1.0.only (goal_terms k.0) k.1.0.reads) in
    cause_once (equation_fault th h.0.conds) c d h.1.1 (subst (λ g. IsCauseOf (equation_fault th g.conds) d) e k.1.1)
refuses_once th (derivative term) c d (inl h) (inl k) = not_alone_once (long_count term) (ReadsHole th term) (terms_text th) c d h k
refuses_once th (derivative term) c d (inl h) (inr k) = absurd (alone_or_not (long_count term) (ReadsHole th term) (terms_text th) (k.0 ∷ []) c k.1.0 h)
refuses_once th (derivative term) c d (inr h) (inl k) = absurd (alone_or_not (long_count term) (ReadsHole th term) (terms_text th) (h.0 ∷ []) d h.1.0 k)
refuses_once th (derivative term) c d (inr h) (inr k) =
    let e = h.1.0.only (k.0 ∷ []) k.1.0.reads in
    let t : k.0 ≡ h.0 = cc in
    cause_once (derivative_fault th h.0) c d h.1.1 (subst (λ x. IsCauseOf (derivative_fault th x) d) t k.1.1)
refuses_once th (cases sort names) c d h k =
    lacks_once (sort_number th.signature sort) cause.UnknownSort (λ s. LacksOr (constant_numbers th s names) cause.NoParse (λ cs. IsCauseOf (cases_fault th s cs)))
    (λ s. lacks_once (constant_numbers th s names) cause.NoParse (λ cs. IsCauseOf (cases_fault th s cs)) (λ cs. cause_once (cases_fault th s cs))) c d h k

pub statement_once : (th : Theory) (s : Said) (r q : Result Theory Cause) → SaidOutcome AddsStatement RefusesStatement th s r → SaidOutcome AddsStatement RefusesStatement th s q → AreAlike r q
statement_once th s (Ok u) (Ok v) h k = alike_of (Ok u) (Ok v) (Ok u) refl (ap Ok (adds_once th s u v h k))
statement_once th s (Ok u) (Err c) h k = absurd (adds_or_refuses th s u c h k)
statement_once th s (Err c) (Ok u) h k = absurd (adds_or_refuses th s u c k h)
statement_once th s (Err c) (Err d) h k = refuses_once th s c d h k

err_as : (c d : Cause) → AreAlike {A = Theory} (Err c) (Err d) → AreAlike {A = Scope} (Err c) (Err d)
err_as c d same = same
err_as c d ambiguous = ambiguous

module _ (cut : CutOnce) (law : SaidOnce) (s : Scope) (name : List ℕ) where
  included_once : (t v : Scope) → Includes s name t → Includes s name v → v ≡ t
  included_once t v (again h) (again k) = refl
  included_once t v (again h) (anew text u k e l) = absurd (cc)
  included_once t v (anew text u k e l) (again h) = absurd (cc)
  included_once t v (anew text u k e l) (anew text' w k' e' l') =
      let x : text' ≡ text = cc in
      let same_last = leads_once cut law AddsStatement RefusesStatement statement_once (λ _. with_variables s.theory []) text u w l (subst (λ y. ReadsTo AddsStatement (λ _. with_variables s.theory []) y w) x l') in
      ap (λ y. scope (with_variables y s.theory.variables) (s.included ++ name ∷ [])) same_last

  included_or_not : (t : Scope) (c : Cause) → Includes s name t → RefusesInclusion s name c → ⊥
  included_or_not t c (again h) (unknown k e) = cc
  included_or_not t c (again h) (broken text n d k e l) = cc
  included_or_not t c (anew text u k e l) (unknown k' e') = cc
  included_or_not t c (anew text u k e l) (broken text' n d k' e' l') =
      let x : text' ≡ text = cc in
      leads_or_fails cut law AddsStatement RefusesStatement statement_once (λ _. with_variables s.theory []) text u n d l (subst (λ y. FailsAt AddsStatement RefusesStatement (λ _. with_variables s.theory []) y n d) x l')

  not_included_once : (c d : Cause) → RefusesInclusion s name c → RefusesInclusion s name d → AreAlike {A = Scope} (Err c) (Err d)
  not_included_once c d (unknown k e) (unknown k' e') = same
  not_included_once c d (unknown k e) (broken text n x k' e' l) = absurd (cc)
  not_included_once c d (broken text n x k e l) (unknown k' e') = absurd (cc)
  not_included_once c d (broken text n x k e l) (broken text' m y k' e' l') =
      let z : text' ≡ text = cc in
      err_as x y (fails_once cut law AddsStatement RefusesStatement statement_once (λ _. with_variables s.theory []) text n m x y l (subst (λ w. FailsAt AddsStatement RefusesStatement (λ _. with_variables s.theory []) w m y) z l')).1

module _ (cut : CutOnce) (law : SaidOnce) where
  by_once : (o : Option (List ℕ)) (s : Scope) (said : Said) (t v : Scope) → AddsBy o s said t → AddsBy o s said v → v ≡ t
  by_once None s said t v h k = λ i. scope (adds_once s.theory said t.theory v.theory h.0 k.0 i) ((k.1 ∙ sym h.1) i)
  by_once (Some name) s said t v h k = included_once cut law s name t v h k

  by_or_not : (o : Option (List ℕ)) (s : Scope) (said : Said) (t : Scope) (c : Cause) → AddsBy o s said t → RefusesBy o s said c → ⊥
  by_or_not None s said t c h k = adds_or_refuses s.theory said t.theory c h.0 k
  by_or_not (Some name) s said t c h k = included_or_not cut law s name t c h k

  not_by_once : (o : Option (List ℕ)) (s : Scope) (said : Said) (c d : Cause) → RefusesBy o s said c → RefusesBy o s said d → AreAlike {A = Scope} (Err c) (Err d)
  not_by_once None s said c d h k = err_as c d (refuses_once s.theory said c d h k)
  not_by_once (Some name) s said c d h k = not_included_once cut law s name c d h k

  pub scope_once : (s : Scope) (said : Said) (r q : Result Scope Cause) → SaidOutcome AddsIn RefusesIn s said r → SaidOutcome AddsIn RefusesIn s said q → AreAlike r q
  scope_once s said (Ok t) (Ok v) h k = alike_of (Ok t) (Ok v) (Ok t) refl (ap Ok (by_once (included_name said) s said t v h k))
  scope_once s said (Ok t) (Err c) h k = absurd (by_or_not (included_name said) s said t c h k)
  scope_once s said (Err c) (Ok t) h k = absurd (by_or_not (included_name said) s said t c k h)
  scope_once s said (Err c) (Err d) h k = not_by_once (included_name said) s said c d h k
