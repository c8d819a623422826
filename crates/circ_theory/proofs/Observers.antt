-- Theories with one derivative or case list more are well-formed.
use Rattle.std.proofs.Common.{◌≡◌, ◌≤◌, ◌<◌, ℕ, zero, suc, Bool, true, false, ◌==◌, ◌||◌, not, nat_lt, nat_eq, if◌then◌else◌, List, [], ◌∷◌, ◌++◌, map, find}
use Rattle.std.proofs.Common.{length, Option, Some, None, is_some, ◌⊎◌, inl, inr, refl, ap, sym, subst, ◌∙◌, arith}
use Rattle.std.specs.List.{IsDistinct, Contains, list_any, slice_get}
use Rattle.std.specs.Option.{option_map}
use Rattle.std.proofs.lemmas.Grind.{common_steps}
use Rattle.std.proofs.lemmas.Bool.{eqb-true, eq-eqb, and_parts}
use Rattle.std.proofs.lemmas.List.Elements.{Contains-push_cases}
use Rattle.std.proofs.lemmas.List.Folds.{list_any-append}
use Rattle.std.proofs.lemmas.Map.Keys.{IsDistinct-push}
use Rattle.std.specs.Cmp.{nat_eq_equiv}
use Rattle.circ_term.specs.Tree.{Tree, sort_of}
use Rattle.circ_theory.specs.declared.fault.TheoryFault.{TheoryFault}
use Rattle.circ_theory.specs.declared.fault.TheoryFault.TheVariants.{Twice, UnknownSort, IllSorted, NotLinear, NoConstant, NotVisible, NowHidden, Limit}
use Rattle.circ_theory.specs.Limits.{derivative_limit, parameter_limit, constant_limit}
use Rattle.circ_theory.specs.Signature.{Signature, Operator, IsWellSorted}
use Rattle.circ_pairs.specs.declared.goals.Equation.{Equation}
use Rattle.circ_pairs.specs.Pair.{Pair}
use Rattle.circ_pairs.specs.Goal.{goal_of}
use Rattle.circ_theory.specs.Theory.{Theory, Derivative, CaseList, IsVisible}
use Rattle.circ_theory.specs.Adding.{is_no_sort}
use Rattle.circ_theory.specs.WellFormed.{IsDerivative, IsCaseList, IsWellFormed}
use Rattle.circ_pairs.specs.Slots.{holes_in, parameters_in, first_repeated, AreParametersInOrder}
use Rattle.circ_theory.specs.Observing.{first_or_zero, derivative_of, cases_of}
use Rattle.circ_theory.specs.Observing.{is_hidden, hole_fault, now_hidden, long_fault, derivative_fault, with_derivative, is_constant, twice_listed}
use Rattle.circ_pairs.specs.Pair.{has_condition_of}
use Rattle.circ_theory.specs.Observing.{no_constants, cases_fault, case_list, with_cases, is_condition_sort}
use Rattle.circ_theory.proofs.Lists.{map-push}
use Rattle.circ_theory.proofs.Faults.{option_or_none, option_map_none, only_if, not_false, known_sort, find_none, room_left}
use Rattle.circ_theory.proofs.Growing.{length-push, case_list_stays, goal_stays, same_hidden}
use Rattle.circ_theory.proofs.Casing.{hidden_tells}
use Rattle.circ_theory.proofs.Linear.{numbered_once, one_item, hole_sorted, distinct_by}

-- a term that may be added as a derivative
pub record IsNewDerivative (th : Theory) (t : Tree) : Type 0 where
  pub linear : first_repeated (parameters_in t) ≡ None
  pub one_hole : length (holes_in t) ≡ 1
  pub no_cases : cases_of th (first_or_zero (holes_in t)) ≡ None
  pub no_condition : is_condition_sort th (first_or_zero (holes_in t)) ≡ false
  pub few : length (parameters_in t) ≤ parameter_limit
  pub room : length th.derivatives < derivative_limit

no_list : (o : Option (List ℕ)) (f : TheoryFault) → (if is_some o then Some f else None) ≡ None → o ≡ None
no_list None f e = refl
no_list (Some x) f e = absurd (cc)

neither : (o : Option (List ℕ)) (b : Bool) (f : TheoryFault) → (if is_some o || b then Some f else None) ≡ None → (o ≡ None) × (b ≡ false)
neither None false f e = (refl, refl)
neither None true f e = absurd (cc)
neither (Some x) b f e = absurd (cc)

one_hole_by : (n : ℕ) → hole_fault n ≡ None → n ≡ 1
one_hole_by n e = go (n == 1) refl
  where
    go : (b : Bool) → (n == 1) ≡ b → n ≡ 1
    go true f = eqb-true n 1 f
    go false f = absurd (let z = rw f at e in cc)

pub short_by : (most n : ℕ) → long_fault most n ≡ None → n ≤ most
short_by most n e = let few : nat_lt most n ≡ false = only_if (nat_lt most n) (Limit n) e in grind (arith, common_steps)

pub new_derivative : (th : Theory) (t : Tree) → derivative_fault th t ≡ None → IsNewDerivative th t
new_derivative th t e =
    let a = option_or_none (option_map NotLinear (first_repeated (parameters_in t))) _ e in
    let b = option_or_none (hole_fault (length (holes_in t))) _ a.1 in
    let c = option_or_none (now_hidden th (first_or_zero (holes_in t))) _ b.1 in
    let d = option_or_none (long_fault parameter_limit (length (parameters_in t))) _ c.1 in
    let hole : ℕ = first_or_zero (holes_in t) in
    let visible = neither (cases_of th hole) (is_condition_sort th hole) (NowHidden hole) c.0 in
    record {
      linear = option_map_none NotLinear (first_repeated (parameters_in t)) a.0;
      one_hole = one_hole_by (length (holes_in t)) b.0;
      no_cases = visible.0;
      no_condition = visible.1;
      few = short_by parameter_limit (length (parameters_in t)) d.0;
      room = room_left derivative_limit (length th.derivatives) d.1;
    }

-- a sort without a case list is the sort of none
no_case_list : (th : Theory) (s : ℕ) (l : CaseList) → cases_of th s ≡ None → Contains th.cases l → l.sort ≡ s → ⊥
no_case_list th s l e c same =
    let none = find_none (λ l. s == l.sort) th.cases l (option_map_none (λ l. l.constants) (find (λ l. s == l.sort) th.cases) e) c in
    let there : (s == l.sort) ≡ true = eq-eqb s l.sort (sym same) in
    absurd (let z = sym there ∙ none in cc)

not_any : {X : Type 0} (p : X → Bool) (xs : List X) (x : X) → list_any p xs ≡ false → Contains xs x → p x ≡ false
not_any p [] x e c = absurd (omega (arith, c.1))
not_any p (y ∷ ys) x e c = go (p y) refl (λ f d. not_any p ys x f d) c
  where
    go : (b : Bool) → p y ≡ b → (list_any p ys ≡ false → Contains ys x → p x ≡ false) → Contains (y ∷ ys) x → p x ≡ false
    go true f ih c = absurd (let z = rw f at e in cc)
    go false f ih (zero, h, g) = ap p (sym g) ∙ f
    go false f ih (suc k, h, g) = ih (rw f at e) (k, omega arith, g)

-- a sort that is no condition's is that of none
no_such_condition : (th : Theory) (s : ℕ) (e : Equation) (p : Pair) → is_condition_sort th s ≡ false → Contains th.equations e → Contains e.conds p
    → sort_of p.left ≡ s → ⊥
no_such_condition th s e p none c d same =
    let others : has_condition_of s e.conds ≡ false = not_any (λ x. has_condition_of s x.conds) th.equations e none c in
    let other : (s == sort_of p.left) ≡ false = not_any (λ x. s == sort_of x.left) e.conds p others d in
    let there : (s == sort_of p.left) ≡ true = eq-eqb s (sort_of p.left) (sym same) in
    absurd (let z = sym there ∙ other in cc)

pub derivative_grows : (th : Theory) (t : Tree) → IsWellFormed th → IsWellSorted th.signature t → AreParametersInOrder t → IsNewDerivative th t
    → IsWellFormed (with_derivative th t)
derivative_grows th t h sorted order new =
    let l = length-push th.derivatives (derivative_of t) in
    record {
      equations = λ e c. let g = h.equations e c in record {
        sorted = g.sorted;
        conds = λ p d. record {
          sorted = (g.conds p d).sorted;
          visible = λ i. shown e p c d (g.conds p d).visible (Contains-push_cases th.derivatives (derivative_of t) i.derivative i.listed) i.hole;
        };
      };
      in_order = h.in_order;
      few_conds = h.few_conds;
      variables = h.variables;
      operators = h.operators;
      derivatives = λ d c. either d (Contains-push_cases th.derivatives (derivative_of t) d c);
      cases = λ m c. let k = h.cases m c in record {
        sort = k.sort;
        visible = λ i. still m c (Contains-push_cases th.derivatives (derivative_of t) i.derivative i.listed) i.hole;
        some = k.some;
        different = k.different;
        constants = k.constants;
        few = k.few;
      };
      one_list = h.one_list;
      few_sorts = h.few_sorts;
      few_variables = h.few_variables;
      few_ops = h.few_ops;
      few_equations = h.few_equations;
      few_derivatives = (let room = new.room in omega arith);
    }
  where
    added : IsDerivative th.signature (derivative_of t)
    added = record {
      hole = hole_sorted th.signature t sorted new.one_hole;
      body = sorted;
      one_hole = one_item (holes_in t) new.one_hole;
      numbered = numbered_once t order new.linear;
      few = new.few;
    }

    either : (d : Derivative) → Contains th.derivatives d ⊎ (derivative_of t ≡ d) → IsDerivative th.signature d
    either d (inl c) = h.derivatives d c
    either d (inr q) = let P : Derivative → Type 0 = IsDerivative th.signature in subst P q added

    shown : (e : Equation) (p : Pair) → Contains th.equations e → Contains e.conds p → IsVisible th (sort_of p.left)
        → {d : Derivative} → Contains th.derivatives d ⊎ (derivative_of t ≡ d) → d.hole ≡ sort_of p.left → ⊥
    shown e p c k v {d} (inl l) q = v (record { derivative = d; listed = l; hole = q })
    shown e p c k v {d} (inr l) q = no_such_condition th (first_or_zero (holes_in t)) e p new.no_condition c k (sym q ∙ sym (ap (λ d. d.hole) l))

    still : (m : CaseList) → Contains th.cases m → {d : Derivative} → Contains th.derivatives d ⊎ (derivative_of t ≡ d) → d.hole ≡ m.sort → ⊥
    still m c {d} (inl k) e = (h.cases m c).visible (record { derivative = d; listed = k; hole = e })
    still m c {d} (inr q) e = no_case_list th (first_or_zero (holes_in t)) m new.no_cases c (sym e ∙ sym (ap (λ d. d.hole) q))

-- constants that may be added as the case list of a sort
pub record IsNewList (th : Theory) (s : ℕ) (cs : List ℕ) : Type 0 where
  pub no_cases : cases_of th s ≡ None
  pub list : IsCaseList th (case_list s cs)

constant_by : (sig : Signature) (s c : ℕ) → is_constant sig s c ≡ true → (o : Operator) × ((slice_get sig.ops c ≡ Some o) × (o.args ≡ []) × (o.result ≡ s))
constant_by sig s c e = go (slice_get sig.ops c) refl
  where
    empty : (ns : List ℕ) → (length ns == 0) ≡ true → ns ≡ []
    empty [] h = refl
    empty (n ∷ ns) h = absurd (let z = eqb-true (length (n ∷ ns)) 0 h in omega arith)

    go : (o : Option Operator) → slice_get sig.ops c ≡ o → (o : Operator) × ((slice_get sig.ops c ≡ Some o) × (o.args ≡ []) × (o.result ≡ s))
    go None f = absurd (let z = rw f at e in cc)
    go (Some o) f = let parts = and_parts (length o.args == 0) (o.result == s) (rw f at e) in (o, (f, empty o.args parts.0, eqb-true o.result s parts.1))

pub new_list : (th : Theory) (s : ℕ) (cs : List ℕ) → cases_fault th s cs ≡ None → IsNewList th s cs
new_list th s cs e =
    let a = option_or_none (twice_listed th s cs) _ e in
    let b = option_or_none (no_constants th s cs) _ a.1 in
    let c = option_or_none (if is_hidden th s then Some (NotVisible s) else None) _ b.1 in
    let twice = option_or_none (if is_some (cases_of th s) then Some (Twice s) else None) _ a.0 in
    let d = option_or_none (if is_no_sort th.signature s then Some (UnknownSort s) else None) _ b.0 in
    let f = option_or_none (option_map IllSorted (find (λ c. not (is_constant th.signature s c)) cs)) _ d.1 in
    let fits = option_map_none IllSorted (find (λ c. not (is_constant th.signature s c)) cs) f.0 in
    let plain : is_hidden th s ≡ false = only_if (is_hidden th s) (NotVisible s) c.0 in
    record {
      no_cases = no_list (cases_of th s) (Twice s) twice.0;
      list = record {
        sort = known_sort th.signature s (only_if (is_no_sort th.signature s) (UnknownSort s) d.0);
        visible = λ i. absurd (let z = sym plain ∙ (hidden_tells th s).1 i in cc);
        some = λ q. absurd (let z = sym (only_if (length cs == 0) NoConstant f.1) ∙ ap (λ cs. length cs == 0) q in cc);
        different = distinct_by cs (option_map_none Twice (first_repeated cs) twice.1);
        constants = λ x k. constant_by th.signature s x (not_false (is_constant th.signature s x) (find_none (λ c. not (is_constant th.signature s c)) cs x fits k));
        few = short_by constant_limit (length cs) c.1;
      };
    }

absent_sort : (ls : List CaseList) (s : ℕ) → option_map (λ l. l.constants) (find (λ l. s == l.sort) ls) ≡ None
    → list_any (nat_eq s) (map (λ l. l.sort) ls) ≡ false
absent_sort [] s e = refl
absent_sort (l ∷ ls) s e = go (s == l.sort) refl (λ h. absent_sort ls s h)
  where
    go : (b : Bool) → (s == l.sort) ≡ b
        → (option_map (λ l. l.constants) (find (λ l. s == l.sort) ls) ≡ None → list_any (nat_eq s) (map (λ l. l.sort) ls) ≡ false)
        → ((s == l.sort) || list_any (nat_eq s) (map (λ l. l.sort) ls)) ≡ false
    go true f ih = absurd (let z = rw f at e in cc)
    go false f ih = rw f (ih (rw f at e))

pub absent_entry : {V : Type 0} (items : V → List ℕ) (es : List (ℕ × V)) (s : ℕ)
    → option_map (λ l. l.constants) (find (λ l. s == l.sort) (map (λ e. case_list e.0 (items e.1)) es)) ≡ None
    → list_any (λ e. s == e.0) es ≡ false
absent_entry items [] s e = refl
absent_entry items (x ∷ es) s e = go (s == x.0) refl (λ h. absent_entry items es s h)
  where
    go : (b : Bool) → (s == x.0) ≡ b
        → (option_map (λ l. l.constants) (find (λ l. s == l.sort) (map (λ e. case_list e.0 (items e.1)) es)) ≡ None → list_any (λ e. s == e.0) es ≡ false)
        → ((s == x.0) || list_any (λ e. s == e.0) es) ≡ false
    go true f ih = absurd (let z = rw f at e in cc)
    go false f ih = rw f (ih (rw f at e))

pub cases_grow : (th : Theory) (s : ℕ) (cs : List ℕ) → IsWellFormed th → IsNewList th s cs → IsWellFormed (with_cases th s cs)
cases_grow th s cs h new =
    let P : List ℕ → Type 0 = IsDistinct nat_eq in
    record {
      equations = λ e c. goal_stays th (with_cases th s cs) (record { sorts = λ s i. i; ops = λ f o g. g }) (same_hidden th (with_cases th s cs) refl) (goal_of e) (h.equations e c);
      in_order = h.in_order;
      few_conds = h.few_conds;
      variables = h.variables;
      operators = h.operators;
      derivatives = h.derivatives;
      cases = λ m c. stays m (either m (Contains-push_cases th.cases (case_list s cs) m c));
      one_list = subst P (sym (map-push (λ l. l.sort) th.cases (case_list s cs)))
          (IsDistinct-push nat_eq_equiv (map (λ l. l.sort) th.cases) s h.one_list (absent_sort th.cases s new.no_cases));
      few_sorts = h.few_sorts;
      few_variables = h.few_variables;
      few_ops = h.few_ops;
      few_equations = h.few_equations;
      few_derivatives = h.few_derivatives;
    }
  where
    either : (m : CaseList) → Contains th.cases m ⊎ (case_list s cs ≡ m) → IsCaseList th m
    either m (inl c) = h.cases m c
    either m (inr q) = let P : CaseList → Type 0 = IsCaseList th in subst P q new.list

    stays : (m : CaseList) → IsCaseList th m → IsCaseList (with_cases th s cs) m
    stays m k = case_list_stays th (with_cases th s cs) (record { sorts = λ s i. i; ops = λ f o g. g }) refl m k

-- the sorts of holes after one more
pub hidden_more : (th : Theory) (ks new : List ℕ) (h m : ℕ) (d : Derivative) → list_any (nat_eq m) ks ≡ is_hidden th m
    → list_any (nat_eq m) new ≡ ((m == h) || list_any (nat_eq m) ks)
    → d.hole ≡ h → list_any (nat_eq m) new ≡ list_any (λ d. m == d.hole) (th.derivatives ++ d ∷ [])
hidden_more th ks new h m d before after same =
    after ∙ ap (λ b. (m == h) || b) before ∙ swap (m == h) (is_hidden th m)
    ∙ ap (λ k. is_hidden th m || ((m == k) || false)) (sym same) ∙ sym (list_any-append (λ d. m == d.hole) th.derivatives (d ∷ []))
  where
    swap : (a b : Bool) → (a || b) ≡ (b || (a || false))
    swap true true = refl
    swap true false = refl
    swap false true = refl
    swap false false = refl
