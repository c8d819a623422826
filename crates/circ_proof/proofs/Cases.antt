-- The case list of a sort, and a goal in each of its cases.
use Rattle.std.proofs.Common.{◌≡◌, ◌⊎◌, ℕ, Bool, true, false, ◌==◌, nat_eq, List, [], ◌∷◌, map, find, Option, Some, None, refl, ap, sym, subst, ◌∙◌, inl, inr, arith}
use Rattle.std.specs.List.{AllByRecursion, Contains, IsDistinct}
use Rattle.std.specs.Option.{option_map}
use Rattle.std.proofs.lemmas.Bool.{eqb-true, eqb-false}
use Rattle.std.proofs.lemmas.Option.{same_Some}
use Rattle.std.proofs.lemmas.List.Elements.{Contains-append_cases}
use Rattle.circ_term.specs.Tree.{Tree, none, sort_of}
use Rattle.circ_theory.specs.Signature.{HaveSorts, IsWellSorted}
use Rattle.circ_theory.specs.Theory.{Theory, Pair, CaseList, IsVisible, IsWellSortedPair, IsCondition, IsWellSortedGoal}
use Rattle.circ_theory.specs.Derivable.{is_case}
use Rattle.circ_theory.specs.Goal.{Goal}
use Rattle.circ_theory.specs.Observing.{cases_of, case_list}
use Rattle.circ_theory.specs.WellFormed.{IsWellFormed}
use Rattle.circ_theory.proofs.Weakening.{first_or_rest, in_rest}
use Rattle.circ_proof.specs.Goals.{AreSortedGoals, with_cond}
use Rattle.circ_proof.specs.Rules.{cases_on}
use Rattle.circ_proof.proofs.Members.{nothing, pick, from_map}

abbrev constants_in : List CaseList → ℕ → Option (List ℕ)
constants_in ls s = option_map (λ l. l.constants) (find (λ l. s == l.sort) ls)

-- what is found is listed
found_listed : (ls : List CaseList) (s : ℕ) (ks : List ℕ) → constants_in ls s ≡ Some ks → Contains ls (case_list s ks)
found_listed [] s ks e = absurd (cc)
found_listed (l ∷ ls) s ks e = go (λ h. found_listed ls s ks h) (s == l.sort) refl
  where
    go : (constants_in ls s ≡ Some ks → Contains ls (case_list s ks)) → (b : Bool) → (s == l.sort) ≡ b → Contains (l ∷ ls) (case_list s ks)
    go ih true f =
        let same : l.constants ≡ ks = same_Some l.constants ks (rw f at e) in
        let is : l ≡ case_list s ks = ap (case_list l.sort) same ∙ ap (λ n. case_list n ks) (sym (eqb-true s l.sort f)) in
        (0, omega arith, is)
    go ih false f = in_rest l (case_list s ks) ls (ih (rw f at e))

other_sort : (n : ℕ) (ls : List CaseList) → AllByRecursion (λ m. nat_eq n m ≡ false) (map (λ l. l.sort) ls) → (m : CaseList) → Contains ls m
    → n ≡ m.sort → ⊥
other_sort n [] a m k e = absurd (omega (arith, k.1))
other_sort n (l ∷ ls) a m k e = go (first_or_rest l m ls k) (λ h. other_sort n ls a.1 m h e)
  where
    go : (l ≡ m) ⊎ Contains ls m → (Contains ls m → ⊥) → ⊥
    go (inl f) ih = eqb-false n l.sort a.0 (e ∙ ap (λ x. x.sort) (sym f))
    go (inr h) ih = ih h

-- a listed one of the sort is what is found
listed_found : (ls : List CaseList) (s : ℕ) (ks : List ℕ) → IsDistinct nat_eq (map (λ l. l.sort) ls) → constants_in ls s ≡ Some ks
    → (m : CaseList) → Contains ls m → s ≡ m.sort → m ≡ case_list s ks
unfolding IsDistinct
listed_found [] s ks d e m k f = absurd (cc)
listed_found (l ∷ ls) s ks d e m k f = go (first_or_rest l m ls k) (s == l.sort) refl (λ g h. listed_found ls s ks d.1 g m h f)
  where
    go : (l ≡ m) ⊎ Contains ls m → (b : Bool) → (s == l.sort) ≡ b → (constants_in ls s ≡ Some ks → Contains ls m → m ≡ case_list s ks) → m ≡ case_list s ks
    go (inl g) true t ih =
        let same : l.constants ≡ ks = same_Some l.constants ks (rw t at e) in
        sym g ∙ ap (case_list l.sort) same ∙ ap (λ n. case_list n ks) (sym (eqb-true s l.sort t))
    go (inl g) false t ih = absurd (eqb-false s l.sort t (f ∙ ap (λ x. x.sort) (sym g)))
    go (inr h) true t ih = absurd (other_sort l.sort ls d.0 m h (sym (eqb-true s l.sort t) ∙ f))
    go (inr h) false t ih = ih (rw t at e) h

none_found : (ls : List CaseList) (s : ℕ) → constants_in ls s ≡ None → (m : CaseList) → Contains ls m → s ≡ m.sort → ⊥
none_found [] s e m k f = absurd (omega (arith, k.1))
none_found (l ∷ ls) s e m k f = go (first_or_rest l m ls k) (s == l.sort) refl (λ g h. none_found ls s g m h f)
  where
    go : (l ≡ m) ⊎ Contains ls m → (b : Bool) → (s == l.sort) ≡ b → (constants_in ls s ≡ None → Contains ls m → ⊥) → ⊥
    go x true t ih = absurd (let z = rw t at e in cc)
    go (inl g) false t ih = eqb-false s l.sort t (f ∙ ap (λ x. x.sort) (sym g))
    go (inr h) false t ih = ih (rw t at e) h

pub cases_listed : (th : Theory) (s : ℕ) (ks : List ℕ) → cases_of th s ≡ Some ks → Contains th.cases (case_list s ks)
cases_listed th s ks e = found_listed th.cases s ks e

pub listed_cases : (th : Theory) → IsWellFormed th → (s : ℕ) (ks : List ℕ) → cases_of th s ≡ Some ks → (l : CaseList) → Contains th.cases l
    → s ≡ l.sort → l ≡ case_list s ks
listed_cases th ok s ks e l k f = listed_found th.cases s ks ok.one_list e l k f

pub no_cases : (th : Theory) (s : ℕ) → cases_of th s ≡ None → (l : CaseList) → Contains th.cases l → s ≡ l.sort → ⊥
no_cases th s e l k f = none_found th.cases s e l k f

-- ---- goals in each case

-- a case is a well-sorted pair
pub case_sorted : (th : Theory) → IsWellFormed th → (u : Tree) (l : CaseList) (k : ℕ) → Contains th.cases l → Contains l.constants k
    → IsWellSorted th.signature u → sort_of u ≡ l.sort → IsWellSortedPair th.signature (is_case u l k)
case_sorted th ok u l k cl ck w e =
    let o = (ok.cases l cl).constants k ck in
    let P : List ℕ → Type 0 = λ ss. HaveSorts th.signature none ss in
    record { left = w; right = (o.0, o.1.0, o.1.2, subst P (sym o.1.1) tt); same_sort = sym e }

-- a case is a condition
case_condition : (th : Theory) → IsWellFormed th → (u : Tree) (l : CaseList) (k : ℕ) → Contains th.cases l → Contains l.constants k
    → IsWellSorted th.signature u → sort_of u ≡ l.sort → IsCondition th (is_case u l k)
case_condition th ok u l k cl ck w e = record {
  sorted = case_sorted th ok u l k cl ck w e;
  visible = let V : ℕ → Type 0 = IsVisible th in subst V (sym e) (ok.cases l cl).visible;
}

-- a goal with one condition more
with_sorted : (th : Theory) (g : Goal) → IsWellSortedGoal th g → (p : Pair) → IsCondition th p → IsWellSortedGoal th (with_cond g p)
with_sorted th g w p h = record {
  sorted = w.sorted;
  conds = λ q d. elim (Contains-append_cases g.conds (p ∷ []) q d) [
    | inl x ↦ w.conds q x
    | inr x ↦ pick (IsCondition th) p q [] h (λ y. nothing q y) x
  ];
}

pub cases_sorted : (th : Theory) → IsWellFormed th → (g : Goal) → IsWellSortedGoal th g → (u : Tree) → IsWellSorted th.signature u
    → (l : CaseList) → Contains th.cases l → sort_of u ≡ l.sort → AreSortedGoals th (cases_on g u l)
cases_sorted th ok g w u wu l c e h d =
    let r = from_map (λ k. with_cond g (is_case u l k)) l.constants h d in
    subst (IsWellSortedGoal th) r.2 (with_sorted th g w (is_case u l r.0) (case_condition th ok u l r.0 c r.1 wu e))
