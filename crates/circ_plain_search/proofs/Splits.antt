-- A split justifies its sides, by a reason for each constant.
use Rattle.std.proofs.Common.{◌≡◌, ℕ, zero, suc, ◌+◌, ◌≤◌, length, Bool, true, false, if◌then◌else◌, List, [], ◌∷◌, ◌++◌, Option, Some, None, Ok, refl, ap, sym, subst, ◌∙◌, arith}
use Rattle.std.specs.Prelude.{not, nat_eq}
use Rattle.std.specs.List.{list_any, AllByRecursion, Contains}
use Rattle.std.specs.Option.{option_or, option_map_or}
use Rattle.std.proofs.lemmas.Option.{same_Some}
use Rattle.circ_term.specs.Tree.{Tree, Trees, Var, App, none, more, sort_of, list_of, operator_number}
use Rattle.circ_term.specs.Order.{is_same}
use Rattle.circ_term.proofs.Order.{same_here}
use Rattle.circ_theory.specs.Signature.{IsWellSorted, HaveSorts}
use Rattle.circ_theory.specs.Theory.{Theory, Pair, pair_with, CaseList}
use Rattle.circ_theory.specs.WellFormed.{IsWellFormed}
use Rattle.circ_theory.specs.Observing.{cases_of, case_list}
use Rattle.circ_theory.specs.Goal.{Goal}
use Rattle.circ_theory.proofs.Casing.{contains_first, contains_next}
use Rattle.circ_theory.proofs.Lists.{all_push}
use Rattle.circ_special.specs.declared.place.Place.{Place}
use Rattle.circ_proof.specs.Plain.{ChainOf, WhyOf, WhysOf, Same_why, Split_why, no_why, more_whys}
use Rattle.circ_proof.specs.Link.{Setting, setting, Leads}
use Rattle.circ_proof.specs.Justified.{ChainLeads, Justified, EachJustified, AllOfWhy, AllOfWhys}
use Rattle.circ_proof.proofs.Cases.{cases_listed}
use Rattle.circ_rewrite.specs.Due.{AreUnconditional}
use Rattle.circ_rewrite.specs.Links.{IsRuleOf}
use Rattle.circ_rewrite.specs.declared.parts.Rule.{Rule}
use Rattle.circ_plain_search.specs.Joining.{and_then, is_open, first_open, first_open_in}
use Rattle.circ_plain_search.specs.Search.{Sides, sides_with, chain_with, normalised, normal_sides, Reason, reason_with, SplitReason, split_with, case_of, Splitter, case_reason, each_case, open_cases, split_cases}
use Rattle.circ_plain_search.proofs.Terms.{Fine, FineTerms, args_fine}
use Rattle.circ_plain_search.proofs.Led.{Led}
use Rattle.circ_plain_search.proofs.Normals.{IsAssumption, normalised_led}
use Rattle.circ_plain_search.proofs.Uses.{Through, through, same_Ok}

-- The chain leads from two sides to two sides, and a budget pays for its links.
pub record SidesLed (c : Setting) (m : ℕ) (s t : Tree) (k : ℕ) (n : Sides) : Type 0 where
  pub left : Led c m n.chain.left s n.left
  pub right : Led c m n.chain.right t n.right
  pub count : n.budget + (length n.chain.left + length n.chain.right) ≡ k

-- At most n splits stand inside one another.
abbrev mutual
  pub FitsIn : {T : Type 0} → ℕ → WhyOf T → Type 0
  FitsIn n (Same_why c) = Unit {0}
  FitsIn zero (Split_why c u ws) = ⊥
  FitsIn (suc n) (Split_why c u ws) = AllFitIn n ws

  pub AllFitIn : {T : Type 0} → ℕ → WhysOf T → Type 0
  AllFitIn n no_why = Unit {0}
  AllFitIn n (more_whys w ws) = FitsIn n w × AllFitIn n ws

-- What a split of two sides gives, with room for n splits inside it.
pub record IsSplit (th : Theory) (m : ℕ) (G : List Place) (H : List Goal) (A : List Pair) (n : ℕ) (s t : Tree) (k : ℕ) (b : SplitReason) : Type 0 where
  pub term : Fine th m b.term
  pub constants : List ℕ
  pub listed : cases_of th (sort_of b.term) ≡ Some constants
  pub each : EachJustified (setting th G H A) (pair_with s t) b.term (case_list (sort_of b.term) constants) constants b.whys
  pub terms : AllOfWhys (Fine th m) b.whys
  pub fits : AllFitIn n b.whys
  pub falls : b.budget ≤ k

-- a case's reason
record IsReason (th : Theory) (m : ℕ) (G : List Place) (H : List Goal) (A : List Pair) (n : ℕ) (s t : Tree) (k : ℕ) (r : Reason) : Type 0 where
  justified : Justified (setting th G H A) (pair_with s t) r.why
  terms : AllOfWhy (Fine th m) r.why
  fits : FitsIn n r.why
  falls : r.budget ≤ k

-- the reasons for some constants of a term
record AreReasons (th : Theory) (m : ℕ) (G : List Place) (H : List Goal) (A : List Pair) (n : ℕ) (u s t : Tree) (l : CaseList) (cs : List ℕ) (k : ℕ) (b : SplitReason) : Type 0 where
  term : b.term ≡ u
  each : EachJustified (setting th G H A) (pair_with s t) u l cs b.whys
  terms : AllOfWhys (Fine th m) b.whys
  fits : AllFitIn n b.whys
  falls : b.budget ≤ k

-- ---- open terms

open_has_cases : (th : Theory) (u : Tree) → is_open th u ≡ true → (cs : List ℕ) × (cases_of th (sort_of u) ≡ Some cs)
open_has_cases th u e = go (cases_of th (sort_of u)) refl e
  where
    go : (o : Option (List ℕ)) → cases_of th (sort_of u) ≡ o
        → option_map_or (λ cs. not (option_map_or (λ f. list_any (nat_eq f) cs) (operator_number u) false)) o false ≡ true
        → (cs : List ℕ) × (cases_of th (sort_of u) ≡ Some cs)
    go None g x = absurd (cc)
    go (Some cs) g x = (cs, g)

-- an open term that is fine
record IsFineOpen (th : Theory) (m : ℕ) (u : Tree) : Type 0 where
  is : is_open th u ≡ true
  fine : Fine th m u

either_open : (th : Theory) (m : ℕ) (a b : Option Tree) (u : Tree) → (a ≡ Some u → IsFineOpen th m u) → (b ≡ Some u → IsFineOpen th m u)
    → option_or a b ≡ Some u → IsFineOpen th m u
either_open th m (Some x) b u f g e = f e
either_open th m None b u f g e = g e

here_open : (th : Theory) (m : ℕ) (t u : Tree) → Fine th m t → (if is_open th t then Some t else None) ≡ Some u → IsFineOpen th m u
here_open th m t u f e = go (is_open th t) refl e
  where
    go : (b : Bool) → is_open th t ≡ b → (if b then Some t else None) ≡ Some u → IsFineOpen th m u
    go true g x = subst (IsFineOpen th m) (same_Some t u x) (record { is = g; fine = f })
    go false g x = absurd (cc)

mutual
  first_open_is : (th : Theory) (m : ℕ) (t u : Tree) → Fine th m t → first_open th t ≡ Some u → IsFineOpen th m u
  first_open_is th m (Var n s) u h e = here_open th m (Var n s) u h e
  first_open_is th m (App f s ts) u h e =
      either_open th m (first_open_in th ts) (if is_open th (App f s ts) then Some (App f s ts) else None) u
      (λ x. first_open_in_is th m ts u (args_fine th m f s ts h) x) (λ x. here_open th m (App f s ts) u h x) e

  first_open_in_is : (th : Theory) (m : ℕ) (ts : Trees) (u : Tree) → FineTerms th m (list_of ts) → first_open_in th ts ≡ Some u → IsFineOpen th m u
  first_open_in_is th m none u h e = absurd (cc)
  first_open_in_is th m (more t ts) u h e =
      either_open th m (first_open th t) (first_open_in th ts) u (λ x. first_open_is th m t u h.0 x) (λ x. first_open_in_is th m ts u h.1 x) e

-- a constant of a case list
constant_sorted : (th : Theory) → IsWellFormed th → (l : CaseList) → Contains th.cases l → (c : ℕ) → Contains l.constants c
    → IsWellSorted th.signature (App c l.sort none)
constant_sorted th wf l k c h =
    let o = (wf.cases l k).constants c h in
    let P : List ℕ → Type 0 = λ ss. HaveSorts th.signature none ss in
    (o.0, o.1.0, o.1.2, subst P (sym o.1.1) tt)

module _ (th : Theory) (wf : IsWellFormed th) (m : ℕ) (one : 1 ≤ m) (G : List Place) (H : List Goal) (R : List Rule)
    (all : AllByRecursion (IsRuleOf th H) R) (bare : AreUnconditional R) where
  pub normal_sides_led : (A : List Pair) → AllByRecursion (IsAssumption th m) A → (s t : Tree) (k : ℕ) (n : Sides) → Fine th m s → Fine th m t
      → normal_sides th R A s t k ≡ Ok n → SidesLed (setting th G H A) m s t k n
  normal_sides_led A fine s t k n fs ft e =
      let x : Through (normalised th R A s k)
      (λ a. and_then (normalised th R A t a.budget) (λ b. Ok (sides_with a.term b.term (chain_with a.links b.links) b.budget))) n = through _ _ n e in
      let y : Through (normalised th R A t x.value.budget)
      (λ b. Ok (sides_with x.value.term b.term (chain_with x.value.links b.links) b.budget)) n = through _ _ n x.last in
      let a = normalised_led th wf m one H R all bare A fine G s k x.value fs x.first in
      let b = normalised_led th wf m one H R all bare A fine G t x.value.budget y.value ft y.first in
      let ca = a.count in
      let cb = b.count in
      subst (SidesLed (setting th G H A) m s t k) (same_Ok _ n y.last)
      (record { left = a.led; right = b.led; count = omega (arith, ca, cb) })

  abbrev IsSplitter : ℕ → Splitter → Type 0
  IsSplitter n again =
      (A : List Pair) → AllByRecursion (IsAssumption th m) A → (s t : Tree) (k : ℕ) (b : SplitReason) → Fine th m s → Fine th m t
      → again A s t k ≡ Ok b → (i : ℕ) × (n ≡ suc i) × IsSplit th m G H A i s t k b

  split_fits : (n i : ℕ) (c : ChainOf Tree) (u : Tree) (ws : WhysOf Tree) → n ≡ suc i → AllFitIn i ws → FitsIn n (Split_why c u ws)
  split_fits n i c u ws e f = let P : ℕ → Type 0 = λ j. FitsIn j (Split_why c u ws) in subst P (sym e) f

  case_is : (n : ℕ) (again : Splitter) → IsSplitter n again → (A : List Pair) → AllByRecursion (IsAssumption th m) A → (s t : Tree) (k : ℕ) (x : Sides) (r : Reason)
      → SidesLed (setting th G H A) m s t k x → case_reason again A x ≡ Ok r → IsReason th m G H A n s t k r
  case_is n again law A fine s t k x r led e = go (is_same x.left x.right) refl e
    where
      chain : ChainLeads (Leads (setting th G H A)) x.chain (pair_with s t) (pair_with x.left x.right)
      chain = record { left = led.left.leads; right = led.right.leads }

      go : (v : Bool) → is_same x.left x.right ≡ v
          → (if v then Ok (reason_with (Same_why x.chain) x.budget)
          else and_then (again A x.left x.right x.budget) (λ c. Ok (reason_with (Split_why x.chain c.term c.whys) c.budget))) ≡ Ok r
          → IsReason th m G H A n s t k r
      go true v y =
          let P : Tree → Type 0 = λ z. ChainLeads (Leads (setting th G H A)) x.chain (pair_with s t) (pair_with x.left z) in
          let count = led.count in
          subst (IsReason th m G H A n s t k) (same_Ok (reason_with (Same_why x.chain) x.budget) r y) (record {
            justified = (x.left, subst P (sym (same_here x.left x.right v)) chain);
            terms = (led.left.terms, led.right.terms);
            fits = tt;
            falls = omega (arith, count);
          })
      go false v y =
          let z : Through (again A x.left x.right x.budget) (λ c. Ok (reason_with (Split_why x.chain c.term c.whys) c.budget)) r = through _ _ r y in
          let i = law A fine x.left x.right x.budget z.value led.left.fine led.right.fine z.first in
          let b = i.2 in
          let count = led.count in
          let falls = b.falls in
          subst (IsReason th m G H A n s t k) (same_Ok (reason_with (Split_why x.chain z.value.term z.value.whys) z.value.budget) r z.last) (record {
            justified = (pair_with x.left x.right, chain, case_list (sort_of z.value.term) b.constants, cases_listed th (sort_of z.value.term) b.constants b.listed, refl, b.each);
            terms = ((led.left.terms, led.right.terms), b.term, b.terms);
            fits = split_fits n i.0 x.chain z.value.term z.value.whys i.1 b.fits;
            falls = omega (arith, count, falls);
          })

  module _ (n : ℕ) (again : Splitter) (law : IsSplitter n again) (A : List Pair) (fine : AllByRecursion (IsAssumption th m) A) (u : Tree) (fu : Fine th m u)
      (ks : List ℕ) (listed : cases_of th (sort_of u) ≡ Some ks) (s t : Tree) (fs : Fine th m s) (ft : Fine th m t) where
    abbrev l : CaseList
    l = case_list (sort_of u) ks

    case_assumed : (c : ℕ) → Contains ks c → IsAssumption th m (case_of u c)
    case_assumed c h = record {
      sorted = record { left = fu.sorted; right = constant_sorted th wf l (cases_listed th (sort_of u) ks listed) c h; same_sort = refl };
      low = omega arith;
    }

    each_is : (cs : List ℕ) → ((c : ℕ) → Contains cs c → Contains ks c) → (k : ℕ) (b : SplitReason) → each_case th R again A u s t cs k ≡ Ok b
        → AreReasons th m G H A n u s t l cs k b
    each_is [] within k b e =
        subst (AreReasons th m G H A n u s t l [] k) (same_Ok (split_with u no_why k) b e)
        (record { term = refl; each = tt; terms = tt; fits = tt; falls = omega arith })
    each_is (c ∷ cs) within k b e =
        let A' : List Pair = A ++ case_of u c ∷ [] in
        let x : Through (and_then (normal_sides th R A' s t k) (case_reason again A'))
        (λ r. and_then (each_case th R again A u s t cs r.budget) (λ d. Ok (split_with u (more_whys r.why d.whys) d.budget))) b = through _ _ b e in
        let y : Through (normal_sides th R A' s t k) (case_reason again A') x.value = through _ _ x.value x.first in
        let z : Through (each_case th R again A u s t cs x.value.budget) (λ d. Ok (split_with u (more_whys x.value.why d.whys) d.budget)) b
        = through _ _ b x.last in
        let more_fine : AllByRecursion (IsAssumption th m) A'
        = all_push (IsAssumption th m) A (case_of u c) fine (case_assumed c (within c (contains_first c cs))) in
        let led = normal_sides_led A' more_fine s t k y.value fs ft y.first in
        let here = case_is n again law A' more_fine s t k y.value x.value led y.last in
        let rest = each_is cs (λ d h. within d (contains_next c d cs h)) x.value.budget z.value z.first in
        let f1 = here.falls in
        let f2 = rest.falls in
        subst (AreReasons th m G H A n u s t l (c ∷ cs) k) (same_Ok (split_with u (more_whys x.value.why z.value.whys) z.value.budget) b z.last) (record {
          term = refl;
          each = (here.justified, rest.each);
          terms = (here.terms, rest.terms);
          fits = (here.fits, rest.fits);
          falls = omega (arith, f1, f2);
        })

  open_is : (n : ℕ) (again : Splitter) → IsSplitter n again → (o : Option Tree) → ((u : Tree) → o ≡ Some u → IsFineOpen th m u) → (A : List Pair)
      → AllByRecursion (IsAssumption th m) A → (s t : Tree) (k : ℕ) (b : SplitReason) → Fine th m s → Fine th m t
      → open_cases th R again o A s t k ≡ Ok b → IsSplit th m G H A n s t k b
  open_is n again law None is A fine s t k b fs ft e = absurd (cc)
  open_is n again law (Some u) is A fine s t k b fs ft e =
      let o = is u refl in
      let has = open_has_cases th u o.is in
      let F : Option (List ℕ) → Type 0 = λ x. each_case th R again A u s t (option_map_or (λ cs. cs) x []) k ≡ Ok b in
      let x = each_is n again law A fine u o.fine has.0 has.1 s t fs ft has.0 (λ c h. h) k b (subst F has.1 e) in
      let T : Tree → Type 0 = Fine th m in
      let J : Tree → Type 0 = λ y. EachJustified (setting th G H A) (pair_with s t) y (case_list (sort_of y) has.0) has.0 b.whys in
      record {
        term = subst T (sym x.term) o.fine;
        constants = has.0;
        listed = ap (λ y. cases_of th (sort_of y)) x.term ∙ has.1;
        each = subst J (sym x.term) x.each;
        terms = x.terms;
        fits = x.fits;
        falls = x.falls;
      }

  pub split_is : (n : ℕ) → IsSplitter n (split_cases th R n)
  split_is zero A fine s t k b fs ft e = absurd (cc)
  split_is (suc n) A fine s t k b fs ft e = (
    n,
    refl,
    open_is n (split_cases th R n) (split_is n) (option_or (first_open th s) (first_open th t))
        (λ u x. either_open th m (first_open th s) (first_open th t) u (λ y. first_open_is th m s u fs y) (λ y. first_open_is th m t u ft y) x)
        A fine s t k b fs ft e,
  )
