-- The certificates of the greatest special set: their terms are fine, and their numbers and paths are small.
use Rattle.circ_plain_search.proofs.Led.{link_by_terms}
use Rattle.circ_plain_search.proofs.Runs.{most}
use Rattle.std.proofs.Common.{◌≡◌, ℕ, zero, suc, ◌+◌, ◌≤◌, length, List, [], ◌∷◌, map, Some, arith}
use Rattle.std.specs.List.{slice_get, AllByRecursion, Contains}
use Rattle.circ_term.specs.Tree.{Tree, App, trees_of}
use Rattle.circ_theory.specs.Signature.{Operator, IsWellSorted}
use Rattle.circ_theory.specs.Theory.{Theory, Derivative}
use Rattle.circ_theory.specs.WellFormed.{IsWellFormed}
use Rattle.circ_theory.specs.Fresh.{above, all_above, variables_from}
use Rattle.circ_theory.proofs.Casing.{contains_first}
use Rattle.circ_theory.proofs.Lists.{all_by}
use Rattle.circ_theory.proofs.Weakening.{in_rest}
use Rattle.circ_special.specs.declared.place.Place.{Place}
use Rattle.circ_special.specs.Special.{IsSet}
use Rattle.circ_proof.specs.Plain.{LinkOf}
use Rattle.circ_proof.specs.Link.{setting, AllOfLink, AllOfLinks}
use Rattle.circ_rewrite.specs.Links.{link_of}
use Rattle.circ_rewrite.specs.Replacement.{Traced}
use Rattle.circ_rewrite.specs.TheoryRules.{theory_rules}
use Rattle.circ_proof.specs.Certified.{start_args, start_term, derivatives_at, due, Certified, AreCertified}
use Rattle.circ_proof.proofs.Sorted.{sorted_none}
use Rattle.circ_proof.proofs.Starting.{few_args}
use Rattle.circ_plain_search.specs.Greatest.{HasNormalForm, AreTraces, GreatestSpecialSet}
use Rattle.circ_plain_search.proofs.Certifying.{is_certified, of_place, from_due, starts_sorted}
use Rattle.circ_plain_search.proofs.Terms.{Fine}
use Rattle.circ_conditional_search.proofs.Normals.{normal_form_led}
use Rattle.circ_conditional_search.proofs.Ranges.{AreRanged, IsSmallSetting, links_ranged}
use Rattle.circ_conditional_search.proofs.Nesting.{AllNestIn}
use Rattle.circ_conditional_search.proofs.Led.{Led}
use Rattle.circ_rewrite.proofs.RuleLists.{rules_are}
use Rattle.circ_plain_search.proofs.Derived.{derived_low}

-- A special set with its certificates, whose terms are fine.
pub record IsCertifiedSet (th : Theory) (G : List Place) (cs : List (List (LinkOf Tree))) : Type 0 where
  pub set : IsSet th G
  pub certified : AreCertified th G (due th G) cs
  pub terms : AllByRecursion (AllOfLinks (Fine th most)) cs
  pub nests : AllByRecursion (AllNestIn 8) cs

-- no places
pub no_set : (th : Theory) → IsCertifiedSet th [] []
no_set th = record { set = record { increasing = tt; places = tt }; certified = tt; terms = tt; nests = tt }

-- ---- start terms

variables_low : (k : ℕ) (ss : List ℕ) → all_above (trees_of (variables_from k ss)) ≤ k + length ss
variables_low k [] = omega arith
variables_low k (s ∷ ss) = let r = variables_low (k + 1) ss in omega (arith, r)

args_low : (i k : ℕ) (ss : List ℕ) → all_above (start_args i k ss) ≤ k + length ss + 1
args_low i k [] = omega arith
args_low zero k (s ∷ ss) = let r = variables_low k ss in omega (arith, r)
args_low (suc i) k (s ∷ ss) = let r = args_low i (k + 1) ss in omega (arith, r)

module _ (th : Theory) (wf : IsWellFormed th) where
  start_low : (g : Place) (o : Operator) (d : Derivative) → slice_get th.signature.ops g.op ≡ Some o → Contains (derivatives_at th g) d
      → above (start_term o g d) ≤ most
  start_low g o d listed c =
      let few = few_args th wf g.op o listed in
      let args = args_low g.arg 1 o.args in
      let low = derived_low th wf d (of_place th g o d listed c).0 (length o.args) 18 (App g.op o.result (start_args g.arg 1 o.args)) (omega (arith, few, args))
      (omega (arith, few)) in
      omega (arith, low)

  led_by : (budget : ℕ) (g : Place) (d : Derivative) (normal : Tree) (ts : List Traced) → Contains (derivatives_at th g) d → (f : HasNormalForm th budget g d normal ts)
      → Led (setting th [] [] []) most (map link_of ts) (start_term f.place.operator g d) normal
  led_by budget g d normal ts c f =
      let o = f.place.operator in
      let fine : Fine th most (start_term o g d) = record {
        sorted = starts_sorted th wf g o d f.place.listed c;
        within = f.within;
        low = start_low g o d f.place.listed c;
      } in
      normal_form_led th wf most (omega arith) [] (theory_rules th) (rules_are th wf []) [] tt [] (start_term o g d) normal ts budget f.left fine f.form

  traces_nest : (budget : ℕ) (G : List Place) (xs : List (Place × Derivative)) (tss : List (List Traced))
      → ((x : Place × Derivative) → Contains xs x → Contains G x.0 × Contains (derivatives_at th x.0) x.1) → AreTraces th budget xs tss
      → AllByRecursion (AllNestIn 8) (map (map link_of) tss)
  traces_nest budget G [] [] h a = tt
  traces_nest budget G [] (ts ∷ tss) h a = absurd a
  traces_nest budget G (x ∷ xs) [] h a = absurd a
  traces_nest budget G (x ∷ xs) (ts ∷ tss) h a =
      ((led_by budget x.0 x.1 a.0.0 ts (h x (contains_first x xs)).1 a.0.1).nests, traces_nest budget G xs tss (λ y d. h y (in_rest x y xs d)) a.1)

  traces_fine : (budget : ℕ) (G : List Place) (xs : List (Place × Derivative)) (tss : List (List Traced))
      → ((x : Place × Derivative) → Contains xs x → Contains G x.0 × Contains (derivatives_at th x.0) x.1) → AreTraces th budget xs tss
      → AllByRecursion (AllOfLinks (Fine th most)) (map (map link_of) tss)
  traces_fine budget G [] [] h a = tt
  traces_fine budget G [] (ts ∷ tss) h a = absurd a
  traces_fine budget G (x ∷ xs) [] h a = absurd a
  traces_fine budget G (x ∷ xs) (ts ∷ tss) h a =
      let f : HasNormalForm th budget x.0 x.1 a.0.0 ts = a.0.1 in (
        (led_by budget x.0 x.1 a.0.0 ts (h x (contains_first x xs)).1 f).terms,
        traces_fine budget G xs tss (λ y d. h y (in_rest x y xs d)) a.1,
      )

  pub greatest_certified : (budget : ℕ) (G : List Place) (tss : List (List Traced)) → GreatestSpecialSet th budget G tss
      → IsCertifiedSet th G (map (map link_of) tss)
  greatest_certified budget G tss g =
      let c = is_certified th wf budget G tss g in
      record { set = c.0; certified = c.1; terms = traces_fine budget G (due th G) tss (from_due th G) g.recorded; nests = traces_nest budget G (due th G) tss (from_due th G) g.recorded }

  -- ---- ranges

  sorted_links : (ls : List (LinkOf Tree)) → AllOfLinks (Fine th most) ls → AllOfLinks (IsWellSorted th.signature) ls
  sorted_links ls a =
      all_by (AllOfLink (Fine th most)) (AllOfLink (IsWellSorted th.signature)) ls
      (λ l x. link_by_terms (Fine th most) (IsWellSorted th.signature) (λ t f. f.sorted) l x) a

  alone : (G : List Place) → IsSmallSetting (setting th G [] [])
  alone G = record {
    sorted = record { well_formed = wf; hypotheses = sorted_none th; assumptions = λ p c. absurd (omega (arith, c.1)) };
    few_hypotheses = omega arith;
    few_assumptions = omega arith;
  }

  each_ranged : (G : List Place) (xs : List (Place × Derivative)) (lss : List (List (LinkOf Tree)))
      → ((x : Place × Derivative) → Contains xs x → Contains G x.0 × Contains (derivatives_at th x.0) x.1) → AreCertified th G xs lss
      → AllByRecursion (AllOfLinks (Fine th most)) lss → AllByRecursion AreRanged lss
  each_ranged G [] [] h a f = tt
  each_ranged G [] (ls ∷ lss) h a f = absurd a
  each_ranged G (x ∷ xs) [] h a f = absurd a
  each_ranged G (x ∷ xs) (ls ∷ lss) h a f =
      let c : Certified th G x.0 x.1 ls = a.0 in
      let o = c.place.operator in
      let sorted = starts_sorted th wf x.0 o x.1 c.place.listed (h x (contains_first x xs)).1 in (
        (links_ranged (setting th G [] []) (alone G) ls (start_term o x.0 x.1) c.last (record { sorted = sorted; within = c.within }) (sorted_links ls f.0) c.leads).ranged,
        each_ranged G xs lss (λ y d. h y (in_rest x y xs d)) a.1 f.1,
      )

  pub certificates_ranged : (G : List Place) (cs : List (List (LinkOf Tree))) → IsCertifiedSet th G cs → AllByRecursion AreRanged cs
  certificates_ranged G cs s = each_ranged G (due th G) cs (from_due th G) s.certified s.terms
