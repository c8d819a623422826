-- The greatest special set is a special set, and its traces are certificates.
use Rattle.std.specs.Prelude.{◌≡◌, ◌-◌, ℕ, true, Bool, ◌==◌, List, [], ◌∷◌, length, map, Option, Some, refl}
use Rattle.std.specs.List.{AllByRecursion, Contains, slice_get, filter}
use Rattle.std.specs.Option.{option_map_or}
use Rattle.std.proofs.Common.{sym, subst, inl, inr}
use Rattle.std.proofs.lemmas.Bool.{cases_Bool, eqb-true}
use Rattle.std.proofs.lemmas.List.Elements.{Contains-append_cases}
use Rattle.circ_term.specs.Tree.{Tree, App}
use Rattle.circ_theory.specs.Signature.{Operator, IsWellSorted}
use Rattle.circ_theory.specs.Theory.{Theory, Derivative}
use Rattle.circ_theory.specs.WellFormed.{IsWellFormed}
use Rattle.circ_theory.specs.Fresh.{numbered_from}
use Rattle.circ_theory.specs.Fresh.{derivatives_of}
use Rattle.circ_theory.proofs.Casing.{contains_first}
use Rattle.circ_theory.proofs.Derived.{derived_by, numbered_from_substitution}
use Rattle.circ_theory.proofs.Weakening.{in_rest}
use Rattle.circ_special.specs.declared.place.Place.{Place}
use Rattle.circ_special.specs.Special.{IsPlace, IsSet}
use Rattle.circ_proof.specs.Link.{setting}
use Rattle.circ_rewrite.specs.Links.{link_of}
use Rattle.circ_rewrite.specs.Replacement.{Traced}
use Rattle.circ_rewrite.specs.TheoryRules.{theory_rules}
use Rattle.circ_rewrite.proofs.RuleLists.{rules_are}
use Rattle.circ_conditional_norm.specs.Norm.{try_limit}
use Rattle.circ_conditional_norm.proofs.Linked.{norm_links}
use Rattle.circ_proof.specs.Certified.{start_args, start_term, due, due_at, derivatives_at, Certified, AreCertified}
use Rattle.circ_proof.proofs.Starting.{applied_sorted}
use Rattle.circ_plain_search.specs.Greatest.{HasNormalForm, IsSelfGuarded, AreTraces, GreatestSpecialSet}
use Rattle.circ_plain_search.proofs.Keeping.{contains_none, pick}

-- a start term is well-sorted
pub start_sorted : (th : Theory) → IsWellFormed th → (g : Place) (o : Operator) (d : Derivative) → slice_get th.signature.ops g.op ≡ Some o
    → Contains th.derivatives d → d.hole ≡ o.result → IsWellSorted th.signature (start_term o g d)
start_sorted th ok g o d listed c hole =
    let head : Tree = App g.op o.result (start_args g.arg 1 o.args) in
    let w : IsWellSorted th.signature head = applied_sorted th ok g.op g.arg o listed in
    (derived_by th.signature d head (numbered_from (length o.args)) (ok.derivatives d c) (sym hole) w (numbered_from_substitution th.signature (length o.args))).well_sorted

-- ---- what is due

from_filter : {X : Type 0} (p : X → Bool) (xs : List X) (x : X) → Contains (filter p xs) x → Contains xs x × (p x ≡ true)
from_filter p [] x c = contains_none x c
from_filter {X = X} p (y ∷ xs) x c = elim (cases_Bool (p y)) [
  | inl h ↦
      let P : X → Type 0 = λ z. Contains (y ∷ xs) z × (p z ≡ true) in
      pick P y x (filter p xs) (contains_first y xs, h) (λ d. let r = from_filter p xs x d in (in_rest y x xs r.0, r.1)) (rw h at c)
  | inr h ↦ let r = from_filter p xs x (rw h at c) in (in_rest y x xs r.0, r.1)
]

-- a derivative of a place is one of the theory, with a hole of the operator's result sort
pub of_place : (th : Theory) (g : Place) (o : Operator) (d : Derivative) → slice_get th.signature.ops g.op ≡ Some o → Contains (derivatives_at th g) d
    → Contains th.derivatives d × (d.hole ≡ o.result)
of_place th g o d listed c =
    let P : Option Operator → Type 0 = λ x. Contains (option_map_or (λ o. derivatives_of th o.result) x []) d in
    let r = from_filter (λ d. d.hole == o.result) th.derivatives d (subst P listed c) in
    (r.0, eqb-true d.hole o.result r.1)

from_due_at : (g : Place) (ds : List Derivative) (x : Place × Derivative) → Contains (map (λ d. (g, d)) ds) x → (x.0 ≡ g) × Contains ds x.1
from_due_at g [] x c = contains_none x c
from_due_at g (d ∷ ds) x c =
    let P : Place × Derivative → Type 0 = λ y. (y.0 ≡ g) × Contains (d ∷ ds) y.1 in
    pick P (g, d) x (map (λ d. (g, d)) ds) (refl, contains_first d ds) (λ e. let r = from_due_at g ds x e in (r.0, in_rest d x.1 ds r.1)) c

pub from_due : (th : Theory) (G : List Place) (x : Place × Derivative) → Contains (due th G) x → Contains G x.0 × Contains (derivatives_at th x.0) x.1
from_due th [] x c = contains_none x c
from_due th (g ∷ G) x c = elim (Contains-append_cases (due_at th g) (due th G) x c) [
  | inl d ↦
      let r = from_due_at g (derivatives_at th g) x d in
      let P : Place → Type 0 = λ f. Contains (g ∷ G) f × Contains (derivatives_at th f) x.1 in
      subst P (sym r.0) (contains_first g G, r.1)
  | inr d ↦ let r = from_due th G x d in (in_rest g x.0 G r.0, r.1)
]

-- ---- the certificates

module _ (th : Theory) (ok : IsWellFormed th) (budget : ℕ) (G : List Place) (s : IsSelfGuarded th budget G) where
  certified : (g : Place) (d : Derivative) (normal : Tree) (ts : List Traced) → Contains G g → Contains (derivatives_at th g) d
      → HasNormalForm th budget g d normal ts → Certified th G g d (map link_of ts)
  certified g d normal ts c e h =
      let o = h.place.operator in
      let x = of_place th g o d h.place.listed e in
      let w : IsWellSorted th.signature (start_term o g d) = start_sorted th ok g o d h.place.listed x.0 x.1 in
      let l = norm_links (setting th G [] []) ok tt (theory_rules th) (rules_are th ok []) (try_limit - 0) budget (start_term o g d) normal ts h.left w h.form in
      record { place = h.place; within = h.within; last = normal; leads = l.lead; guarded = s.guarded g c d e normal ts h }

  all_certified : (xs : List (Place × Derivative)) (tss : List (List Traced))
      → ((x : Place × Derivative) → Contains xs x → Contains G x.0 × Contains (derivatives_at th x.0) x.1) → AreTraces th budget xs tss
      → AreCertified th G xs (map (map link_of) tss)
  all_certified [] [] h a = tt
  all_certified [] (ts ∷ tss) h a = absurd a
  all_certified (x ∷ xs) [] h a = absurd a
  all_certified (x ∷ xs) (ts ∷ tss) h a =
      let of = h x (contains_first x xs) in
      (certified x.0 x.1 a.0.0 ts of.0 of.1 a.0.1, all_certified xs tss (λ y c. h y (in_rest x y xs c)) a.1)

all_places : (th : Theory) (G : List Place) → ((g : Place) → Contains G g → IsPlace th g) → AllByRecursion (IsPlace th) G
all_places th [] h = tt
all_places th (g ∷ G) h = (h g (contains_first g G), all_places th G (λ f c. h f (in_rest g f G c)))

pub is_certified : (th : Theory) → IsWellFormed th → (budget : ℕ) (G : List Place) (tss : List (List Traced)) → GreatestSpecialSet th budget G tss
    → IsSet th G × AreCertified th G (due th G) (map (map link_of) tss)
is_certified th ok budget G tss g =
    let s = g.self_guarded in (
      record { increasing = g.increasing; places = all_places th G (λ f c. (s.candidates f c).place) },
      all_certified th ok budget G s (due th G) tss (from_due th G) g.recorded,
    )

pub starts_sorted : (th : Theory) → IsWellFormed th → (g : Place) (o : Operator) (d : Derivative) → slice_get th.signature.ops g.op ≡ Some o
    → Contains (derivatives_at th g) d → IsWellSorted th.signature (start_term o g d)
starts_sorted th ok g o d listed c = let x = of_place th g o d listed c in start_sorted th ok g o d listed x.0 x.1
