-- The case of an occurrence is what it says, and what stands at its path is an instance of its derivative.
use Rattle.std.proofs.Common.{◌≡◌, ◌⊎◌, ℕ, ◌+◌, ◌-◌, ◌||◌, length-append, List, [], ◌∷◌, ◌++◌, zero, suc, Bool, true, false, nat_eq, ◌==◌, ◌&&◌}
use Rattle.std.proofs.Common.{IsTrue, ◌↔◌, if◌then◌else◌, length, take, Option, Some, None, unwrap_or, refl, ap, sym, ◌∙◌, subst, arith, inl, inr}
use Rattle.std.specs.List.{slice_get, list_any, Contains}
use Rattle.std.specs.Option.{option_map, option_map_or, option_or}
use Rattle.std.specs.Cmp.Lexicographic.{pointwise}
use Rattle.std.proofs.lemmas.Bool.{eqb-true, eq-eqb, and_parts, lt-ltb, cases_Bool}
use Rattle.std.proofs.lemmas.Option.{same_Some}
use Rattle.circ_term.specs.Tree.{Tree, Trees, Var, App, none, more, sort_of, list_of, at, walk, replaced}
use Rattle.circ_term.specs.Substitution.{Substitution, instance}
use Rattle.circ_term.proofs.Paths.{nowhere, at-append, at_instance, replaced_below}
use Rattle.circ_theory.specs.Signature.{Signature, IsWellSorted, IsSubstitution}
use Rattle.circ_theory.specs.Theory.{Theory, Derivative}
use Rattle.circ_theory.specs.WellFormed.{IsWellFormed, IsDerivative}
use Rattle.circ_theory.specs.Experiment.{plug, derived}
use Rattle.circ_theory.specs.Observing.{is_hidden}
use Rattle.circ_theory.proofs.Behaviour.{plug_substitution}
use Rattle.circ_match.proofs.Variables.{instance-variable}
use Rattle.circ_rewrite.specs.Matching.{matching}
use Rattle.circ_rewrite.proofs.MatchingFacts.{matching-instance}
use Rattle.circ_special.specs.declared.place.Place.{Place}
use Rattle.circ_special.specs.Special.{place, IsSpecial}
use Rattle.circ_special.specs.Guarded.{IsInstanceAt, IsGuardedAt, by_visible, by_place, by_hidden}
use Rattle.circ_special.specs.Fitting.{fits}
use Rattle.circ_special.proofs.Agreeing.{stands}
use Rattle.circ_special.proofs.Distinct.{AreDistinct, parts_apart, body_distinct}
use Rattle.circ_special.proofs.Instances.{fits_exactly}
use Rattle.circ_special.proofs.Sorted.{instance_sorted}
use Rattle.circ_soundness.proofs.Filling.{Fills, FillsAt, OfSort, Makes, fills_instance, fills_sorted, fills_also, fills_at, distinct_makes}
use Rattle.circ_proof.proofs.Members.{nothing}
use Rattle.circ_theory.proofs.Casing.{hidden_tells}
use Rattle.circ_theory.proofs.Weakening.{first_or_rest}
use Rattle.circ_theory.specs.Variables.{occurrences, all_occurrences}
use Rattle.circ_soundness.proofs.Changing.{stands_at, Mixed, mixed_sorted, Changes}
use Rattle.circ_soundness.proofs.Parameters.{plug_hole, plug_parameter, same_body}
use Rattle.circ_expansion.specs.Expand.{next_arg, hole_path, is_special_path, above_hole, Case, Visible_case, Place_case, Hidden_case, No_case, visible_case}
use Rattle.circ_expansion.specs.Expand.{hidden_case, guard_case}
use Rattle.circ_expansion.proofs.Lifting.{hole_there, derived_there, derived_put}
use Rattle.circ_expansion.proofs.Matched.{masked, masked_keeps, masked_sorted, masked_same, matching_sorted}

in_any : {X : Type 0} (f : X → Bool) (xs : List X) → list_any f xs ≡ true → (x : X) × Contains xs x × (f x ≡ true)
in_any f [] e = absurd (cc)
in_any f (x ∷ xs) e = go (f x) refl (in_any f xs) e
  where
    go : (b : Bool) → f x ≡ b → (list_any f xs ≡ true → (y : _) × Contains xs y × (f y ≡ true)) → list_any f (x ∷ xs) ≡ true
        → (y : _) × Contains (x ∷ xs) y × (f y ≡ true)
    go true h ih g = (x, (zero, omega arith, refl), h)
    go false h ih g = let r = ih (rw h at g) in (r.0, (suc r.1.0, omega (arith, r.1.1), r.1.2), r.2)

pub special_holds : (G : List Place) (t : Tree) (p : List ℕ) → is_special_path G t p ≡ true → IsSpecial G t p
special_holds G t [] e = tt
special_holds G (Var n s) (i ∷ p) e = absurd (cc)
special_holds G (App f s ts) (i ∷ p) e = go (slice_get (list_of ts) i) refl (λ x. special_holds G x p) both.1
  where
    both : (list_any (λ (g : Place). (g.op == f) && (g.arg == i)) G ≡ true) ×
        (option_map_or (λ a. is_special_path G a p) (slice_get (list_of ts) i) false ≡ true)
    both = and_parts (list_any (λ (g : Place). (g.op == f) && (g.arg == i)) G) (option_map_or (λ a. is_special_path G a p) (slice_get (list_of ts) i) false) e

    listed : Contains G (place f i)
    listed =
        let r = in_any (λ (g : Place). (g.op == f) && (g.arg == i)) G both.0 in
        let q = and_parts (r.0.op == f) (r.0.arg == i) r.2 in
        let same : r.0 ≡ place f i = ap (λ o. place o r.0.arg) (eqb-true r.0.op f q.0) ∙ ap (place f) (eqb-true r.0.arg i q.1) in
        let P : Place → Type 0 = Contains G in
        subst P same r.1

    go : (o : Option Tree) → slice_get (list_of ts) i ≡ o → ((x : Tree) → is_special_path G x p ≡ true → IsSpecial G x p)
        → option_map_or (λ a. is_special_path G a p) o false ≡ true → IsSpecial G (App f s ts) (i ∷ p)
    go None c ih h = absurd (cc)
    go (Some x) c ih h = (listed, x, c, ih x h)

same_path : (p q : List ℕ) → pointwise nat_eq p q ≡ true → p ≡ q
same_path [] [] e = refl
same_path [] (j ∷ q) e = absurd (cc)
same_path (i ∷ p) [] e = absurd (cc)
same_path (i ∷ p) (j ∷ q) e = let r = and_parts (nat_eq i j) (pointwise nat_eq p q) e in ap (λ k. k ∷ p) (eqb-true i j r.0)
    ∙ ap (λ x. j ∷ x) (same_path p q r.1)

-- an instance of the derivative with its hole at the path
pub record Above (d : Derivative) (t : Tree) (p q : List ℕ) : Type 0 where
  pub path : q ++ hole_path d ≡ p
  pub term : Tree
  pub there : at t q ≡ Some term
  pub shape : fits 0 d.hole d.body term ≡ true

pub above_holds : (d : Derivative) (t : Tree) (p q : List ℕ) → above_hole d t p ≡ Some q → Above d t p q
above_holds d t p q e = go (pointwise nat_eq (x ++ hole_path d) p) refl (at t x) refl e
  where
    x : List ℕ
    x = take (length p - length (hole_path d)) p

    last : (b : Bool) → pointwise nat_eq (x ++ hole_path d) p ≡ true → (u : Tree) → at t x ≡ Some u → fits 0 d.hole d.body u ≡ b
        → (if b then Some x else None) ≡ Some q → Above d t p q
    last true h u c k g =
        let P : List ℕ → Type 0 = Above d t p in
        subst P (same_Some x q g) (record { path = same_path (x ++ hole_path d) p h; term = u; there = c; shape = k })
    last false h u c k g = absurd (cc)

    go : (b : Bool) → pointwise nat_eq (x ++ hole_path d) p ≡ b → (o : Option Tree) → at t x ≡ o
        → (if b && option_map_or (λ u. fits 0 d.hole d.body u) o false then Some x else None) ≡ Some q → Above d t p q
    go false h o c g = absurd (cc)
    go true h None c g = absurd (cc)
    go true h (Some u) c g = last (fits 0 d.hole d.body u) h u c refl g

-- ---- what stands there, with the parameters that matching gives

-- in the certificate's last term it is the derivative on the variable
above_instance : (th : Theory) → IsWellFormed th → (d : Derivative) → Contains th.derivatives d → (t : Tree) (p q : List ℕ) → Above d t p q
    → IsInstanceAt th t 0 d.hole d q (hole_path d)
above_instance th ok d l t p q ab =
    let der = ok.derivatives d l in
    (fits_exactly th d der l 0 d.hole t ab.term q (hole_path d) refl (hole_there th.signature d der) ab.there).to ab.shape

-- so the variable has the hole's sort
pub above_sort : (th : Theory) → IsWellFormed th → (d : Derivative) → Contains th.derivatives d → (t : Tree) (p q : List ℕ) → Above d t p q → (s : ℕ)
    → at t p ≡ Some (Var 0 s) → d.hole ≡ s
above_sort th ok d l t p q ab s e =
    let i = above_instance th ok d l t p q ab in
    let x : Tree = derived d (Var 0 d.hole) i.parameters in
    let A : List ℕ → Type 0 = λ y. at t y ≡ Some (Var 0 s) in
    let here : Some (Var 0 d.hole) ≡ Some (Var 0 s) =
    sym (derived_there th.signature d (ok.derivatives d l) (Var 0 d.hole) i.parameters) ∙ sym (at-append t x q (hole_path d) i.there)
    ∙ subst A (sym ab.path) e in
    cc

pub record Stood (sig : Signature) (d : Derivative) (a b u v : Tree) (q : List ℕ) (part : Tree) : Type 0 where
  pub there : at u q ≡ Some part
  pub sorted : IsSubstitution sig (matching d.body part)
  pub is : part ≡ derived d a (matching d.body part)
  pub made : replaced u q (derived d b (matching d.body part)) ≡ Some v

-- a term that is the derivative on a is the derivative on a with the parameters that matching gives
matched_parameters : (sig : Signature) (d : Derivative) → IsDerivative sig d → (a : Tree) (ρ : Substitution) → IsSubstitution sig ρ → sort_of a ≡ d.hole
    → IsWellSorted sig a → (part : Tree) → part ≡ derived d a ρ
    → part ≡ derived d a (matching d.body part)
matched_parameters sig d der a ρ i sa wa part e =
    let π : Substitution = plug d.hole a ρ in
    let iπ = plug_substitution sig d.hole a ρ sa wa i in
    let σ : Substitution = masked sig π in
    let kσ = masked_keeps sig π iπ in
    let made : instance σ d.body ≡ part = masked_same sig π d.body der.body ∙ sym e in
    let μ : Substitution = matching d.body part in
    sym made ∙ instance-variable σ (plug d.hole a μ) d.body (λ n r o. elim (cases_Bool ((n == 0) && (r == d.hole))) [
      | inl h ↦
          let x = and_parts (n == 0) (r == d.hole) h in
          let en : n ≡ 0 = eqb-true n 0 x.0 in
          let er : r ≡ d.hole = eqb-true r d.hole x.1 in
          let hole : σ 0 d.hole ≡ a = (let z = lt-ltb d.hole (length sig.sorts) der.hole in rw z refl) ∙ plug_hole d.hole a ρ in
          ap (λ m. σ m r) en ∙ ap (σ 0) er ∙ hole ∙ rw h refl
      | inr h ↦ sym (matching-instance σ kσ d.body part made n r o) ∙ rw h refl
    ])

-- they are well-sorted
matched_sorted : (sig : Signature) (d : Derivative) → IsDerivative sig d → (a : Tree) (ρ : Substitution) → IsSubstitution sig ρ → sort_of a ≡ d.hole
    → IsWellSorted sig a → (part : Tree) → part ≡ derived d a ρ
    → IsSubstitution sig (matching d.body part)
matched_sorted sig d der a ρ i sa wa part e =
    let π : Substitution = plug d.hole a ρ in
    let iπ = plug_substitution sig d.hole a ρ sa wa i in
    let made : instance (masked sig π) d.body ≡ part = masked_same sig π d.body der.body ∙ sym e in
    let M : Tree → Type 0 = λ y. IsSubstitution sig (matching d.body y) in
    subst M made (matching_sorted sig (masked sig π) (masked_keeps sig π iπ) (masked_sorted sig π iπ) d.body)

pub stood : (th : Theory) → IsWellFormed th → (d : Derivative) → Contains th.derivatives d → (σ τ : Substitution) → IsSubstitution th.signature σ
    → IsSubstitution th.signature τ
    → (t u v : Tree) (p q : List ℕ) → IsWellSorted th.signature t → Changes σ τ 0 d.hole t p u v → Above d t p q → IsWellSorted th.signature u
    → (part : Tree) × Stood th.signature d (σ 0 d.hole) (τ 0 d.hole) u v q part
stood th ok d l σ τ iσ iτ t u v p q w c ab wu =
    let sig : Signature = th.signature in
    let der = ok.derivatives d l in
    let r : List ℕ = hole_path d in
    let i = above_instance th ok d l t p q ab in
    let x = instance_sorted th t 0 d.hole d q r w i in
    let π : Substitution = plug d.hole (Var 0 d.hole) x.parameters in
    let wp : IsSubstitution sig π = plug_substitution sig d.hole (Var 0 d.hole) x.parameters refl der.hole x.sorted in
    let f : FillsAt (Mixed σ τ) (instance π d.body) u q = fills_at (Mixed σ τ) q t (instance π d.body) u c.mixed x.there in
    let fills : Fills (OfSort sig) d.body f.part =
    fills_also sig (λ n j. Fills (Mixed σ τ) (π n j)) (OfSort sig)
    (λ n j y h z. let e = fills_sorted sig (Mixed σ τ) (mixed_sorted sig σ τ iσ iτ) (π n j) y (wp n j h).1 z in (e.0 ∙ (wp n j h).0, e.1))
    d.body f.part der.body (fills_instance (Mixed σ τ) π d.body f.part f.fills) in
    let by : Makes sig d.body f.part = distinct_makes sig d.body f.part (body_distinct sig d der) fills in
    let ρ : Substitution = by.by in
    let here : at f.part r ≡ Some (ρ 0 d.hole) = ap (λ y. at y r) (sym by.made) ∙ at_instance ρ r d.body (Var 0 d.hole) (hole_there sig d der) in
    let O : List ℕ → Type 0 = λ y. at u y ≡ Some (σ 0 d.hole) in
    let old : at u (q ++ r) ≡ Some (σ 0 d.hole) = subst O (sym ab.path) c.old in
    let hole : ρ 0 d.hole ≡ σ 0 d.hole = same_Some (ρ 0 d.hole) (σ 0 d.hole) (sym here ∙ sym (at-append u f.part q r f.there) ∙ old) in
    let before : f.part ≡ derived d (σ 0 d.hole) ρ =
    sym by.made ∙ same_body sig d der ρ (plug d.hole (σ 0 d.hole) ρ) (hole
    ∙ sym (plug_hole d.hole (σ 0 d.hole) ρ)) (λ n j. sym (plug_parameter d.hole (σ 0 d.hole) ρ n j)) in
    let a = iσ 0 d.hole der.hole in
    let μ : Substitution = matching d.body f.part in
    let is : f.part ≡ derived d (σ 0 d.hole) μ = matched_parameters sig d der (σ 0 d.hole) ρ by.sorted a.0 a.1 f.part before in
    let R : Tree → Type 0 = λ y. replaced y r (τ 0 d.hole) ≡ Some (derived d (τ 0 d.hole) μ) in
    let exchanged : replaced f.part r (τ 0 d.hole) ≡ Some (derived d (τ 0 d.hole) μ) = subst R (sym is) (derived_put sig d der (σ 0 d.hole) (τ 0 d.hole) μ) in
    let N : List ℕ → Type 0 = λ y. replaced u y (τ 0 d.hole) ≡ Some v in (
      f.part,
      record {
        there = f.there;
        sorted = matched_sorted sig d der (σ 0 d.hole) ρ by.sorted a.0 a.1 f.part before;
        is = is;
        made = sym (replaced_below q r u f.part (τ 0 d.hole) (derived d (τ 0 d.hole) μ) f.there exchanged) ∙ subst N (sym ab.path) c.new;
      },
    )

-- ---- the case that is found

abbrev pub IsCase : Theory → List Place → Tree → List ℕ → Case → Type 0
IsCase th G t p (Visible_case k q) = (d : Derivative) × (slice_get th.derivatives k ≡ Some d) × (is_hidden th (sort_of d.body) ≡ false) × Above d t p q
IsCase th G t p Place_case = IsSpecial G t p
IsCase th G t p (Hidden_case k q) = (d : Derivative) × (slice_get th.derivatives k ≡ Some d) × Above d t p q × IsSpecial G t q
IsCase th G t p No_case = ⊥

visible_holds : (th : Theory) (G : List Place) (t : Tree) (p : List ℕ) (j : ℕ) (ds : List Derivative)
    → ((i : ℕ) (d : Derivative) → slice_get ds i ≡ Some d → slice_get th.derivatives (j + i) ≡ Some d)
    → (c : Case) → visible_case th j ds t p ≡ Some c → IsCase th G t p c
visible_holds th G t p j [] w c e = absurd (cc)
visible_holds th G t p j (d ∷ ds) w c e = go (λ g. visible_holds th G t p (j + 1) ds
    (λ i b h. (let z : j + 1 + i ≡ j + suc i = omega arith in ap (slice_get th.derivatives) z) ∙ w (suc i) b h) c g) (is_hidden th (sort_of d.body)) refl
    (above_hole d t p) refl e
  where
    go : (visible_case th (j + 1) ds t p ≡ Some c → IsCase th G t p c) → (h : Bool) → is_hidden th (sort_of d.body) ≡ h → (o : Option (List ℕ))
        → above_hole d t p ≡ o
        → option_or (if h then None else option_map (Visible_case j) o) (visible_case th (j + 1) ds t p) ≡ Some c → IsCase th G t p c
    go ih true eh o eo g = ih g
    go ih false eh None eo g = ih g
    go ih false eh (Some q) eo g =
        let P : Case → Type 0 = IsCase th G t p in
        subst P (same_Some (Visible_case j q) c g) (
          d,
          (let z : j ≡ j + 0 = omega arith in ap (slice_get th.derivatives) z)
              ∙ w 0 d refl,
          eh,
          above_holds d t p q eo,
        )

hidden_holds : (th : Theory) (G : List Place) (t : Tree) (p : List ℕ) (j : ℕ) (ds : List Derivative)
    → ((i : ℕ) (d : Derivative) → slice_get ds i ≡ Some d → slice_get th.derivatives (j + i) ≡ Some d)
    → (c : Case) → hidden_case th G j ds t p ≡ Some c → IsCase th G t p c
hidden_holds th G t p j [] w c e = absurd (cc)
hidden_holds th G t p j (d ∷ ds) w c e =
    go (λ g. hidden_holds th G t p (j + 1) ds (λ i b h. (let z : j + 1 + i ≡ j + suc i = omega arith in ap (slice_get th.derivatives) z)
    ∙ w (suc i) b h) c g) (is_hidden th (sort_of d.body)) (above_hole d t p) refl e
  where
    found : (hidden_case th G (j + 1) ds t p ≡ Some c → IsCase th G t p c) → (q : List ℕ) → above_hole d t p ≡ Some q → (b : Bool) → is_special_path G t q ≡ b
        → option_or (if b then Some (Hidden_case j q) else None) (hidden_case th G (j + 1) ds t p) ≡ Some c → IsCase th G t p c
    found ih q eo false eb g = ih g
    found ih q eo true eb g =
        let P : Case → Type 0 = IsCase th G t p in
        subst P (same_Some (Hidden_case j q) c g) (
          d,
          (let z : j ≡ j + 0 = omega arith in ap (slice_get th.derivatives) z)
              ∙ w 0 d refl,
          above_holds d t p q eo,
          special_holds G t q eb,
        )

    go : (hidden_case th G (j + 1) ds t p ≡ Some c → IsCase th G t p c) → (h : Bool) → (o : Option (List ℕ)) → above_hole d t p ≡ o
        → option_or (if h then option_map_or (λ q. if is_special_path G t q then Some (Hidden_case j q) else None) o None else None)
        (hidden_case th G (j + 1) ds t p) ≡ Some c → IsCase th G t p c
    go ih false o eo g = ih g
    go ih true None eo g = ih g
    go ih true (Some q) eo g = found ih q eo (is_special_path G t q) refl g

-- ---- an occurrence that is guarded has a case

none_of_either : {A : Type 0} (a b : Option A) → option_or a b ≡ None → (a ≡ None) × (b ≡ None)
none_of_either None b e = (refl, e)
none_of_either (Some x) b e = absurd (cc)

any_in : {X : Type 0} (f : X → Bool) (xs : List X) (x : X) → Contains xs x → f x ≡ true → list_any f xs ≡ true
any_in f [] x c h = nothing x c
any_in f (y ∷ ys) x c h = go (f y) refl (first_or_rest y x ys c) (λ d. any_in f ys x d h)
  where
    go : (b : Bool) → f y ≡ b → (y ≡ x) ⊎ Contains ys x → (Contains ys x → list_any f ys ≡ true) → (b || list_any f ys) ≡ true
    go true e w ih = refl
    go false e (inl q) ih = absurd (let z = ap f q in cc)
    go false e (inr d) ih = ih d

special_told : (G : List Place) (t : Tree) (p : List ℕ) → IsSpecial G t p → is_special_path G t p ≡ true
special_told G t [] s = refl
special_told G (Var n s) (i ∷ p) sp = absurd sp
special_told G (App f s ts) (i ∷ p) sp =
    let here : list_any (λ (g : Place). (g.op == f) && (g.arg == i)) G ≡ true =
    any_in (λ (g : Place). (g.op == f) && (g.arg == i)) G (place f i) sp.0 (rw (eq-eqb f f refl, eq-eqb i i refl) refl) in
    let below = special_told G sp.1 p sp.3 in
    let there = sp.2 in
    rw (here, there, below) refl

-- what tells that a path is special is the test
pub special_is : (G : List Place) (t : Tree) (p : List ℕ) (b : Bool) → (IsTrue b ↔ IsSpecial G t p) → b ≡ is_special_path G t p
special_is G t p true i = sym (special_told G t p (i.0 refl))
special_is G t p false i = go (is_special_path G t p) refl
  where
    go : (v : Bool) → is_special_path G t p ≡ v → false ≡ v
    go true e = absurd (let z = i.1 (special_holds G t p e) in cc)
    go false e = refl

path_itself : (p : List ℕ) → pointwise nat_eq p p ≡ true
path_itself [] = refl
path_itself (i ∷ p) = rw (eq-eqb i i refl, path_itself p) refl

take_none : (r : List ℕ) → take zero r ≡ []
take_none [] = refl
take_none (i ∷ r) = refl

front_of : (q r : List ℕ) → take (length (q ++ r) - length r) (q ++ r) ≡ q
front_of q r = ap (λ k. take k (q ++ r)) (ap (λ k. k - length r) (length-append q r) ∙ less) ∙ front q
  where
    less : (length q + length r) - length r ≡ length q
    less = omega arith

    front : (q : List ℕ) → take (length q) (q ++ r) ≡ q
    front [] = take_none r
    front (i ∷ q) = ap (λ x. i ∷ x) (front q)

-- a variable that stands once has one path
mutual
  one_path : (n s : ℕ) (t : Tree) (p q : List ℕ) → AreDistinct (occurrences t) → at t p ≡ Some (Var n s) → at t q ≡ Some (Var n s) → p ≡ q
  one_path n s (Var m k) [] [] d e h = refl
  one_path n s (Var m k) [] (j ∷ q) d e h = nowhere q (Var n s) h
  one_path n s (Var m k) (i ∷ p) q d e h = nowhere p (Var n s) e
  one_path n s (App f r ts) [] q d e h = absurd (let z : App f r ts ≡ Var n s = same_Some (App f r ts) (Var n s) e in cc)
  one_path n s (App f r ts) (i ∷ p) [] d e h = absurd (let z : App f r ts ≡ Var n s = same_Some (App f r ts) (Var n s) h in cc)
  one_path n s (App f r ts) (i ∷ p) (j ∷ q) d e h = one_path_in n s ts i j p q d e h

  one_path_in : (n s : ℕ) (ts : Trees) (i j : ℕ) (p q : List ℕ) → AreDistinct (all_occurrences ts) → walk (slice_get (list_of ts) i) p ≡ Some (Var n s)
      → walk (slice_get (list_of ts) j) q ≡ Some (Var n s) → i ∷ p ≡ j ∷ q
  one_path_in n s none i j p q d e h = nowhere p (Var n s) e
  one_path_in n s (more t ts) zero zero p q d e h =
      ap (λ x. zero ∷ x) (one_path n s t p q (parts_apart (occurrences t) (all_occurrences ts) d).first e h)
  one_path_in n s (more t ts) zero (suc j) p q d e h =
      absurd (let x = (parts_apart (occurrences t) (all_occurrences ts) d).apart n s (stands_at n s p t e) in
      let y : stands n s (all_occurrences ts) ≡ true = stands_at n s (j ∷ q) (App 0 0 ts) h in cc)
  one_path_in n s (more t ts) (suc i) zero p q d e h =
      absurd (let x = (parts_apart (occurrences t) (all_occurrences ts) d).apart n s (stands_at n s q t h) in
      let y : stands n s (all_occurrences ts) ≡ true = stands_at n s (i ∷ p) (App 0 0 ts) e in cc)
  one_path_in n s (more t ts) (suc i) (suc j) p q d e h =
      ap next_arg (one_path_in n s ts i j p q (parts_apart (occurrences t) (all_occurrences ts) d).second e h)

above_found : (th : Theory) → IsWellFormed th → (t : Tree) (s : ℕ) (d : Derivative) (q r p : List ℕ) → p ≡ q ++ r → IsInstanceAt th t 0 s d q r
    → above_hole d t p ≡ Some q
above_found th ok t s d q r p e i =
    let der = ok.derivatives d i.listed in
    let hp : List ℕ = hole_path d in
    let same : r ≡ hp = one_path 0 d.hole d.body r hp (body_distinct th.signature d der) i.hole (hole_there th.signature d der) in
    let I : ℕ → Type 0 = λ k. IsInstanceAt th t 0 k d q r in
    let part : Tree = derived d (Var 0 s) i.parameters in
    let shape : fits 0 d.hole d.body part ≡ true = (fits_exactly th d der i.listed 0 d.hole t part q r refl i.hole i.there).from (subst I (sym i.sort) i) in
    let A : List ℕ → Type 0 = λ x. above_hole d t x ≡ Some q in
    let front = front_of q hp in
    let there : option_map_or (λ u. fits 0 d.hole d.body u) (at t q) false ≡ true =
    ap (λ o. option_map_or (λ u. fits 0 d.hole d.body u) o false) i.there ∙ shape in
    let B : List ℕ → Type 0 =
    λ x. (if pointwise nat_eq (x ++ hp) (q ++ hp) && option_map_or (λ u. fits 0 d.hole d.body u) (at t x) false then Some x else None) ≡ Some q in
    let whole = path_itself (q ++ hp) in
    let found : A (q ++ hp) = subst B (sym front) (rw (whole, there) refl) in
    subst A (sym (e ∙ ap (λ x. q ++ x) same)) found

visible_found : (th : Theory) (t : Tree) (p q : List ℕ) (d : Derivative) → is_hidden th (sort_of d.body) ≡ false → above_hole d t p ≡ Some q
    → (j : ℕ) (ds : List Derivative) → Contains ds d
    → visible_case th j ds t p ≡ None → ⊥
visible_found th t p q d hid ab j [] c e = nothing d c
visible_found th t p q d hid ab j (x ∷ ds) c e =
    let o = none_of_either (if is_hidden th (sort_of x.body) then None else option_map (Visible_case j) (above_hole x t p))
    (visible_case th (j + 1) ds t p) e in
    go (first_or_rest x d ds c) o.0 (λ k. visible_found th t p q d hid ab (j + 1) ds k o.1)
  where
    here : Derivative → Type 0
    here y = (if is_hidden th (sort_of y.body) then None else option_map (Visible_case j) (above_hole y t p)) ≡ None

    go : (x ≡ d) ⊎ Contains ds d → here x → (Contains ds d → ⊥) → ⊥
    go (inl w) n ih = absurd (let z : here d = subst here w n in let y = rw (hid, ab) at z in cc)
    go (inr k) n ih = ih k

hidden_found : (th : Theory) (G : List Place) (t : Tree) (p q : List ℕ) (d : Derivative) → is_hidden th (sort_of d.body) ≡ true → above_hole d t p ≡ Some q
    → is_special_path G t q ≡ true
    → (j : ℕ) (ds : List Derivative) → Contains ds d → hidden_case th G j ds t p ≡ None → ⊥
hidden_found th G t p q d hid ab sp j [] c e = nothing d c
hidden_found th G t p q d hid ab sp j (x ∷ ds) c e =
    let o = none_of_either (first x) (hidden_case th G (j + 1) ds t p) e in
    go (first_or_rest x d ds c) o.0 (λ k. hidden_found th G t p q d hid ab sp (j + 1) ds k o.1)
  where
    first : Derivative → Option Case
    first y = if is_hidden th (sort_of y.body) then option_map_or (λ z. if is_special_path G t z then Some (Hidden_case j z) else None)
        (above_hole y t p) None else None

    here : Derivative → Type 0
    here y = first y ≡ None

    go : (x ≡ d) ⊎ Contains ds d → here x → (Contains ds d → ⊥) → ⊥
    go (inl w) n ih = absurd (let z : here d = subst here w n in let y = rw (hid, ab, sp) at z in cc)
    go (inr k) n ih = ih k

-- so the case of an occurrence that is guarded is one of the three
pub case_holds : (th : Theory) → IsWellFormed th → (G : List Place) (t : Tree) (s : ℕ) (p : List ℕ) → IsGuardedAt th G t 0 s p
    → IsCase th G t p (guard_case th G t p)
case_holds th ok G t s p gd = go (visible_case th 0 th.derivatives t p) refl (is_special_path G t p) refl (hidden_case th G 0 th.derivatives t p) refl
  where
    start : (i : ℕ) (d : Derivative) → slice_get th.derivatives i ≡ Some d → slice_get th.derivatives (0 + i) ≡ Some d
    start i d e = (let z : 0 + i ≡ i = omega arith in ap (slice_get th.derivatives) z) ∙ e

    no_case : IsGuardedAt th G t 0 s p → visible_case th 0 th.derivatives t p ≡ None → is_special_path G t p ≡ false
        → hidden_case th G 0 th.derivatives t p ≡ None → ⊥
    no_case (by_visible d q r e i v) ev eb eh =
        seen (is_hidden th (sort_of d.body)) refl
      where
        seen : (b : Bool) → is_hidden th (sort_of d.body) ≡ b → ⊥
        seen true h = v ((hidden_tells th (sort_of d.body)).0 h)
        seen false h = visible_found th t p q d h (above_found th ok t s d q r p e i) 0 th.derivatives i.listed ev
    no_case (by_place sp) ev eb eh = absurd (let z = special_told G t p sp in cc)
    no_case (by_hidden d q r e i v sp) ev eb eh =
        seen (is_hidden th (sort_of d.body)) refl
      where
        seen : (b : Bool) → is_hidden th (sort_of d.body) ≡ b → ⊥
        seen true h = hidden_found th G t p q d h (above_found th ok t s d q r p e i) (special_told G t q sp) 0 th.derivatives i.listed eh
        seen false h = absurd (let z = (hidden_tells th (sort_of d.body)).1 v in cc)

    go : (v : Option Case) → visible_case th 0 th.derivatives t p ≡ v → (b : Bool) → is_special_path G t p ≡ b → (h : Option Case)
        → hidden_case th G 0 th.derivatives t p ≡ h
        → IsCase th G t p (unwrap_or (option_or v (option_or (if b then Some Place_case else None) h)) No_case)
    go (Some c) ev b eb h eh = visible_holds th G t p 0 th.derivatives start c ev
    go None ev true eb h eh = special_holds G t p eb
    go None ev false eb None eh = no_case gd ev eb eh
    go None ev false eb (Some c) eh = hidden_holds th G t p 0 th.derivatives start c eh
