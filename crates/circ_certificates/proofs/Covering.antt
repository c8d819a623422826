-- What is covered is what is guarded: a variable, an application by its arguments, and the whole.
use Rattle.std.proofs.Common.{◌≡◌, ℕ, zero, suc, Bool, true, false, ◌&&◌, ◌||◌, ◌==◌, List, [], ◌∷◌, ◌++◌, Option, Some, None, Result, Ok, Err, IfOk, IsTrue, ◌↔◌, ◌⊎◌, inl, inr, refl, ap, sym, subst, ◌∙◌}
use Rattle.std.specs.Prelude.{not}
use Rattle.std.specs.List.{slice_get, Contains}
use Rattle.std.proofs.lemmas.Bool.{and_parts, eqb-true, eq-eqb}
use Rattle.std.proofs.lemmas.Option.{same_Some}
use Rattle.std.proofs.lemmas.List.Elements.{Contains-append_left, Contains-append_right, Contains-append_cases}
use Rattle.circ_term.specs.Tree.{Tree, Trees, Var, App, none, more, is_ground, are_ground, list_of, args_of, sort_of, at, walk}
use Rattle.circ_term.proofs.Paths.{nowhere, Down, down}
use Rattle.circ_theory.specs.Theory.{Derivative, IsHidden}
use Rattle.circ_theory.specs.WellFormed.{IsWellFormed}
use Rattle.circ_theory.specs.Observing.{is_hidden}
use Rattle.circ_theory.specs.Experiment.{derived}
use Rattle.circ_theory.proofs.Casing.{hidden_tells}
use Rattle.circ_special.specs.Special.{IsSpecial, place}
use Rattle.circ_special.specs.Fitting.{fits}
use Rattle.circ_special.specs.Guarded.{IsInstanceAt, IsGuardedAt, by_visible, by_place, by_hidden, Guarded}
use Rattle.circ_special.proofs.Instances.{fits_exactly}
use Rattle.circ_proof.proofs.Members.{nothing, in_map, from_map, in_filter, from_filter}
use Rattle.circ_certificates.specs.declared.guard.Asked.{Asked}
use Rattle.circ_certificates.specs.Covering.{CountsFrom, IsGuardedFrom, from_place, from_instance, HasHoleAt, IsCovered, AreCovered, below, begins, begun}
use Rattle.circ_certificates.proofs.Members.{in_below, Above, from_below}

-- ---- a term without variables

ground_at : (ts : Trees) (i : ℕ) (u : Tree) → are_ground ts ≡ true → slice_get (list_of ts) i ≡ Some u → is_ground u ≡ true
ground_at none i u g e = absurd (cc)
ground_at (more t ts) zero u g e = ap is_ground (sym (same_Some t u e)) ∙ (and_parts (is_ground t) (are_ground ts) g).0
ground_at (more t ts) (suc i) u g e = ground_at ts i u (and_parts (is_ground t) (are_ground ts) g).1 e

no_variable : (p : List ℕ) (t : Tree) (n s : ℕ) → is_ground t ≡ true → at t p ≡ Some (Var n s) → ⊥
no_variable [] (Var m k) n s g e = absurd (cc)
no_variable [] (App f k ts) n s g e = absurd (let z = same_Some (App f k ts) (Var n s) e in cc)
no_variable (i ∷ p) (Var m k) n s g e = absurd (cc)
no_variable (i ∷ p) (App f k ts) n s g e = go (slice_get (list_of ts) i) refl (λ u h z. no_variable p u n s h z)
  where
    go : (o : Option Tree) → slice_get (list_of ts) i ≡ o → ((u : Tree) → is_ground u ≡ true → at u p ≡ Some (Var n s) → ⊥) → ⊥
    go None c ih = nowhere p (Var n s) (rw c at e)
    go (Some u) c ih = ih u (ground_at ts i u g c) (rw c at e)

pub ground_covered : (a : Asked) (Here : Type 0) (bs : List Tree) (t : Tree) → is_ground t ≡ true → IsCovered a Here bs t
ground_covered a Here bs t g = λ p e. absurd (no_variable p t a.id a.sort g e)

-- ---- paths to a term that are special

moved : (a : Asked) {S T : Type 0} → (S → T) → (t : Tree) (p : List ℕ) → IsGuardedFrom a S t p → IsGuardedFrom a T t p
moved a f t p (from_place h special) = from_place (f h) special
moved a f t p (from_instance d q r cut i counts) = from_instance d q r cut i (elim counts [ inl v ↦ inl v | inr h ↦ inr (h.0, f h.1, h.2) ])

pub covered_where : (a : Asked) {S T : Type 0} → (S → T) → (bs : List Tree) (t : Tree) → IsCovered a S bs t → IsCovered a T bs t
covered_where a f bs t h = λ p e. elim (h p e) [ inl x ↦ inl (moved a f t p x) | inr x ↦ inr x ]

-- ---- the whole

module _ (a : Asked) (t : Tree) where
  guards : (p : List ℕ) → IsGuardedFrom a (true ≡ true) t p → IsGuardedAt a.rules.theory.now a.rules.gamma.now t a.id a.sort p
  guards p (from_place h special) = by_place special
  guards p (from_instance d q r cut i counts) = elim counts [ inl v ↦ by_visible d q r cut i v | inr h ↦ by_hidden d q r cut i h.0 h.2 ]

  guarded_by : (p : List ℕ) → IsGuardedAt a.rules.theory.now a.rules.gamma.now t a.id a.sort p → IsGuardedFrom a (true ≡ true) t p
  guarded_by p (by_visible d q r cut i v) = from_instance d q r cut i (inl v)
  guarded_by p (by_place special) = from_place refl special
  guarded_by p (by_hidden d q r cut i h special) = from_instance d q r cut i (inr (h, refl, special))

  pub root_covered : IsCovered a (true ≡ true) [] t ↔ Guarded a.rules.theory.now a.rules.gamma.now t a.id a.sort
  root_covered = (
    (λ h p e. elim (h p e) [ inl x ↦ guards p x | inr x ↦ nothing x.0 x.1 ]),
    (λ g p e. inl (guarded_by p (g p e))),
  )

-- ---- instances that begin at a term

-- what the test of a derivative says
record Begins (a : Asked) (here : Bool) (t : Tree) (d : Derivative) : Type 0 where
  hole : d.hole ≡ a.sort
  counts : CountsFrom a (here ≡ true) t (sort_of d.body) []
  fit : fits a.id a.sort d.body t ≡ true

begins_to : (a : Asked) (here : Bool) (t : Tree) (d : Derivative) → begins a here t d ≡ true → Begins a here t d
begins_to a here t d e =
    let th = a.rules.theory.now in
    let k = sort_of d.body in
    let x = and_parts (d.hole == a.sort) ((not (is_hidden th k) || here) && fits a.id a.sort d.body t) e in
    let y = and_parts (not (is_hidden th k) || here) (fits a.id a.sort d.body t) x.1 in
    record { hole = eqb-true d.hole a.sort x.0; counts = go (is_hidden th k) (hidden_tells th k) y.0; fit = y.1 }
  where
    go : (b : Bool) → IsTrue b ↔ IsHidden a.rules.theory.now (sort_of d.body) → (not b || here) ≡ true → CountsFrom a (here ≡ true) t (sort_of d.body) []
    go true tells f = inr (tells.0 refl, f, tt)
    go false tells f = inl (λ h. absurd (let z = tells.1 h in cc))

begins_from : (a : Asked) (here : Bool) (t : Tree) (d : Derivative) → Begins a here t d → begins a here t d ≡ true
begins_from a here t d b =
    let th = a.rules.theory.now in
    let k = sort_of d.body in
    let counts : (not (is_hidden th k) || here) ≡ true = go (is_hidden th k) (hidden_tells th k) b.counts in
    rw (eq-eqb d.hole a.sort b.hole, counts, b.fit) refl
  where
    go : (b : Bool) → IsTrue b ↔ IsHidden a.rules.theory.now (sort_of d.body) → CountsFrom a (here ≡ true) t (sort_of d.body) [] → (not b || here) ≡ true
    go true tells (inl v) = absurd (v (tells.0 refl))
    go true tells (inr h) = h.1
    go false tells c = refl

module _ (a : Asked) (ok : IsWellFormed a.rules.theory.now) (here : Bool) (t : Tree) where
  -- the hole of a body that begins here is guarded
  begun_guards : (b : Tree) (r : List ℕ) → Contains (begun a here t a.rules.theory.now.derivatives) b → at b r ≡ Some (Var 0 a.sort)
      → IsGuardedFrom a (here ≡ true) t r
  begun_guards b r c h =
      let th = a.rules.theory.now in
      let x = from_map (λ d. d.body) _ b c in
      let d : Derivative = x.0 in
      let y = from_filter (begins a here t) th.derivatives d x.1 in
      let e = begins_to a here t d y.1 in
      let hole : at d.body r ≡ Some (Var 0 d.hole) = ap (λ u. at u r) x.2 ∙ h ∙ ap (λ k. Some (Var 0 k)) (sym e.hole) in
      let exact = fits_exactly th d (ok.derivatives d y.0) y.0 a.id a.sort t t [] r e.hole hole refl in
      from_instance d [] r refl (exact.to e.fit) e.counts

  -- the body of an instance here begins here
  instance_begun : (d : Derivative) (r : List ℕ) → IsInstanceAt a.rules.theory.now t a.id a.sort d [] r → CountsFrom a (here ≡ true) t (sort_of d.body) []
      → Contains (begun a here t a.rules.theory.now.derivatives) d.body
  instance_begun d r i counts =
      let th = a.rules.theory.now in
      let u : Tree = derived d (Var a.id a.sort) i.parameters in
      let exact = fits_exactly th d (ok.derivatives d i.listed) i.listed a.id a.sort t u [] r i.sort i.hole i.there in
      let P : Tree → Type 0 = λ x. fits a.id a.sort d.body x ≡ true in
      let fit = subst P (sym (same_Some t u i.there)) (exact.from i) in
      in_map (λ x. x.body) _ d (in_filter (begins a here t) th.derivatives d (begins_from a here t d (record { hole = i.sort; counts = counts; fit = fit })) i.listed)

-- the way down from a term to its argument
at_below : (b u : Tree) (i : ℕ) (p : List ℕ) → slice_get (args_of b) i ≡ Some u → at b (i ∷ p) ≡ at u p
at_below b u i p e = ap (λ o. walk o p) e

special_below : (a : Asked) (f k : ℕ) (ts : Trees) (i : ℕ) (q : List ℕ) (u : Tree) → slice_get (list_of ts) i ≡ Some u → IsSpecial a.rules.gamma.now (App f k ts) (i ∷ q)
    → Contains a.rules.gamma.now (place f i) × IsSpecial a.rules.gamma.now u q
special_below a f k ts i q u g sp = (sp.0, subst (λ x. IsSpecial a.rules.gamma.now x q) (same_Some sp.1 u (sym sp.2 ∙ g)) sp.3)

-- ---- a variable

module _ (a : Asked) (ok : IsWellFormed a.rules.theory.now) (here : Bool) (m k : ℕ) (bs cs : List Tree)
    (is : cs ≡ bs ++ begun a here (Var m k) a.rules.theory.now.derivatives) where
  hole_here : Contains cs (Var 0 a.sort) → IsGuardedFrom a (here ≡ true) (Var m k) [] ⊎ HasHoleAt a bs []
  hole_here c = elim (Contains-append_cases bs _ (Var 0 a.sort) (subst (λ xs. Contains xs (Var 0 a.sort)) is c)) [
    | inl x ↦ inr (Var 0 a.sort, x, refl)
    | inr x ↦ inl (begun_guards a ok here (Var m k) (Var 0 a.sort) [] x refl)
  ]

  guarded_here : IsGuardedFrom a (here ≡ true) (Var m k) [] → (here ≡ true) ⊎ Contains cs (Var 0 a.sort)
  guarded_here (from_place h special) = inl h
  guarded_here (from_instance d [] r cut i counts) =
      let hole : at d.body [] ≡ Some (Var 0 d.hole) = ap (at d.body) cut ∙ i.hole in
      let body : d.body ≡ Var 0 a.sort = same_Some d.body (Var 0 d.hole) hole ∙ ap (Var 0) i.sort in
      let P : Tree → Type 0 = λ x. Contains cs x in
      inr (subst P body (subst (λ xs. Contains xs d.body) (sym is) (Contains-append_right bs _ d.body (instance_begun a ok here (Var m k) d r i counts))))
  guarded_here (from_instance d (j ∷ q) r cut i counts) = absurd (cc)

  hole_there : HasHoleAt a bs [] → Contains cs (Var 0 a.sort)
  hole_there x =
      let body : x.0 ≡ Var 0 a.sort = same_Some x.0 (Var 0 a.sort) x.2 in
      subst (λ xs. Contains xs (Var 0 a.sort)) (sym is) (Contains-append_left bs _ (Var 0 a.sort) (subst (λ y. Contains bs y) body x.1))

  pub variable_covered : (r : Bool) → (IsTrue r ↔ (Var m k ≡ Var a.id a.sort → (here ≡ true) ⊎ Contains cs (Var 0 a.sort)))
      → IsTrue r ↔ IsCovered a (here ≡ true) bs (Var m k)
  variable_covered r e = (
    (λ t. to (e.0 t)),
    (λ g. e.1 (λ z. elim (g [] (ap Some z)) [ inl x ↦ guarded_here x | inr x ↦ inr (hole_there x) ])),
  )
    where
      to : (Var m k ≡ Var a.id a.sort → (here ≡ true) ⊎ Contains cs (Var 0 a.sort)) → IsCovered a (here ≡ true) bs (Var m k)
      to h [] z = elim (h (same_Some (Var m k) (Var a.id a.sort) z)) [ inl x ↦ inl (from_place x tt) | inr x ↦ hole_here x ]
      to h (i ∷ p) z = nowhere p (Var a.id a.sort) z

-- ---- an application

module _ (a : Asked) (ok : IsWellFormed a.rules.theory.now) (here : Bool) (f k : ℕ) (ts : Trees) (bs cs : List Tree)
    (is : cs ≡ bs ++ begun a here (App f k ts) a.rules.theory.now.derivatives) where
  abbrev Inner : ℕ → Type 0
  Inner i = (here ≡ true) × Contains a.rules.gamma.now (place f i)

  -- from an argument to the whole

  guarded_up : (i : ℕ) (p : List ℕ) (u : Tree) → slice_get (list_of ts) i ≡ Some u → IsGuardedFrom a (Inner i) u p → IsGuardedFrom a (here ≡ true) (App f k ts) (i ∷ p)
  guarded_up i p u g (from_place h special) = from_place h.0 (h.1, u, g, special)
  guarded_up i p u g (from_instance d q r cut j counts) =
      from_instance d (i ∷ q) r (ap (λ x. i ∷ x) cut)
      (record {
        listed = j.listed;
        sort = j.sort;
        hole = j.hole;
        parameters = j.parameters;
        keeps_sorts = j.keeps_sorts;
        there = at_below (App f k ts) u i q g ∙ j.there;
      })
      (elim counts [ inl v ↦ inl v | inr h ↦ inr (h.0, h.1.0, (h.1.1, u, g, h.2)) ])

  hole_up : (i : ℕ) (p : List ℕ) → HasHoleAt a (below i cs) p → IsGuardedFrom a (here ≡ true) (App f k ts) (i ∷ p) ⊎ HasHoleAt a bs (i ∷ p)
  hole_up i p h =
      let x : Above i cs h.0 = from_below i cs h.0 h.1 in
      let whole : at x.term (i ∷ p) ≡ Some (Var 0 a.sort) = at_below x.term h.0 i p x.argument ∙ h.2 in
      elim (Contains-append_cases bs _ x.term (subst (λ xs. Contains xs x.term) is x.member)) [
        | inl m ↦ inr (x.term, m, whole)
        | inr m ↦ inl (begun_guards a ok here (App f k ts) x.term (i ∷ p) m whole)
      ]

  -- from the whole to an argument

  body_below : (i : ℕ) (p : List ℕ) (b : Tree) (h : ℕ) → Contains cs b → at b (i ∷ p) ≡ Some (Var 0 h) → h ≡ a.sort → HasHoleAt a (below i cs) p
  body_below i p b h c e s =
      let x : Down b i p (Var 0 h) = down b i p (Var 0 h) e in
      let argument : slice_get (args_of b) i ≡ Some x.arg = ap (λ y. slice_get (args_of y) i) x.is ∙ x.got in
      (x.arg, in_below i cs b x.arg c argument, x.there ∙ ap (λ y. Some (Var 0 y)) s)

  instance_down : (i : ℕ) (p : List ℕ) (u : Tree) → slice_get (list_of ts) i ≡ Some u → (d : Derivative) (q r : List ℕ) → i ∷ p ≡ q ++ r
      → IsInstanceAt a.rules.theory.now (App f k ts) a.id a.sort d q r → CountsFrom a (here ≡ true) (App f k ts) (sort_of d.body) q
      → IsGuardedFrom a (Inner i) u p ⊎ HasHoleAt a (below i cs) p
  instance_down i p u g d [] r cut j counts =
      let member : Contains cs d.body = subst (λ xs. Contains xs d.body) (sym is) (Contains-append_right bs _ d.body (instance_begun a ok here (App f k ts) d r j counts)) in
      inr (body_below i p d.body d.hole member (ap (at d.body) cut ∙ j.hole) j.sort)
  instance_down i p u g d (m ∷ q) r cut j counts =
      let same : i ≡ m = cc in
      let rest : p ≡ q ++ r = cc in
      let there : at u q ≡ Some (derived d (Var a.id a.sort) j.parameters)
      = sym (at_below (App f k ts) u i q g) ∙ ap (λ x. at (App f k ts) (x ∷ q)) same ∙ j.there in
      let go_on : CountsFrom a (Inner i) u (sort_of d.body) q = elim counts [
        | inl v ↦ inl v
        | inr h ↦
            let sp = special_below a f k ts i q u g (subst (λ x. IsSpecial a.rules.gamma.now (App f k ts) (x ∷ q)) (sym same) h.2) in
            inr (h.0, (h.1, sp.0), sp.1)
      ] in
      inl (from_instance d q r rest
      (record { listed = j.listed; sort = j.sort; hole = j.hole; parameters = j.parameters; keeps_sorts = j.keeps_sorts; there = there }) go_on)

  guarded_down : (i : ℕ) (p : List ℕ) (u : Tree) → slice_get (list_of ts) i ≡ Some u → IsGuardedFrom a (here ≡ true) (App f k ts) (i ∷ p)
      → IsGuardedFrom a (Inner i) u p ⊎ HasHoleAt a (below i cs) p
  guarded_down i p u g (from_place h special) = let sp = special_below a f k ts i p u g special in inl (from_place (h, sp.0) sp.1)
  guarded_down i p u g (from_instance d q r cut j counts) = instance_down i p u g d q r cut j counts

  hole_down : (i : ℕ) (p : List ℕ) → HasHoleAt a bs (i ∷ p) → HasHoleAt a (below i cs) p
  hole_down i p h = body_below i p h.0 a.sort (subst (λ xs. Contains xs h.0) (sym is) (Contains-append_left bs _ h.0 h.1)) h.2 refl

  -- both ways

  covered_up : AreCovered a (here ≡ true) f cs (list_of ts) → IsCovered a (here ≡ true) bs (App f k ts)
  covered_up all [] e = absurd (let z = same_Some (App f k ts) (Var a.id a.sort) e in cc)
  covered_up all (i ∷ p) e = go (slice_get (list_of ts) i) refl
    where
      go : (o : Option Tree) → slice_get (list_of ts) i ≡ o → IsGuardedFrom a (here ≡ true) (App f k ts) (i ∷ p) ⊎ HasHoleAt a bs (i ∷ p)
      go None c = nowhere p (Var a.id a.sort) (rw c at e)
      go (Some u) c = elim (all i u c p (rw c at e)) [ inl x ↦ inl (guarded_up i p u c x) | inr x ↦ hole_up i p x ]

  covered_down : IsCovered a (here ≡ true) bs (App f k ts) → AreCovered a (here ≡ true) f cs (list_of ts)
  covered_down h = λ i u g p e. elim (h (i ∷ p) (at_below (App f k ts) u i p g ∙ e)) [
    | inl x ↦ guarded_down i p u g x
    | inr x ↦ inr (hole_down i p x)
  ]

  pub application_covered : (r : Bool) → (IsTrue r ↔ AreCovered a (here ≡ true) f cs (list_of ts)) → IsTrue r ↔ IsCovered a (here ≡ true) bs (App f k ts)
  application_covered r e = ((λ t. covered_up (e.0 t)), (λ g. e.1 (covered_down g)))

-- ---- answers

pub if_told : {E : Type 0} (P Q : Type 0) (r : Result Bool E) → ((b : Bool) → (IsTrue b ↔ P) → IsTrue b ↔ Q) → IfOk r (λ b. IsTrue b ↔ P) → IfOk r (λ b. IsTrue b ↔ Q)
if_told P Q (Ok b) f h = f b h
if_told P Q (Err e) f h = tt

pub root_told : {E : Type 0} (a : Asked) (t : Tree) (bs : List Tree) → bs ≡ [] → (r : Result Bool E) → IfOk r (λ b. IsTrue b ↔ IsCovered a (true ≡ true) bs t)
    → IfOk r (λ b. IsTrue b ↔ Guarded a.rules.theory.now a.rules.gamma.now t a.id a.sort)
root_told a t bs e r h =
    let x = root_covered a t in
    let P : List Tree → Type 0 = λ xs. IfOk r (λ b. IsTrue b ↔ IsCovered a (true ≡ true) xs t) in
    if_told (IsCovered a (true ≡ true) [] t) (Guarded a.rules.theory.now a.rules.gamma.now t a.id a.sort) r
    (λ b k. ((λ y. x.0 (k.0 y)), (λ g. k.1 (x.1 g)))) (subst P e h)
