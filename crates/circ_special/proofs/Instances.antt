-- What fits the body of a derivative is exactly an instance of the derivative on the variable.
use Rattle.std.proofs.Common.{◌≡◌, ◌≢◌, ℕ, ◌==◌, ◌&&◌, Bool, true, false, if◌then◌else◌, length, List, [], ◌∷◌, ◌++◌, zero, suc, Option, Some, None}
use Rattle.std.proofs.Common.{inl, inr, refl, sym, ap, subst, ◌∙◌}
use Rattle.std.specs.List.{AllByRecursion, Contains, slice_get}
use Rattle.std.proofs.lemmas.Bool.{cases_Bool, eq-eqb, eqb-true, and_parts}
use Rattle.std.proofs.lemmas.Option.{same_Some}
use Rattle.circ_term.specs.Tree.{Tree, Trees, Var, App, none, more, sort_of, list_of, trees_of, at}
use Rattle.circ_term.specs.Substitution.{Substitution, KeepsSorts, instance, instances}
use Rattle.circ_term.proofs.Instances.{instance-same}
use Rattle.circ_term.proofs.Paths.{nowhere, at_instance}
use Rattle.circ_theory.specs.Theory.{Theory, Derivative}
use Rattle.circ_theory.specs.Experiment.{plug, derived}
use Rattle.circ_theory.specs.Variables.{occurrences, all_occurrences}
use Rattle.circ_theory.specs.WellFormed.{IsDerivative}
use Rattle.circ_special.specs.Guarded.{IsInstanceAt}
use Rattle.circ_special.specs.Fitting.{is_variable, at_hole, fits, all_fit}
use Rattle.circ_special.proofs.Agreeing.{Agree, stands, stands-append, neither, same_instances}
use Rattle.circ_special.proofs.Sorted.{plug_keeps}
use Rattle.circ_special.proofs.Distinct.{AreDistinct, AreApart, parts_apart, body_distinct, IsHoleOfSort, body_holes}

-- applications that fit
record SameHeads (n s f g k j : ℕ) (bs us : Trees) : Type 0 where
  op : f ≡ g
  sort : k ≡ j
  args : all_fit n s bs us ≡ true

same_heads : (n s f g k j : ℕ) (bs us : Trees) → fits n s (App f k bs) (App g j us) ≡ true → SameHeads n s f g k j bs us
same_heads n s f g k j bs us e =
    let x = and_parts (f == g) ((k == j) && all_fit n s bs us) e in
    let y = and_parts (k == j) (all_fit n s bs us) x.1 in
    record { op = eqb-true f g x.0; sort = eqb-true k j y.0; args = y.1 }

-- ---- the substitution that a fitting term gives

abbrev mutual
  taken : (body term : Tree) → Substitution → Substitution
  taken (Var m k) u ρ = λ n s. if (n == m) && (s == k) then u else ρ n s
  taken (App f k bs) (Var m j) ρ = ρ
  taken (App f k bs) (App g j us) ρ = all_taken bs us ρ

  all_taken : (bodies terms : Trees) → Substitution → Substitution
  all_taken none us ρ = ρ
  all_taken (more b bs) none ρ = ρ
  all_taken (more b bs) (more u us) ρ = taken b u (all_taken bs us ρ)

-- it changes the variables of the body alone
mutual
  taken_other : (b u : Tree) (ρ : Substitution) (m k : ℕ) → stands m k (occurrences b) ≡ false → taken b u ρ m k ≡ ρ m k
  taken_other (Var n j) u ρ m k e = let z = neither ((m == n) && (k == j)) false e in rw z.0 refl
  taken_other (App f j bs) (Var n i) ρ m k e = refl
  taken_other (App f j bs) (App g i us) ρ m k e = all_taken_other bs us ρ m k e

  all_taken_other : (bs us : Trees) (ρ : Substitution) (m k : ℕ) → stands m k (all_occurrences bs) ≡ false → all_taken bs us ρ m k ≡ ρ m k
  all_taken_other none us ρ m k e = refl
  all_taken_other (more b bs) none ρ m k e = refl
  all_taken_other (more b bs) (more u us) ρ m k e =
      let z = neither (stands m k (occurrences b)) (stands m k (all_occurrences bs)) (sym (stands-append m k (occurrences b) (all_occurrences bs)) ∙ e) in
      taken_other b u (all_taken bs us ρ) m k z.0 ∙ all_taken_other bs us ρ m k z.1

-- so what the rest has taken stays
taken_rest : (b u : Tree) (bs : Trees) (τ : Substitution) → AreApart (occurrences b) (all_occurrences bs) → Agree (taken b u τ) τ (all_occurrences bs)
taken_rest b u bs τ p m k h = elim (cases_Bool (stands m k (occurrences b))) [
  | inl e ↦ absurd (let z = p.apart m k e in cc)
  | inr e ↦ taken_other b u τ m k e
]

-- it makes the body the term
mutual
  taken_makes : (n s : ℕ) (b u : Tree) (ρ : Substitution) → fits n s b u ≡ true → AreDistinct (occurrences b) → instance (taken b u ρ) b ≡ u
  taken_makes n s (Var m k) u ρ e a = rw (eq-eqb m m refl, eq-eqb k k refl) refl
  taken_makes n s (App f k bs) (Var m j) ρ e a = absurd (cc)
  taken_makes n s (App f k bs) (App g j us) ρ e a =
      let h = same_heads n s f g k j bs us e in
      let all = instances (all_taken bs us ρ) bs in
      ap (λ x. App x k all) h.op ∙ ap (λ x. App g x all) h.sort ∙ ap (App g j) (all_taken_make n s bs us ρ h.args a)

  all_taken_make : (n s : ℕ) (bs us : Trees) (ρ : Substitution) → all_fit n s bs us ≡ true → AreDistinct (all_occurrences bs)
      → instances (all_taken bs us ρ) bs ≡ us
  all_taken_make n s none none ρ e a = refl
  all_taken_make n s none (more u us) ρ e a = absurd (cc)
  all_taken_make n s (more b bs) none ρ e a = absurd (cc)
  all_taken_make n s (more b bs) (more u us) ρ e a =
      let x = and_parts (fits n s b u) (all_fit n s bs us) e in
      let p = parts_apart (occurrences b) (all_occurrences bs) a in
      let τ = all_taken bs us ρ in
      ap (λ t. more t (instances (taken b u τ) bs)) (taken_makes n s b u τ x.0 p.first)
      ∙ ap (more u) (same_instances (taken b u τ) τ bs (taken_rest b u bs τ p) ∙ all_taken_make n s bs us ρ x.1 p.second)

mutual
  taken_keeps : (n s : ℕ) (b u : Tree) (ρ : Substitution) → fits n s b u ≡ true → KeepsSorts ρ → KeepsSorts (taken b u ρ)
  taken_keeps n s (Var m k) u ρ e r = λ i j. elim (cases_Bool ((i == m) && (j == k))) [
    | inl v ↦
        let z = and_parts (sort_of u == k) (at_hole m (is_variable n s u)) e in
        rw v (eqb-true (sort_of u) k z.0 ∙ sym (eqb-true j k (and_parts (i == m) (j == k) v).1))
    | inr v ↦ rw v (r i j)
  ]
  taken_keeps n s (App f k bs) (Var m j) ρ e r = absurd (cc)
  taken_keeps n s (App f k bs) (App g j us) ρ e r = all_taken_keep n s bs us ρ (same_heads n s f g k j bs us e).args r

  all_taken_keep : (n s : ℕ) (bs us : Trees) (ρ : Substitution) → all_fit n s bs us ≡ true → KeepsSorts ρ → KeepsSorts (all_taken bs us ρ)
  all_taken_keep n s none us ρ e r = r
  all_taken_keep n s (more b bs) none ρ e r = absurd (cc)
  all_taken_keep n s (more b bs) (more u us) ρ e r =
      let x = and_parts (fits n s b u) (all_fit n s bs us) e in
      taken_keeps n s b u (all_taken bs us ρ) x.0 (all_taken_keep n s bs us ρ x.1 r)

-- ---- where the body has its hole, the term has the variable

fit_arg : (n s : ℕ) (bs us : Trees) (i : ℕ) (b : Tree) → all_fit n s bs us ≡ true → slice_get (list_of bs) i ≡ Some b
    → (u : Tree) × (slice_get (list_of us) i ≡ Some u) × (fits n s b u ≡ true)
fit_arg n s none us i b e g = absurd (cc)
fit_arg n s (more x bs) none i b e g = absurd (cc)
fit_arg n s (more x bs) (more u us) zero b e g =
    (u, refl, ap (λ y. fits n s y u) (sym (same_Some x b g)) ∙ (and_parts (fits n s x u) (all_fit n s bs us) e).0)
fit_arg n s (more x bs) (more u us) (suc i) b e g = fit_arg n s bs us i b (and_parts (fits n s x u) (all_fit n s bs us) e).1 g

is_this : (n s : ℕ) (u : Tree) → is_variable n s u ≡ true → u ≡ Var n s
is_this n s (Var m k) e = let h = and_parts (m == n) (k == s) e in ap (λ x. Var x k) (eqb-true m n h.0) ∙ ap (Var n) (eqb-true k s h.1)
is_this n s (App f k ts) e = absurd (cc)

fits_at : (n s : ℕ) (r : List ℕ) (b u : Tree) (h : ℕ) → fits n s b u ≡ true → at b r ≡ Some (Var 0 h) → at u r ≡ Some (Var n s)
fits_at n s [] b u h e g =
    let P : Tree → Type 0 = λ x. fits n s x u ≡ true in
    let f = subst P (same_Some b (Var 0 h) g) e in
    ap Some (is_this n s u (and_parts (sort_of u == h) (is_variable n s u) f).1)
fits_at n s (i ∷ r) (Var m k) u h e g = nowhere r (Var 0 h) g
fits_at n s (i ∷ r) (App f k bs) (Var m j) h e g = absurd (cc)
fits_at n s (i ∷ r) (App f k bs) (App g j us) h e q =
    go (λ b v w z. fits_at n s r b v h w z) (same_heads n s f g k j bs us e).args (slice_get (list_of bs) i) refl
  where
    go : ((b v : Tree) → fits n s b v ≡ true → at b r ≡ Some (Var 0 h) → at v r ≡ Some (Var n s)) → all_fit n s bs us ≡ true
        → (o : Option Tree) → slice_get (list_of bs) i ≡ o → at (App g j us) (i ∷ r) ≡ Some (Var n s)
    go ih a None c = nowhere r (Var 0 h) (rw c at q)
    go ih a (Some b) c = let v = fit_arg n s bs us i b a c in rw v.1 (ih b v.0 v.2 (rw c at q))

-- ---- a term that fits is an instance

record IsMade (d : Derivative) (n s : ℕ) (u : Tree) : Type 0 where
  parameters : Substitution
  keeps_sorts : KeepsSorts parameters
  made : u ≡ derived d (Var n s) parameters

-- to plug in what the hole is given anyway changes nothing
plug_given : (h : ℕ) (t : Tree) (σ : Substitution) → σ 0 h ≡ t → (m k : ℕ) → plug h t σ m k ≡ σ m k
plug_given h t σ e m k = elim (cases_Bool ((m == 0) && (k == h))) [
  | inl v ↦
      let z = and_parts (m == 0) (k == h) v in
      rw v (sym e ∙ ap (λ x. σ x h) (sym (eqb-true m 0 z.0)) ∙ ap (σ m) (sym (eqb-true k h z.1)))
  | inr v ↦ rw v refl
]

is_made : (d : Derivative) (n s : ℕ) (u : Tree) (r : List ℕ) → AreDistinct (occurrences d.body) → at d.body r ≡ Some (Var 0 d.hole)
    → fits n s d.body u ≡ true → IsMade d n s u
is_made d n s u r a g e =
    let σ = taken d.body u Var in
    let made : instance σ d.body ≡ u = taken_makes n s d.body u Var e a in
    let here : at (instance σ d.body) r ≡ Some (σ 0 d.hole) = at_instance σ r d.body (Var 0 d.hole) g in
    let there : at u r ≡ Some (Var n s) = fits_at n s r d.body u d.hole e g in
    let hole : σ 0 d.hole ≡ Var n s = same_Some (σ 0 d.hole) (Var n s) (sym here ∙ ap (λ x. at x r) made ∙ there) in
    record {
      parameters = σ;
      keeps_sorts = taken_keeps n s d.body u Var e (λ m k. refl);
      made = sym made ∙ sym (instance-same (plug d.hole (Var n s) σ) σ d.body (plug_given d.hole (Var n s) σ hole));
    }

-- ---- an instance fits

all_parts : {X : Type 0} (P : X → Type 0) (xs ys : List X) → AllByRecursion P (xs ++ ys) → AllByRecursion P xs × AllByRecursion P ys
all_parts P [] ys a = (tt, a)
all_parts P (x ∷ xs) ys a = let r = all_parts P xs ys a.1 in ((a.0, r.0), r.1)

mutual
  instance_fits : (n s : ℕ) (σ : Substitution) (h : ℕ) (b : Tree) → KeepsSorts σ → σ 0 h ≡ Var n s → AllByRecursion (IsHoleOfSort h) (occurrences b)
      → fits n s b (instance σ b) ≡ true
  instance_fits n s σ h (Var zero k) p e a =
      let it : σ 0 k ≡ Var n s = ap (σ 0) (a.0 refl) ∙ e in
      rw (eq-eqb (sort_of (σ 0 k)) k (p 0 k), it, eq-eqb n n refl, eq-eqb s s refl) refl
  instance_fits n s σ h (Var (suc m) k) p e a = rw (eq-eqb (sort_of (σ (suc m) k)) k (p (suc m) k)) refl
  instance_fits n s σ h (App f k bs) p e a = rw (eq-eqb f f refl, eq-eqb k k refl, instances_fit n s σ h bs p e a) refl

  instances_fit : (n s : ℕ) (σ : Substitution) (h : ℕ) (bs : Trees) → KeepsSorts σ → σ 0 h ≡ Var n s → AllByRecursion (IsHoleOfSort h) (all_occurrences bs)
      → all_fit n s bs (instances σ bs) ≡ true
  instances_fit n s σ h none p e a = refl
  instances_fit n s σ h (more b bs) p e a =
      let z = all_parts (IsHoleOfSort h) (occurrences b) (all_occurrences bs) a in
      rw (instance_fits n s σ h b p e z.0, instances_fit n s σ h bs p e z.1) refl

-- ---- both ways

pub record FitsExactly (th : Theory) (t : Tree) (n s : ℕ) (d : Derivative) (q r : List ℕ) (u : Tree) : Type 0 where
  pub to : fits n s d.body u ≡ true → IsInstanceAt th t n s d q r
  pub from : IsInstanceAt th t n s d q r → fits n s d.body u ≡ true

pub fits_exactly : (th : Theory) (d : Derivative) → IsDerivative th.signature d → Contains th.derivatives d → (n s : ℕ) (t u : Tree) (q r : List ℕ)
    → d.hole ≡ s → at d.body r ≡ Some (Var 0 d.hole) → at t q ≡ Some u → FitsExactly th t n s d q r u
fits_exactly th d ok c n s t u q r hs g e = record {
  to = λ f.
      let m = is_made d n s u r (body_distinct th.signature d ok) g f in
      record { listed = c; sort = hs; hole = g; parameters = m.parameters; keeps_sorts = m.keeps_sorts; there = e ∙ ap Some m.made };
  from = λ i.
      let σ = plug d.hole (Var n s) i.parameters in
      let made : u ≡ instance σ d.body = same_Some u (instance σ d.body) (sym e ∙ i.there) in
      let at_it : σ 0 d.hole ≡ Var n s = rw (eq-eqb d.hole d.hole refl) refl in
      let keeps : KeepsSorts σ = plug_keeps d.hole (Var n s) i.parameters (sym hs) i.keeps_sorts in
      ap (fits n s d.body) made ∙ instance_fits n s σ d.hole d.body keeps at_it (body_holes th.signature d ok);
}

-- lists that fit are of one length
pub unfit_length : (n s : ℕ) (xs ys : List Tree) → length xs ≢ length ys → all_fit n s (trees_of xs) (trees_of ys) ≡ false
unfit_length n s [] [] h = absurd (h refl)
unfit_length n s [] (y ∷ ys) h = refl
unfit_length n s (x ∷ xs) [] h = refl
unfit_length n s (x ∷ xs) (y ∷ ys) h = ap (λ b. fits n s x y && b) (unfit_length n s xs ys (λ e. h (ap suc e))) ∙ and_false (fits n s x y)
  where
    and_false : (b : Bool) → (b && false) ≡ false
    and_false true = refl
    and_false false = refl
