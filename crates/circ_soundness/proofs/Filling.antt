-- Terms that are made from another by putting terms at its variables, at each place for itself.
use Rattle.std.proofs.Common.{◌≡◌, ℕ, zero, suc, if◌then◌else◌, List, [], ◌∷◌, Option, Some, None, inl, inr}
use Rattle.std.proofs.Common.{refl, ap, sym, subst, ◌∙◌}
use Rattle.std.specs.List.{slice_get, Contains}
use Rattle.std.proofs.lemmas.Bool.{cases_Bool, eq-eqb}
use Rattle.std.proofs.lemmas.Option.{same_Some}
use Rattle.circ_term.specs.Tree.{Tree, Trees, Var, App, none, more, sort_of, list_of, at}
use Rattle.circ_term.specs.Substitution.{Substitution, instance, instances}
use Rattle.circ_term.proofs.Paths.{nowhere}
use Rattle.circ_theory.specs.Signature.{Signature, IsSort, IsWellSorted, HaveSorts, IsSubstitution}
use Rattle.circ_theory.specs.Variables.{occurrences, all_occurrences, given}
use Rattle.circ_theory.proofs.Rewriting.{given_substitution}
use Rattle.circ_special.specs.declared.place.Place.{Place}
use Rattle.circ_special.specs.Special.{place, IsSpecial}
use Rattle.circ_special.proofs.Agreeing.{stands, same_instance, same_instances}
use Rattle.circ_special.proofs.Distinct.{AreDistinct, AreApart, parts_apart}

-- what may stand for each variable
abbrev pub Filler : Type 1
Filler = (number sort : ℕ) → Tree → Type 0

-- the second term is the first with a filler at each variable
abbrev mutual
  pub Fills : Filler → Tree → Tree → Type 0
  Fills R (Var n s) u = R n s u
  Fills R (App f s ts) (Var n r) = ⊥
  Fills R (App f s ts) (App g r us) = (f ≡ g) × (s ≡ r) × FillsAll R ts us

  pub FillsAll : Filler → Trees → Trees → Type 0
  FillsAll R none none = Unit {0}
  FillsAll R none (more u us) = ⊥
  FillsAll R (more t ts) none = ⊥
  FillsAll R (more t ts) (more u us) = Fills R t u × FillsAll R ts us

-- what fills an instance of b, fills b with what fills the terms given
mutual
  pub fills_instance : (R : Filler) (σ : Substitution) (b u : Tree) → Fills R (instance σ b) u → Fills (λ n s. Fills R (σ n s)) b u
  fills_instance R σ (Var n s) u h = h
  fills_instance R σ (App f s ts) (Var n r) h = h
  fills_instance R σ (App f s ts) (App g r us) h = (h.0, h.1, fills_instances R σ ts us h.2)

  fills_instances : (R : Filler) (σ : Substitution) (bs us : Trees) → FillsAll R (instances σ bs) us → FillsAll (λ n s. Fills R (σ n s)) bs us
  fills_instances R σ none none h = h
  fills_instances R σ none (more u us) h = h
  fills_instances R σ (more b bs) none h = h
  fills_instances R σ (more b bs) (more u us) h = (fills_instance R σ b u h.0, fills_instances R σ bs us h.1)

-- ---- sorts

-- a well-sorted term of this sort
abbrev pub IsOfSort : Signature → (sort : ℕ) → Tree → Type 0
IsOfSort sig s u = (sort_of u ≡ s) × IsWellSorted sig u

-- .. for each variable, of its sort
abbrev pub OfSort : Signature → Filler
OfSort sig n s u = IsOfSort sig s u

-- where each filler is one of another kind
abbrev IsWithin : Signature → Filler → Filler → Type 0
IsWithin sig R S = (n s : ℕ) (u : Tree) → IsSort sig s → R n s u → S n s u

-- fillers of the variables' sorts make a well-sorted term
mutual
  pub fills_sorted : (sig : Signature) (R : Filler) → IsWithin sig R (OfSort sig) → (t u : Tree) → IsWellSorted sig t → Fills R t u
      → (sort_of u ≡ sort_of t) × IsWellSorted sig u
  fills_sorted sig R k (Var n s) u w h = k n s u w h
  fills_sorted sig R k (App f s ts) (Var n r) w h = absurd h
  fills_sorted sig R k (App f s ts) (App g r us) w h =
      let P : ℕ → Type 0 = λ g. IsWellSorted sig (App g r us) in
      let Q : ℕ → Type 0 = λ r. IsWellSorted sig (App f r us) in
      (sym h.1, subst P h.0 (subst Q h.1 (w.0, w.1, w.2, fill_sorts sig R k ts us w.0.args w.3 h.2)))

  fill_sorts : (sig : Signature) (R : Filler) → IsWithin sig R (OfSort sig) → (ts us : Trees) (ss : List ℕ) → HaveSorts sig ts ss → FillsAll R ts us
      → HaveSorts sig us ss
  fill_sorts sig R k none none ss w h = w
  fill_sorts sig R k none (more u us) ss w h = absurd h
  fill_sorts sig R k (more t ts) none ss w h = absurd h
  fill_sorts sig R k (more t ts) (more u us) [] w h = absurd w
  fill_sorts sig R k (more t ts) (more u us) (s ∷ ss) w h =
      let x = fills_sorted sig R k t u w.1 h.0 in (x.0 ∙ w.0, x.1, fill_sorts sig R k ts us ss w.2 h.1)

-- fillers of one kind for those of another
mutual
  pub fills_also : (sig : Signature) (R S : Filler) → IsWithin sig R S → (t u : Tree) → IsWellSorted sig t → Fills R t u → Fills S t u
  fills_also sig R S k (Var n s) u w h = k n s u w h
  fills_also sig R S k (App f s ts) (Var n r) w h = h
  fills_also sig R S k (App f s ts) (App g r us) w h = (h.0, h.1, all_fill_also sig R S k ts us w.0.args w.3 h.2)

  all_fill_also : (sig : Signature) (R S : Filler) → IsWithin sig R S → (ts us : Trees) (ss : List ℕ) → HaveSorts sig ts ss → FillsAll R ts us
      → FillsAll S ts us
  all_fill_also sig R S k none none ss w h = h
  all_fill_also sig R S k none (more u us) ss w h = h
  all_fill_also sig R S k (more t ts) none ss w h = h
  all_fill_also sig R S k (more t ts) (more u us) [] w h = absurd w
  all_fill_also sig R S k (more t ts) (more u us) (s ∷ ss) w h = (fills_also sig R S k t u w.1 h.0, all_fill_also sig R S k ts us ss w.2 h.1)

-- ---- a term in which no variable stands twice is made, by one substitution, from any that fills it

pub record Makes (sig : Signature) (b u : Tree) : Type 0 where
  pub by : Substitution
  pub sorted : IsSubstitution sig by
  pub made : instance by b ≡ u

pub record MakesAll (sig : Signature) (bs us : Trees) : Type 0 where
  pub by : Substitution
  pub sorted : IsSubstitution sig by
  pub made : instances by bs ≡ us

-- the first at the variables of a term, and the second at others
abbrev either : Tree → Substitution → Substitution → Substitution
either b σ τ = λ n s. if stands n s (occurrences b) then σ n s else τ n s

either_sorted : (sig : Signature) (b : Tree) (σ τ : Substitution) → IsSubstitution sig σ → IsSubstitution sig τ → IsSubstitution sig (either b σ τ)
either_sorted sig b σ τ x y n s w = elim (cases_Bool (stands n s (occurrences b))) [
  | inl e ↦ rw e (x n s w)
  | inr e ↦ rw e (y n s w)
]

either_second : (b : Tree) (bs : Trees) (σ τ : Substitution) → AreApart (occurrences b) (all_occurrences bs) → instances (either b σ τ) bs ≡ instances τ bs
either_second b bs σ τ p = same_instances (either b σ τ) τ bs (λ m k h. elim (cases_Bool (stands m k (occurrences b))) [
  | inl e ↦ absurd (let z = p.apart m k e in cc)
  | inr e ↦ rw e refl
])

mutual
  pub distinct_makes : (sig : Signature) (b u : Tree) → AreDistinct (occurrences b) → Fills (OfSort sig) b u → Makes sig b u
  distinct_makes sig (Var n s) u a h = record {
    by = given (record { number = n; sort = s } ∷ []) (u ∷ []);
    sorted = given_substitution sig (record { number = n; sort = s } ∷ []) (u ∷ []) (h.0, tt) (h.1, tt);
    made = rw (eq-eqb n n refl, eq-eqb s s refl) refl;
  }
  distinct_makes sig (App f s ts) (Var n r) a h = absurd h
  distinct_makes sig (App f s ts) (App g r us) a h =
      let x = all_distinct_make sig ts us a h.2 in
      record { by = x.by; sorted = x.sorted; made = ap (App f s) x.made ∙ ap (λ k. App k s us) h.0 ∙ ap (λ k. App g k us) h.1 }

  pub all_distinct_make : (sig : Signature) (bs us : Trees) → AreDistinct (all_occurrences bs) → FillsAll (OfSort sig) bs us → MakesAll sig bs us
  all_distinct_make sig none none a h = record { by = Var; sorted = λ n s w. (refl, w); made = refl }
  all_distinct_make sig none (more u us) a h = absurd h
  all_distinct_make sig (more b bs) none a h = absurd h
  all_distinct_make sig (more b bs) (more u us) a h =
      let p = parts_apart (occurrences b) (all_occurrences bs) a in
      let x = distinct_makes sig b u p.first h.0 in
      let y = all_distinct_make sig bs us p.second h.1 in
      let σ = either b x.by y.by in
      record {
        by = σ;
        sorted = either_sorted sig b x.by y.by x.sorted y.sorted;
        made = ap (λ v. more v (instances σ bs)) (same_instance σ x.by b (λ m k e. rw e refl) ∙ x.made)
            ∙ ap (more u) (either_second b bs x.by y.by p ∙ y.made);
      }

-- ---- paths

-- what stands at a path of the second term fills what stands there in the first
pub record FillsAt (R : Filler) (m u : Tree) (q : List ℕ) : Type 0 where
  pub part : Tree
  pub there : at u q ≡ Some part
  pub fills : Fills R m part

record FillsArg (R : Filler) (x : Tree) (us : Trees) (i : ℕ) : Type 0 where
  arg : Tree
  there : slice_get (list_of us) i ≡ Some arg
  fills : Fills R x arg

fills_arg : (R : Filler) (ts us : Trees) (i : ℕ) (x : Tree) → FillsAll R ts us → slice_get (list_of ts) i ≡ Some x → FillsArg R x us i
fills_arg R none us i x h e = absurd (cc)
fills_arg R (more t ts) none i x h e = absurd h
fills_arg R (more t ts) (more u us) zero x h e =
    let P : Tree → Type 0 = λ y. Fills R y u in record { arg = u; there = refl; fills = subst P (same_Some t x e) h.0 }
fills_arg R (more t ts) (more u us) (suc i) x h e =
    let r = fills_arg R ts us i x h.1 e in record { arg = r.arg; there = r.there; fills = r.fills }

pub fills_at : (R : Filler) (q : List ℕ) (t m u : Tree) → Fills R t u → at t q ≡ Some m → FillsAt R m u q
fills_at R [] t m u h e = let P : Tree → Type 0 = λ y. Fills R y u in record { part = u; there = refl; fills = subst P (same_Some t m e) h }
fills_at R (i ∷ q) (Var n s) m u h e = nowhere q m e
fills_at R (i ∷ q) (App f s ts) m (Var n r) h e = absurd h
fills_at R (i ∷ q) (App f s ts) m (App g r us) h e = go (λ x y. fills_at R q x m y) (slice_get (list_of ts) i) refl
  where
    go : ((x y : Tree) → Fills R x y → at x q ≡ Some m → FillsAt R m y q) → (o : Option Tree) → slice_get (list_of ts) i ≡ o
        → FillsAt R m (App g r us) (i ∷ q)
    go ih None c = nowhere q m (rw c at e)
    go ih (Some x) c =
        let a = fills_arg R ts us i x h.2 c in
        let k = ih x a.arg a.fills (rw c at e) in
        record { part = k.part; there = rw a.there k.there; fills = k.fills }

pub fills_special : (R : Filler) (G : List Place) (q : List ℕ) (t u : Tree) → Fills R t u → IsSpecial G t q → IsSpecial G u q
fills_special R G [] t u h sp = tt
fills_special R G (i ∷ q) (Var n s) u h sp = absurd sp
fills_special R G (i ∷ q) (App f s ts) (Var n r) h sp = absurd h
fills_special R G (i ∷ q) (App f s ts) (App g r us) h sp =
    let a = fills_arg R ts us i sp.1 h.2 sp.2 in
    let P : ℕ → Type 0 = λ x. Contains G (place x i) in
    (subst P h.0 sp.0, a.arg, a.there, fills_special R G q sp.1 a.arg a.fills sp.3)
