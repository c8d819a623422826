-- Lemmas on marks.
use Rattle.std.proofs.Common.{◌≡◌, ◌⊎◌, ◌↔◌, inl, inr, ℕ, zero, suc, ◌+◌, ◌<◌, List, [], ◌∷◌, ◌++◌, Bool, true, false, not, length, refl, sym, ap, ◌∙◌, subst, arith, Option, Some, None}
use Rattle.std.specs.Prelude.{slice_set, slice_index_or, IsTrue}
use Rattle.std.specs.List.{slice_get, Contains}
use Rattle.std.specs.Option.{option_map}
use Rattle.std.proofs.lemmas.Option.{slice_get_within, slice_get-get_or, same_Some}
use Rattle.std.proofs.lemmas.Bool.{cases_order}
use Rattle.std.proofs.lemmas.List.{length-append, length-set}
use Rattle.circ_term.specs.Tree.{Tree, Var, App, sort_of}
use Rattle.circ_theory.specs.Signature.{IsSort, IsWellSorted}
use Rattle.circ_theory.specs.Theory.{Theory, Derivative, IsHidden, IsVisible}
use Rattle.circ_theory.specs.WellFormed.{IsWellFormed}
use Rattle.circ_theory.proofs.Rewriting.{contains_at}
use Rattle.circ_theory.specs.Experiment.{Entry, Fits}
use Rattle.circ_show.specs.Observed.{IsObserved, IsUnobserved}
use Rattle.circ_show.specs.SortMarks.{AreSortMarks, CarriesMarkAt, AreClosed, unmarked, is_false, is_unmarked, TellUnobserved}
use Rattle.circ_show.proofs.Steps.{not_past}

pub unmarked_set : (ms : List Bool) (i : ℕ) → (slice_get ms i ≡ Some true → ⊥) → i < length ms → unmarked (slice_set ms i true) < unmarked ms
unmarked_set [] i g h = omega (arith, h)
unmarked_set (true ∷ ms) zero g h = absurd (g refl)
unmarked_set (false ∷ ms) zero g h = omega arith
unmarked_set (m ∷ ms) (suc i) g h = let k = unmarked_set ms i g (omega (arith, h)) in omega (arith, k)

stays : (ms : List Bool) (i j : ℕ) → slice_get ms j ≡ Some true → slice_get (slice_set ms i true) j ≡ Some true
stays [] i j g = let never : None ≡ Some true = g in cc
stays (m ∷ ms) zero zero g = refl
stays (m ∷ ms) zero (suc j) g = g
stays (m ∷ ms) (suc i) zero g = g
stays (m ∷ ms) (suc i) (suc j) g = stays ms i j g

comes : (ms : List Bool) (i j : ℕ) → slice_get (slice_set ms i true) j ≡ Some true → (j ≡ i) ⊎ (slice_get ms j ≡ Some true)
comes [] i j g = inr g
comes (m ∷ ms) zero zero g = inl refl
comes (m ∷ ms) zero (suc j) g = inr g
comes (m ∷ ms) (suc i) zero g = inr g
comes (m ∷ ms) (suc i) (suc j) g = go (comes ms i j g)
  where
    go : (j ≡ i) ⊎ (slice_get ms j ≡ Some true) → (suc j ≡ suc i) ⊎ (slice_get ms j ≡ Some true)
    go (inl e) = inl (ap suc e)
    go (inr h) = inr h

unset : (ms : List Bool) (i j : ℕ) → slice_get (slice_set ms i true) j ≡ Some false → slice_get ms j ≡ Some false
unset [] i j g = g
unset (m ∷ ms) zero zero g = let never : Some true ≡ Some false = g in cc
unset (m ∷ ms) zero (suc j) g = g
unset (m ∷ ms) (suc i) zero g = g
unset (m ∷ ms) (suc i) (suc j) g = unset ms i j g

-- an experiment that fits the result of a derivative, behind it
longer : (th : Theory) (d : Derivative) → Contains th.derivatives d → IsObserved th (sort_of d.body) → IsObserved th d.hole
longer th d c f = (record { derivative = d; parameters = λ n s. Var n s } ∷ f.0, (c, refl, λ n s h. (refl, h), f.1))

-- the derivative of a number, by its body
pub by_body : (ds : List Derivative) (n : ℕ) (t : Tree) → Some t ≡ option_map (λ d. d.body) (slice_get ds n)
    → (d : Derivative) × (slice_get ds n ≡ Some d) × (d.body ≡ t)
by_body ds n t e = go (slice_get ds n) refl
  where
    go : (o : Option Derivative) → slice_get ds n ≡ o → (d : Derivative) × (slice_get ds n ≡ Some d) × (d.body ≡ t)
    go None g = let never : Some t ≡ None = e ∙ ap (option_map (λ d. d.body)) g in cc
    go (Some d) g = (d, g, sym (same_Some t d.body (e ∙ ap (option_map (λ x. x.body)) g)))

-- and with its hole
found : (ds : List Derivative) (n : ℕ) (t : Tree) (h : ℕ) → Some t ≡ option_map (λ d. d.body) (slice_get ds n)
    → Some h ≡ option_map (λ d. d.hole) (slice_get ds n)
    → (d : Derivative) × (slice_get ds n ≡ Some d) × (d.body ≡ t) × (d.hole ≡ h)
found ds n t h e f = let d = by_body ds n t e in (d.0, d.1, d.2, sym (same_Some h d.0.hole (f ∙ ap (option_map (λ x. x.hole)) d.1)))

module _ (th : Theory) (ok : IsWellFormed th) (ms : List Bool) (n : ℕ) (t : Tree) (h : ℕ)
    (e : Some t ≡ option_map (λ d. d.body) (slice_get th.derivatives n)) (f : Some h ≡ option_map (λ d. d.hole) (slice_get th.derivatives n)) where
  pub set_marks : AreSortMarks th ms → slice_get ms (sort_of t) ≡ Some true → AreSortMarks th (slice_set ms h true)
  set_marks k m = record {
    count = length-set ms h true ∙ k.count;
    hidden = λ s g. k.hidden s (unset ms h s g);
    sound = λ s g. sound s (comes ms h s g);
    visible = λ s i v. stays ms h s (k.visible s i v);
  }
    where
      hole : IsObserved th h
      hole =
          let d = found th.derivatives n t h e f in
          let P : Tree → Type 0 = λ x. slice_get ms (sort_of x) ≡ Some true in
          let Q : ℕ → Type 0 = IsObserved th in
          subst Q d.3 (longer th d.0 (contains_at th.derivatives n d.0 d.1) (k.sound (sort_of d.0.body) (subst P (sym d.2) m)))

      sound : (s : ℕ) → (s ≡ h) ⊎ (slice_get ms s ≡ Some true) → IsObserved th s
      sound s (inl i) = let Q : ℕ → Type 0 = IsObserved th in subst Q (sym i) hole
      sound s (inr g) = k.sound s g

  pub hole_within : AreSortMarks th ms → h < length ms
  hole_within k =
      let d = found th.derivatives n t h e f in
      let w = (ok.derivatives d.0 (contains_at th.derivatives n d.0 d.1)).hole in
      let same = d.3 in
      let count = k.count in
      rw count (rw (sym same) w)

-- a well-sorted term has a sort of the signature
sorted : (th : Theory) → IsWellFormed th → (t : Tree) → IsWellSorted th.signature t → IsSort th.signature (sort_of t)
sorted th ok (Var n s) w = w
sorted th ok (App f s ts) w = let P : ℕ → Type 0 = IsSort th.signature in subst P w.2 (ok.operators w.0 (contains_at th.signature.ops f w.0 w.1)).result

there : {X : Type 0} (xs : List X) (n : ℕ) (y : X) → n < length xs → slice_index_or xs n y ≡ y → slice_get xs n ≡ Some y
there xs n y h e = slice_get-get_or xs n y h ∙ ap Some e

-- no mark is missing where every derivative is passed
all_marked : (th : Theory) → IsWellFormed th → (ms : List Bool) → AreSortMarks th ms → AreClosed th ms → (cs : List Entry) (s : ℕ) → IsSort th.signature s
    → Fits th cs s
    → slice_get ms s ≡ Some true
all_marked th ok ms k c [] s i f = k.visible s i f
all_marked th ok ms k c (x ∷ cs) s i f =
    let d = x.derivative in
    let l = f.0 in
    ap (slice_get ms) (sym f.1) ∙ c l.0 d (there th.derivatives l.0 d l.1 l.2)
    (all_marked th ok ms k c cs (sort_of d.body) (sorted th ok d.body (ok.derivatives d l).body) f.3)

pub tell : (th : Theory) → IsWellFormed th → (ms : List Bool) → AreSortMarks th ms → AreClosed th ms → TellUnobserved th ms
tell th ok ms k c s = (out, back)
  where
    out : is_unmarked ms s ≡ true → IsUnobserved th s
    out e = go (slice_get ms s) refl
      where
        go : (o : Option Bool) → slice_get ms s ≡ o → IsUnobserved th s
        go None g = absurd (let never : false ≡ true = ap is_false (sym g) ∙ e in cc)
        go (Some true) g = absurd (let never : false ≡ true = ap is_false (sym g) ∙ e in cc)
        go (Some false) g = record {
          hidden = k.hidden s g;
          no_experiment = λ cs f.
              let i : s < length th.signature.sorts = rw (sym k.count) (slice_get_within ms s false g) in
              let never : Some true ≡ Some false = sym (all_marked th ok ms k c cs s i f) ∙ g in
              cc;
        }

    back : IsUnobserved th s → is_unmarked ms s ≡ true
    back u = go (slice_get ms s) refl
      where
        hole : s < length th.signature.sorts
        hole = let h = u.hidden in let P : ℕ → Type 0 = IsSort th.signature in subst P h.hole (ok.derivatives h.derivative h.listed).hole

        go : (o : Option Bool) → slice_get ms s ≡ o → is_unmarked ms s ≡ true
        go None g = absurd (not_past ms s g (rw k.count hole))
        go (Some true) g = absurd (let f = k.sound s g in u.no_experiment f.0 f.1)
        go (Some false) g = ap is_false g

-- the first marks

abbrev pub IsStart : Theory → ℕ → Bool → Type 0
IsStart th s true = IsVisible th s
IsStart th s false = IsHidden th s

abbrev pub StartFrom : Theory → ℕ → List Bool → Type 0
StartFrom th k [] = Unit {0}
StartFrom th k (b ∷ bs) = IsStart th k b × StartFrom th (k + 1) bs

start_push : (th : Theory) (k : ℕ) (ms : List Bool) (b : Bool) → StartFrom th k ms → IsStart th (k + length ms) b → StartFrom th k (ms ++ b ∷ [])
start_push th k [] b a i =
    let same : k + 0 ≡ k = omega arith in
    let P : ℕ → Type 0 = λ s. IsStart th s b in
    (subst P same i, tt)
start_push th k (m ∷ ms) b a i =
    let same : k + length (m ∷ ms) ≡ k + 1 + length ms = omega arith in
    let P : ℕ → Type 0 = λ s. IsStart th s b in
    (a.0, start_push th (k + 1) ms b a.1 (subst P same i))

start_read : (th : Theory) (k : ℕ) (ms : List Bool) → StartFrom th k ms → (s : ℕ) (b : Bool) → slice_get ms s ≡ Some b → IsStart th (k + s) b
start_read th k [] a s b g = absurd (let never : None ≡ Some b = g in cc)
start_read th k (m ∷ ms) a zero b g =
    let same : k ≡ k + 0 = omega arith in
    let P : Bool → Type 0 = IsStart th k in
    let Q : ℕ → Type 0 = λ s. IsStart th s b in
    subst Q same (subst P (same_Some m b g) a.0)
start_read th k (m ∷ ms) a (suc s) b g =
    let same : k + 1 + s ≡ k + suc s = omega arith in
    let P : ℕ → Type 0 = λ n. IsStart th n b in
    subst P same (start_read th (k + 1) ms a.1 s b g)

is_start : (th : Theory) (s : ℕ) (r : Bool) → IsTrue r ↔ IsHidden th s → IsStart th s (not r)
is_start th s true h = h.0 refl
is_start th s false h = λ x. let never : false ≡ true = h.1 x in cc

pub start_more : (th : Theory) (ms new : List Bool) (s : ℕ) (r : Bool) → length ms ≡ s → StartFrom th 0 ms → IsTrue r ↔ IsHidden th s → new ≡ ms ++ not r ∷ []
    → (length new ≡ s + 1) × StartFrom th 0 new
start_more th ms new s r n a h e =
    let count : length (ms ++ not r ∷ []) ≡ s + 1 = length-append ms (not r ∷ []) ∙ ap (λ k. k + 1) n in
    let same : s ≡ 0 + length ms = omega (arith, n) in
    let P : ℕ → Type 0 = λ k. IsStart th k (not r) in
    let Q : List Bool → Type 0 = λ x. (length x ≡ s + 1) × StartFrom th 0 x in
    subst Q (sym e) (count, start_push th 0 ms (not r) a (subst P same (is_start th s r h)))

pub start_marks : (th : Theory) (ms : List Bool) → length ms ≡ length th.signature.sorts → StartFrom th 0 ms → AreSortMarks th ms
start_marks th ms n a = record {
  count = n;
  hidden = λ s g. read s false g;
  sound = λ s g. ([], read s true g);
  visible = λ s i v. go s v (slice_get ms s) refl i;
}
  where
    read : (s : ℕ) (b : Bool) → slice_get ms s ≡ Some b → IsStart th s b
    read s b g =
        let same : 0 + s ≡ s = omega arith in
        let P : ℕ → Type 0 = λ n. IsStart th n b in
        subst P same (start_read th 0 ms a s b g)

    go : (s : ℕ) → IsVisible th s → (o : Option Bool) → slice_get ms s ≡ o → s < length th.signature.sorts → slice_get ms s ≡ Some true
    go s v None g i = absurd (not_past ms s g (rw n i))
    go s v (Some true) g i = g
    go s v (Some false) g i = absurd (v (read s false g))

-- derivatives below a number are passed

pub passed_more : (th : Theory) (ms : List Bool) (k : ℕ) → ((n : ℕ) → n < k → CarriesMarkAt th ms n) → CarriesMarkAt th ms k → (n : ℕ) → n < k + 1
    → CarriesMarkAt th ms n
passed_more th ms k a p n h = go (cases_order n k)
  where
    go : (n ≡ k) ⊎ ((n < k) ⊎ (k < n)) → CarriesMarkAt th ms n
    go (inl e) = let P : ℕ → Type 0 = CarriesMarkAt th ms in subst P (sym e) p
    go (inr (inl l)) = a n l
    go (inr (inr g)) = absurd (omega (arith, h, g))
