-- What the steps of `guarded` find is what it means.
use Rattle.std.proofs.Common.{◌≡◌, ◌<◌, ◌≤◌, ◌+◌, ℕ, Bool, List, [], ◌∷◌, ◌++◌, Option, Some, None, IsTrue, ◌↔◌, ◌⊎◌, inl, inr}
use Rattle.std.proofs.Common.{length, length-append, take, drop, zero, suc, refl, sym, ap, subst, ◌∙◌, arith}
use Rattle.std.proofs.Common.{append-nil, append_assoc, take-take, take_at, drop_at}
use Rattle.std.specs.Prelude.{slice_set}
use Rattle.std.specs.List.{slice_get}
use Rattle.std.proofs.lemmas.Bool.{cases_lt}
use Rattle.std.proofs.lemmas.List.{take-set, take_more_set}
use Rattle.std.proofs.lemmas.Option.{same_Some, slice_get_read}
use Rattle.circ_term.specs.Tree.{Tree, Trees, Var, App, none, more, list_of, depth_of, depths_of, at}
use Rattle.circ_term.proofs.Paths.{nowhere, Down, down}
use Rattle.circ_theory.specs.Theory.{Derivative}
use Rattle.circ_theory.specs.WellFormed.{IsWellFormed}
use Rattle.circ_theory.specs.Experiment.{derived}
use Rattle.circ_theory.proofs.Rewriting.{contains_at}
use Rattle.circ_special.specs.declared.guard.Asked.{Asked}
use Rattle.circ_special.specs.Special.{IsSpecial}
use Rattle.circ_special.specs.Guarded.{IsInstanceAt, by_visible, by_place, by_hidden}
use Rattle.circ_special.specs.Occurrences.{IsGuarded, GuardedBelow, AllGuardedBelow, Counts, IsHoleAt, IsHoleOf, IsObserved}
use Rattle.circ_special.proofs.Instances.{fits_exactly}

-- ---- an occurrence that is observed

observed_guards : (a : Asked) → IsWellFormed a.theory.now → (p : List ℕ) → IsObserved a p → IsGuarded a p
observed_guards a ok p (k, o) =
    let th = a.theory.now in
    let d = o.derivative in
    let q = o.hole.front in
    let r = o.hole.rest in
    let h = o.hole.hole in
    let c = contains_at th.derivatives k d o.listed in
    let hole : at d.body r ≡ Some (Var 0 d.hole) = h.hole ∙ ap (λ x. Some (Var 0 x)) (sym o.sort) in
    let exact = fits_exactly th d (ok.derivatives d c) c a.id a.sort a.root.now h.subterm q r o.sort hole h.there in
    let i : IsInstanceAt th a.root.now a.id a.sort d q r = exact.to h.fit in
    elim h.counts [
      | inl v ↦ by_visible d q r o.hole.cut i v
      | inr v ↦ by_hidden d q r o.hole.cut i v.0 v.1
    ]

instance_observed : (a : Asked) → IsWellFormed a.theory.now → (p : List ℕ) (d : Derivative) (q r : List ℕ) → p ≡ q ++ r
    → IsInstanceAt a.theory.now a.root.now a.id a.sort d q r → Counts a q d.body → IsObserved a p
instance_observed a ok p d q r cut i counts =
    let th = a.theory.now in
    let u = derived d (Var a.id a.sort) i.parameters in
    let exact = fits_exactly th d (ok.derivatives d i.listed) i.listed a.id a.sort a.root.now u q r i.sort i.hole i.there in (
      i.listed.0,
      record {
        derivative = d;
        listed = slice_get_read th.derivatives (length th.derivatives) i.listed.0 d refl i.listed.1 (sym i.listed.2);
        sort = i.sort;
        hole = record {
          front = q;
          rest = r;
          cut = cut;
          hole = record { hole = i.hole ∙ ap (λ h. Some (Var 0 h)) i.sort; subterm = u; there = i.there; fit = exact.from i; counts = counts };
        };
      },
    )

-- an occurrence that is guarded stands at a special path, or a derivative observes it
guarded_by : (a : Asked) → IsWellFormed a.theory.now → (p : List ℕ) → IsGuarded a p → IsSpecial a.gamma.now a.root.now p ⊎ IsObserved a p
guarded_by a ok p (by_visible d q r cut i v) = inr (instance_observed a ok p d q r cut i (inl v))
guarded_by a ok p (by_place h) = inl h
guarded_by a ok p (by_hidden d q r cut i k h) = inr (instance_observed a ok p d q r cut i (inr (k, h)))

pub guarded_exact : (a : Asked) → IsWellFormed a.theory.now → (p : List ℕ) (r : Bool) → (IsSpecial a.gamma.now a.root.now p → ⊥)
    → (IsTrue r ↔ IsObserved a p) → IsTrue r ↔ IsGuarded a p
guarded_exact a ok p r off e =
    ((λ h. observed_guards a ok p (e.0 h)), (λ g. elim (guarded_by a ok p g) [ inl h ↦ absurd (off h) | inr h ↦ e.1 h ]))

-- ---- below a variable, and below an application

pub variable_below : (a : Asked) (q : List ℕ) (m k : ℕ) (r : Bool) → IsTrue r ↔ (Var m k ≡ Var a.id a.sort → IsGuarded a q)
    → IsTrue r ↔ GuardedBelow a q (Var m k)
variable_below a q m k r e = ((λ h. below (e.0 h)), (λ g. e.1 (λ z. subst (IsGuarded a) (append-nil q) (g [] (ap Some z)))))
  where
    below : (Var m k ≡ Var a.id a.sort → IsGuarded a q) → GuardedBelow a q (Var m k)
    below f [] z = subst (IsGuarded a) (sym (append-nil q)) (f (same_Some (Var m k) (Var a.id a.sort) z))
    below f (i ∷ p) z = nowhere p (Var a.id a.sort) z

pub application_below : (a : Asked) (q : List ℕ) (f k : ℕ) (ts : Trees) (r : Bool) → IsTrue r ↔ AllGuardedBelow a q (list_of ts)
    → IsTrue r ↔ GuardedBelow a q (App f k ts)
application_below a q f k ts r e =
    ((λ h. below (e.0 h)), (λ g. e.1 (λ i t z p y. subst (IsGuarded a) (sym (append_assoc q (i ∷ []) p)) (g (i ∷ p) (rw z y)))))
  where
    at_arg : AllGuardedBelow a q (list_of ts) → (i : ℕ) (p : List ℕ) (o : Option Tree) → slice_get (list_of ts) i ≡ o
        → at (App f k ts) (i ∷ p) ≡ Some (Var a.id a.sort) → IsGuarded a (q ++ i ∷ p)
    at_arg all i p None z y = nowhere p (Var a.id a.sort) (rw z at y)
    at_arg all i p (Some t) z y = subst (IsGuarded a) (append_assoc q (i ∷ []) p) (all i t z p (rw z at y))

    below : AllGuardedBelow a q (list_of ts) → GuardedBelow a q (App f k ts)
    below all [] z = absurd (let y = same_Some (App f k ts) (Var a.id a.sort) z in cc)
    below all (i ∷ p) z = at_arg all i p (slice_get (list_of ts) i) refl z

-- the first arguments, and one more
pub one_more : (a : Asked) (q : List ℕ) (ts : List Tree) (i : ℕ) (t : Tree) → slice_get ts i ≡ Some t → GuardedBelow a (q ++ i ∷ []) t
    → ((k : ℕ) (u : Tree) → k < i → slice_get ts k ≡ Some u → GuardedBelow a (q ++ k ∷ []) u)
    → (k : ℕ) (u : Tree) → k < i + 1 → slice_get ts k ≡ Some u → GuardedBelow a (q ++ k ∷ []) u
one_more a q ts i t e g each k u l z = elim (cases_lt k i) [
  | inl h ↦ each k u h z
  | inr h ↦
      let same : i ≡ k = omega arith in
      let P : ℕ → Type 0 = λ m. GuardedBelow a (q ++ m ∷ []) t in
      let Q : Tree → Type 0 = GuardedBelow a (q ++ k ∷ []) in
      subst Q (same_Some t u (sym e ∙ ap (slice_get ts) same ∙ z)) (subst P same g)
]

-- ---- the path in its room

pub path_here : (len i : ℕ) (old now : List ℕ) → len < length now → take len now ≡ take len old
    → take (len + 1) (slice_set now len i) ≡ take len old ++ i ∷ []
path_here len i old now h e = take_more_set now len i h ∙ ap (λ q. q ++ i ∷ []) e

pub path_kept : (len i : ℕ) (old now new : List ℕ) → take len now ≡ take len old → take (len + 1) new ≡ take (len + 1) (slice_set now len i)
    → take len new ≡ take len old
path_kept len i old now new e f =
    let shorter : (xs : List ℕ) → take len (take (len + 1) xs) ≡ take len xs = λ xs. take-take len (len + 1) xs (omega arith) in
    sym (shorter new) ∙ ap (take len) f ∙ shorter (slice_set now len i) ∙ take-set now len i ∙ e

-- ---- where a path can be cut

arg_depth : (ts : Trees) (i : ℕ) (a : Tree) → slice_get (list_of ts) i ≡ Some a → depth_of a ≤ depths_of ts
arg_depth none i a e = absurd (cc)
arg_depth (more t ts) zero a e = omega (arith, ap depth_of (same_Some t a e))
arg_depth (more t ts) (suc i) a e = omega (arith, arg_depth ts i a e)

-- a path in a term is shorter than the term is deep
at_short : (p : List ℕ) (t u : Tree) → at t p ≡ Some u → length p < depth_of t
at_short [] (Var n s) u e = omega arith
at_short [] (App f s ts) u e = omega arith
at_short (i ∷ p) t u e =
    let d : Down t i p u = down t i p u e in
    omega (arith, at_short p d.arg u d.there, arg_depth d.args i d.arg d.got, ap depth_of d.is)

-- a cut is at a number of steps, of which at most the body's depth are left
pub record IsCutAt (a : Asked) (p : List ℕ) (body : Tree) : Type 0 where
  pub number : ℕ
  pub within : number ≤ length p
  pub late : length p < number + depth_of body
  pub hole : IsHoleAt a (take number p) (drop number p) body

pub cut_at : (a : Asked) (p : List ℕ) (body : Tree) → IsHoleOf a p body → IsCutAt a p body
cut_at a p body h =
    let k = length h.front in
    let P : List ℕ → Type 0 = λ xs. IsHoleAt a xs (drop k p) body in
    let Q : List ℕ → Type 0 = λ xs. IsHoleAt a h.front xs body in
    let long : length p ≡ k + length h.rest = ap length h.cut ∙ length-append h.front h.rest in
    record {
      number = k;
      within = omega arith;
      late = omega (arith, at_short h.rest body (Var 0 a.sort) h.hole.hole);
      hole = subst P (sym (ap (take k) h.cut ∙ take_at h.front h.rest k refl)) (subst Q (sym (ap (drop k) h.cut ∙ drop_at h.front h.rest k refl)) h.hole);
    }
