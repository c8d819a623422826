-- Where two sides are told apart, the experiment fits, and leads them to two different constants of one case list.
use Rattle.std.proofs.Common.{◌≡◌, ℕ, ◌+◌, ◌≤◌, List, [], ◌∷◌, ◌++◌, zero, suc, Bool, true, false, nat_eq, ◌==◌, ◌&&◌, not, if◌then◌else◌, map, Option, Some, None, unwrap_or, refl, IsTrue, ◌↔◌, ap, sym, ◌∙◌, subst, arith}
use Rattle.std.specs.List.{list_any, slice_get, filter, Contains, AllByRecursion}
use Rattle.std.specs.Option.{option_map_or}
use Rattle.std.proofs.lemmas.Bool.{eqb-true, eq-eqb, ne_eqb, and_parts}
use Rattle.circ_term.specs.Tree.{Tree, Trees, Var, App, none, more, sort_of}
use Rattle.circ_term.specs.Limits.{Limit, first_limit, IsWithinLimits}
use Rattle.circ_term.specs.Order.{is_same}
use Rattle.circ_term.specs.Substitution.{Substitution}
use Rattle.circ_term.proofs.Limits.{or_else_parts}
use Rattle.circ_theory.specs.Signature.{Signature, IsWellSorted, HaveSorts, IsSubstitution, IsSort}
use Rattle.circ_theory.specs.Theory.{Theory, Pair, pair_with, sides, Derivative, IsVisible, IsHidden, IsWellSortedPair}
use Rattle.circ_theory.specs.WellFormed.{IsWellFormed}
use Rattle.circ_theory.specs.Derivable.{Derivable, by_same, by_chain}
use Rattle.circ_theory.specs.Experiment.{Entry, plug, derived, on}
use Rattle.circ_theory.specs.Fresh.{numbered_from, given_parameters, variables_from, parameter_sorts}
use Rattle.circ_theory.specs.Variables.{Variable, occurrences, all_occurrences}
use Rattle.circ_theory.specs.Observing.{is_hidden, is_parameter, cases_of, case_list}
use Rattle.circ_theory.specs.Goal.{Goal}
use Rattle.circ_theory.proofs.Behaviour.{plug_substitution, plug_derivable}
use Rattle.circ_theory.proofs.Casing.{hidden_tells}
use Rattle.circ_theory.proofs.Congruence.{KeepsDerivable}
use Rattle.circ_theory.proofs.Derived.{derived_by, derived-numbered_from, numbered_from_substitution, sorts-variables_from}
use Rattle.circ_theory.proofs.Lists.{all_push}
use Rattle.circ_theory.proofs.Instances.{instance_derivable}
use Rattle.circ_theory.proofs.Rewriting.{contains_at}
use Rattle.circ_proof.proofs.Cases.{cases_listed}
use Rattle.circ_rewrite.specs.Norm.{Normalised, Normal_form, Budget_spent, Limit_passed}
use Rattle.circ_plain_search.specs.PlainSearch.{IsSearchable}
use Rattle.circ_plain_search.proofs.Led.{all_append}
use Rattle.circ_entry.specs.Entries.{no_derivative, derivative_at, Written, written_entries, IsEntryFor, FitsWritten}
use Rattle.circ_entry.proofs.Written.{given_sorted, derivative_is}
use Rattle.circ_refute.specs.PlainRefutation.{Waiting, waiting, Told_apart, Past_limit, Spent, Conclusion, conclude, are_two_cases, are_listed, is_pair, entry_from, child, children, waiting_limit, first_parameter, Expanding, grow, normal, with_normal, judge, through, refute, refutation}
use Rattle.circ_refute.specs.Difference.{AreTwoCases, HasNoHole, HaveNoHoles, IsRight}
use Rattle.circ_refute.proofs.Normals.{normal_keeps}

-- the entries lead from one sort to another
abbrev pub FitsBetween : Theory → List Written → (from to : ℕ) → Type 0
FitsBetween th [] s r = s ≡ r
FitsBetween th (w ∷ ws) s r = (d : Derivative) × IsEntryFor th w s d × FitsBetween th ws (sort_of d.body) r

-- what is true of a pair that waits
pub record IsDescendant (th : Theory) (g : Goal) (w : Waiting) : Type 0 where
  pub fits : FitsBetween th w.by (sort_of g.left) (sort_of w.left)
  pub no_holes : AllByRecursion HaveNoHoles w.by
  pub pair : IsWellSortedPair th.signature (pair_with w.left w.right)
  pub left_within : IsWithinLimits w.left
  pub right_within : IsWithinLimits w.right
  pub left : Derivable th [] (on (written_entries th w.by) g.left) w.left
  pub right : Derivable th [] (on (written_entries th w.by) g.right) w.right

abbrev AreDescendants : Theory → Goal → List Waiting → Type 0
AreDescendants th g ws = AllByRecursion (IsDescendant th g) ws

-- ---- two constants

in_any : {X : Type 0} (f : X → Bool) (xs : List X) → list_any f xs ≡ true → (x : X) × Contains xs x × (f x ≡ true)
in_any f [] e = absurd (cc)
in_any f (x ∷ xs) e = go (f x) refl (in_any f xs) e
  where
    go : (b : Bool) → f x ≡ b → (list_any f xs ≡ true → (y : _) × Contains xs y × (f y ≡ true)) → list_any f (x ∷ xs) ≡ true
        → (y : _) × Contains (x ∷ xs) y × (f y ≡ true)
    go true h ih g = (x, (zero, omega arith, refl), h)
    go false h ih g = let r = ih (rw h at g) in (r.0, (suc r.1.0, omega (arith, r.1.1), r.1.2), r.2)

-- a number that is found stands in the list
any_listed : (k : ℕ) (ks : List ℕ) → list_any (λ c. nat_eq c k) ks ≡ true → Contains ks k
any_listed k ks e = let r = in_any (λ c. nat_eq c k) ks e in let P : ℕ → Type 0 = Contains ks in subst P (eqb-true r.0 k r.2) r.1

cases_told : (th : Theory) (l m : Tree) → are_two_cases th l m ≡ true → AreTwoCases th l m
cases_told th (Var n s) m e = absurd (cc)
cases_told th (App a s (more x xs)) m e = absurd (cc)
cases_told th (App a s none) (Var n r) e = absurd (cc)
cases_told th (App a s none) (App b r (more x xs)) e = absurd (cc)
cases_told th (App a s none) (App b r none) e = go (cases_of th s) refl y.1
  where
    x : (not (a == b) ≡ true) × (((s == r) && are_listed th s a b) ≡ true)
    x = and_parts (not (a == b)) ((s == r) && are_listed th s a b) e

    y : ((s == r) ≡ true) × (are_listed th s a b ≡ true)
    y = and_parts (s == r) (are_listed th s a b) x.1

    go : (o : Option (List ℕ)) → cases_of th s ≡ o → option_map_or (λ ks. list_any (λ c. nat_eq c a) ks && list_any (λ c. nat_eq c b) ks) o false ≡ true
        → AreTwoCases th (App a s none) (App b r none)
    go None h q = absurd (cc)
    go (Some ks) h q =
        let z = and_parts (list_any (λ c. nat_eq c a) ks) (list_any (λ c. nat_eq c b) ks) q in
        record {
          list = case_list s ks;
          listed = cases_listed th s ks h;
          first = a;
          second = b;
          first_listed = any_listed a ks z.0;
          second_listed = any_listed b ks z.1;
          different = λ h. absurd (let k = eq-eqb a b h in let j = rw k at x.0 in cc);
          left = refl;
          right = ap (λ k. App b k none) (sym (eqb-true s r y.0));
        }

-- ---- one entry more

abbrev as_entry : Theory → Written → Entry
as_entry th w = record { derivative = derivative_at th w.derivative; parameters = given_parameters w.parameters }

fits_push : (th : Theory) (ws : List Written) (w : Written) (s r : ℕ) (d : Derivative) → FitsBetween th ws s r → IsEntryFor th w r d
    → FitsBetween th (ws ++ w ∷ []) s (sort_of d.body)
fits_push th [] w s r d f e = let P : ℕ → Type 0 = λ y. IsEntryFor th w y d in (d, subst P (sym f) e, refl)
fits_push th (b ∷ ws) w s r d f e = (f.0, f.1, fits_push th ws w (sort_of f.0.body) r d f.2 e)

on_push : (th : Theory) (cs : List Written) (c : Written) (t : Tree)
    → on (written_entries th (cs ++ c ∷ [])) t ≡ derived (as_entry th c).derivative (on (written_entries th cs) t) (as_entry th c).parameters
on_push th [] c t = refl
on_push th (b ∷ cs) c t = on_push th cs c (derived (as_entry th b).derivative t (as_entry th b).parameters)

-- fresh variables for the parameters
fresh_well_sorted : (sig : Signature) (k : ℕ) (ss : List ℕ) → AllByRecursion (IsSort sig) ss → AllByRecursion (IsWellSorted sig) (variables_from k ss)
fresh_well_sorted sig k [] a = tt
fresh_well_sorted sig k (s ∷ ss) a = (a.0, fresh_well_sorted sig (k + 1) ss a.1)

fresh_no_holes : (k : ℕ) (ss : List ℕ) → 1 ≤ k → AllByRecursion HasNoHole (variables_from k ss)
fresh_no_holes k [] h = tt
fresh_no_holes k (s ∷ ss) h = (λ r. let z = ne_eqb k 0 (λ e. absurd (omega arith)) in rw z refl, fresh_no_holes (k + 1) ss (omega (arith, h)))

all_filtered : {X : Type 0} (P : X → Type 0) (p : X → Bool) (xs : List X) → AllByRecursion P xs → AllByRecursion P (filter p xs)
all_filtered P p [] a = tt
all_filtered P p (x ∷ xs) a = go (p x) (all_filtered P p xs a.1)
  where
    go : (b : Bool) → AllByRecursion P (filter p xs) → AllByRecursion P (if b then x ∷ filter p xs else filter p xs)
    go true ih = (a.0, ih)
    go false ih = ih

all_mapped : {X Y : Type 0} (P : Y → Type 0) (f : X → Y) (xs : List X) → AllByRecursion (λ x. P (f x)) xs → AllByRecursion P (map f xs)
all_mapped P f [] a = tt
all_mapped P f (x ∷ xs) a = (a.0, all_mapped P f xs a.1)

mutual
  sorts_occur : (sig : Signature) (t : Tree) → IsWellSorted sig t → AllByRecursion (λ (v : Variable). IsSort sig v.sort) (occurrences t)
  sorts_occur sig (Var n s) h = (h, tt)
  sorts_occur sig (App f s ts) h = all_sorts_occur sig ts h.0.args h.3

  all_sorts_occur : (sig : Signature) (ts : Trees) (ss : List ℕ) → HaveSorts sig ts ss → AllByRecursion (λ (v : Variable). IsSort sig v.sort) (all_occurrences ts)
  all_sorts_occur sig none ss h = tt
  all_sorts_occur sig (more t ts) [] h = absurd h
  all_sorts_occur sig (more t ts) (s ∷ ss) h =
      all_append (λ (v : Variable). IsSort sig v.sort) (occurrences t) (all_occurrences ts) (sorts_occur sig t h.1) (all_sorts_occur sig ts ss h.2)

-- the parameters' sorts exist
parameters_sorts : (sig : Signature) (d : Derivative) → IsWellSorted sig d.body → AllByRecursion (IsSort sig) (parameter_sorts d)
parameters_sorts sig d w =
    all_mapped (IsSort sig) (λ (v : Variable). v.sort) (filter is_parameter (occurrences d.body))
    (all_filtered (λ (v : Variable). IsSort sig v.sort) is_parameter (occurrences d.body) (sorts_occur sig d.body w))

-- the entry with fresh variables
fresh_entry : (th : Theory) → IsWellFormed th → (k i : ℕ) (d : Derivative) → slice_get th.derivatives i ≡ Some d → IsEntryFor th (entry_from k i d) d.hole d
fresh_entry th ok k i d e = record {
  listed = e;
  hole = refl;
  sorted = fresh_well_sorted th.signature k (parameter_sorts d) (parameters_sorts th.signature d (ok.derivatives d (contains_at th.derivatives i d e)).body);
  fit = sorts-variables_from k (parameter_sorts d);
}

written_derived : (th : Theory) → IsWellFormed th → (k i : ℕ) (d : Derivative) → slice_get th.derivatives i ≡ Some d → (t : Tree)
    → derived (as_entry th (entry_from k i d)).derivative t (as_entry th (entry_from k i d)).parameters ≡ derived d t (numbered_from k)
written_derived th ok k i d e t =
    ap (λ o. derived (unwrap_or o no_derivative) t (given_parameters (variables_from k (parameter_sorts d)))) e
    ∙ derived-numbered_from th.signature d (ok.derivatives d (contains_at th.derivatives i d e)) t k

fits_visible : (th : Theory) (ws : List Written) (s r : ℕ) → FitsBetween th ws s r → IsVisible th r → FitsWritten th ws s
fits_visible th [] s r e v = let V : ℕ → Type 0 = IsVisible th in subst V (sym e) v
fits_visible th (w ∷ ws) s r f v = (f.0, f.1, fits_visible th ws (sort_of f.0.body) r f.2 v)

-- the experiment keeps sorts
on_sorted : (th : Theory) → IsWellFormed th → (ws : List Written) (s r : ℕ) (t : Tree) → FitsBetween th ws s r → sort_of t ≡ s → IsWellSorted th.signature t
    → (sort_of (on (written_entries th ws) t) ≡ r) × IsWellSorted th.signature (on (written_entries th ws) t)
on_sorted th ok [] s r t f e w = (e ∙ f, w)
on_sorted th ok (c ∷ ws) s r t f e w =
    let d : Derivative = f.0 in
    let p : Substitution = given_parameters c.parameters in
    let k = derived_by th.signature d t p (ok.derivatives d (contains_at th.derivatives c.derivative d f.1.listed)) (e ∙ sym f.1.hole) w
    (given_sorted th.signature c.parameters f.1.sorted) in
    let is : derived (derivative_at th c.derivative) t p ≡ derived d t p = ap (λ y. derived y t p) (derivative_is th c.derivative d f.1.listed) in
    let W : Tree → Type 0 = IsWellSorted th.signature in
    on_sorted th ok ws (sort_of d.body) r (derived (derivative_at th c.derivative) t p) f.2 (ap sort_of is ∙ k.same_sort) (subst W (sym is) k.well_sorted)

derived_derivable : (th : Theory) → IsWellFormed th → (d : Derivative) → Contains th.derivatives d → (p : Substitution) → IsSubstitution th.signature p
    → (s t : Tree) → sort_of s ≡ d.hole → sort_of t ≡ d.hole → IsWellSorted th.signature s → IsWellSorted th.signature t → Derivable th [] s t
    → Derivable th [] (derived d s p) (derived d t p)
derived_derivable th ok d l p i s t es et ws wt x =
    instance_derivable th [] (plug d.hole s p) (plug d.hole t p) (plug_substitution th.signature d.hole s p es ws i) (plug_substitution th.signature d.hole t p et wt i)
    (plug_derivable th [] d.hole s t p x i) d.body (ok.derivatives d l).body

-- ---- children

module _ (th : Theory) (ok : IsWellFormed th) (g : Goal) (gs : IsWellSortedPair th.signature (sides g)) (w : Waiting) (r : IsDescendant th g w)
    (l m : Tree) (el : KeepsDerivable th [] w.left l) (em : KeepsDerivable th [] w.right m) (k : ℕ) (low : 1 ≤ k) where
  -- the derivative of a pair of normal forms, where it is within the limits
  child_descends : (i : ℕ) (d : Derivative) → slice_get th.derivatives i ≡ Some d → d.hole ≡ sort_of l → IsWithinLimits (child w.by l m k i d).left
      → IsWithinLimits (child w.by l m k i d).right → IsDescendant th g (child w.by l m k i d)
  child_descends i d c h wl wr =
      let sig = th.signature in
      let q : Substitution = numbered_from k in
      let iq = numbered_from_substitution sig k in
      let there = contains_at th.derivatives i d c in
      let der = ok.derivatives d there in
      let sl : sort_of l ≡ d.hole = sym h in
      let sm : sort_of m ≡ d.hole = em.same_sort ∙ r.pair.same_sort ∙ sym el.same_sort ∙ sl in
      let kl = derived_by sig d l q der sl el.well_sorted iq in
      let km = derived_by sig d m q der sm em.well_sorted iq in
      let es : List Entry = written_entries th w.by in
      let x = on_sorted th ok w.by (sort_of g.left) (sort_of w.left) g.left r.fits refl gs.left in
      let y = on_sorted th ok w.by (sort_of g.left) (sort_of w.left) g.right r.fits gs.same_sort gs.right in
      let hw : sort_of w.left ≡ d.hole = sym el.same_sort ∙ sl in
      let e : Written = entry_from k i d in
      let made : (s : Tree) → on (written_entries th (w.by ++ e ∷ [])) s ≡ derived d (on es s) q
      = λ s. on_push th w.by e s ∙ written_derived th ok k i d c (on es s) in
      let P : ℕ → Type 0 = FitsBetween th (w.by ++ e ∷ []) (sort_of g.left) in
      let E : ℕ → Type 0 = λ z. IsEntryFor th e z d in
      let L : Tree → Type 0 = λ z. Derivable th [] z (derived d l q) in
      let R : Tree → Type 0 = λ z. Derivable th [] z (derived d m q) in
      record {
        fits = subst P (sym kl.same_sort) (fits_push th w.by e (sort_of g.left) (sort_of w.left) d r.fits (subst E (sym hw) (fresh_entry th ok k i d c)));
        no_holes = all_push HaveNoHoles w.by e r.no_holes (fresh_no_holes k (parameter_sorts d) low);
        pair = record { left = kl.well_sorted; right = km.well_sorted; same_sort = km.same_sort ∙ sym kl.same_sort };
        left_within = wl;
        right_within = wr;
        left = subst L (sym (made g.left))
            (derived_derivable th ok d there q iq (on es g.left) l (x.0 ∙ hw) sl x.1 el.well_sorted (by_chain w.left r.left el.derivable));
        right = subst R (sym (made g.right))
            (derived_derivable th ok d there q iq (on es g.right) m (y.0 ∙ hw) sm y.1 em.well_sorted (by_chain w.right r.right em.derivable));
      }

  children_descend : (i : ℕ) (ds : List Derivative) → ((j : ℕ) (d : Derivative) → slice_get ds j ≡ Some d → slice_get th.derivatives (i + j) ≡ Some d)
      → waiting_limit (children w.by l m k i ds) ≡ None → AreDescendants th g (children w.by l m k i ds)
  children_descend i [] h e = tt
  children_descend i (d ∷ ds) h e =
      go (d.hole == sort_of l) refl e
      (children_descend (i + 1) ds (λ j x c. (let z : i + 1 + j ≡ i + suc j = omega arith in ap (slice_get th.derivatives) z) ∙ h (suc j) x c))
    where
      here : Waiting
      here = child w.by l m k i d

      rest : List Waiting
      rest = children w.by l m k (i + 1) ds

      listed : slice_get th.derivatives i ≡ Some d
      listed = (let z : i ≡ i + 0 = omega arith in ap (slice_get th.derivatives) z) ∙ h 0 d refl

      go : (b : Bool) → (d.hole == sort_of l) ≡ b → waiting_limit (if b then here ∷ rest else rest) ≡ None
          → (waiting_limit rest ≡ None → AreDescendants th g rest) → AreDescendants th g (if b then here ∷ rest else rest)
      go false t e ih = ih e
      go true t e ih =
          let p = or_else_parts (first_limit here.left) _ e in
          let q = or_else_parts (first_limit here.right) _ p.1 in
          (child_descends i d listed (eqb-true d.hole (sort_of l) t) p.0 q.0, ih q.1)

low_after : (l m : Tree) → 1 ≤ first_parameter l m
low_after l m = omega arith

-- ---- what is found

module _ (th : Theory) (ok : IsWellFormed th) (g : Goal) (gs : IsWellSortedPair th.signature (sides g)) where
  -- what is owed on expanding
  abbrev IsRightExpanding : Expanding → Type 0
  IsRightExpanding expand =
      (w : Waiting) → IsDescendant th g w → (l m : Tree) → KeepsDerivable th [] w.left l → KeepsDerivable th [] w.right m
      → (n : ℕ) (seen : List Pair) (ws : List Waiting) → AreDescendants th g ws → IsRight th g (expand w.by l m n seen ws).refuted

  judge_right : (w : Waiting) → IsDescendant th g w → (l m : Tree) → KeepsDerivable th [] w.left l → KeepsDerivable th [] w.right m
      → (pass expand : Conclusion) (d n : ℕ) (seen : List Pair) → IsRight th g pass.refuted → IsRight th g expand.refuted
      → IsRight th g (judge th pass expand d w.by l m n seen).refuted
  judge_right w r l m el em pass expand d n seen a b =
      go (is_same l m) (is_hidden th (sort_of l)) refl (hidden_tells th (sort_of l)) (list_any (is_pair l m) seen) (are_two_cases th l m) refl
    where
      go : (x y : Bool) → is_hidden th (sort_of l) ≡ y → (IsTrue (is_hidden th (sort_of l)) ↔ IsHidden th (sort_of l)) → (z v : Bool)
          → are_two_cases th l m ≡ v
          → IsRight th g (if x then pass else if y then (if z then pass else expand) else if v then conclude (Told_apart w.by l m) n d else pass).refuted
      go true y ey h z v ev = a
      go false true ey h true v ev = a
      go false true ey h false v ev = b
      go false false ey h z false ev = a
      go false false ey h z true ev =
          let visible : IsVisible th (sort_of l) = λ k. absurd (let j = h.1 k in cc) in
          let V : ℕ → Type 0 = IsVisible th in
          record {
            fits = fits_visible th w.by (sort_of g.left) (sort_of w.left) r.fits (subst V el.same_sort visible);
            no_holes = r.no_holes;
            two_cases = cases_told th l m ev;
            left = by_chain w.left r.left el.derivable;
            right = by_chain w.right r.right em.derivable;
          }

  with_normal_right : (d n : ℕ) (t : Tree) (f : Tree → ℕ → Conclusion) → IsWellSorted th.signature t → IsWithinLimits t
      → ((u : Tree) (k : ℕ) → KeepsDerivable th [] t u → IsRight th g (f u k).refuted)
      → (o : Normalised) → normal th n t ≡ o → IsRight th g (with_normal d o f).refuted
  with_normal_right d n t f w wl h Budget_spent e = tt
  with_normal_right d n t f w wl h (Limit_passed l k) e = tt
  with_normal_right d n t f w wl h (Normal_form u ts k) e = h u k (normal_keeps th ok n t u ts k w wl e).0

  through_right : (expand : Expanding) → IsRightExpanding expand → (d n : ℕ) (seen : List Pair) (ws : List Waiting) → AreDescendants th g ws
      → IsRight th g (through th expand d n seen ws).refuted
  through_right expand h d n seen [] a = tt
  through_right expand h d n seen (w ∷ ws) a =
      with_normal_right d n w.left
      (λ l k. with_normal d (normal th k w.right) (λ m j. judge th (through th expand d j seen ws) (expand w.by l m j seen ws) d w.by l m j seen))
      a.0.pair.left a.0.left_within
      (λ l k el. with_normal_right d k w.right (λ m j. judge th (through th expand d j seen ws) (expand w.by l m j seen ws) d w.by l m j seen)
      a.0.pair.right a.0.right_within
      (λ m j em. judge_right w a.0 l m el em (through th expand d j seen ws) (expand w.by l m j seen ws) d j seen (through_right expand h d j seen ws a.1)
      (h w a.0 l m el em j seen ws a.1))
      (normal th k w.right) refl)
      (normal th n w.left) refl

  refute_right : (d n : ℕ) (seen : List Pair) (ws : List Waiting) → AreDescendants th g ws → IsRight th g (refute th d n seen ws).refuted
  refute_right zero n seen ws a = through_right (λ by l m k sn vs. conclude Spent k 0) (λ w r l m el em k sn vs b. tt) 0 n seen ws a
  refute_right (suc d) n seen ws a =
      through_right (λ by l m k sn vs. grow (refute th d) d l m k sn vs (children by l m (first_parameter l m) 0 th.derivatives))
      (λ w r l m el em k sn vs b. grown l m k sn vs b (children w.by l m (first_parameter l m) 0 th.derivatives)
      (children_descend th ok g gs w r l m el em (first_parameter l m) (low_after l m) 0 th.derivatives
      (λ j x c. (let z : 0 + j ≡ j = omega arith in ap (slice_get th.derivatives) z) ∙ c))
      (refute_right d))
      (suc d) n seen ws a
    where
      grown : (l m : Tree) (k : ℕ) (sn : List Pair) (vs : List Waiting) → AreDescendants th g vs → (cs : List Waiting)
          → (waiting_limit cs ≡ None → AreDescendants th g cs)
          → ((j : ℕ) (s : List Pair) (us : List Waiting) → AreDescendants th g us → IsRight th g (refute th d j s us).refuted)
          → IsRight th g (grow (refute th d) d l m k sn vs cs).refuted
      grown l m k sn vs b cs c ih = pick (waiting_limit cs) refl
        where
          pick : (o : Option Limit) → waiting_limit cs ≡ o
              → IsRight th g (option_map_or (λ x. conclude (Past_limit x) k d) o (refute th d k (sn ++ pair_with l m ∷ []) (vs ++ cs))).refuted
          pick None e = ih k (sn ++ pair_with l m ∷ []) (vs ++ cs) (all_append (IsDescendant th g) vs cs b (c e))
          pick (Some x) e = tt

  sides_right : IsWithinLimits g.left → IsWithinLimits g.right → (d n : ℕ) → IsRight th g (refutation th d n g).refuted
  sides_right wl wr d n =
      refute_right d n [] (waiting g.left g.right [] ∷ []) (
        record {
          fits = refl;
          no_holes = tt;
          pair = gs;
          left_within = wl;
          right_within = wr;
          left = by_same g.left gs.left;
          right = by_same g.right gs.right;
        },
        tt,
      )

pub refutation_right : (th : Theory) → IsWellFormed th → (g : Goal) → IsSearchable th g → (d n : ℕ)
    → IsRight th g (refutation th d n g).refuted
refutation_right th ok g s d n = sides_right th ok g s.sorted.sorted s.left_within s.right_within d n
