-- The derivatives of a fine goal are fine, with variables of numbers a little greater.
use Rattle.std.proofs.Common.{◌≡◌, ℕ, ◌+◌, ◌-◌, ◌≤◌, ◌^◌, length, Bool, true, false, ◌==◌, ◌&&◌, if◌then◌else◌, List, [], ◌∷◌, ◌++◌, map, None, refl, ap, arith}
use Rattle.std.specs.Prelude.{not}
use Rattle.std.specs.List.{AllByRecursion, Contains, filter}
use Rattle.std.proofs.lemmas.Bool.{eqb-true}
use Rattle.std.proofs.lemmas.List.{length-map}
use Rattle.circ_term.specs.Tree.{Tree, Trees, Var, App, none, more, sort_of}
use Rattle.circ_term.specs.Limits.{IsWithinLimits, first_limit}
use Rattle.circ_term.specs.Substitution.{instance, instances}
use Rattle.circ_term.proofs.Limits.{or_else_parts}
use Rattle.circ_theory.specs.Theory.{Theory, Derivative, IsWellSortedGoal}
use Rattle.circ_theory.specs.WellFormed.{IsWellFormed}
use Rattle.circ_theory.specs.Variables.{Variable, occurrences, all_occurrences, AreNumberedFrom}
use Rattle.circ_theory.specs.Experiment.{plug, derived}
use Rattle.circ_theory.specs.Observing.{is_parameter, is_hole}
use Rattle.circ_theory.specs.Fresh.{above, all_above, above_pairs, numbered_from, derivatives_of}
use Rattle.circ_theory.specs.Goal.{Goal}
use Rattle.circ_theory.proofs.Casing.{contains_first}
use Rattle.circ_theory.proofs.Lists.{all_by}
use Rattle.circ_theory.proofs.Weakening.{in_rest}
use Rattle.circ_proof.specs.Goals.{AreSortedGoals}
use Rattle.circ_proof.specs.Rules.{derived_goal, derivatives_on, IsDerivable}
use Rattle.circ_theory.specs.Fresh.{fresh_in}
use Rattle.circ_proof.proofs.Sorted.{derived_sorted, sorted_none, sorted_more}
use Rattle.circ_plain_search.specs.BlockRules.{HaveNoConditions}
use Rattle.circ_plain_search.specs.Search.{goals_limit}
use Rattle.circ_plain_search.proofs.Terms.{Fine, fine_more}
use Rattle.circ_plain_search.proofs.Unconditional.{no_condition}

-- both sides are fine, and of one sort, and there are no conditions
pub record FineGoal (th : Theory) (m : ℕ) (g : Goal) : Type 0 where
  pub left : Fine th m g.left
  pub right : Fine th m g.right
  pub same_sort : sort_of g.right ≡ sort_of g.left
  pub bare : g.conds ≡ []

abbrev pub FineGoals : Theory → ℕ → List Goal → Type 0
FineGoals th m gs = AllByRecursion (FineGoal th m) gs

pub goal_more : (th : Theory) (m k : ℕ) (g : Goal) → m ≤ k → FineGoal th m g → FineGoal th k g
goal_more th m k g h f =
    record { left = fine_more th m k g.left h f.left; right = fine_more th m k g.right h f.right; same_sort = f.same_sort; bare = f.bare }

pub goal_sorted : (th : Theory) (m : ℕ) (g : Goal) → FineGoal th m g → IsWellSortedGoal th g
goal_sorted th m g f = record {
  sorted = record { left = f.left.sorted; right = f.right.sorted; same_sort = f.same_sort };
  conds = no_condition th g.conds f.bare;
}

pub goals_sorted : (th : Theory) (m : ℕ) (gs : List Goal) → FineGoals th m gs → AreSortedGoals th gs
goals_sorted th m [] a = sorted_none th
goals_sorted th m (g ∷ gs) a = sorted_more th g gs (goal_sorted th m g a.0) (goals_sorted th m gs a.1)

pub goals_bare : (th : Theory) (m : ℕ) (gs : List Goal) → FineGoals th m gs → HaveNoConditions gs
goals_bare th m gs a = all_by (FineGoal th m) (λ g. g.conds ≡ []) gs (λ g f. f.bare) a

-- ---- the numbers of a derivative's variables

abbrev AreLow : ℕ → List Variable → Type 0
AreLow m vs = AllByRecursion (λ v. v.number ≤ m) vs

low_parts : (m : ℕ) (us vs : List Variable) → AreLow m (us ++ vs) → AreLow m us × AreLow m vs
low_parts m [] vs a = (tt, a)
low_parts m (u ∷ us) vs a = let r = low_parts m us vs a.1 in ((a.0, r.0), r.1)

mutual
  low_above : (m : ℕ) (t : Tree) → AreLow m (occurrences t) → above t ≤ m + 1
  low_above m (Var n s) a = let h = a.0 in omega (arith, h)
  low_above m (App f s ts) a = all_low_above m ts a

  all_low_above : (m : ℕ) (ts : Trees) → AreLow m (all_occurrences ts) → all_above ts ≤ m + 1
  all_low_above m none a = omega arith
  all_low_above m (more t ts) a =
      let p = low_parts m (occurrences t) (all_occurrences ts) a in
      let x = low_above m t p.0 in
      let y = all_low_above m ts p.1 in
      omega (arith, x, y)

numbered_low : (k m : ℕ) (vs : List Variable) → AreNumberedFrom k vs → k + length vs ≤ m + 1 → AreLow m vs
numbered_low k m [] n h = tt
numbered_low k m (v ∷ vs) n h = let e = n.0 in (omega (arith, e, h), numbered_low (k + 1) m vs n.1 (omega (arith, h)))

filtered_low : (m : ℕ) (vs : List Variable) → AreLow m (filter is_parameter vs) → AreLow m vs
filtered_low m [] a = tt
filtered_low m (v ∷ vs) a = go (is_hole v) refl (λ x. filtered_low m vs x) a
  where
    zero_low : (n : ℕ) → (n == 0) ≡ true → n ≤ m
    zero_low n e = grind arith

    go : (b : Bool) → is_hole v ≡ b → (AreLow m (filter is_parameter vs) → AreLow m vs)
        → AreLow m (if not b then v ∷ filter is_parameter vs else filter is_parameter vs) → AreLow m (v ∷ vs)
    go true e ih x = (zero_low v.number e, ih x)
    go false e ih x = (x.0, ih x.1)

body_low : (th : Theory) → IsWellFormed th → (d : Derivative) → Contains th.derivatives d → above d.body ≤ 9
body_low th wf d c =
    let k = wf.derivatives d c in
    let few = k.few in
    let same = length-map (filter is_parameter (occurrences d.body)) (λ v. v.number) in
    let h : 1 + length (filter is_parameter (occurrences d.body)) ≤ 8 + 1 = omega (arith, few, same) in
    let r = low_above 8 d.body (filtered_low 8 (occurrences d.body) (numbered_low 1 8 (filter is_parameter (occurrences d.body)) k.numbered h)) in
    omega (arith, r)

-- an instance on a term with low numbers and fresh parameters
mutual
  plug_low : (h k m : ℕ) (t x : Tree) → above t ≤ m → k ≤ m → above x ≤ 9 → above (instance (plug h t (numbered_from k)) x) ≤ m + 8
  plug_low h k m t (Var n s) a c l = go ((n == 0) && (s == h))
    where
      go : (v : Bool) → above (if v then t else Var (k + (n - 1)) s) ≤ m + 8
      go true = omega (arith, a)
      go false = omega (arith, c, l)
  plug_low h k m t (App f s ts) a c l = all_plug_low h k m t ts a c l

  all_plug_low : (h k m : ℕ) (t : Tree) (xs : Trees) → above t ≤ m → k ≤ m → all_above xs ≤ 9 → all_above (instances (plug h t (numbered_from k)) xs) ≤ m + 8
  all_plug_low h k m t none a c l = omega arith
  all_plug_low h k m t (more x xs) a c l =
      let p = plug_low h k m t x a c (omega (arith, l)) in
      let q = all_plug_low h k m t xs a c (omega (arith, l)) in
      omega (arith, p, q)

pub derived_low : (th : Theory) → IsWellFormed th → (d : Derivative) → Contains th.derivatives d → (k m : ℕ) (t : Tree) → above t ≤ m → k ≤ m
    → above (derived d t (numbered_from k)) ≤ m + 8
derived_low th wf d c k m t a h = plug_low d.hole k m t d.body a h (body_low th wf d c)

-- ---- the derivatives of a goal

-- each is fine, and Derive may be made
pub record IsFineDerived (th : Theory) (m : ℕ) (g : Goal) : Type 0 where
  pub goals : FineGoals th (m + 8) (derivatives_on th g)
  pub derivable : AllByRecursion (IsDerivable g) (derivatives_of th (sort_of g.left))

module _ (th : Theory) (wf : IsWellFormed th) (m : ℕ) (room : m + 8 ≤ 2 ^ 32) (g : Goal) (f : FineGoal th m g) where
  fresh_low : fresh_in g ≤ m
  fresh_low = let x = f.left.low in let y = f.right.low in let z = ap above_pairs f.bare in omega (arith, x, y, z)

  one_fine : (d : Derivative) → Contains th.derivatives d → d.hole ≡ sort_of g.left → IsWithinLimits (derived_goal d g (fresh_in g)).left
      → IsWithinLimits (derived_goal d g (fresh_in g)).right → FineGoal th (m + 8) (derived_goal d g (fresh_in g))
  one_fine d c e wl wr =
      let s = (derived_sorted th wf d c g (fresh_in g) e (goal_sorted th m g f)).sorted in
      record {
        left = record { sorted = s.left; within = wl; low = derived_low th wf d c (fresh_in g) m g.left f.left.low fresh_low };
        right = record { sorted = s.right; within = wr; low = derived_low th wf d c (fresh_in g) m g.right f.right.low fresh_low };
        same_sort = s.same_sort;
        bare = f.bare;
      }

  one_derivable : (d : Derivative) → Contains th.derivatives d → IsWithinLimits (derived_goal d g (fresh_in g)).left
      → IsWithinLimits (derived_goal d g (fresh_in g)).right → IsDerivable g d
  one_derivable d c wl wr = record { numbers = (let few = (wf.derivatives d c).few in let low = fresh_low in omega (arith, few, low, room)); left = wl; right = wr }

  abbrev taken : List Derivative → List Derivative
  taken ds = filter (λ d. d.hole == sort_of g.left) ds

  abbrev made : List Derivative → List Goal
  made ds = map (λ d. derived_goal d g (fresh_in g)) ds

  each : (ds : List Derivative) → ((d : Derivative) → Contains ds d → Contains th.derivatives d) → goals_limit (made (taken ds)) ≡ None
      → FineGoals th (m + 8) (made (taken ds)) × AllByRecursion (IsDerivable g) (taken ds)
  each [] within e = (tt, tt)
  each (d ∷ ds) within e = go (d.hole == sort_of g.left) refl (each ds (λ x c. within x (in_rest d x ds c))) e
    where
      go : (b : Bool) → (d.hole == sort_of g.left) ≡ b
          → (goals_limit (made (taken ds)) ≡ None → FineGoals th (m + 8) (made (taken ds)) × AllByRecursion (IsDerivable g) (taken ds))
          → goals_limit (made (if b then d ∷ taken ds else taken ds)) ≡ None
          → FineGoals th (m + 8) (made (if b then d ∷ taken ds else taken ds)) × AllByRecursion (IsDerivable g) (if b then d ∷ taken ds else taken ds)
      go true t ih x =
          let p = or_else_parts (first_limit (derived_goal d g (fresh_in g)).left) _ x in
          let q = or_else_parts (first_limit (derived_goal d g (fresh_in g)).right) _ p.1 in
          let r = ih q.1 in
          let c = within d (contains_first d ds) in
          ((one_fine d c (eqb-true d.hole (sort_of g.left) t) p.0 q.0, r.0), (one_derivable d c p.0 q.0, r.1))
      go false t ih x = ih x

  pub derivatives_fine : goals_limit (derivatives_on th g) ≡ None → IsFineDerived th m g
  derivatives_fine e = let r = each th.derivatives (λ d c. c) e in record { goals = r.0; derivable = r.1 }
