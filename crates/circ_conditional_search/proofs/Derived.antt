-- The derivatives of a fine goal are fine, with variables of numbers a little greater; so is a goal in each case.
use Rattle.std.proofs.Common.{◌≡◌, ◌⊎◌, inl, inr, subst, ℕ, ◌+◌, ◌≤◌, ◌^◌, Bool, true, false, ◌==◌, if◌then◌else◌, List, [], ◌∷◌, map, None, refl, arith}
use Rattle.std.specs.Prelude.{length}
use Rattle.std.specs.List.{AllByRecursion, Contains, filter}
use Rattle.std.proofs.lemmas.Bool.{eqb-true}
use Rattle.circ_term.specs.Tree.{sort_of}
use Rattle.circ_term.specs.Limits.{first_limit, IsWithinLimits}
use Rattle.circ_term.proofs.Limits.{or_else_parts}
use Rattle.circ_theory.specs.Theory.{Theory, Pair, Derivative, IsVisible, IsCondition, AreConditions, IsWellSortedGoal}
use Rattle.circ_theory.specs.WellFormed.{IsWellFormed}
use Rattle.circ_theory.specs.Fresh.{derivatives_of, fresh_in, above_pairs}
use Rattle.circ_theory.proofs.Casing.{contains_first}
use Rattle.circ_theory.proofs.Weakening.{in_rest, first_or_rest}
use Rattle.circ_theory.proofs.Lists.{all_by}
use Rattle.circ_plain_search.proofs.Terms.{Fine, fine_more}
use Rattle.circ_plain_search.proofs.Derived.{derived_low}
use Rattle.circ_theory.specs.Goal.{Goal}
use Rattle.circ_theory.specs.Limits.{condition_limit}
use Rattle.circ_proof.specs.Goals.{AreSortedGoals}
use Rattle.circ_proof.specs.Rules.{derived_goal, derivatives_on, IsDerivable}
use Rattle.circ_plain_search.specs.Search.{goals_limit}
use Rattle.circ_proof.proofs.Sorted.{sorted_none, sorted_more, derived_sorted}

-- a condition whose sides are fine
pub record FineCond (th : Theory) (m : ℕ) (p : Pair) : Type 0 where
  pub left : Fine th m p.left
  pub right : Fine th m p.right
  pub same_sort : sort_of p.right ≡ sort_of p.left
  pub visible : IsVisible th (sort_of p.left)

-- both sides are fine, and of one sort, and so are the conditions, which are few
pub record FineGoal (th : Theory) (m : ℕ) (g : Goal) : Type 0 where
  pub left : Fine th m g.left
  pub right : Fine th m g.right
  pub same_sort : sort_of g.right ≡ sort_of g.left
  pub conds : AllByRecursion (FineCond th m) g.conds
  pub few : length g.conds ≤ condition_limit

abbrev pub FineGoals : Theory → ℕ → List Goal → Type 0
FineGoals th m gs = AllByRecursion (FineGoal th m) gs

pub conds_more : (th : Theory) (m k : ℕ) (ps : List Pair) → m ≤ k → AllByRecursion (FineCond th m) ps → AllByRecursion (FineCond th k) ps
conds_more th m k ps h a =
    all_by (FineCond th m) (FineCond th k) ps
    (λ p f. record { left = fine_more th m k p.left h f.left; right = fine_more th m k p.right h f.right; same_sort = f.same_sort; visible = f.visible }) a

pub goal_more : (th : Theory) (m k : ℕ) (g : Goal) → m ≤ k → FineGoal th m g → FineGoal th k g
goal_more th m k g h f = record {
  left = fine_more th m k g.left h f.left;
  right = fine_more th m k g.right h f.right;
  same_sort = f.same_sort;
  conds = conds_more th m k g.conds h f.conds;
  few = f.few;
}

pub goals_more : (th : Theory) (m k : ℕ) (gs : List Goal) → m ≤ k → FineGoals th m gs → FineGoals th k gs
goals_more th m k gs h a = all_by (FineGoal th m) (FineGoal th k) gs (λ g f. goal_more th m k g h f) a

pub are_conditions : (th : Theory) (m : ℕ) (ps : List Pair) → AllByRecursion (FineCond th m) ps → AreConditions th ps
are_conditions th m [] a q c = absurd (omega (arith, c.1))
are_conditions th m (p ∷ ps) a q c = go (first_or_rest p q ps c) (are_conditions th m ps a.1 q)
  where
    go : (p ≡ q) ⊎ Contains ps q → (Contains ps q → IsCondition th q) → IsCondition th q
    go (inl e) ih = subst (IsCondition th) e (record { sorted = record { left = a.0.left.sorted; right = a.0.right.sorted; same_sort = a.0.same_sort }; visible = a.0.visible })
    go (inr d) ih = ih d

pub goal_sorted : (th : Theory) (m : ℕ) (g : Goal) → FineGoal th m g → IsWellSortedGoal th g
goal_sorted th m g f =
    record { sorted = record { left = f.left.sorted; right = f.right.sorted; same_sort = f.same_sort }; conds = are_conditions th m g.conds f.conds }

pub goals_sorted : (th : Theory) (m : ℕ) (gs : List Goal) → FineGoals th m gs → AreSortedGoals th gs
goals_sorted th m [] a = sorted_none th
goals_sorted th m (g ∷ gs) a = sorted_more th g gs (goal_sorted th m g a.0) (goals_sorted th m gs a.1)

-- ---- the derivatives of a goal

pairs_low : (th : Theory) (m : ℕ) (ps : List Pair) → AllByRecursion (FineCond th m) ps → above_pairs ps ≤ m
pairs_low th m [] a = omega arith
pairs_low th m (p ∷ ps) a = let r = pairs_low th m ps a.1 in let x = a.0.left.low in let y = a.0.right.low in omega (arith, r, x, y)

pub fresh_low : (th : Theory) (m : ℕ) (g : Goal) → FineGoal th m g → fresh_in g ≤ m
fresh_low th m g f = let x = f.left.low in let y = f.right.low in let z = pairs_low th m g.conds f.conds in omega (arith, x, y, z)

-- each is fine, and Derive may be made
pub record IsFineDerived (th : Theory) (m : ℕ) (g : Goal) : Type 0 where
  pub goals : FineGoals th (m + 8) (derivatives_on th g)
  pub derivable : AllByRecursion (IsDerivable g) (derivatives_of th (sort_of g.left))

module _ (th : Theory) (wf : IsWellFormed th) (m : ℕ) (room : m + 8 ≤ 2 ^ 32) (g : Goal) (f : FineGoal th m g) where
  one_fine : (d : Derivative) → Contains th.derivatives d → d.hole ≡ sort_of g.left → IsWithinLimits (derived_goal d g (fresh_in g)).left
      → IsWithinLimits (derived_goal d g (fresh_in g)).right → FineGoal th (m + 8) (derived_goal d g (fresh_in g))
  one_fine d c e wl wr =
      let s = (derived_sorted th wf d c g (fresh_in g) e (goal_sorted th m g f)).sorted in
      record {
        left = record { sorted = s.left; within = wl; low = derived_low th wf d c (fresh_in g) m g.left f.left.low (fresh_low th m g f) };
        right = record { sorted = s.right; within = wr; low = derived_low th wf d c (fresh_in g) m g.right f.right.low (fresh_low th m g f) };
        same_sort = s.same_sort;
        conds = conds_more th m (m + 8) g.conds (omega arith) f.conds;
        few = f.few;
      }

  one_derivable : (d : Derivative) → Contains th.derivatives d → IsWithinLimits (derived_goal d g (fresh_in g)).left
      → IsWithinLimits (derived_goal d g (fresh_in g)).right → IsDerivable g d
  one_derivable d c wl wr =
      record { numbers = (let few = (wf.derivatives d c).few in let low = fresh_low th m g f in omega (arith, few, low, room)); left = wl; right = wr }

  abbrev taken : List Derivative → List Derivative
  taken ds = filter (λ d. d.hole == sort_of g.left) ds

  abbrev made : List Derivative → List Goal
  made ds = map (λ d. derived_goal d g (fresh_in g)) ds

  each : (ds : List Derivative) → ((d : Derivative) → Contains ds d → Contains th.derivatives d) → goals_limit (made (taken ds)) ≡ None
      → FineGoals th (m + 8) (made (taken ds)) × AllByRecursion (IsDerivable g) (taken ds)
  each [] within e = (tt, tt)
  each (d ∷ ds) within e = go (d.hole == sort_of g.left) refl (each ds (λ x c. within x (in_rest d x ds c))) e
    where
      go : (b : Bool) → (d.hole == sort_of g.left) ≡ b
          → (goals_limit (made (taken ds)) ≡ None → FineGoals th (m + 8) (made (taken ds)) × AllByRecursion (IsDerivable g) (taken ds))
          → goals_limit (made (if b then d ∷ taken ds else taken ds)) ≡ None
          → FineGoals th (m + 8) (made (if b then d ∷ taken ds else taken ds)) × AllByRecursion (IsDerivable g) (if b then d ∷ taken ds else taken ds)
      go true t ih x =
          let p = or_else_parts (first_limit (derived_goal d g (fresh_in g)).left) _ x in
          let q = or_else_parts (first_limit (derived_goal d g (fresh_in g)).right) _ p.1 in
          let r = ih q.1 in
          let c = within d (contains_first d ds) in
          ((one_fine d c (eqb-true d.hole (sort_of g.left) t) p.0 q.0, r.0), (one_derivable d c p.0 q.0, r.1))
      go false t ih x = ih x

  pub derivatives_fine : goals_limit (derivatives_on th g) ≡ None → IsFineDerived th m g
  derivatives_fine e = let r = each th.derivatives (λ d c. c) e in record { goals = r.0; derivable = r.1 }
