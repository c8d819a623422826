-- Terms that no experiment of so many entries tells apart, and what keeps terms so. The argument for soundness goes by induction on this number, the level.
use Rattle.std.specs.Prelude.{◌≡◌, ◌≤◌, ℕ, List, Some, length, map}
use Rattle.std.specs.List.{slice_get, Contains}
use Rattle.circ_term.specs.Tree.{Tree, Trees, App, sort_of, list_of, put_at}
use Rattle.circ_term.specs.Substitution.{Substitution, instance}
use Rattle.circ_theory.specs.Signature.{IsWellSorted, IsSubstitution}
use Rattle.circ_theory.specs.Theory.{Theory, Pair, instance_pair}
use Rattle.circ_theory.specs.Derivable.{Derivable}
use Rattle.circ_theory.specs.Experiment.{Entry, Fits, on}
use Rattle.circ_theory.specs.Goal.{Goal}
use Rattle.circ_special.specs.declared.place.Place.{Place}
use Rattle.circ_special.specs.Special.{place}
use Rattle.circ_proof.specs.Goals.{AreSortedGoals}

-- Two terms agree at level n where every fitting experiment of at most n entries gives results that are derivable from the assumptions.
abbrev pub Agree : Theory → (assumptions : List Pair) → (level : ℕ) → Tree → Tree → Type 0
Agree th A n s t = (cs : List Entry) → length cs ≤ n → Fits th cs (sort_of s) → Derivable th A (on cs s) (on cs t)

-- A goal agrees where the two sides of each of its instances do, under that instance of its conditions.
abbrev pub AgreeGoal : Theory → (level : ℕ) → Goal → Type 0
AgreeGoal th n g =
    (σ : Substitution) → IsSubstitution th.signature σ → Agree th (map (instance_pair σ) g.conds) n (instance σ g.left) (instance σ g.right)

abbrev pub AgreeGoals : Theory → (level : ℕ) → List Goal → Type 0
AgreeGoals th n gs = (g : Goal) → Contains gs g → AgreeGoal th n g

-- Hypotheses that are well-sorted, and agree.
pub record HypothesesAgree (th : Theory) (level : ℕ) (H : List Goal) : Type 0 where
  pub sorted : AreSortedGoals th H
  pub agree : AgreeGoals th level H

-- Where two arguments at a place of the set agree, so do the terms, whatever the assumptions.
abbrev pub PlacesAgree : Theory → List Place → (level : ℕ) → Type 0
PlacesAgree th G n =
    (A : List Pair) (f s i : ℕ) (ts : Trees) (a b : Tree) → Contains G (place f i) → IsWellSorted th.signature (App f s ts) → slice_get (list_of ts) i ≡ Some a
    → IsWellSorted th.signature b → sort_of b ≡ sort_of a → Agree th A n a b → Agree th A n (App f s ts) (App f s (put_at ts i b))

-- The second term is well-sorted, of the sort of the first, and agrees with it.
pub record Stays (th : Theory) (A : List Pair) (level : ℕ) (t u : Tree) : Type 0 where
  pub well_sorted : IsWellSorted th.signature u
  pub same_sort : sort_of u ≡ sort_of t
  pub agree : Agree th A level t u

-- The same of each instance, under that instance of the assumptions.
pub record Keeps (th : Theory) (A : List Pair) (level : ℕ) (t u : Tree) : Type 0 where
  pub well_sorted : IsWellSorted th.signature u
  pub same_sort : sort_of u ≡ sort_of t
  pub agree : (σ : Substitution) → IsSubstitution th.signature σ → Agree th (map (instance_pair σ) A) level (instance σ t) (instance σ u)
