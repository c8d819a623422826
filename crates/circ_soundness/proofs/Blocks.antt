-- The blocks of a proof, each with the goals of all earlier ones as hypotheses.
use Rattle.std.proofs.Common.{ℕ, List, [], ◌∷◌, ◌++◌, map, inl, inr, refl, sym, subst}
use Rattle.std.specs.List.{AllByRecursion, Contains}
use Rattle.std.proofs.lemmas.List.Elements.{Contains-append_right, Contains-append_cases}
use Rattle.circ_term.specs.Tree.{Tree}
use Rattle.circ_theory.specs.Signature.{IsWellSorted}
use Rattle.circ_theory.specs.Theory.{Theory, IsCondition, AreConditions, IsWellSortedGoal}
use Rattle.circ_theory.specs.WellFormed.{IsWellFormed}
use Rattle.circ_theory.specs.Goal.{Goal}
use Rattle.circ_theory.proofs.Rewriting.{named_well_sorted}
use Rattle.circ_proof.specs.Goals.{AreSortedGoals}
use Rattle.circ_proof.specs.Rules.{State, state}
use Rattle.circ_proof.specs.Proof.{GoalNames, Block, Proof, pair_at, goal_at, IsConditionFor, IsNameFor, IsBlockFor}
use Rattle.circ_proof.specs.Accepted.{steps_of, BlocksDerive}
use Rattle.circ_proof.proofs.Sorted.{sorted_none, sorted_more, sorted_append}
use Rattle.circ_soundness.specs.Levels.{AgreeGoal, HypothesesAgree, PlacesAgree}
use Rattle.circ_proof.proofs.Members.{nothing, pick}
use Rattle.circ_soundness.proofs.Running.{IsRun, goals_agree, levels}
use Rattle.circ_soundness.proofs.Resolving.{steps_sorted_terms}

conditions_named : (th : Theory) (table : List Tree) → AllByRecursion (IsWellSorted th.signature) table → (ns : List (ℕ × ℕ))
    → AllByRecursion (IsConditionFor th table) ns → AreConditions th (map (pair_at table) ns)
conditions_named th table a [] f p k = nothing p k
conditions_named th table a (n ∷ ns) f p k =
    let first : IsCondition th (pair_at table n) = record {
      sorted = record {
        left = named_well_sorted th.signature table n.0 a f.0.left;
        right = named_well_sorted th.signature table n.1 a f.0.right;
        same_sort = f.0.same_sort;
      };
      visible = f.0.visible;
    } in
    pick (IsCondition th) (pair_at table n) p (map (pair_at table) ns) first (λ d. conditions_named th table a ns f.1 p d) k

name_sorted : (th : Theory) (table : List Tree) → AllByRecursion (IsWellSorted th.signature) table → (n : GoalNames) → IsNameFor th table n
    → IsWellSortedGoal th (goal_at table n)
name_sorted th table a n f = record {
  sorted = record {
    left = named_well_sorted th.signature table n.left a f.left;
    right = named_well_sorted th.signature table n.right a f.right;
    same_sort = f.same_sort;
  };
  conds = conditions_named th table a n.conds f.conds;
}

pub names_sorted : (th : Theory) (table : List Tree) → AllByRecursion (IsWellSorted th.signature) table → (ns : List GoalNames)
    → AllByRecursion (IsNameFor th table) ns → AreSortedGoals th (map (goal_at table) ns)
names_sorted th table a [] f = sorted_none th
names_sorted th table a (n ∷ ns) f =
    sorted_more th (goal_at table n) (map (goal_at table) ns) (name_sorted th table a n f.0) (names_sorted th table a ns f.1)

-- the goals of a block are well-sorted
pub block_sorted : (th : Theory) (table : List Tree) → AllByRecursion (IsWellSorted th.signature) table → (b : Block) → IsBlockFor th table b
    → AreSortedGoals th b.goals
block_sorted th table a b f = subst (AreSortedGoals th) (sym f.goals) (names_sorted th table a b.names f.names)

-- Goals of blocks, and the hypotheses that they derived, agree at each level.
pub record BlocksAgree (th : Theory) (bs : List Block) (dss : List (List Goal)) : Type 0 where
  pub goals : (b : Block) → Contains bs b → (g : Goal) → Contains b.goals g → (n : ℕ) → AgreeGoal th n g
  pub derived : (ds : List Goal) → Contains dss ds → (g : Goal) → Contains ds g → (n : ℕ) → AgreeGoal th n g

both_agree : (th : Theory) (n : ℕ) (H K : List Goal) → HypothesesAgree th n H → HypothesesAgree th n K → HypothesesAgree th n (H ++ K)
both_agree th n H K a b = record {
  sorted = sorted_append th H K a.sorted b.sorted;
  agree = λ h c. elim (Contains-append_cases H K h c) [
    | inl x ↦ a.agree h x
    | inr x ↦ b.agree h x
  ];
}

pub blocks_agree : (th : Theory) (p : Proof) → IsWellFormed th → AllByRecursion (IsWellSorted th.signature) p.table → ((n : ℕ) → PlacesAgree th p.places n)
    → (H : List Goal) → ((n : ℕ) → HypothesesAgree th n H) → (bs : List Block) → AllByRecursion (IsBlockFor th p.table) bs
    → (dss : List (List Goal)) → BlocksDerive th p H bs dss → BlocksAgree th bs dss
blocks_agree th p ok a pl H start [] f [] r = record { goals = λ b c. nothing b c; derived = λ ds c. nothing ds c }
blocks_agree th p ok a pl H start [] f (ds ∷ dss) r = absurd r
blocks_agree th p ok a pl H start (b ∷ bs) f [] r = absurd r
blocks_agree th p ok a pl H start (b ∷ bs) f (ds ∷ dss) r =
    let gs : List Goal = b.goals in
    let ss = steps_of p.table b in
    let begin : State = state H gs in
    let end : State = state (H ++ ds) [] in
    let sorted : AreSortedGoals th gs = block_sorted th p.table a b f.0 in
    let run : IsRun th p.places ss begin end = record {
      well_formed = ok;
      terms = steps_sorted_terms th.signature p.table a b.steps f.0.steps;
      sorted = ((start 0).sorted, sorted);
      steps = r.0;
      ended = refl;
    } in
    let ends : (n : ℕ) → HypothesesAgree th n (H ++ ds) = levels th p.places pl ss begin end run start in
    let own : (g : Goal) → Contains gs g → (n : ℕ) → AgreeGoal th n g = λ g c n. goals_agree th p.places n (pl n) ss begin end run (ends n) g c in
    let next : (n : ℕ) → HypothesesAgree th n (H ++ gs) = λ n. both_agree th n H gs (start n) (record { sorted = sorted; agree = λ g c. own g c n }) in
    let rest : BlocksAgree th bs dss = blocks_agree th p ok a pl (H ++ gs) next bs f.1 dss r.1 in
    let P : Block → Type 0 = λ x. (g : Goal) → Contains x.goals g → (n : ℕ) → AgreeGoal th n g in
    let Q : List Goal → Type 0 = λ x. (g : Goal) → Contains x g → (n : ℕ) → AgreeGoal th n g in
    record {
      goals = λ x c. pick P b x bs own (rest.goals x) c;
      derived = λ x c. pick Q ds x dss (λ h d n. (ends n).agree h (Contains-append_right H ds h d)) (rest.derived x) c;
    }
