-- The two sides of a proof's goal have one sort.
use Rattle.std.proofs.Common.{◌≡◌, ℕ, zero, suc, List, [], ◌∷◌, ◌++◌, map, Option, Some, subst, sym}
use Rattle.std.proofs.lemmas.Option.{same_Some}
use Rattle.std.specs.List.{slice_get, AllByRecursion}
use Rattle.circ_term.specs.Tree.{Tree, sort_of}
use Rattle.circ_theory.specs.Theory.{Theory}
use Rattle.circ_theory.specs.Goal.{Goal}
use Rattle.circ_proof.specs.Proof.{GoalNames, Block, Proof, ProofFor, IsNameFor, IsBlockFor, goal_at}
use Rattle.circ_expand.specs.Goals.{all_goals}

abbrev HasOneSort : Goal → Type 0
HasOneSort g = sort_of g.right ≡ sort_of g.left

named_goals : (th : Theory) (table : List Tree) (ns : List GoalNames) → AllByRecursion (IsNameFor th table) ns
    → AllByRecursion HasOneSort (map (goal_at table) ns)
named_goals th table [] a = tt
named_goals th table (n ∷ ns) a = (a.0.same_sort, named_goals th table ns a.1)

joined : (xs ys : List Goal) → AllByRecursion HasOneSort xs → AllByRecursion HasOneSort ys → AllByRecursion HasOneSort (xs ++ ys)
joined [] ys a b = b
joined (x ∷ xs) ys a b = (a.0, joined xs ys a.1 b)

block_goals : (th : Theory) (table : List Tree) (bs : List Block) → AllByRecursion (IsBlockFor th table) bs → AllByRecursion HasOneSort (all_goals bs)
block_goals th table [] a = tt
block_goals th table (b ∷ bs) a =
    let P : List Goal → Type 0 = AllByRecursion HasOneSort in
    joined b.goals (all_goals bs) (subst P (sym a.0.goals) (named_goals th table b.names a.0.names)) (block_goals th table bs a.1)

one_at : (gs : List Goal) (n : ℕ) (g : Goal) → AllByRecursion HasOneSort gs → slice_get gs n ≡ Some g → HasOneSort g
one_at [] n g a e = absurd (cc)
one_at (x ∷ xs) zero g a e = let P : Goal → Type 0 = HasOneSort in subst P (same_Some x g e) a.0
one_at (x ∷ xs) (suc n) g a e = one_at xs n g a.1 e

pub goal_sorts : (th : Theory) (p : Proof) → ProofFor th p → (n : ℕ) (g : Goal) → slice_get (all_goals p.blocks) n ≡ Some g → sort_of g.right ≡ sort_of g.left
goal_sorts th p f n g e = one_at (all_goals p.blocks) n g (block_goals th p.table p.blocks f.blocks) e
