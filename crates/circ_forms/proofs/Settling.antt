-- Contents by number: sorted, and without repetitions.
use Rattle.std.proofs.Common.{◌≡◌, ℕ, suc, ◌+◌, ◌<◌, nat_eq, Bool, true, false, List, [], ◌∷◌, ◌++◌, length, refl, ap, sym, subst, ◌∙◌, arith, inl, inr}
use Rattle.std.specs.List.{dedup, dedup_from, sum_by}
use Rattle.std.specs.List.Sorted.{IsPermutation, IsSortedBy}
use Rattle.std.specs.Cmp.{IsStrictWeakOrder}
use Rattle.std.proofs.lemmas.Bool.{cases_Bool, eq-eqb, eqb-true}
use Rattle.std.proofs.lemmas.List.Sums.{sum_by-cons}
use Rattle.std.proofs.lemmas.List.Sorted.{IsPermutation-map, ranks_by, All-permutation, sum_by-IsPermutation}
use Rattle.std.proofs.lemmas.List.Elements.{All-from_recursion, recursion_from_All}
use Rattle.circ_term.specs.Tree.{Tree}
use Rattle.circ_term.specs.Order.{is_same, comes_before}
use Rattle.circ_term.proofs.Order.{tree_cmp_total}
use Rattle.circ_theory.specs.Signature.{Operator}
use Rattle.circ_aci.specs.Content.{sorted_terms, leaves, settled}
use Rattle.circ_aci.proofs.Settled.{Rises, IsSome, one, ones, ones-sorted, same_list, sorted_rises, settled_some}
use Rattle.circ_aci.proofs.Rows.{leaves_some}
use Rattle.circ_nodes.specs.Named.{IsOnce, tree_at}
use Rattle.circ_forms.specs.Named.{trees_at, AreThere}
use Rattle.circ_forms.proofs.Joining.{numbers_told}

-- whether the first term comes before the second, by number
abbrev pub before_at : (nodes : List Tree) → ℕ → ℕ → Bool
before_at nodes n m = comes_before (tree_at nodes n) (tree_at nodes m)

pub ranks_at : (nodes : List Tree) → IsStrictWeakOrder (before_at nodes)
ranks_at nodes = ranks_by tree_cmp_total (tree_at nodes)

pub shuffled_there : (nodes : List Tree) (ns ms : List ℕ) → IsPermutation ns ms → AreThere nodes ns → AreThere nodes ms
shuffled_there nodes ns ms p a =
    let P : ℕ → Type 0 = λ n. n < length nodes in
    recursion_from_All P ms (All-permutation P ns ms p (All-from_recursion P ns a))

ones-sum : (x : Tree) (xs : List Tree) → ones x xs ≡ sum_by (one x) xs
ones-sum x [] = refl
ones-sum x (y ∷ ys) = ap (λ n. one x y + n) (ones-sum x ys) ∙ sym (sum_by-cons (one x) y ys)

rises_at : (nodes : List Tree) (ns : List ℕ) → IsSortedBy (before_at nodes) ns → Rises (trees_at nodes ns)
rises_at nodes [] s = tt
rises_at nodes (x ∷ []) s = tt
rises_at nodes (x ∷ y ∷ ys) s = (
  s 0 x (omega arith) (omega arith),
  rises_at nodes (y ∷ ys) (λ k d l h. let e : suc k + 1 ≡ suc (k + 1) = omega arith in rw e at (s (suc k) d (omega arith) (omega (arith, h)))),
)

pub sorted_at : (nodes : List Tree) (ns ms : List ℕ) → IsPermutation ns ms → IsSortedBy (before_at nodes) ms
    → trees_at nodes ms ≡ sorted_terms (trees_at nodes ns)
sorted_at nodes ns ms p s =
    let xs : List Tree = trees_at nodes ns in
    let ys : List Tree = trees_at nodes ms in
    let shuffled : IsPermutation xs ys = IsPermutation-map (tree_at nodes) ns ms p in
    same_list ys (sorted_terms xs) (rises_at nodes ms s) (sorted_rises xs)
    (λ x. ones-sum x ys ∙ sum_by-IsPermutation (one x) xs ys shuffled ∙ sym (ones-sum x xs) ∙ sym (ones-sorted x xs))

-- a content has at least one entry
pub not_empty : (nodes : List Tree) (o : Operator) (f : ℕ) (a b : Tree) (ns : List ℕ) → length ns ≡ 0
    → trees_at nodes ns ≡ settled o (leaves f a ++ leaves f b) → ⊥
not_empty nodes o f a b (n ∷ ns) e h = absurd (omega (arith, e))
not_empty nodes o f a b [] e h = let P : List Tree → Type 0 = IsSome in subst P (sym h) (by (leaves f a) (leaves_some f a))
  where
    by : (xs : List Tree) → IsSome xs → IsSome (settled o (xs ++ leaves f b))
    by [] s = absurd s
    by (x ∷ xs) s = settled_some o x (xs ++ leaves f b)

-- ---- repetitions

dropped_from : (nodes : List Tree) (x : ℕ) (ns : List ℕ) → IsOnce nodes → x < length nodes → AreThere nodes ns
    → (AreThere nodes (dedup_from nat_eq x ns)) × (trees_at nodes (dedup_from nat_eq x ns) ≡ dedup_from is_same (tree_at nodes x) (trees_at nodes ns))
dropped_from nodes x [] once h a = ((h, tt), refl)
dropped_from nodes x (y ∷ ys) once h a =
    let told : nat_eq y x ≡ is_same (tree_at nodes y) (tree_at nodes x) = numbers_told nodes y x (nat_eq y x) once a.0 h (eqb-true y x, eq-eqb y x) in
    elim (cases_Bool (nat_eq y x)) [
      | inl same ↦
          let tree : is_same (tree_at nodes y) (tree_at nodes x) ≡ true = sym told ∙ same in
          let rest = dropped_from nodes x ys once h a.1 in
          rw (same, tree) rest
      | inr other ↦
          let tree : is_same (tree_at nodes y) (tree_at nodes x) ≡ false = sym told ∙ other in
          let rest = dropped_from nodes y ys once a.0 a.1 in
          rw (other, tree) ((h, rest.0), ap (λ ts. tree_at nodes x ∷ ts) rest.1)
    ]

pub dropped_at : (nodes : List Tree) (ns : List ℕ) → IsOnce nodes → AreThere nodes ns
    → (AreThere nodes (dedup nat_eq ns)) × (trees_at nodes (dedup nat_eq ns) ≡ dedup is_same (trees_at nodes ns))
dropped_at nodes [] once a = (tt, refl)
dropped_at nodes (x ∷ xs) once a = dropped_from nodes x xs once a.0 a.1
