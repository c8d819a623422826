-- Instances, made argument by argument in a table that grows.
use Rattle.std.proofs.Common.{◌≡◌, ℕ, zero, suc, ◌+◌, ◌≤◌, ◌<◌, max, List, [], ◌∷◌, ◌++◌, map, drop, length, Option, None, refl, ap, sym, subst, ◌∙◌, append_assoc, append-nil, arith}
use Rattle.std.specs.Prelude.{slice_index_or}
use Rattle.std.specs.List.{AllByRecursion}
use Rattle.std.proofs.lemmas.List.{drop_all}
use Rattle.circ_term.specs.Tree.{Tree, list_of, trees_of}
use Rattle.circ_term.specs.Limits.{Limit, first_limit, first_limits, or_else, Names, IsWithinLimits}
use Rattle.circ_term.specs.Substitution.{Substitution, instance, instances}
use Rattle.circ_term.specs.declared.fault.TermFault.{TermFault}
use Rattle.circ_term.specs.declared.fault.TermFault.TheVariants.{TooBig, TooDeep, Memory}
use Rattle.circ_term.specs.Growing.{Grows}
use Rattle.circ_nodes.specs.Named.{tree_at, IsNamed, AreNamed}
use Rattle.circ_nodes.proofs.Numbers.{grows_length, named_below}
use Rattle.circ_nodes.proofs.Located.{named_tree, tree_later, trees_later, are_named_from}

-- above each of the numbers
abbrev pub above : List ℕ → ℕ
above [] = 0
above (n ∷ ns) = max (n + 1) (above ns)

pub above_each : (ns : List ℕ) (i : ℕ) → i < length ns → slice_index_or ns i 0 < above ns
above_each [] i h = absurd (omega (arith, h))
above_each (m ∷ ns) zero h = omega arith
above_each (m ∷ ns) (suc i) h = let ih = above_each ns i (omega (arith, h)) in omega (arith, ih)

pub drop_here : (xs : List ℕ) (i : ℕ) → i < length xs → drop i xs ≡ slice_index_or xs i 0 ∷ drop (i + 1) xs
drop_here [] i h = absurd (omega (arith, h))
drop_here (x ∷ xs) zero h = refl
drop_here (x ∷ xs) (suc i) h = let e : suc i + 1 ≡ suc (i + 1) = omega arith in rw e (drop_here xs i (omega (arith, h)))

pub all_there : (k : ℕ) (ns : List ℕ) (i : ℕ) → AllByRecursion (λ n. n < k) ns → i < length ns → slice_index_or ns i 0 < k
all_there k [] i a h = absurd (omega (arith, h))
all_there k (n ∷ ns) zero a h = a.0
all_there k (n ∷ ns) (suc i) a h = all_there k ns i a.1 (omega (arith, h))

pub above_least : (ns : List ℕ) (k : ℕ) → AllByRecursion (λ n. n < k) ns → above ns ≤ k
above_least [] k a = omega arith
above_least (n ∷ ns) k a = let one = a.0 in let ih = above_least ns k a.1 in omega (arith, one, ih)

-- a fault of an argument is the fault of the whole
pub names_first : (e : TermFault) (a b : Option Limit) → Names e a → Names e (or_else a b)
names_first (TooBig n) a b h = ap (λ o. or_else o b) h
names_first (TooDeep n) a b h = ap (λ o. or_else o b) h
names_first Memory a b h = tt

pub below_push : (nodes : List Tree) (ns : List ℕ) (n : ℕ) → AllByRecursion (λ n. n < length nodes) ns → n < length nodes → AllByRecursion (λ n. n < length nodes) (ns ++ n ∷ [])
below_push nodes [] n a h = (h, tt)
below_push nodes (m ∷ ns) n a h = (a.0, below_push nodes ns n a.1 h)

pub below_later : (old new : List Tree) (ns : List ℕ) → Grows old new → AllByRecursion (λ n. n < length old) ns → AllByRecursion (λ n. n < length new) ns
below_later old new [] g a = tt
below_later old new (n ∷ ns) g a = (let more = grows_length old new g in let one = a.0 in omega (arith, more, one), below_later old new ns g a.1)

map_push : (nodes : List Tree) (ns : List ℕ) (n : ℕ) → map (tree_at nodes) (ns ++ n ∷ []) ≡ map (tree_at nodes) ns ++ tree_at nodes n ∷ []
map_push nodes [] n = refl
map_push nodes (m ∷ ns) n = ap (λ ts. tree_at nodes m ∷ ts) (map_push nodes ns n)

module _ (σ : Substitution) (start : List Tree) (ps : List ℕ) where
  -- the instances of the patterns from one on
  abbrev pub left_from : ℕ → List Tree
  left_from i = list_of (instances σ (trees_of (map (tree_at start) (drop i ps))))

  -- The numbers are those of the first i instances.
  pub record AreFirst (nodes : List Tree) (ns : List ℕ) (i : ℕ) : Type 0 where
    pub below : AllByRecursion (λ n. n < length nodes) ns
    pub made : map (tree_at nodes) ns ++ left_from i ≡ left_from 0
    pub limits : first_limits (instances σ (trees_of (map (tree_at start) (drop i ps)))) ≡ first_limits (instances σ (trees_of (map (tree_at start) ps)))

  pub first_none : (nodes : List Tree) → AreFirst nodes [] 0
  first_none nodes = record { below = tt; made = refl; limits = refl }

  module _ (old : List Tree) (ns : List ℕ) (i : ℕ) (grown : Grows start old) (there : AllByRecursion (λ n. n < length start) ps)
      (h : i < length ps) (m : AreFirst old ns i) where
    abbrev pub p : ℕ
    p = slice_index_or ps i 0

    below : p < length start
    below = all_there (length start) ps i there h

    same : tree_at old p ≡ tree_at start p
    same = tree_later start old p grown below

    here : drop i ps ≡ p ∷ drop (i + 1) ps
    here = drop_here ps i h

    pub first_fault : (e : TermFault) → Names e (first_limit (instance σ (tree_at old p))) → Names e (first_limits (instances σ (trees_of (map (tree_at start) ps))))
    first_fault e n =
        let own : Names e (first_limit (instance σ (tree_at start p))) = subst (λ u. Names e (first_limit (instance σ u))) same n in
        subst (Names e) (ap (λ xs. first_limits (instances σ (trees_of (map (tree_at start) xs)))) (sym here) ∙ m.limits)
        (names_first e (first_limit (instance σ (tree_at start p))) (first_limits (instances σ (trees_of (map (tree_at start) (drop (i + 1) ps))))) own)

    pub first_next : (new : List Tree) (ms : List ℕ) (n : ℕ) → Grows old new → IsNamed new n (instance σ (tree_at old p)) → IsWithinLimits (instance σ (tree_at old p))
        → ms ≡ ns ++ n ∷ [] → AreFirst new ms (i + 1)
    first_next new ms n g found within is =
        let rest : List Tree = left_from (i + 1) in
        let tree : tree_at new n ≡ instance σ (tree_at start p) = named_tree new n (instance σ (tree_at old p)) found ∙ ap (instance σ) same in
        let own : first_limit (instance σ (tree_at start p)) ≡ None = ap (λ u. first_limit (instance σ u)) (sym same) ∙ within in
        record {
          below = rw is (below_push new ns n (below_later old new ns g m.below) (named_below new n (instance σ (tree_at old p)) found));
          made =
              ap (λ xs. map (tree_at new) xs ++ rest) is ∙ ap (λ xs. xs ++ rest) (map_push new ns n) ∙ append_assoc (map (tree_at new) ns) (tree_at new n ∷ []) rest
              ∙ ap (λ x. map (tree_at new) ns ++ x ∷ rest) tree ∙ ap (λ xs. xs ++ instance σ (tree_at start p) ∷ rest) (trees_later old new ns g m.below)
              ∙ ap (λ xs. map (tree_at old) ns ++ list_of (instances σ (trees_of (map (tree_at start) xs)))) (sym here) ∙ m.made;
          limits =
              ap (λ o. or_else o (first_limits (instances σ (trees_of (map (tree_at start) (drop (i + 1) ps)))))) (sym own)
              ∙ ap (λ xs. first_limits (instances σ (trees_of (map (tree_at start) xs)))) (sym here) ∙ m.limits;
        }

  pub first_all : (nodes : List Tree) (ns : List ℕ) (i : ℕ) → AreFirst nodes ns i → length ps ≤ i
      → AreNamed nodes ns (instances σ (trees_of (map (tree_at start) ps))) × (first_limits (instances σ (trees_of (map (tree_at start) ps))) ≡ None)
  first_all nodes ns i m h =
      let end : drop i ps ≡ [] = drop_all i ps h in
      let made : map (tree_at nodes) ns ≡ left_from 0 =
      sym (append-nil (map (tree_at nodes) ns)) ∙ ap (λ xs. map (tree_at nodes) ns ++ list_of (instances σ (trees_of (map (tree_at start) xs)))) (sym end) ∙ m.made in (
        are_named_from nodes ns (instances σ (trees_of (map (tree_at start) ps))) m.below made,
        sym m.limits ∙ ap (λ xs. first_limits (instances σ (trees_of (map (tree_at start) xs)))) end,
      )
