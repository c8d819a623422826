-- Instances of a term that is taken apart.
use Rattle.std.proofs.Common.{◌≡◌, ℕ, ◌<◌, ◌≤◌, List, length, map, ap, sym, subst, ◌∙◌, arith}
use Rattle.std.specs.List.{AllByRecursion}
use Rattle.circ_term.specs.Tree.{Tree, Trees, App, args_of, trees_of}
use Rattle.circ_term.specs.Limits.{first_limit, first_limits, Names, IsWithinLimits}
use Rattle.circ_term.specs.Substitution.{Substitution, instance, instances}
use Rattle.circ_term.specs.declared.fault.TermFault.{TermFault}
use Rattle.circ_term.proofs.Instances.{length-instances}
use Rattle.circ_nodes.specs.Named.{tree_at, IsNamed, AreNamed}
use Rattle.circ_nodes.proofs.Numbers.{all_below, are_named_length}
use Rattle.circ_shared.specs.Memo.{IsInstance}
use Rattle.circ_nodes.proofs.Located.{named_tree, tree_named, trees_named}
use Rattle.circ_shared.proofs.Loops.{names_first}

pub shape_at : (nodes : List Tree) (p f s : ℕ) (ns ms : List ℕ) → ms ≡ ns → ((t : Tree) → IsNamed nodes p t → (ts : Trees) × (t ≡ App f s ts) × AreNamed nodes ns ts)
    → (t : Tree) → IsNamed nodes p t → (ts : Trees) × (t ≡ App f s ts) × AreNamed nodes ms ts
shape_at nodes p f s ns ms e h t n = let x = h t n in (x.0, x.1, subst (λ ks. AreNamed nodes ks x.0) (sym e) x.2)

module _ (nodes : List Tree) (p f s : ℕ) (ns : List ℕ) (there : p < length nodes) (shape : (t : Tree) → IsNamed nodes p t → (ts : Trees) × (t ≡ App f s ts) × AreNamed nodes ns ts) where
  -- the term, from its arguments
  pub taken : tree_at nodes p ≡ App f s (trees_of (map (tree_at nodes) ns))
  taken = let h = shape (tree_at nodes p) (tree_named nodes p there) in h.1 ∙ ap (App f s) (sym (trees_named nodes ns h.0 h.2))

  pub args_named : AreNamed nodes ns (trees_of (map (tree_at nodes) ns))
  args_named = let h = shape (tree_at nodes p) (tree_named nodes p there) in subst (AreNamed nodes ns) (sym (trees_named nodes ns h.0 h.2)) h.2

  pub args_there : AllByRecursion (λ n. n < length nodes) ns
  args_there = all_below nodes ns (trees_of (map (tree_at nodes) ns)) args_named

  pub instance_taken : (σ : Substitution) → instance σ (tree_at nodes p) ≡ App f s (instances σ (trees_of (map (tree_at nodes) ns)))
  instance_taken σ = ap (instance σ) taken

  pub fault_taken : (σ : Substitution) (e : TermFault) → Names e (first_limits (instances σ (trees_of (map (tree_at nodes) ns)))) → Names e (first_limit (instance σ (tree_at nodes p)))
  fault_taken σ e h = subst (λ u. Names e (first_limit u)) (sym (instance_taken σ)) (names_first e _ _ h)

  pub few_taken : (σ : Substitution) (new : List Tree) (ms : List ℕ) (k : ℕ) → AreNamed new ms (instances σ (trees_of (map (tree_at nodes) ns)))
      → ((t : Tree) → IsNamed nodes p t → length (args_of t) ≤ k) → length ms ≤ k
  few_taken σ new ms k h few =
      let us : Trees = trees_of (map (tree_at nodes) ns) in
      let one = are_named_length new ms (instances σ us) h in
      let two = length-instances σ us in
      let three = ap (λ t. length (args_of t)) taken in
      let four = few (tree_at nodes p) (tree_named nodes p there) in
      omega (arith, one, two, three, four)

-- what has been made is right
pub made_here : (σ : Substitution) (nodes : List Tree) (p n : ℕ) → IsInstance σ nodes p n
    → IsNamed nodes n (instance σ (tree_at nodes p)) × IsWithinLimits (instance σ (tree_at nodes p))
made_here σ nodes p n h =
    let e : h.pattern ≡ tree_at nodes p = sym (named_tree nodes p h.pattern h.named) in
    subst (λ t. IsNamed nodes n (instance σ t) × IsWithinLimits (instance σ t)) e (h.made, h.within)
