-- The root of a term that is added, and the limit that it passes.
use Rattle.std.specs.Prelude.{◌≡◌, ℕ, ◌+◌, ◌≤◌, ◌<◌, List, [], length, unwrap_or, Some, None}
use Rattle.std.proofs.Common.{ap, sym, subst, ◌∙◌, arith}
use Rattle.std.proofs.lemmas.Grind.{common_steps}
use Rattle.circ_term.specs.Tree.{Tree, App, trees_of, args_of, size_of, depth_of, sizes_of, depths_of}
use Rattle.circ_term.proofs.Trees.{list_of-trees_of}
use Rattle.circ_term.specs.Limits.{argument_limit, node_limit, depth_limit, Big, Deep, limit_at, or_else, first_limit, first_limits, IsWithinLimits}
use Rattle.circ_term.proofs.Limits.{limit_at_none}
use Rattle.circ_table.specs.Table.{firsts_at}
use Rattle.circ_table.specs.declared.lines.Kind.TheVariants as kinds
use Rattle.circ_table.specs.Lines.{PlainRoot, tree_at, IsNode}

limit_at_big : (m d : ℕ) → node_limit < m → limit_at m d ≡ Some (Big m)
limit_at_big m d big = grind (arith, common_steps)

limit_at_deep : (m d : ℕ) → m ≤ node_limit → depth_limit < d → limit_at m d ≡ Some (Deep d)
limit_at_deep m d small deep = grind (arith, common_steps)

module _ (f s : ℕ) (ts : List Tree) (nodes depth : ℕ) (within : first_limits (trees_of ts) ≡ None) (size : nodes ≡ sizes_of (trees_of ts) + 1) (deep : depth ≡ depths_of (trees_of ts) + 1) where
  limit_own : first_limit (App f s (trees_of ts)) ≡ limit_at nodes depth
  limit_own =
      ap (λ o. or_else o (limit_at (sizes_of (trees_of ts) + 1) (depths_of (trees_of ts) + 1))) within
      ∙ ap (λ n. limit_at n (depths_of (trees_of ts) + 1)) (sym size) ∙ ap (limit_at nodes) (sym deep)

  pub too_big : node_limit < nodes → first_limit (App f s (trees_of ts)) ≡ Some (Big nodes)
  too_big h = limit_own ∙ limit_at_big nodes depth h

  pub too_deep : nodes ≤ node_limit → depth_limit < depth → first_limit (App f s (trees_of ts)) ≡ Some (Deep depth)
  too_deep h k = limit_own ∙ limit_at_deep nodes depth h k

  pub app_within : nodes ≤ node_limit → depth ≤ depth_limit → IsWithinLimits (App f s (trees_of ts))
  app_within h k = limit_own ∙ limit_at_none nodes depth h k

abbrev pub app_root : (f s : ℕ) → List ℕ → PlainRoot
app_root f s ns = record { kind = kinds.Application; name = f; sort = s; args = ns }

pub app_tree : (table : List Tree) (f s : ℕ) (ns : List ℕ) (ts : List Tree) → firsts_at table ns ≡ Some ts → tree_at table (app_root f s ns) ≡ App f s (trees_of ts)
app_tree table f s ns ts e = ap (λ o. App f s (trees_of (unwrap_or o []))) e

pub app_node : (table : List Tree) (f s : ℕ) (ns : List ℕ) (ts : List Tree) (nodes depth : ℕ) → length ns ≤ argument_limit → firsts_at table ns ≡ Some ts
    → nodes ≡ sizes_of (trees_of ts) + 1 → depth ≡ depths_of (trees_of ts) + 1 → IsWithinLimits (App f s (trees_of ts)) → IsNode table (app_root f s ns) nodes depth
app_node table f s ns ts nodes depth few e size deep within =
    let tree = sym (app_tree table f s ns ts e) in
    let P : Tree → Type 0 = λ t. IsWithinLimits t in
    record {
      few = few;
      there = e ∙ ap Some (sym (list_of-trees_of ts)) ∙ ap (λ t. Some (args_of t)) tree;
      size = size ∙ ap size_of tree;
      depth = deep ∙ ap depth_of tree;
      within = subst P tree within;
    }
