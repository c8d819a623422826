-- What is kept of terms beside their roots.
use Rattle.std.proofs.Common.{◌≡◌, ℕ, ◌+◌, ◌≤◌, ◌<◌, ◌&&◌, max, map, Bool, true, false, List, refl, ap, sym, ◌∙◌, arith, None, Some}
use Rattle.std.proofs.lemmas.Grind.{common_steps}
use Rattle.circ_term.specs.Tree.{Tree, Trees, App, Var, sizes_of, depths_of, are_ground, trees_of}
use Rattle.circ_term.specs.Limits.{node_limit, depth_limit, limit_at, Big, Deep, first_limit, first_limits}
use Rattle.circ_term.proofs.Limits.{within_limits, limit_at_none}
use Rattle.circ_nodes.specs.Named.{AreNamed, tree_at}
use Rattle.circ_nodes.specs.Roots.{HasWeight, AreMeasures}
use Rattle.circ_nodes.specs.declared.nodes.Measures.{Measures}
use Rattle.circ_nodes.specs.declared.rows.Weight.{Weight}
use Rattle.circ_nodes.proofs.Located.{trees_named}

pub weight_small : (w : Weight) (t : Tree) → HasWeight w t → (w.size ≤ node_limit) × (w.depth ≤ depth_limit)
weight_small w t h = let p = within_limits t h.within in (omega (arith, p.0, h.size), omega (arith, p.1, h.depth))

abbrev pub variable_weight : Weight
variable_weight = record { size = 1; depth = 1; is_ground = false }

pub weighs_variable : (n s : ℕ) (t : Tree) → t ≡ Var n s → HasWeight variable_weight t
weighs_variable n s t e = rw e (record { size = refl; depth = refl; without_variable = refl; within = refl })

-- an operator on terms within the limits passes a limit at its own node, if at all
module _ (m : Measures) (f s : ℕ) (ts : Trees) (k : AreMeasures m ts) where
  above_limit : first_limit (App f s ts) ≡ limit_at (m.sizes + 1) (m.depths + 1)
  above_limit = rw (k.within, k.sizes, k.depths) refl

  pub above_big : node_limit < m.sizes + 1 → first_limit (App f s ts) ≡ Some (Big (m.sizes + 1))
  above_big h = above_limit ∙ big (m.sizes + 1) (m.depths + 1) h
    where
      big : (n d : ℕ) → node_limit < n → limit_at n d ≡ Some (Big n)
      big n d h = grind (arith, common_steps)

  pub above_deep : m.sizes + 1 ≤ node_limit → depth_limit < m.depths + 1 → first_limit (App f s ts) ≡ Some (Deep (m.depths + 1))
  above_deep g h = above_limit ∙ deep (m.sizes + 1) (m.depths + 1) g h
    where
      deep : (n d : ℕ) → n ≤ node_limit → depth_limit < d → limit_at n d ≡ Some (Deep d)
      deep n d g h = grind (arith, common_steps)

  pub above_within : m.sizes + 1 ≤ node_limit → m.depths + 1 ≤ depth_limit → first_limit (App f s ts) ≡ None
  above_within g h = above_limit ∙ limit_at_none (m.sizes + 1) (m.depths + 1) g h

-- all terms were measured
pub measures_all : (nodes : List Tree) (ns : List ℕ) (ts : Trees) → AreNamed nodes ns ts → (sizes depths : ℕ) (ground : Bool)
    → sizes + 0 ≡ sizes_of (trees_of (map (tree_at nodes) ns)) → max depths 0 ≡ depths_of (trees_of (map (tree_at nodes) ns))
    → None ≡ first_limits (trees_of (map (tree_at nodes) ns)) → (ground && true) ≡ are_ground (trees_of (map (tree_at nodes) ns))
    → AreMeasures (record { sizes = sizes; depths = depths; are_ground = ground }) ts
measures_all nodes ns ts named sizes depths ground s d l g =
    let is = trees_named nodes ns ts named in
    let all_sizes = ap sizes_of is in
    let all_depths = ap depths_of is in
    record {
      sizes = omega (arith, s, all_sizes);
      depths = omega (arith, d, all_depths);
      without_variable = sym (and_true ground) ∙ g ∙ ap are_ground is;
      within = sym (l ∙ ap first_limits is);
    }
  where
    and_true : (b : Bool) → (b && true) ≡ b
    and_true true = refl
    and_true false = refl
