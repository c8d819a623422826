-- Variables that are gathered in a set.
use Rattle.std.proofs.Common.{◌≡◌, ◌≤◌, Bool, true, false, ◌==◌, ◌&&◌, if◌then◌else◌, List, [], ◌∷◌, ◌++◌, map, length, refl, ap, sym, ◌∙◌, arith}
use Rattle.std.specs.List.{list_any}
use Rattle.std.proofs.lemmas.List.{length-map, map-append}
use Rattle.indexmap.specs.IndexSet.{insert_key}
use Rattle.circ_term.specs.Tree.{Tree}
use Rattle.circ_term.proofs.Instances.{instance-same}
use Rattle.circ_term.specs.Substitution.{Substitution, instance}
use Rattle.circ_pairs.specs.declared.renumber.Occurring.{Occurring}
use Rattle.circ_pairs.specs.Variables.{Variable, is_variable, seen, seen_in, seen_in_pairs, variables_of}
use Rattle.circ_pairs.specs.declared.goals.Goal.{Goal}
use Rattle.circ_pairs.specs.Pair.{Pair, pair_with, instance_pair}
use Rattle.circ_pairs.specs.Goal.{goal}
use Rattle.circ_pairs.specs.Renumbering.{renumbering, renumbered, instance_goal, Renumbers}
use Rattle.circ_pairs.specs.Occurring.{variable_of}
use Rattle.circ_pairs.proofs.Lists.{list_any-map}

-- a variable that is inserted is one that is seen
pub inserted : (ks : List Occurring) (k : Occurring) → map variable_of (insert_key (λ a b. (a.number == b.number) && (a.sort == b.sort)) ks k) ≡ seen (variable_of k) (map variable_of ks)
inserted ks k = go (list_any (λ b. (k.number == b.number) && (k.sort == b.sort)) ks) ∙ ap put (sym (list_any-map (is_variable (variable_of k)) variable_of ks))
  where
    put : Bool → List Variable
    put b = if b then map variable_of ks else map variable_of ks ++ variable_of k ∷ []

    go : (b : Bool) → map variable_of (if b then ks else ks ++ k ∷ []) ≡ put b
    go true = refl
    go false = map-append variable_of ks (k ∷ [])

-- the goal's variables
pub goal_seen : (g : Goal) (new both shown : List Occurring) → new ≡ []
    → map variable_of both ≡ seen_in_pairs g.conds (seen_in g.right (seen_in g.left (map variable_of new))) → shown ≡ both
    → map variable_of shown ≡ variables_of g
goal_seen g new both shown a b c = ap (map variable_of) c ∙ b ∙ ap (λ ks. seen_in_pairs g.conds (seen_in g.right (seen_in g.left (map variable_of ks)))) a

pub few_occurring : (ks : List Occurring) (vs : List Variable) → map variable_of ks ≡ vs → length vs ≤ 4294967296 → length ks ≤ 4294967296
few_occurring ks vs e few = omega (arith, length-map ks variable_of, ap length e)

-- the goal under what numbers its variables anew
pub numbered_anew : (g h : Goal) (σ : Substitution) → Renumbers σ (variables_of g) → h ≡ instance_goal σ g → h ≡ renumbered g
numbered_anew g h σ n e =
    let whole = variables_of g in
    let τ : Substitution = renumbering 0 whole in
    let same : (u : Tree) → instance σ u ≡ instance τ u = λ u. instance-same σ τ u n in
    e ∙ (λ i. goal (map-same (instance_pair σ) (instance_pair τ) (λ p j. pair_with (same p.left j) (same p.right j)) g.conds i) (same g.left i) (same g.right i))
  where
    map-same : (f k : Pair → Pair) → ((p : Pair) → f p ≡ k p) → (ps : List Pair) → map f ps ≡ map k ps
    map-same f k s [] = refl
    map-same f k s (p ∷ ps) = λ i. s p i ∷ map-same f k s ps i
