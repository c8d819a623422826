-- Instances of pairs, made pair by pair in a table that grows.
use Rattle.std.proofs.Common.{◌≡◌, ◌↔◌, ◌<◌, ◌≤◌, ◌+◌, ℕ, List, [], ◌∷◌, ◌++◌, map, length, drop, get_or, Some, refl, ap, sym, subst, ◌∙◌, append_assoc, append-nil}
use Rattle.std.specs.List.{AllByRecursion}
use Rattle.std.proofs.lemmas.List.{drop_all, map-append}
use Rattle.circ_term.proofs.Within.{drop_read}
use Rattle.circ_term.specs.Growing.{Grows}
use Rattle.circ_term.specs.Limits.{IsWithinLimits}
use Rattle.circ_term.specs.Substitution.{Substitution, instance}
use Rattle.circ_term.specs.Tree.{Tree}
use Rattle.circ_theory.specs.Theory.{Pair, pair_with, instance_pair}
use Rattle.circ_nodes.specs.Named.{tree_at}
use Rattle.circ_replay.specs.Rewriting.{AreWithin, GivesPairs}
use Rattle.circ_shared.specs.declared.patterns.Sides.{Sides}
use Rattle.circ_shared.specs.Patterns.{pair_at, pairs_at, IsThere, AreThere}
use Rattle.circ_shared.proofs.Sharing.{are_there_later, pairs_later}

all_push : (P : Sides → Type 0) (ss : List Sides) (s : Sides) → AllByRecursion P ss → P s → AllByRecursion P (ss ++ s ∷ [])
all_push P [] s a h = (h, tt)
all_push P (x ∷ ss) s a h = (a.0, all_push P ss s a.1 h)

pub there_push : (nodes : List Tree) (ss : List Sides) (s : Sides) → AreThere nodes ss → IsThere nodes s → AreThere nodes (ss ++ s ∷ [])
there_push nodes ss s a h = all_push (IsThere nodes) ss s a h

module _ (σ : Substitution) (start : List Tree) (ps : List Sides) where
  -- the pairs are the instances of the first i
  pub record AreInstances (nodes : List Tree) (ms : List Sides) (i : ℕ) : Type 0 where
    pub there : AreThere nodes ms
    pub made : pairs_at nodes ms ++ map (instance_pair σ) (pairs_at start (drop i ps)) ≡ map (instance_pair σ) (pairs_at start ps)
    pub within : AreWithin σ (pairs_at start (drop i ps)) ↔ AreWithin σ (pairs_at start ps)

  pub instances_none : (nodes : List Tree) → AreInstances nodes [] 0
  instances_none nodes = record { there = tt; made = refl; within = ((λ w. w), (λ w. w)) }

  module _ (nodes : List Tree) (ms : List Sides) (i : ℕ) (s : Sides) (h : i < length ps) (e : s ≡ get_or ps i s) (m : AreInstances nodes ms i) where
    here : pairs_at start (drop i ps) ≡ pair_at start s ∷ pairs_at start (drop (i + 1) ps)
    here = ap (pairs_at start) (drop_read ps i s h e)

    pub pair_within : AreWithin σ (pairs_at start ps) → IsWithinLimits (instance σ (tree_at start s.left)) × IsWithinLimits (instance σ (tree_at start s.right))
    pair_within w = (subst (AreWithin σ) here (m.within.1 w)).0

    pub instances_next : (new : List Tree) (ks : List Sides) (t : Sides) → Grows nodes new → IsThere new t
        → tree_at new t.left ≡ instance σ (tree_at start s.left) → IsWithinLimits (instance σ (tree_at start s.left))
        → tree_at new t.right ≡ instance σ (tree_at start s.right) → IsWithinLimits (instance σ (tree_at start s.right))
        → ks ≡ ms ++ t ∷ [] → AreInstances new ks (i + 1)
    instances_next new ks t g there left wl right wr is =
        let rest : List Pair = map (instance_pair σ) (pairs_at start (drop (i + 1) ps)) in
        let one : pair_at new t ≡ instance_pair σ (pair_at start s) = ap (λ x. pair_with x (tree_at new t.right)) left ∙ ap (pair_with (instance σ (tree_at start s.left))) right in
        record {
          there = subst (AreThere new) (sym is) (there_push new ms t (are_there_later nodes new g ms m.there) there);
          made =
              ap (λ xs. pairs_at new xs ++ rest) is ∙ ap (λ xs. xs ++ rest) (map-append (pair_at new) ms (t ∷ []))
              ∙ append_assoc (pairs_at new ms) (pair_at new t ∷ []) rest ∙ ap (λ p. pairs_at new ms ++ p ∷ rest) one
              ∙ ap (λ xs. xs ++ instance_pair σ (pair_at start s) ∷ rest) (pairs_later nodes new g ms m.there)
              ∙ ap (λ xs. pairs_at nodes ms ++ map (instance_pair σ) xs) (sym here) ∙ m.made;
          within = ((λ w. m.within.0 (subst (AreWithin σ) (sym here) ((wl, wr), w))), (λ w. (subst (AreWithin σ) here (m.within.1 w)).1));
        }

  pub instances_all : (nodes : List Tree) (ms : List Sides) (i : ℕ) → AreInstances nodes ms i → length ps ≤ i
      → AreThere nodes ms × GivesPairs σ (pairs_at start ps) (Some (pairs_at nodes ms))
  instances_all nodes ms i m h =
      let end : pairs_at start (drop i ps) ≡ [] = ap (pairs_at start) (drop_all i ps h) in (
        m.there,
        (
          m.within.0 (subst (AreWithin σ) (sym end) tt),
          sym (append-nil (pairs_at nodes ms)) ∙ ap (λ xs. pairs_at nodes ms ++ map (instance_pair σ) xs) (sym end) ∙ m.made,
        ),
      )
