-- Join leaves no more of the budget than there was.
use Rattle.std.proofs.Common.{ℕ, ◌+◌, Bool, true, false, ◌==◌, ◌&&◌, if◌then◌else◌, List, [], ◌∷◌, ◌++◌, Option, Some, None, arith}
use Rattle.std.specs.Option.{option_map_or}
use Rattle.circ_term.specs.Limits.{first_limit, or_else}
use Rattle.circ_term.specs.Order.{is_same}
use Rattle.circ_term.specs.Tree.{Tree, Trees, Var, App, none, more}
use Rattle.circ_theory.specs.Signature.{Signature, Operator}
use Rattle.circ_theory.specs.Goal.{Goal}
use Rattle.circ_aci.specs.Canonical.{join}
use Rattle.circ_aci.specs.Content.{content}
use Rattle.circ_special.specs.declared.place.Place.{Place}
use Rattle.circ_conditional_norm.specs.Tries.{Normaliser}
use Rattle.circ_conditional_norm.specs.Work.{Work, Made, or_next, map_found, unless_limit, LeavesAtMost}
use Rattle.circ_conditional_norm.proofs.Falling.{IsFalling}
use Rattle.circ_conditional_norm.proofs.Working.{map_leaves, next_leaves, limit_leaves, if_leaves}
use Rattle.circ_plain_search.specs.Joining.{HypothesisUse, is_place}
use Rattle.circ_conditional_search.specs.Joining.{first_use_trying}
use Rattle.circ_conditional_search.proofs.Falls.{first_leaves, found_leaves}
use Rattle.circ_content_join.specs.Apart.{Apart, set_aside, leaves_rests}
use Rattle.circ_content_join.specs.Joining.{over_rests, joining_operator, meets_by_content, beside_by_content, no_move, rests_joined, contents_joined, joined_by_content, all_joined_by_content}
use Rattle.circ_content_join.specs.Moves.{Move, Using}

module _ (f : Normaliser) (falls : IsFalling f) where
  meet_leaves : (s : Bool) (first : ℕ → Work (Option HypothesisUse)) (inside : ℕ → Work (Option (List Move))) → ((k : ℕ) → LeavesAtMost k (first k))
      → ((k : ℕ) → LeavesAtMost k (inside k)) → (k : ℕ) → LeavesAtMost k (meets_by_content s first inside k)
  meet_leaves true first inside a b k = omega arith
  meet_leaves false first inside a b k = next_leaves (map_found (λ u. Using u ∷ []) (first k)) inside k (map_leaves (λ u. Using u ∷ []) (first k) k (a k)) b

  beside_leaves : (same place : Bool) (one rest : ℕ → Work (Option (List Move))) → ((k : ℕ) → LeavesAtMost k (one k)) → ((k : ℕ) → LeavesAtMost k (rest k))
      → (k : ℕ) → LeavesAtMost k (beside_by_content same place one rest k)
  beside_leaves true p one rest a b k = b k
  beside_leaves false false one rest a b k = omega arith
  beside_leaves false true one rest a b k =
      found_leaves f falls (one k) (λ us l. map_found (λ vs. us ++ vs) (rest l)) k (a k) (λ us l. map_leaves (λ vs. us ++ vs) (rest l) l (b l))

  no_leaves : (k : ℕ) → LeavesAtMost k (no_move k)
  no_leaves k = omega arith

  module _ (sig : Signature) (G : List Place) (H : List Goal) where
    rests_leave : (o : Operator) (g : ℕ) (q : List ℕ) (a b : Tree) (d : Apart) (k : ℕ) → LeavesAtMost k (rests_joined f sig G H o g q a b d k)
    rests_leave o g q a b d k =
        if_leaves (leaves_rests d) (unless_limit (or_else (first_limit X) (first_limit Y)) k (map_found (over_rests o g q a b d) W)) (Made None k) k
        (limit_leaves (or_else (first_limit X) (first_limit Y)) k (map_found (over_rests o g q a b d) W)
        (map_leaves (over_rests o g q a b d) W k (first_leaves f falls 0 H (q ++ 0 ∷ []) X Y k))) (no_leaves k)
      where
        X : Tree
        X = join g o.result d.left

        Y : Tree
        Y = join g o.result d.right

        W : Work (Option HypothesisUse)
        W = first_use_trying f 0 H (q ++ 0 ∷ []) X Y k

    contents_leave : (g : ℕ) (q : List ℕ) (a b : Tree) (k : ℕ) → LeavesAtMost k (contents_joined f sig G H g q a b k)
    contents_leave g q a b k = go (joining_operator sig G g)
      where
        go : (x : Option Operator)
            → LeavesAtMost k (option_map_or (λ o. rests_joined f sig G H o g q a b (set_aside (content o g a) (content o g b)) k) x (Made None k))
        go None = no_leaves k
        go (Some o) = rests_leave o g q a b (set_aside (content o g a) (content o g b)) k

    mutual
      pub joined_leaves : (q : List ℕ) (a b : Tree) (k : ℕ) → LeavesAtMost k (joined_by_content f sig G H q a b k)
      joined_leaves q (Var n s) b k =
          meet_leaves (is_same (Var n s) b) (first_use_trying f 0 H q (Var n s) b) no_move (first_leaves f falls 0 H q (Var n s) b) no_leaves k
      joined_leaves q (App g s ts) (Var m j) k =
          meet_leaves false (first_use_trying f 0 H q (App g s ts) (Var m j)) no_move (first_leaves f falls 0 H q (App g s ts) (Var m j)) no_leaves k
      joined_leaves q (App g s ts) (App d j us) k =
          meet_leaves (is_same (App g s ts) (App d j us)) (first_use_trying f 0 H q (App g s ts) (App d j us))
          (if (g == d) && (s == j) then (λ l. or_next (contents_joined f sig G H g q (App g s ts) (App d j us) l) (all_joined_by_content f sig G H g q 0 ts us)) else no_move)
          (first_leaves f falls 0 H q (App g s ts) (App d j us)) (inside ((g == d) && (s == j)) (all_joined_leaves g q 0 ts us)) k
        where
          inside : (v : Bool) → ((l : ℕ) → LeavesAtMost l (all_joined_by_content f sig G H g q 0 ts us l)) → (l : ℕ)
              → LeavesAtMost l ((if v then (λ l. or_next (contents_joined f sig G H g q (App g s ts) (App d j us) l) (all_joined_by_content f sig G H g q 0 ts us)) else no_move) l)
          inside true h l =
              next_leaves (contents_joined f sig G H g q (App g s ts) (App d j us) l) (all_joined_by_content f sig G H g q 0 ts us) l
              (contents_leave g q (App g s ts) (App d j us) l) h
          inside false h l = no_leaves l

      all_joined_leaves : (g : ℕ) (q : List ℕ) (i : ℕ) (ts us : Trees) (k : ℕ) → LeavesAtMost k (all_joined_by_content f sig G H g q i ts us k)
      all_joined_leaves g q i none none k = omega arith
      all_joined_leaves g q i none (more u us) k = omega arith
      all_joined_leaves g q i (more t ts) none k = omega arith
      all_joined_leaves g q i (more t ts) (more u us) k =
          beside_leaves (is_same t u) (is_place G g i) (joined_by_content f sig G H (q ++ i ∷ []) t u) (all_joined_by_content f sig G H g q (i + 1) ts us)
          (joined_leaves (q ++ i ∷ []) t u) (all_joined_leaves g q (i + 1) ts us) k
