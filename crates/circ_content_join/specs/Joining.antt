-- Join up to content. A name that ends in `by_content` is that of the search with conditions for the same, which ends in `trying`.
use Rattle.std.specs.Prelude.{ℕ, ◌+◌, Bool, true, false, ◌==◌, ◌&&◌, if◌then◌else◌, List, [], ◌∷◌, ◌++◌, Option, Some, None}
use Rattle.std.specs.List.{slice_get}
use Rattle.std.specs.Option.{option_and_then, option_map_or}
use Rattle.circ_term.specs.Tree.{Tree, Trees, Var, App, none, more}
use Rattle.circ_term.specs.Limits.{first_limit, or_else}
use Rattle.circ_term.specs.Order.{is_same}
use Rattle.circ_theory.specs.Signature.{Signature, Operator}
use Rattle.circ_theory.specs.Goal.{Goal}
use Rattle.circ_aci.specs.Canonical.{join}
use Rattle.circ_aci.specs.Content.{content}
use Rattle.circ_special.specs.declared.place.Place.{Place}
use Rattle.circ_conditional_norm.specs.Tries.{Normaliser}
use Rattle.circ_conditional_norm.specs.Work.{Work, Made, Out, Past, or_next, map_found, unless_limit}
use Rattle.circ_plain_search.specs.Joining.{HypothesisUse, is_place}
use Rattle.circ_conditional_search.specs.Joining.{first_use_trying, found_then}
use Rattle.circ_content_join.specs.Apart.{Apart, set_aside, leaves_rests}
use Rattle.circ_content_join.specs.Moves.{Move, Using, Regrouping}

-- at the path q, a becomes b, where it is another term
abbrev pub regrouped : (f : ℕ) → (q : List ℕ) → (a b : Tree) → List Move
regrouped f q a b = if is_same a b then [] else Regrouping f q b ∷ []

-- the entries of a rest joined in canonical form, and behind them what was set aside
abbrev pub with_rest : Operator → (f : ℕ) → (rest both : List Tree) → Tree
with_rest o f xs zs = join f o.result (join f o.result xs ∷ zs)

-- At the path q: a becomes its rest and what was set aside, a hypothesis makes the rest that of b, and all becomes b.
abbrev pub over_rests : Operator → (f : ℕ) → (q : List ℕ) → (a b : Tree) → Apart → HypothesisUse → List Move
over_rests o f q a b d u =
    regrouped f q a (with_rest o f d.left d.both) ++ Using u ∷ regrouped f q (with_rest o f d.right d.both) b

-- the operator, where it is associative and commutative and both its places are in the set
abbrev pub joining_operator : Signature → List Place → (f : ℕ) → Option Operator
joining_operator sig G f =
    option_and_then (λ o. if o.assoc && o.comm && (is_place G f 0 && is_place G f 1) then Some o else None) (slice_get sig.ops f)

-- equal terms need no move; else the first use is one; else what is inside is looked at
abbrev pub meets_by_content : (same : Bool) → (ℕ → Work (Option HypothesisUse)) → (ℕ → Work (Option (List Move))) → (budget : ℕ)
    → Work (Option (List Move))
meets_by_content true first inside k = Made (Some []) k
meets_by_content false first inside k = or_next (map_found (λ u. Using u ∷ []) (first k)) inside

-- an argument is equal, or stands at a place of the set and joins; and so the others
abbrev pub beside_by_content : (same at_place : Bool) → (one rest : ℕ → Work (Option (List Move))) → (budget : ℕ) → Work (Option (List Move))
beside_by_content true p one rest k = rest k
beside_by_content false false one rest k = Made None k
beside_by_content false true one rest k = found_then (one k) (λ us l. map_found (λ vs. us ++ vs) (rest l))

abbrev pub no_move : (budget : ℕ) → Work (Option (List Move))
no_move k = Made None k

module _ (normal : Normaliser) (sig : Signature) (G : List Place) (H : List Goal) where
  -- one hypothesis on what both contents leave, as Join tries one on two terms
  abbrev pub rests_joined : Operator → (f : ℕ) → (q : List ℕ) → (a b : Tree) → Apart → (budget : ℕ) → Work (Option (List Move))
  rests_joined o f q a b d k =
      if leaves_rests d
      then unless_limit (or_else (first_limit (join f o.result d.left)) (first_limit (join f o.result d.right))) k
      (map_found (over_rests o f q a b d) (first_use_trying normal 0 H (q ++ 0 ∷ []) (join f o.result d.left) (join f o.result d.right) k))
      else Made None k

  -- the contents of a and b, on both of which the operator f stands
  abbrev pub contents_joined : (f : ℕ) → (q : List ℕ) → (a b : Tree) → (budget : ℕ) → Work (Option (List Move))
  contents_joined f q a b k =
      option_map_or (λ o. rests_joined o f q a b (set_aside (content o f a) (content o f b)) k) (joining_operator sig G f) (Made None k)

  -- Join of a and b, which stand at the path q: the moves, in order, that make a equal to b, or none. Where two terms have one operator, their
  -- contents are looked at before their arguments.
  abbrev mutual
    pub joined_by_content : (q : List ℕ) → (a b : Tree) → (budget : ℕ) → Work (Option (List Move))
    joined_by_content q (Var n s) b k = meets_by_content (is_same (Var n s) b) (first_use_trying normal 0 H q (Var n s) b) no_move k
    joined_by_content q (App f s ts) (Var m j) k = meets_by_content false (first_use_trying normal 0 H q (App f s ts) (Var m j)) no_move k
    joined_by_content q (App f s ts) (App g j us) k =
        meets_by_content (is_same (App f s ts) (App g j us)) (first_use_trying normal 0 H q (App f s ts) (App g j us))
        (if (f == g) && (s == j) then (λ l. or_next (contents_joined f q (App f s ts) (App g j us) l) (all_joined_by_content f q 0 ts us)) else no_move) k

    -- the same for the arguments of f from the left, where the first is argument i
    pub all_joined_by_content : (f : ℕ) → (q : List ℕ) → (i : ℕ) → (ts us : Trees) → (budget : ℕ) → Work (Option (List Move))
    all_joined_by_content f q i none none k = Made (Some []) k
    all_joined_by_content f q i none (more u us) k = Made None k
    all_joined_by_content f q i (more t ts) none k = Made None k
    all_joined_by_content f q i (more t ts) (more u us) k =
        beside_by_content (is_same t u) (is_place G f i) (joined_by_content (q ++ i ∷ []) t u) (all_joined_by_content f q (i + 1) ts us) k

-- something is found, or a term passes a limit
abbrev pub IsFoundOrPast : Work (Option (List Move)) → Type 0
IsFoundOrPast (Made (Some vs) k) = Unit {0}
IsFoundOrPast (Made None k) = ⊥
IsFoundOrPast Out = ⊥
IsFoundOrPast (Past l k) = Unit {0}
