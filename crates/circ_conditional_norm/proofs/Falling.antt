-- The budget never rises.
use Rattle.std.proofs.Common.{ℕ, ◌≤◌, zero, suc, if◌then◌else◌, List, [], ◌∷◌, ◌++◌, Option, Some, None, arith}
use Rattle.std.specs.Option.{option_map_or}
use Rattle.circ_term.specs.Tree.{Tree, Var, App}
use Rattle.circ_term.specs.Limits.{Limit, first_limit, or_else}
use Rattle.circ_term.specs.Order.{is_same}
use Rattle.circ_term.specs.Substitution.{Substitution, instance}
use Rattle.circ_theory.specs.Signature.{Signature}
use Rattle.circ_theory.specs.Theory.{Pair}
use Rattle.circ_rewrite.specs.Matching.{matching, matches}
use Rattle.circ_rewrite.specs.Norm.{Budget_spent, Limit_passed}
use Rattle.circ_rewrite.specs.Replacement.{Passes, more_passes, Replacement, Placed, Traced, traced, trace_row}
use Rattle.circ_rewrite.specs.declared.parts.Rule.{Rule}
use Rattle.circ_conditional_norm.specs.Norm.{look_from, remade, looked, make, run_from, inner_norm, norm_with_room}
use Rattle.circ_conditional_norm.specs.Tries.{rule_replaces, Normaliser, same_forms, conditions_hold, tried, rule_tried, rules_tried, before_rules, due_trying}
use Rattle.circ_conditional_norm.specs.Work.{Work, Made, Out, Past, map_found, normal_then, LeavesAtMost}
use Rattle.circ_conditional_norm.proofs.Working.{NormalLeavesAtMost, leaves_more, normal_leaves_more, map_leaves, next_leaves, normal_leaves, limit_leaves, if_leaves}
use Rattle.circ_conditional_norm.proofs.Looking.{look_from_leaves}

-- a normaliser leaves no more than it was given
abbrev pub IsFalling : Normaliser → Type 0
IsFalling f = (k : ℕ) (t : Tree) → NormalLeavesAtMost k (f k t)

abbrev pub AreFalling : Option Normaliser → Type 0
AreFalling None = Unit {0}
AreFalling (Some f) = IsFalling f

module _ (f : Normaliser) (falls : IsFalling f) where
  one_leaves : (a b : Tree) (k : ℕ) (rest : ℕ → Work (Option Passes)) → ((l : ℕ) → LeavesAtMost l (rest l)) → LeavesAtMost k (same_forms f a b k rest)
  one_leaves a b k rest h =
      normal_leaves (f k a) (λ x ts l. normal_then (f l b) (λ y us m. if is_same x y then map_found (more_passes (trace_row ts) (trace_row us)) (rest m) else Made None m)) k
      (falls k a)
      (λ x ts l. normal_leaves (f l b) (λ y us m. if is_same x y then map_found (more_passes (trace_row ts) (trace_row us)) (rest m) else Made None m) l (falls l b)
      (λ y us m. if_leaves (is_same x y) (map_found (more_passes (trace_row ts) (trace_row us)) (rest m)) (Made None m) m
      (map_leaves (more_passes (trace_row ts) (trace_row us)) (rest m) m (h m)) (here m)))
    where
      here : (m : ℕ) → m ≤ m
      here m = omega arith

  all_leave : (σ : Substitution) (ps : List Pair) (k : ℕ) → LeavesAtMost k (conditions_hold f σ ps k)
  all_leave σ [] k = omega arith
  all_leave σ (p ∷ ps) k =
      limit_leaves (or_else (first_limit (instance σ p.left)) (first_limit (instance σ p.right))) k
      (same_forms f (instance σ p.left) (instance σ p.right) k (conditions_hold f σ ps))
      (one_leaves (instance σ p.left) (instance σ p.right) k (conditions_hold f σ ps) (all_leave σ ps))

pub holds_leave : (o : Option Normaliser) → AreFalling o → (σ : Substitution) (ps : List Pair) (k : ℕ) → LeavesAtMost k (tried o σ ps k)
holds_leave o h σ [] k = omega arith
holds_leave None h σ (p ∷ ps) k = omega arith
holds_leave (Some f) h σ (p ∷ ps) zero = tt
holds_leave (Some f) h σ (p ∷ ps) (suc k) = leaves_more (conditions_hold f σ (p ∷ ps) k) k (suc k) (omega arith) (all_leave f h σ (p ∷ ps) k)

module _ (o : Option Normaliser) (falls : AreFalling o) where
  rule_leaves : (r : Rule) (k : ℕ) (t : Tree) → LeavesAtMost k (rule_tried o r k t)
  rule_leaves r k t =
      if_leaves (matches r.left t)
      (map_found (rule_replaces r t)
      (tried o (matching r.left t) r.conds k)) (Made None k) k
      (map_leaves (rule_replaces r t)
      (tried o (matching r.left t) r.conds k) k (holds_leave o falls (matching r.left t) r.conds k)) here
    where
      here : k ≤ k
      here = omega arith

  ruled_leaves : (rs : List Rule) (k : ℕ) (t : Tree) → LeavesAtMost k (rules_tried o rs k t)
  ruled_leaves [] k t = omega arith
  ruled_leaves (r ∷ rs) k t = next_leaves (rule_tried o r k t) (λ l. rules_tried o rs l t) k (rule_leaves r k t) (λ l. ruled_leaves rs l t)

  pub due_leaves : (sig : Signature) (rs : List Rule) (A : List Pair) (k : ℕ) (t : Tree) → LeavesAtMost k (due_trying o sig rs A k t)
  due_leaves sig rs A k (Var n s) = omega arith
  due_leaves sig rs A k (App f s ts) = go (before_rules sig A (App f s ts))
    where
      go : (x : Option Replacement) → LeavesAtMost k (option_map_or (λ r. Made (Some r) k) x (rules_tried o rs k (App f s ts)))
      go None = ruled_leaves rs k (App f s ts)
      go (Some r) = omega arith

module _ (due : (budget : ℕ) → Tree → Work (Option Replacement)) (falls : (k : ℕ) (t : Tree) → LeavesAtMost k (due k t)) where
  run_leaves : (n : ℕ) (from : List ℕ) (t : Tree) (ts : List Traced) (k : ℕ) → NormalLeavesAtMost k (run_from due n from t ts k)
  run_leaves zero from t ts k = go (look_from due from t k) (look_from_leaves due falls from t k)
    where
      go : (x : Work (Option Placed)) → LeavesAtMost k x → NormalLeavesAtMost k (looked due (λ q m. Budget_spent) t ts x)
      go (Made (Some q) m) h = tt
      go (Made None m) h = h
      go Out h = tt
      go (Past y m) h = h
  run_leaves (suc n) from t ts k = go (look_from due from t k) (look_from_leaves due falls from t k) (run_leaves n)
    where
      go : (x : Work (Option Placed)) → LeavesAtMost k x
          → ((p : List ℕ) (v : Tree) (vs : List Traced) (m : ℕ) → NormalLeavesAtMost m (run_from due n p v vs m))
          → NormalLeavesAtMost k (looked due (make due (run_from due n) t ts) t ts x)
      go (Made None m) h ih = h
      go Out h ih = tt
      go (Past y m) h ih = h
      go (Made (Some q) zero) h ih = tt
      go (Made (Some q) (suc m)) h ih = at_limit (first_limit (remade t q))
        where
          at_limit : (y : Option Limit)
              → NormalLeavesAtMost k (option_map_or (λ l. Limit_passed l (suc m)) y (run_from due n q.path (remade t q) (ts ++ traced q ∷ []) m))
          at_limit (Some y) = h
          at_limit None =
              normal_leaves_more (run_from due n q.path (remade t q) (ts ++ traced q ∷ []) m) m k (omega (arith, h)) (ih q.path (remade t q) (ts ++ traced q ∷ []) m)

pub inner_falls : (n : ℕ) (sig : Signature) (rs : List Rule) (A : List Pair) → AreFalling (inner_norm n sig rs A)
inner_falls zero sig rs A = tt
inner_falls (suc n) sig rs A =
    λ k t. run_leaves (due_trying (inner_norm n sig rs A) sig rs A) (due_leaves (inner_norm n sig rs A) (inner_falls n sig rs A) sig rs A) k [] t [] k

pub norm_falls : (n : ℕ) (sig : Signature) (rs : List Rule) (A : List Pair) → IsFalling (norm_with_room n sig rs A)
norm_falls n sig rs A k t = run_leaves (due_trying (inner_norm n sig rs A) sig rs A) (due_leaves (inner_norm n sig rs A) (inner_falls n sig rs A) sig rs A) k [] t [] k
