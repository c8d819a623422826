-- A subterm that is normalised by itself, within bounds on size and depth that the rest of the whole term leaves it.
use Rattle.std.specs.Prelude.{◌≤◌, ℕ, zero, suc, Bool, true, false, ◌||◌, nat_lt, List, [], ◌∷◌, ◌++◌, map, Option, Some, None}
use Rattle.std.specs.Option.{unwrap_or}
use Rattle.circ_term.specs.Tree.{Tree, size_of, depth_of, replaced}
use Rattle.circ_term.specs.Limits.{Limit, first_limit}
use Rattle.circ_rewrite.specs.Norm.{Normalised, Normal_form, Budget_spent, Limit_passed}
use Rattle.circ_rewrite.specs.Replacement.{Replacement, Placed, Traced, traced}
use Rattle.circ_chain.specs.Chain.{under}
use Rattle.circ_conditional_norm.specs.Norm.{remade, look_from}
use Rattle.circ_conditional_norm.specs.Sure.{look_behind}
use Rattle.circ_conditional_norm.specs.Work.{Work, Made, Out, Past}

-- what it comes to: as for a whole term; or the next term is within the limits and past the bounds
pub data Bounded : Type 0 where
  Form : (term : Tree) (traces : List Traced) (left : ℕ) → Bounded
  Ran_out : Bounded
  Broken : (limit : Limit) (left : ℕ) → Bounded
  Outgrown : (term : Tree) (left : ℕ) → Bounded

-- the bounds
pub record Room : Type 0 where
  pub big : ℕ
  pub deep : ℕ

-- the term is within them
pub record IsInRoom (b : Room) (t : Tree) : Type 0 where
  pub small : size_of t ≤ b.big
  pub shallow : depth_of t ≤ b.deep

abbrev pub is_past : Room → Tree → Bool
is_past b t = nat_lt b.big (size_of t) || nat_lt b.deep (depth_of t)

-- what is done with a term that is built
abbrev pub bounded : Option Limit → (past : Bool) → Tree → (left : ℕ) → Bounded → Bounded
bounded (Some l) past t k go = Broken l k
bounded None true t k go = Outgrown t k
bounded None false t k go = go

module _ (due : (budget : ℕ) → Tree → Work (Option Replacement)) where
  abbrev pub looked_in : (Placed → (budget : ℕ) → Bounded) → Tree → (ts : List Traced) → Work (Option Placed) → Bounded
  looked_in next t ts (Made (Some q) k) = next q k
  looked_in next t ts (Made None k) = Form t ts k
  looked_in next t ts Out = Ran_out
  looked_in next t ts (Past l k) = Broken l k

  abbrev pub make_in : Room → (List ℕ → Tree → List Traced → (budget : ℕ) → Bounded) → Tree → (ts : List Traced) → Placed → (budget : ℕ) → Bounded
  make_in b again t ts q zero = Ran_out
  make_in b again t ts q (suc k) =
      bounded (first_limit (remade t q)) (is_past b (remade t q)) (remade t q) (suc k) (again q.path (remade t q) (ts ++ traced q ∷ []) k)

  abbrev pub run_in : Room → (most : ℕ) → (from : List ℕ) → Tree → (ts : List Traced) → (budget : ℕ) → Bounded
  run_in b zero from t ts k = looked_in (λ q l. Ran_out) t ts (look_from due from t k)
  run_in b (suc n) from t ts k = looked_in (make_in b (run_in b n) t ts) t ts (look_from due from t k)

  abbrev pub run_behind_in : Room → (most : ℕ) → (path : List ℕ) → Tree → (ts : List Traced) → (budget : ℕ) → Bounded
  run_behind_in b zero p t ts k = looked_in (λ q l. Ran_out) t ts (look_behind due p t k)
  run_behind_in b (suc n) p t ts k = looked_in (make_in b (run_in b n) t ts) t ts (look_behind due p t k)

  abbrev pub put_there : Tree → List ℕ → Tree → Tree
  put_there w p v = unwrap_or (replaced w p v) w

  -- what comes of the whole term w, in which the subterm stands at p, from what came of the subterm
  abbrev pub go_on : Room → (p : List ℕ) → (w : Tree) → (before : List Traced) → Bounded → Bounded
  go_on b p w before (Form v us l) = run_behind_in b l p (put_there w p v) (before ++ map (under p) us) l
  go_on b p w before Ran_out = Ran_out
  go_on b p w before (Broken x l) = Broken x l
  go_on b p w before (Outgrown x l) = bounded (first_limit (put_there w p x)) true (put_there w p x) l Ran_out

-- for a whole term
abbrev pub whole_form : Bounded → Normalised
whole_form (Form v us l) = Normal_form v us l
whole_form Ran_out = Budget_spent
whole_form (Broken x l) = Limit_passed x l
whole_form (Outgrown x l) = Budget_spent
