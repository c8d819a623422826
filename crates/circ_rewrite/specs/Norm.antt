-- Normal forms (`Norm`): the replacement at the first path in post-order where one is due is made, and so on.
use Rattle.std.specs.Prelude.{ℕ, ◌+◌, zero, suc, List, [], ◌∷◌, ◌++◌, Option, None}
use Rattle.std.specs.Option.{option_map, option_map_or, option_or, unwrap_or}
use Rattle.circ_term.specs.Tree.{Tree, Trees, Var, App, none, more, replaced}
use Rattle.circ_term.specs.Limits.{Limit, first_limit}
use Rattle.circ_theory.specs.Signature.{Signature}
use Rattle.circ_theory.specs.Theory.{Pair}
use Rattle.circ_rewrite.specs.Replacement.{Replacement, Placed, Traced, placed, below, traced}
use Rattle.circ_rewrite.specs.Due.{due_under}
use Rattle.circ_rewrite.specs.declared.parts.Rule.{Rule}

-- What normalising comes to: the normal form with the traces and what is left of the budget; or a replacement is due and no budget is
-- left; or a replacement makes a term past a limit, and this is left, without it.
pub data Normalised : Type 0 where
  Normal_form : (term : Tree) (traces : List Traced) (left : ℕ) → Normalised
  Budget_spent : Normalised
  Limit_passed : (limit : Limit) (left : ℕ) → Normalised

module _ (due : Tree → Option Replacement) where
  -- the replacement at the first path in post-order where one is due
  abbrev mutual
    pub first_due : Tree → Option Placed
    first_due (Var n s) = option_map (placed []) (due (Var n s))
    first_due (App f s ts) = option_or (first_dues 0 ts) (option_map (placed []) (due (App f s ts)))

    -- the same in arguments, the first of which is argument i
    pub first_dues : (i : ℕ) → Trees → Option Placed
    first_dues i none = None
    first_dues i (more t ts) = option_or (option_map (below i) (first_due t)) (first_dues (i + 1) ts)

  -- the term with the replacement made
  abbrev pub made : Tree → Placed → Tree
  made t q = unwrap_or (replaced t q.path q.replacement.new) t

  -- the first replacement in post-order is made, again and again, at most so many times; ts are the traces so far
  abbrev pub run : (budget : ℕ) → Tree → (ts : List Traced) → Normalised
  run zero t ts = option_map_or (λ q. Budget_spent) (first_due t) (Normal_form t ts zero)
  run (suc k) t ts =
      option_map_or
      (λ q. option_map_or (λ l. Limit_passed l (suc k)) (first_limit (made t q)) (run k (made t q) (ts ++ traced q ∷ [])))
      (first_due t)
      (Normal_form t ts (suc k))

abbrev pub norm : Signature → List Rule → (assumptions : List Pair) → (budget : ℕ) → Tree → Normalised
norm sig rules assumptions budget t = run (due_under sig rules assumptions) budget t []
