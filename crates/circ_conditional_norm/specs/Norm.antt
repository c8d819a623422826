-- Normal forms (`Norm`) under rules with conditions: the replacement at the first path in post-order where one is due is made; after it the work
-- goes on at the first path of the new subterm, so that no try that failed before it is made again.
use Rattle.std.specs.Prelude.{ℕ, ◌+◌, ◌-◌, zero, suc, List, [], ◌∷◌, ◌++◌, Option, Some, None}
use Rattle.std.specs.Option.{option_map_or, unwrap_or}
use Rattle.circ_term.specs.Tree.{Tree, Trees, Var, App, none, more, replaced}
use Rattle.circ_term.specs.Limits.{first_limit}
use Rattle.circ_theory.specs.Signature.{Signature}
use Rattle.circ_theory.specs.Theory.{Pair}
use Rattle.circ_rewrite.specs.Norm.{Normalised, Normal_form, Budget_spent, Limit_passed}
use Rattle.circ_rewrite.specs.Replacement.{Replacement, Placed, Traced, placed, below, traced}
use Rattle.circ_rewrite.specs.declared.parts.Rule.{Rule}
use Rattle.circ_conditional_norm.specs.Tries.{Normaliser, due_trying}
use Rattle.circ_conditional_norm.specs.Work.{Work, Made, Out, Past, or_next, map_found}

-- the term with the replacement made
abbrev pub remade : Tree → Placed → Tree
remade t q = unwrap_or (replaced t q.path q.replacement.new) t

module _ (due : (budget : ℕ) → Tree → Work (Option Replacement)) where
  -- the replacement at the first path in post-order where one is due
  abbrev mutual
    pub look : Tree → (budget : ℕ) → Work (Option Placed)
    look (Var n s) k = map_found (placed []) (due k (Var n s))
    look (App f s ts) k = or_next (looks 0 ts k) (λ l. map_found (placed []) (due l (App f s ts)))

    -- the same in arguments, the first of which is argument i
    pub looks : (i : ℕ) → Trees → (budget : ℕ) → Work (Option Placed)
    looks i none k = Made None k
    looks i (more t ts) k = or_next (map_found (below i) (look t k)) (looks (i + 1) ts)

  -- the same from the first path in post-order of the subterm at this path on; what comes before it is not looked at
  abbrev mutual
    pub look_from : (path : List ℕ) → Tree → (budget : ℕ) → Work (Option Placed)
    look_from [] t k = look t k
    look_from (i ∷ p) (Var n s) k = Made None k
    look_from (i ∷ p) (App f s ts) k = or_next (looks_from i p 0 ts k) (λ l. map_found (placed []) (due l (App f s ts)))

    -- in arguments, the first of which is argument i, after this many
    pub looks_from : (skip : ℕ) → (path : List ℕ) → (i : ℕ) → Trees → (budget : ℕ) → Work (Option Placed)
    looks_from skip p i none k = Made None k
    looks_from zero p i (more t ts) k = or_next (map_found (below i) (look_from p t k)) (looks (i + 1) ts)
    looks_from (suc n) p i (more t ts) k = looks_from n p (i + 1) ts k

  -- what is done with what looking comes to
  abbrev pub looked : (Placed → (budget : ℕ) → Normalised) → Tree → (ts : List Traced) → Work (Option Placed) → Normalised
  looked next t ts (Made (Some q) k) = next q k
  looked next t ts (Made None k) = Normal_form t ts k
  looked next t ts Out = Budget_spent
  looked next t ts (Past l k) = Limit_passed l k

  -- a replacement is made, which takes a step; the new subterm is built first, then the term around it
  abbrev pub make : (List ℕ → Tree → List Traced → (budget : ℕ) → Normalised) → Tree → (ts : List Traced) → Placed → (budget : ℕ) → Normalised
  make again t ts q zero = Budget_spent
  make again t ts q (suc k) = option_map_or (λ l. Limit_passed l (suc k)) (first_limit (remade t q)) (again q.path (remade t q) (ts ++ traced q ∷ []) k)

  -- From a path on the first replacement in post-order is made, again and again; ts are the traces so far. No more are made than
  -- `most`, which is not less than the budget.
  abbrev pub run_from : (most : ℕ) → (from : List ℕ) → Tree → (ts : List Traced) → (budget : ℕ) → Normalised
  run_from zero from t ts k = looked (λ q l. Budget_spent) t ts (look_from from t k)
  run_from (suc n) from t ts k = looked (make (run_from n) t ts) t ts (look_from from t k)

-- the most tries inside one another
abbrev pub try_limit : ℕ
try_limit = 8

-- how conditions are normalised, with room for so many tries inside one another; with none, there is no try
abbrev pub inner_norm : (room : ℕ) → Signature → List Rule → (assumptions : List Pair) → Option Normaliser
inner_norm zero sig rs A = None
inner_norm (suc n) sig rs A = Some (λ k t. run_from (due_trying (inner_norm n sig rs A) sig rs A) k [] t [] k)

abbrev pub norm_with_room : (room : ℕ) → Signature → List Rule → (assumptions : List Pair) → (budget : ℕ) → Tree → Normalised
norm_with_room room sig rs A k t = run_from (due_trying (inner_norm room sig rs A) sig rs A) k [] t [] k

-- Normal forms with so many tries around the whole term. Where eight stand around a rule with conditions it is not tried, so that in a
-- normal form such rules may still match.
abbrev pub conditional_norm : (tries : ℕ) → Signature → List Rule → (assumptions : List Pair) → (budget : ℕ) → Tree → Normalised
conditional_norm tries sig rs A k t = norm_with_room (try_limit - tries) sig rs A k t
