-- Replacements that need no try. Each rule is taken as if its conditions held: where the first rule whose left side matches has conditions, the
-- replacement is marked, and is not sure.
use Rattle.std.specs.Prelude.{◌≡◌, ℕ, ◌+◌, zero, suc, List, [], ◌∷◌, if◌then◌else◌, Option, Some, None}
use Rattle.std.specs.List.{AllByRecursion}
use Rattle.std.specs.Option.{option_or}
use Rattle.circ_term.specs.Tree.{Tree, Trees, Var, App, none, more}
use Rattle.circ_theory.specs.Signature.{Signature}
use Rattle.circ_theory.specs.Theory.{Pair}
use Rattle.circ_rewrite.specs.Matching.{matches}
use Rattle.circ_rewrite.specs.Due.{assumed}
use Rattle.circ_rewrite.specs.Norm.{Normalised, Budget_spent}
use Rattle.circ_rewrite.specs.Replacement.{Reason, By_rule, By_assumption, By_content, no_trace, Passes, no_pass, more_passes, Replacement, Placed, placed, below, Traced}
use Rattle.circ_rewrite.specs.declared.parts.Rule.{Rule}
use Rattle.circ_chain.specs.Chain.{Reduces}
use Rattle.circ_conditional_norm.specs.Norm.{looks, looked, make, run_from}
use Rattle.circ_conditional_norm.specs.Tries.{rule_replaces, before_rules}
use Rattle.circ_conditional_norm.specs.Work.{Work, Made, or_next, map_found}

-- one pass for each condition, with no trace: the mark of conditions that were not tried
abbrev pub untried : List Pair → Passes
untried [] = no_pass
untried (p ∷ ps) = more_passes no_trace no_trace (untried ps)

-- the replacement by a rule whose left side matches
abbrev pub matched : Rule → Tree → Option Replacement
matched r t = if matches r.left t then Some (rule_replaces r t (untried r.conds)) else None

-- the first rule whose left side matches
abbrev pub first_matched : List Rule → Tree → Option Replacement
first_matched [] t = None
first_matched (r ∷ rs) t = option_or (matched r t) (first_matched rs t)

-- what is reached at the root of a term
abbrev pub reached : Signature → List Rule → (assumptions : List Pair) → Tree → Option Replacement
reached sig rs A (Var n s) = assumed 0 A (Var n s)
reached sig rs A (App f s ts) = option_or (before_rules sig A (App f s ts)) (first_matched rs (App f s ts))

-- it is by no rule with conditions
abbrev pub IsSure : Reason → Type 0
IsSure (By_rule name terms conds) = conds ≡ no_pass
IsSure (By_assumption number) = Unit {0}
IsSure (By_content op term) = Unit {0}

abbrev pub AreSure : List Traced → Type 0
AreSure ts = AllByRecursion (λ tr. IsSure tr.reason) ts

-- What can be kept: the traces lead from t to its normal form v within the bounds, and no rule with
-- conditions was reached on the way.
pub record IsSureForm (sig : Signature) (rules : List Rule) (assumptions : List Pair) (t v : Tree) (traces : List Traced) (big deep : ℕ) : Type 0 where
  pub reduces : Reduces (reached sig rules assumptions) big deep t traces v
  pub sure : AreSure traces

-- ---- going on behind a subterm

module _ (due : (budget : ℕ) → Tree → Work (Option Replacement)) where
  -- the replacement at the first path in post-order behind the subterm at this path
  abbrev mutual
    pub look_behind : (path : List ℕ) → Tree → (budget : ℕ) → Work (Option Placed)
    look_behind [] t k = Made None k
    look_behind (i ∷ p) (Var n s) k = Made None k
    look_behind (i ∷ p) (App f s ts) k = or_next (looks_behind i p 0 ts k) (λ l. map_found (placed []) (due l (App f s ts)))

    -- in arguments, the first of which is argument i, after this many
    pub looks_behind : (skip : ℕ) → (path : List ℕ) → (i : ℕ) → Trees → (budget : ℕ) → Work (Option Placed)
    looks_behind skip p i none k = Made None k
    looks_behind zero p i (more t ts) k = or_next (map_found (below i) (look_behind p t k)) (looks due (i + 1) ts)
    looks_behind (suc n) p i (more t ts) k = looks_behind n p (i + 1) ts k

  -- a run that goes on behind the subterm at this path
  abbrev pub run_behind : (most : ℕ) → (path : List ℕ) → Tree → (ts : List Traced) → (budget : ℕ) → Normalised
  run_behind zero p t ts k = looked due (λ q l. Budget_spent) t ts (look_behind p t k)
  run_behind (suc n) p t ts k = looked due (make due (run_from due n) t ts) t ts (look_behind p t k)
