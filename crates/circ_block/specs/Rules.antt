-- What the rules of a block are.
use Rattle.std.specs.Prelude.{◌≡◌, ◌<◌, ◌+◌, ◌^◌, ◌++◌, ◌∷◌, List, [], length}
use Rattle.circ_theory.specs.Theory.{Theory}
use Rattle.circ_theory.specs.Goal.{Goal}
use Rattle.circ_rewrite.specs.declared.parts.Rule.{Rule}
use Rattle.circ_memo.specs.Value.{Rewriting}
use Rattle.circ_plain_search.specs.BlockRules.{block_rules, hidden_lemmas}
use Rattle.circ_block.specs.declared.reducing.GoalReducer.{GoalReducer}
use Rattle.circ_block.specs.declared.block.BlockRules.{BlockRules}

-- The reducer rewrites by these rules, and its assumptions are the conditions.
abbrev pub IsReducerOf : Theory → List Rule → GoalReducer → Type 0
IsReducerOf th R g = g.reducer ≡ record { theory = th; rules = R; assumptions = g.conds }

-- The rules and the lemmas of a block after these goals. Goals may have any conditions, and cases any assumptions.
pub record IsRulesOf (th : Theory) (earlier : List Goal) (r : BlockRules) : Type 0 where
  pub goals : IsReducerOf th (block_rules th earlier) r.goals
  pub aside : IsReducerOf th (block_rules th earlier) r.aside
  pub theory : r.cases.theory ≡ th
  pub rules : r.cases.rules ≡ block_rules th earlier
  pub lemmas : r.lemmas ≡ hidden_lemmas th 0 earlier
  pub count : r.count ≡ length earlier

-- There is room for one rule more.
pub record HaveRoom (r : BlockRules) : Type 0 where
  pub goals : length r.goals.reducer.rules + 1 < 2 ^ 32
  pub aside : length r.aside.reducer.rules + 1 < 2 ^ 32
  pub cases : length r.cases.rules + 1 < 2 ^ 32

-- with one rule more, and without assumptions
abbrev pub rewriting_with : Rule → Rewriting → Rewriting
rewriting_with x m = record m { rules = m.rules ++ x ∷ []; assumptions = [] }

abbrev pub reducer_with : Rule → GoalReducer → GoalReducer
reducer_with x g = record { reducer = rewriting_with x g.reducer; conds = [] }

abbrev pub with_rule : Rule → BlockRules → BlockRules
with_rule x r = record r { goals = reducer_with x r.goals; aside = reducer_with x r.aside; cases = rewriting_with x r.cases }
