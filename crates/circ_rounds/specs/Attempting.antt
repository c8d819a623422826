-- What an attempt goes by.
use Rattle.std.specs.Prelude.{◌≡◌, ℕ, Bool, List, []}
use Rattle.circ_theory.specs.Theory.{Pair}
use Rattle.circ_memo.specs.Value.{Rewriting}
use Rattle.circ_plain_search.specs.BlockRules.{block_rules}
use Rattle.circ_conditional_search.specs.Joining.{work_then}
use Rattle.circ_conditional_search.specs.Search.{condition_normaliser}
use Rattle.circ_content_join.specs.Joining.{joined_by_content}
use Rattle.circ_attempt.specs.Attempt.{Rounds, rounds, normal_round, join_or, derived_rules}
use Rattle.circ_attempt.specs.Rules.{lemmas_of}
use Rattle.circ_rounds.specs.declared.attempt.Attempting.{Attempting}

-- The reducer has the rules of the block and these conditions, and the lists are those of the block's hypotheses, of which some were goals of
-- the script.
pub record AttemptsIn (a : Attempting) (of_script : List Bool) (conds : List Pair) (r : Rewriting) : Type 0 where
  pub theory : r.theory ≡ a.theory.now
  pub rules : r.rules ≡ block_rules a.theory.now a.hyps.now.earlier
  pub conditions : r.assumptions ≡ conds
  pub lemmas : a.lemmas.now ≡ lemmas_of a.theory.now 0 a.hyps.now.earlier
  pub own : a.own.now ≡ derived_rules a.hyps.now.earlier a.hyps.now.all of_script

module _ (a : Attempting) (of_script : List Bool) (conds : List Pair) (most : ℕ) where
  -- the rounds of an attempt, so many at most
  abbrev pub rounds_in : Rounds
  rounds_in = rounds a.theory.now a.gamma.now a.hyps.now.earlier a.hyps.now.all of_script conds most

  -- normal forms of both sides and Join, and then so many rounds at most
  abbrev pub normal_round_in : Rounds
  normal_round_in = normal_round a.theory.now a.gamma.now a.hyps.now.earlier a.hyps.now.all of_script conds rounds_in

  -- Join of both sides, and then so many rounds at most
  abbrev pub join_round_in : Rounds
  join_round_in ps x k =
      work_then (joined_by_content (condition_normaliser a.theory.now a.hyps.now.earlier conds) a.theory.now.signature a.gamma.now a.hyps.now.all []
      x.left x.right k) (join_or ps x rounds_in)
