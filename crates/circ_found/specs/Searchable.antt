-- Goals within the limits of terms, and goals that can be told apart.
use Rattle.std.specs.Prelude.{◌≢◌, List, []}
use Rattle.std.specs.List.{AllByRecursion}
use Rattle.circ_term.specs.Limits.{IsWithinLimits}
use Rattle.circ_theory.specs.Theory.{Theory}
use Rattle.circ_theory.specs.Goal.{Goal}
use Rattle.circ_plain_search.specs.PlainSearch.{IsSearchable}
use Rattle.circ_conditional_search.specs.ConditionalSearch.{IsPairWithin}

pub record IsWithinGoal (g : Goal) : Type 0 where
  pub left : IsWithinLimits g.left
  pub right : IsWithinLimits g.right
  pub conds : AllByRecursion IsPairWithin g.conds

abbrev pub AreWithin : (blocks : List (List Goal)) → Type 0
AreWithin blocks = AllByRecursion (λ b. AllByRecursion IsWithinGoal b) blocks

-- At least one block, and a goal in each, which has no conditions. The theory may have some.
pub record ArePlainlySearchable (th : Theory) (blocks : List (List Goal)) : Type 0 where
  pub some_block : blocks ≢ []
  pub some_goal : AllByRecursion (λ b. b ≢ []) blocks
  pub goals : AllByRecursion (λ b. AllByRecursion (IsSearchable th) b) blocks
