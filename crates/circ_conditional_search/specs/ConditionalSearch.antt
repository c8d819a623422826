-- What the search with conditions finds (`ConditionalSearch`), and what it can be given.
use Rattle.std.specs.Prelude.{◌≡◌, ◌≢◌, ◌≤◌, ◌^◌, List, [], map, length}
use Rattle.std.specs.List.{AllByRecursion}
use Rattle.circ_term.specs.Limits.{IsWithinLimits}
use Rattle.circ_theory.specs.Fresh.{fresh_in}
use Rattle.circ_theory.specs.Limits.{condition_limit}
use Rattle.circ_theory.specs.Theory.{Theory, Pair, IsWellSortedGoal}
use Rattle.circ_theory.specs.Goal.{Goal}
use Rattle.circ_special.specs.declared.place.Place.{Place}
use Rattle.circ_rewrite.specs.Links.{link_of}
use Rattle.circ_rewrite.specs.Replacement.{Traced}
use Rattle.circ_plain_search.specs.Greatest.{GreatestSpecialSet}
use Rattle.circ_plain_search.specs.Numbering.{Found, special}
use Rattle.circ_plain_search.specs.Search.{Ending, start}
use Rattle.circ_conditional_search.specs.Search.{Manner, Finishes}
use Rattle.circ_conditional_search.specs.Versions.{versioned_found}

-- With the greatest special set, and the traces of its start terms as certificates, the search of these blocks ends, and this is found then.
pub record ConditionalSearch (th : Theory) (blocks : List (List Goal)) (m : Manner) (found : Found) : Type 0 where
  pub places : List Place
  pub traces : List (List Traced)
  pub greatest : GreatestSpecialSet th m.limits.steps places traces
  pub ending : Ending
  pub run : Finishes th places m (start m.limits blocks) ending
  pub is : found ≡ versioned_found (special places (map (map link_of) traces)) ending

-- both sides are within the limits
abbrev pub IsPairWithin : Pair → Type 0
IsPairWithin p = IsWithinLimits p.left × IsWithinLimits p.right

-- A goal that a search can be given: its sides are well-sorted, of one sort, and within the limits, its conditions, at most eight, are such pairs of visible
-- sorts, and variables have numbers below 2,147,483,648.
pub record CanBeSearched (th : Theory) (g : Goal) : Type 0 where
  pub sorted : IsWellSortedGoal th g
  pub left_within : IsWithinLimits g.left
  pub right_within : IsWithinLimits g.right
  pub conds_within : AllByRecursion IsPairWithin g.conds
  pub few_conds : length g.conds ≤ condition_limit
  pub numbers : fresh_in g ≤ 2 ^ 31

-- At least one block, and a goal in each.
pub record CanAllBeSearched (th : Theory) (blocks : List (List Goal)) : Type 0 where
  pub some_block : blocks ≢ []
  pub some_goal : AllByRecursion (λ b. b ≢ []) blocks
  pub goals : AllByRecursion (λ b. AllByRecursion (CanBeSearched th) b) blocks
