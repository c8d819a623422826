-- What the plain search finds (`PlainSearch`), and what a proof that it finds is.
use Rattle.std.specs.Prelude.{◌≡◌, ◌≢◌, ◌≤◌, ◌^◌, List, [], map}
use Rattle.std.specs.List.{AllByRecursion}
use Rattle.circ_term.specs.Limits.{IsWithinLimits}
use Rattle.circ_theory.specs.Theory.{Theory, HasNoConditions, IsWellSortedGoal}
use Rattle.circ_theory.specs.Goal.{Goal}
use Rattle.circ_special.specs.declared.place.Place.{Place}
use Rattle.circ_rewrite.specs.Links.{link_of}
use Rattle.circ_rewrite.specs.Replacement.{Traced}
use Rattle.circ_proof.specs.Accepted.{Accepted}
use Rattle.circ_proof.specs.Proof.{Proof, ProofFor}
use Rattle.circ_theory.specs.Fresh.{fresh_in}
use Rattle.circ_plain_search.specs.Greatest.{GreatestSpecialSet}
use Rattle.circ_plain_search.specs.Search.{Limits, Ending, Reaches, start}
use Rattle.circ_plain_search.specs.Numbering.{Found, special, found_of}

-- With the greatest special set, and the traces of its start terms as certificates, the search of these blocks ends, and this is found then.
pub record PlainSearch (th : Theory) (blocks : List (List Goal)) (limits : Limits) (found : Found) : Type 0 where
  pub places : List Place
  pub traces : List (List Traced)
  pub greatest : GreatestSpecialSet th limits.steps places traces
  pub ending : Ending
  pub run : Reaches th places limits (start limits blocks) ending
  pub is : found ≡ found_of (special places (map (map link_of) traces)) ending

-- A goal that a search can be given: it has no conditions, its sides are well-sorted, of one sort, and within the limits, and variables have numbers below
-- 2,147,483,648.
pub record IsSearchable (th : Theory) (g : Goal) : Type 0 where
  pub sorted : IsWellSortedGoal th g
  pub no_conds : g.conds ≡ []
  pub left_within : IsWithinLimits g.left
  pub right_within : IsWithinLimits g.right
  pub numbers : fresh_in g ≤ 2 ^ 31

-- The theory has no conditions; and at least one block, and a goal in each.
pub record AreSearchable (th : Theory) (blocks : List (List Goal)) : Type 0 where
  pub no_conditions : HasNoConditions th
  pub some_block : blocks ≢ []
  pub some_goal : AllByRecursion (λ b. b ≢ []) blocks
  pub goals : AllByRecursion (λ b. AllByRecursion (IsSearchable th) b) blocks

-- The proof fits the theory, is accepted, and has exactly these blocks of goals.
pub record IsProofOf (th : Theory) (blocks : List (List Goal)) (p : Proof) : Type 0 where
  pub fits : ProofFor th p
  pub accepted : Accepted th p
  pub goals : map (λ b. b.goals) p.blocks ≡ blocks
