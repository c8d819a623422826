-- What is found where a search with conditions ends: a proof has version 1 where it has no conditions and no case steps, and else version 2.
use Rattle.std.specs.Prelude.{ℕ, Bool, true, false, ◌&&◌, if◌then◌else◌, nat_lt, List, length}
use Rattle.std.specs.List.{list_all}
use Rattle.circ_term.specs.Tree.{Tree}
use Rattle.circ_theory.specs.Goal.{Goal}
use Rattle.circ_special.specs.declared.place.Place.{Place}
use Rattle.circ_proof.specs.Plain.{LinkOf, ChainsOf, no_chain, more_chains, chains_in}
use Rattle.circ_proof.specs.Plain.{ChainOf, WhyOf, WhysOf, Same_why, Split_why, no_why, more_whys}
use Rattle.circ_proof.specs.Proof.{Proof}
use Rattle.circ_proof.specs.Rules.{ProofStep, Simplify, Reduce, Derive, Cases, Done}
use Rattle.circ_plain_search.specs.Numbering.{proof_with, Special, needed, Found, Stuck, Spent, TooBig, TooDeep, proved_or_long}
use Rattle.circ_plain_search.specs.Search.{ProvedBlock, Ending, All_done, Is_stuck, Is_spent, Is_too_big, Is_too_deep}

abbrev pub has_no_chain : ChainsOf Tree → Bool
has_no_chain no_chain = true
has_no_chain (more_chains l r cs) = false

abbrev pub is_plain_link : LinkOf Tree → Bool
is_plain_link l = has_no_chain (chains_in l)

abbrev pub is_plain_chain : ChainOf Tree → Bool
is_plain_chain c = list_all is_plain_link c.left && list_all is_plain_link c.right

abbrev mutual
  pub is_plain_why : WhyOf Tree → Bool
  is_plain_why (Same_why c) = is_plain_chain c
  is_plain_why (Split_why c u ws) = is_plain_chain c && are_plain_whys ws

  pub are_plain_whys : WhysOf Tree → Bool
  are_plain_whys no_why = true
  are_plain_whys (more_whys w ws) = is_plain_why w && are_plain_whys ws

abbrev pub is_plain_step : ProofStep Tree → Bool
is_plain_step (Simplify c) = is_plain_chain c
is_plain_step (Reduce w) = is_plain_why w
is_plain_step Derive = true
is_plain_step (Cases u) = false
is_plain_step Done = true

abbrev pub has_no_conds : Goal → Bool
has_no_conds g = nat_lt (length g.conds) 1

abbrev pub is_plain_block : ProvedBlock → Bool
is_plain_block b = list_all has_no_conds b.goals && list_all is_plain_step b.steps

abbrev pub version_of : List ProvedBlock → (certificates : List (List (LinkOf Tree))) → ℕ
version_of bs cs = if list_all is_plain_block bs && list_all (list_all is_plain_link) cs then 1 else 2

-- the proof with its version
abbrev pub versioned_proof : List Place → (certificates : List (List (LinkOf Tree))) → List ProvedBlock → Proof
versioned_proof G cs bs = record (proof_with G cs bs) { version = version_of bs cs }

abbrev pub versioned_found : Special → Ending → Found
versioned_found s (All_done bs d m deep) = proved_or_long (versioned_proof (needed deep s).places (needed deep s).certificates bs)
versioned_found s (Is_stuck b g t u A) = Stuck b g t u A
versioned_found s (Is_spent r d m) = Spent r d m
versioned_found s (Is_too_big n) = TooBig n
versioned_found s (Is_too_deep n) = TooDeep n
