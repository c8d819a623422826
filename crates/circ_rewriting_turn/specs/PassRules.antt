-- The rules of a block's passes.
use Rattle.std.specs.Prelude.{◌≡◌, Bool, List, length}
use Rattle.circ_theory.specs.Theory.{Theory}
use Rattle.circ_theory.specs.Goal.{Goal}
use Rattle.circ_plain_search.specs.Search.{Standing}
use Rattle.circ_attempt.specs.Attempt.{derived_rules}
use Rattle.circ_attempt.specs.Following.{left_of_script}
use Rattle.circ_attempt.specs.Rules.{lemmas_of}
use Rattle.circ_attempt.specs.Search.{of_script}
use Rattle.circ_rewriting_turn.specs.declared.pass_rules.PassRules.{PassRules}

-- The hidden goals of earlier blocks, and the hypotheses that the block has derived, as they are read.
pub record ArePassRules (th : Theory) (earlier hypotheses : List Goal) (of_script : List Bool) (r : PassRules) : Type 0 where
  pub lemmas : r.lemmas ≡ lemmas_of th 0 earlier
  pub own : r.own ≡ derived_rules earlier hypotheses of_script

-- The same where a search stands, with how many goals of the script are left in the block, and how many goals of earlier blocks are read.
pub record ReadAt (th : Theory) (st : Standing) (r : PassRules) : Type 0 where
  pub rules : ArePassRules th st.earlier st.hypotheses (of_script th st) r
  pub script : r.script ≡ left_of_script th st
  pub count : r.count ≡ length st.earlier
