-- What contracts see of hypotheses as rules.
use Rattle.std.specs.Prelude.{◌≡◌, ◌<◌, ◌^◌, List, length, map}
use Rattle.circ_term.specs.Tree.{Tree}
use Rattle.circ_theory.specs.Theory.{sides}
use Rattle.circ_theory.specs.Rewriting.{to_side}
use Rattle.circ_attempt.specs.Rules.{HypothesisRule, old_side}
use Rattle.circ_own_rules.specs.declared.rule.HypothesisRule.{HypothesisRule as TheRule}

abbrev pub plain_rule : TheRule → HypothesisRule
plain_rule r = record { number = r.number; way = r.way; hypothesis = r.hypothesis; ordered = r.ordered }

abbrev pub plain_rules : List TheRule → List HypothesisRule
plain_rules rs = map plain_rule rs

-- the side that takes the place of the other
abbrev pub new_side : HypothesisRule → Tree
new_side r = to_side r.way (sides r.hypothesis)

-- The index is of the sides that the rules replace, and they are few.
pub record AreRules (rules : List HypothesisRule) (index : List Tree) : Type 0 where
  pub sides : index ≡ map old_side rules
  pub few : length rules < 2 ^ 32
