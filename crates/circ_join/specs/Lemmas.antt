-- What an index keeps of lemmas: their left sides.
use Rattle.std.specs.Prelude.{◌≡◌, ◌<◌, ◌^◌, List, length, map}
use Rattle.std.specs.List.{AllByRecursion}
use Rattle.circ_term.specs.Tree.{Tree}
use Rattle.circ_rewrite.specs.Due.{IsRewriteRule}
use Rattle.circ_rewrite.specs.declared.parts.Rule.{Rule}

-- a rule's left side, as an index has it
abbrev pub left_of : Rule → Tree
left_of r = r.left

-- The index is of the rules' left sides; each rule rewrites, and they are few.
pub record AreLemmas (rules : List Rule) (index : List Tree) : Type 0 where
  pub lefts : index ≡ map left_of rules
  pub rewrite : AllByRecursion IsRewriteRule rules
  pub few : length rules < 2 ^ 32
