-- What a checker needs of a part that comes next.
use Rattle.std.specs.Prelude.{◌<◌, ◌+◌, ◌^◌, ◌++◌, length}
use Rattle.std.specs.List.{AllByRecursion}
use Rattle.circ_theory.specs.Signature.{IsWellSorted}
use Rattle.circ_theory.specs.Theory.{Theory}
use Rattle.circ_special.specs.Special.{IsSet}
use Rattle.circ_proof.specs.Goals.{AreSortedGoals}
use Rattle.circ_proof.specs.Proof.{AreLinksFor, IsStepFor}
use Rattle.circ_proof.specs.Parts.{Part, Head, Certificate, Goals, Step}
use Rattle.circ_check.specs.Checking.{Checking}
use Rattle.circ_check.specs.Naming.{AreNamedGoals}

-- the count can be a number of 64 bits
abbrev pub HasRoom : Checking → Type 0
HasRoom c = c.tally.count + 1 < 2 ^ 64

-- A certificate is due, and its terms are in the table. The hypotheses and the goals of a block are well-sorted, and the goals are those of their
-- names. A step's terms are in the table.
abbrev pub IsPartFor : Theory → Checking → Part → Type 0
IsPartFor th c (Head table places) = Unit {0}
IsPartFor th c (Certificate links) = HasRoom c × (0 < length c.due) × AreLinksFor (length c.table) links
IsPartFor th c (Goals goals names) = AreSortedGoals th (c.before ++ c.own) × AreSortedGoals th goals × AreNamedGoals c.table goals names
IsPartFor th c (Step step) = HasRoom c × IsStepFor (length c.table) step

pub record IsPartReady (th : Theory) (c : Checking) (x : Part) : Type 0 where
  pub sorted : AllByRecursion (IsWellSorted th.signature) c.table
  pub set : IsSet th c.places
  pub part : IsPartFor th c x
