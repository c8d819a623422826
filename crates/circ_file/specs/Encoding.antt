-- Which proofs can be written, whatever their theory is, and what it is to read one back.
use Rattle.std.specs.Prelude.{◌≡◌, ◌≢◌, ◌≤◌, ℕ, [], length, Result, Ok, Err}
use Rattle.std.specs.List.{AllByRecursion}
use Rattle.circ_term.specs.Limits.{IsWithinLimits}
use Rattle.circ_proof.specs.Table.{term_limit}
use Rattle.circ_proof.specs.PlainProof.{plain_proof}
use Rattle.circ_proof.specs.Proof.{Block, Proof, AreEntries, AreLinksFor, IsStepFor, IsEnded, steps_in, step_limit}
use Rattle.circ_proof.specs.declared.proof.Proof.{Proof as CodeProof}
use Rattle.circ_file.specs.declared.fault.FileFault.{FileFault}
use Rattle.circ_file.specs.declared.fault.FileFault.TheVariants.{Memory}

-- the steps name terms of a table of this length, and the last and no other is Done
pub record HasSteps (count : ℕ) (b : Block) : Type 0 where
  pub steps : AllByRecursion (IsStepFor count) b.steps
  pub ended : IsEnded b.steps

-- What `ProofFor` asks of the proof by itself.
pub record IsProof (p : Proof) : Type 0 where
  pub within : AllByRecursion IsWithinLimits p.table
  pub entries : AreEntries [] p.table
  pub short_table : length p.table ≤ term_limit
  pub certificates : AllByRecursion (AreLinksFor (length p.table)) p.certificates
  pub some_block : p.blocks ≢ []
  pub blocks : AllByRecursion (HasSteps (length p.table)) p.blocks
  pub few_steps : steps_in p.blocks ≤ step_limit

-- the answer is the proof, or memory ran out
abbrev pub GivesBack : Proof → Result CodeProof FileFault → Type 0
GivesBack p (Ok q) = plain_proof q ≡ p
GivesBack p (Err e) = e ≡ Memory
