-- A proof that is read and checked as its text comes.
use Rattle.std.specs.Prelude.{◌≡◌, ◌≢◌, ◌≤◌, ℕ, List, [], ◌∷◌, ◌++◌, length, map, Some, Result, Ok, Err, Vec}
use Rattle.circ_theory.specs.Theory.{Theory}
use Rattle.circ_theory.specs.Goal.{Goal}
use Rattle.circ_proof.specs.Accepted.{FirstFail}
use Rattle.circ_proof.specs.Parts.{Part, Head, Certificate, Goals, Step}
use Rattle.circ_proof.specs.Proof.{Proof}
use Rattle.circ_check.specs.Deciding.{plain_list}
use Rattle.circ_check.specs.Watching as checker
use Rattle.circ_proof_text.specs.ProofText.{ReadsAsProof}
use Rattle.circ_file.specs.Feeding as reader
use Rattle.circ_file.specs.declared.fault.FileFault.{FileFault}
use Rattle.circ_file.specs.declared.fault.FileFault.TheVariants.{Memory}
use Rattle.circ_reports.specs.Check.{Proves}
use Rattle.circ_files.specs.ProofFile.{ProofRefusal}
use Rattle.circ_reports.specs.declared.incoming.Incoming.{Incoming}
use Rattle.circ_reports.specs.declared.report.Report.{Report}
use Rattle.circ_status.specs.declared.status.Status.{Status}
use Rattle.circ_status.specs.declared.status.Status.TheVariants as status

-- the goals of each block that begins among the parts
abbrev pub goals_among : List Part → List (List Goal)
goals_among [] = []
goals_among (Head table places ∷ xs) = goals_among xs
goals_among (Certificate links ∷ xs) = goals_among xs
goals_among (Goals goals names ∷ xs) = goals ∷ goals_among xs
goals_among (Step step ∷ xs) = goals_among xs

-- The bytes were read without a fault. The parts that were handed out were checked, and their goals are kept.
pub record HasRead (th : Theory) (bytes : List ℕ) (parts : List Part) (inc : Incoming) : Type 0 where
  pub read : reader.Stands th bytes parts inc.reader
  pub checked : checker.Stands th parts inc.checker
  pub goals : map plain_list inc.goals.items ≡ goals_among parts

-- Every part that the bytes show was checked; or the bytes are at fault, whatever comes behind them.
pub data Follows (th : Theory) (bytes : List ℕ) (inc : Incoming) : Type 0 where
  all_checked : (parts : List Part) → HasRead th bytes parts inc → reader.waiting_in inc.reader ≡ [] → Follows th bytes inc
  at_fault : (fault : FileFault) → reader.fault_of inc.reader ≡ Some fault → fault ≢ Memory
      → ((later : List ℕ) → reader.FaultIs th (bytes ++ later) fault)
      → Follows th bytes inc

-- These bytes came.
pub record HasTaken (th : Theory) (bytes : List ℕ) (inc : Incoming) : Type 0 where
  pub theory : inc.theory.now ≡ th
  pub sound : reader.IsSound inc.reader
  pub lines : reader.whole_lines_in inc.reader ≤ length bytes
  pub follows : Follows th bytes inc

-- Why bytes are refused: they are at fault, or they read as a proof, of which this step is the first that fails; or memory ran out.
abbrev pub RefusesBytes : Theory → List ℕ → Status → Type 0
RefusesBytes th bytes (status.Unreadable f place c) = (f ≡ 2) × ProofRefusal th place c bytes
RefusesBytes th bytes (status.Refused n) = (p : Proof) × ReadsAsProof th bytes p × FirstFail th p n
RefusesBytes th bytes status.Memory = Unit {0}
RefusesBytes th bytes _ = ⊥

-- Why bytes read as no proof: they are at fault; or memory ran out.
abbrev pub AreAtFault : Theory → List ℕ → Status → Type 0
AreAtFault th bytes (status.Unreadable f place c) = (f ≡ 2) × ProofRefusal th place c bytes
AreAtFault th bytes status.Memory = Unit {0}
AreAtFault th bytes _ = ⊥

-- The bytes read as a proof that is accepted, with this text; or they are refused.
abbrev pub Judges : {A : Type 0} → Report → Theory → List ℕ → Result (Vec ℕ A) Status → Type 0
Judges report th bytes (Ok v) = (p : Proof) × ReadsAsProof th bytes p × Proves report th p v.items
Judges report th bytes (Err s) = RefusesBytes th bytes s
