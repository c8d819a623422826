-- What `check` and `relation` do: their outcome, what they answer, and what they print.
use Rattle.std.specs.Prelude.{◌≡◌, ℕ, List, ◌++◌, map, codes}
use Rattle.std.specs.List.{Contains}
use Rattle.circ_outer.specs.Shelf.{ShelfState}
use Rattle.circ_theory.specs.Signature.{Signature}
use Rattle.circ_theory.specs.Theory.{Theory}
use Rattle.circ_theory.specs.Experiment.{Behaves}
use Rattle.circ_theory.specs.Goal.{Goal}
use Rattle.circ_proof.specs.Proof.{Block, Proof}
use Rattle.circ_proof.specs.Accepted.{Derives, FirstFail}
use Rattle.circ_show.specs.GoalsText.{all_goal_lines, relation_lines}
use Rattle.circ_files.specs.Files.{Held, RefusesFile}
use Rattle.circ_files.specs.ProofFile.{ReadsProof, TakesProof, ProofRefusal, IsProofFault}
use Rattle.circ_files.specs.Refusals.{proof_places, text_of_refusal}
use Rattle.circ_status.specs.Texts.{refused_text}
use Rattle.circ_files.specs.TheoryFile.{ReadsTheory, TakesTheory, TheoryRefusal, IsTheoryFault}
use Rattle.circ_reports.specs.declared.report.Report.{Report}
use Rattle.circ_reports.specs.declared.report.Report.TheVariants.{Goals, Relation}
use Rattle.circ_status.specs.declared.status.Status.{Status}
use Rattle.circ_status.specs.declared.status.Status.TheVariants as status

-- the text of an accepted proof: the goals of its blocks
abbrev pub accepted_text : Signature → Proof → List ℕ
accepted_text sig p = codes "accepted\n" ++ all_goal_lines sig (map (λ b. b.goals) p.blocks)

-- what is printed of an accepted proof: its goals; or the relation too, that is the goals that each block derived
abbrev pub report_text : Report → Signature → Proof → (derived : List (List Goal)) → List ℕ
report_text Goals sig p derived = accepted_text sig p
report_text Relation sig p derived = accepted_text sig p ++ relation_lines sig 1 derived

-- The outcome of `check` or `relation`, with its text: the theory file refuses the command; or this reads, and the proof file refuses it; or both read, and
-- step n is the first that is no instance of its rule; or both read, and every step is one.
pub data CheckOutcome (held : Held) (report : Report) (theory proof : List ℕ) : Status → (text : List ℕ) → Type 0 where
  no_theory : (s : Status) → RefusesFile held 1 theory TheoryRefusal s
      → CheckOutcome held report theory proof s (text_of_refusal proof_places s)
  no_proof : (s : Status) (th : Theory) → ReadsTheory held theory th → RefusesFile held 2 proof (ProofRefusal th) s
      → CheckOutcome held report theory proof s (text_of_refusal proof_places s)
  refused : (n : ℕ) (th : Theory) (p : Proof) → ReadsTheory held theory th → ReadsProof held proof th p → FirstFail th p n
      → CheckOutcome held report theory proof (status.Refused n) (refused_text n)
  accepted : (th : Theory) (p : Proof) (derived : List (List Goal)) → ReadsTheory held theory th → ReadsProof held proof th p → Derives th p derived
      → CheckOutcome held report theory proof status.Ok (report_text report th.signature p derived)

-- Every certificate and step is an instance of its rule, every goal behaves, and so does every goal that a block derived. The text reports this.
pub record Proves (report : Report) (th : Theory) (p : Proof) (text : List ℕ) : Type 0 where
  pub derived : List (List Goal)
  pub accepted : Derives th p derived
  pub behave : (b : Block) → Contains p.blocks b → (g : Goal) → Contains b.goals g → Behaves th g
  pub derived_behave : (ds : List Goal) → Contains derived ds → (g : Goal) → Contains ds g → Behaves th g
  pub text_is : text ≡ report_text report th.signature p derived

-- The two files read, and the proof is accepted, with this text.
pub record IsAccepted (report : Report) (theory proof : List ℕ) (text : List ℕ) (before : ShelfState) : Type 0 where
  pub th : Theory
  pub p : Proof
  pub proves : Proves report th p text
  pub takes_theory : TakesTheory theory th before
  pub takes_proof : TakesProof proof th p before

-- The two files read, and step n is the first that is no instance of its rule.
pub record StepFails (theory proof : List ℕ) (n : ℕ) (before : ShelfState) : Type 0 where
  pub th : Theory
  pub p : Proof
  pub fails : FirstFail th p n
  pub takes_theory : TakesTheory theory th before
  pub takes_proof : TakesProof proof th p before

-- Why it is refused: the theory file is at fault; or it reads, and the proof file is at fault; or both read, and a step fails.
pub data RefusesCheck (theory proof : List ℕ) (before after : ShelfState) : Status → Type 0 where
  theory_fault : (s : Status) → IsTheoryFault theory before after s → RefusesCheck theory proof before after s
  proof_fault : (s : Status) (th : Theory) → TakesTheory theory th before → IsProofFault proof th before after s → RefusesCheck theory proof before after s
  step_fails : (n : ℕ) → StepFails theory proof n before → RefusesCheck theory proof before after (status.Refused n)
