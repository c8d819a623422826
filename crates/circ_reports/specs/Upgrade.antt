-- What `upgrade` does: its outcome, and what it stores.
use Rattle.std.specs.Prelude.{◌≡◌, ◌↔◌, ℕ, List, ◌++◌, map, codes, Option, Some, None}
use Rattle.circ_outer.specs.Shelf.{ShelfState}
use Rattle.circ_theory.specs.Signature.{Signature}
use Rattle.circ_theory.specs.Theory.{Theory}
use Rattle.circ_theory.specs.Goal.{Goal}
use Rattle.circ_proof.specs.Accepted.{Derives, FirstFail}
use Rattle.circ_proof.specs.Proof.{Proof, ProofFor}
use Rattle.circ_proof_text.specs.ProofText.{proof_text}
use Rattle.circ_show.specs.GoalsText.{all_goal_lines}
use Rattle.circ_files.specs.Files.{Held, RefusesFile}
use Rattle.circ_files.specs.ProofFile.{ReadsProof, TakesProof, ProofRefusal, IsProofFault}
use Rattle.circ_files.specs.TheoryFile.{ReadsTheory, TakesTheory, TheoryRefusal, IsTheoryFault}
use Rattle.circ_status.specs.declared.status.Status.{Status}
use Rattle.circ_status.specs.declared.status.Status.TheVariants as status
use Rattle.circ_status.specs.Ending.{Stored, stored_as}
use Rattle.circ_files.specs.Refusals.{proof_places, text_of_refusal}

-- the proof in version 2, and in all else as it is
abbrev pub upgraded : Proof → Proof
upgraded p = record { version = 2; table = p.table; places = p.places; certificates = p.certificates; blocks = p.blocks }

-- what is printed of it: its goals
abbrev pub upgraded_text : Signature → Proof → List ℕ
upgraded_text sig p = codes "upgraded\n" ++ all_goal_lines sig (map (λ b. b.goals) p.blocks)

-- the file that is to be stored: the text of the proof in version 2
abbrev pub upgraded_file : (name : List ℕ) → Proof → Stored
upgraded_file name p = stored_as name (proof_text (upgraded p))

-- The outcome, with its text and what is stored: the theory file refuses the command; or this reads, and the proof file refuses it; or both read, and the
-- proof is given in version 2. It is not checked.
pub data UpgradeOutcome (held : Held) (theory proof name : List ℕ) : Status → (text : List ℕ) → (stored : Option Stored) → Type 0 where
  no_theory : (s : Status) → RefusesFile held 1 theory TheoryRefusal s
      → UpgradeOutcome held theory proof name s (text_of_refusal proof_places s) None
  no_proof : (s : Status) (th : Theory) → ReadsTheory held theory th → RefusesFile held 2 proof (ProofRefusal th) s
      → UpgradeOutcome held theory proof name s (text_of_refusal proof_places s) None
  given_anew : (th : Theory) (p : Proof) → ReadsTheory held theory th → ReadsProof held proof th p
      → UpgradeOutcome held theory proof name status.Ok (upgraded_text th.signature p) (Some (upgraded_file name p))

-- The two files read, and this is what is printed and stored.
pub record IsUpgraded (theory proof name : List ℕ) (text : List ℕ) (stored : Option Stored) (before : ShelfState) : Type 0 where
  pub th : Theory
  pub p : Proof
  pub takes_theory : TakesTheory theory th before
  pub takes_proof : TakesProof proof th p before
  pub text_is : text ≡ upgraded_text th.signature p
  pub stored_is : stored ≡ Some (upgraded_file name p)

-- Why it is refused: the theory file is at fault; or it reads, and the proof file is at fault.
pub data RefusesUpgrade (theory proof : List ℕ) (before after : ShelfState) : Status → Type 0 where
  theory_fault : (s : Status) → IsTheoryFault theory before after s → RefusesUpgrade theory proof before after s
  proof_fault : (s : Status) (th : Theory) → TakesTheory theory th before → IsProofFault proof th before after s → RefusesUpgrade theory proof before after s

-- Two proofs are checked with one end: the same step of both is the first that fails, and they derive the same.
pub record CheckAlike (th : Theory) (p q : Proof) : Type 0 where
  pub fails : (n : ℕ) → FirstFail th p n ↔ FirstFail th q n
  pub derives : (derived : List (List Goal)) → Derives th p derived ↔ Derives th q derived
