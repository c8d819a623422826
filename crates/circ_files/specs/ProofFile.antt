-- Files that are proofs in a theory.
use Rattle.std.specs.Prelude.{◌≡◌, ℕ, List, true}
use Rattle.circ_outer.specs.Shelf.{ShelfState}
use Rattle.circ_theory.specs.Theory.{Theory}
use Rattle.circ_grammar.specs.FirstBad.{Line_fault, Limit_fault}
use Rattle.circ_proof.specs.Proof.{Proof}
use Rattle.circ_proof_text.specs.ProofText.{ReadsAsProof, FirstCause}
use Rattle.circ_read.specs.declared.cause.Cause.TheVariants.{Line, LineLimit}
use Rattle.circ_files.specs.Files.{Held, IsOnly, AreBytes, Holds, Refusal, IsFileFault}
use Rattle.circ_status.specs.declared.status.Status.{Status}

-- The named file reads as p.
abbrev pub ReadsProof : Held → (name : List ℕ) → Theory → Proof → Type 0
ReadsProof held name th p = Holds held name (λ bytes. ReadsAsProof th bytes p)

-- Bytes read as p. Where the shelf tells, the named file holds them, and reads as this proof and no other.
pub record TakesProof (name : List ℕ) (th : Theory) (p : Proof) (before : ShelfState) : Type 0 where
  pub bytes : AreBytes (λ bytes. ReadsAsProof th bytes p)
  pub reads : before.tells ≡ true → IsOnly p (ReadsProof before.holds name th)

-- bytes are refused for their first bad line, which is not in order or passes a limit
abbrev pub ProofRefusal : Theory → Refusal
ProofRefusal th place Line bytes = FirstCause th bytes (Line_fault place)
ProofRefusal th place LineLimit bytes = FirstCause th bytes (Limit_fault place)
ProofRefusal th place _ bytes = ⊥

-- The named file, which is file 2, gives no proof.
abbrev pub IsProofFault : (name : List ℕ) → Theory → (before after : ShelfState) → Status → Type 0
IsProofFault name th = IsFileFault 2 name (ProofRefusal th)
