-- The text of a proof (`ProofText`), which bytes read as it, and where other bytes are first at fault (`FirstCause`).
use Rattle.std.specs.Prelude.{◌≡◌, ℕ, List, [], ◌∷◌, map}
use Rattle.circ_theory.specs.Theory.{Theory}
use Rattle.circ_special.specs.declared.place.Place.{Place}
use Rattle.circ_proof.specs.Rules.{ProofStep, Simplify, Reduce, Derive, Cases, Done}
use Rattle.circ_proof.specs.Proof.{Block, Proof, ProofFor}
use Rattle.circ_grammar.specs.Grammar.{NumberedStep, Simplify_step, Reduce_step, Derive_step, Cases_step, NumberedBlock, NumberedProof, proof_lines}
use Rattle.circ_grammar.specs.FirstBad.{LineTests, file_text, LineFault, IsFirstFault}
use Rattle.circ_proof_text.specs.TableText.{entries_of}
use Rattle.circ_proof_text.specs.Checks.{nothing, after_all, passes_at, limit_at}

-- the steps but the Done that ends them, which a block's text has by itself
abbrev pub without_done : List (ProofStep ℕ) → List NumberedStep
without_done [] = []
without_done (Simplify chain ∷ ss) = Simplify_step chain ∷ without_done ss
without_done (Reduce why ∷ ss) = Reduce_step why ∷ without_done ss
without_done (Derive ∷ ss) = Derive_step ∷ without_done ss
without_done (Cases term ∷ ss) = Cases_step term ∷ without_done ss
without_done (Done ∷ ss) = without_done ss

abbrev pub block_numbers : Block → NumberedBlock
block_numbers b = record { goals = b.names; steps = without_done b.steps }

abbrev pub place_numbers : Place → ℕ × ℕ
place_numbers g = (g.op, g.arg)

-- the proof as its lines write it
abbrev pub numbers_of : Proof → NumberedProof
numbers_of p = record {
  table = record { version = p.version; lines = entries_of [] p.table };
  places = map place_numbers p.places;
  certificates = p.certificates;
  blocks = map block_numbers p.blocks;
}

-- the text of a proof: its lines, each with a line feed
abbrev pub proof_text : Proof → List ℕ
proof_text p = file_text (proof_lines (numbers_of p))

-- the checks and the limits of lines, by what the lines before them have given
abbrev pub line_tests : Theory → LineTests
line_tests th = record {
  passes = λ before l. passes_at th (after_all th nothing before) l;
  limit = λ before l. limit_at th (after_all th nothing before) l;
}

-- The proof fits the theory, and the bytes are its text.
pub record ReadsAsProof (th : Theory) (bytes : List ℕ) (p : Proof) : Type 0 where
  pub proof_for : ProofFor th p
  pub text : bytes ≡ proof_text p

-- the fault of bytes that read as no proof: their first line that is bad, or past a limit
abbrev pub FirstCause : Theory → List ℕ → LineFault → Type 0
FirstCause th bytes fault = IsFirstFault (line_tests th) bytes fault
