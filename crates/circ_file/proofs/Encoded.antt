-- Proofs that are written and read.
use Rattle.std.specs.Prelude.{List, [], ◌∷◌, length, Result, Ok, Err, refl}
use Rattle.std.specs.List.{AllByRecursion}
use Rattle.circ_term.specs.Tree.{Tree}
use Rattle.circ_theory.specs.Theory.{Theory}
use Rattle.circ_theory.specs.WellFormed.{IsWellFormed}
use Rattle.circ_proof.specs.PlainProof.{plain_proof}
use Rattle.circ_proof.specs.Proof.{Block, Proof, IsBlockFor, ProofFor}
use Rattle.circ_proof.specs.declared.proof.Proof.{Proof as CodeProof}
use Rattle.circ_grammar.specs.FirstBad.{Line_fault, Limit_fault}
use Rattle.circ_proof_text.specs.ProofText.{proof_text}
use Rattle.circ_proof_text.proofs.ProofText.{one_reading, reads_back, not_both}
use Rattle.circ_file.specs.declared.fault.FileFault.{FileFault}
use Rattle.circ_file.specs.declared.fault.FileFault.TheVariants.{Line, Limit, Memory}
use Rattle.circ_file.specs.Decoding.{Decodes}
use Rattle.circ_file.specs.Encoding.{HasSteps, IsProof, GivesBack}

steps_of : (th : Theory) (table : List Tree) (bs : List Block) → AllByRecursion (IsBlockFor th table) bs → AllByRecursion (HasSteps (length table)) bs
steps_of th table [] h = tt
steps_of th table (b ∷ bs) h = (record { steps = h.0.steps; ended = h.0.ended }, steps_of th table bs h.1)

pub can_be_written : (th : Theory) (p : Proof) → ProofFor th p → IsProof p
can_be_written th p f = record {
  within = f.within;
  entries = f.entries;
  short_table = f.short_table;
  certificates = f.certificates;
  some_block = f.some_block;
  blocks = steps_of th p.table p.blocks f.blocks;
  few_steps = f.few_steps;
}

pub given_back : (th : Theory) (p : Proof) (result : Result CodeProof FileFault) → IsWellFormed th → ProofFor th p → Decodes th (proof_text p) result
    → GivesBack p result
given_back th p (Ok q) w f d = one_reading th (proof_text p) (plain_proof q) p w d (reads_back th p f)
given_back th p (Err (Line n)) w f d = absurd (not_both th (proof_text p) p (Line_fault n) w (reads_back th p f) d)
given_back th p (Err (Limit n)) w f d = absurd (not_both th (proof_text p) p (Limit_fault n) w (reads_back th p f) d)
given_back th p (Err Memory) w f d = refl
