-- That proofs read in one way, and come to one thing, as the laws of the crates below say.
use Rattle.std.proofs.Common.{◌≡◌, ℕ, List}
use Rattle.circ_theory.specs.Theory.{Theory}
use Rattle.circ_theory.specs.WellFormed.{IsWellFormed}
use Rattle.circ_theory.specs.Goal.{Goal}
use Rattle.circ_grammar.specs.FirstBad.{LineFault, Line_fault, Limit_fault}
use Rattle.circ_proof.specs.Proof.{Proof}
use Rattle.circ_proof.specs.Accepted.{Accepted, Derives, FirstFail}
use Rattle.circ_proof_text.specs.ProofText.{ReadsAsProof, FirstCause}
use Rattle.circ_read.specs.declared.cause.Cause.{Cause}
use Rattle.circ_read.specs.declared.cause.Cause.TheVariants as cause
use Rattle.circ_files.specs.Like.{same_cause}
use Rattle.circ_files.specs.ProofFile.{ProofRefusal}
use Rattle.circ_files.proofs.FileFaults.{IsOneWay}

pub record ProofsOnce : Type 0 where
  pub one_proof : (th : Theory) → IsWellFormed th → (bytes : List ℕ) (p q : Proof) → ReadsAsProof th bytes p → ReadsAsProof th bytes q → p ≡ q
  pub either : (th : Theory) → IsWellFormed th → (bytes : List ℕ) (p : Proof) (f : LineFault) → ReadsAsProof th bytes p → FirstCause th bytes f → ⊥
  pub fault : (th : Theory) (bytes : List ℕ) (f g : LineFault) → FirstCause th bytes f → FirstCause th bytes g → f ≡ g
  pub not_both : (th : Theory) (p : Proof) (n : ℕ) → Accepted th p → FirstFail th p n → ⊥
  pub one_failure : (th : Theory) (p : Proof) (n m : ℕ) → FirstFail th p n → FirstFail th p m → n ≡ m
  pub one_relation : (th : Theory) (p : Proof) (a b : List (List Goal)) → Derives th p a → Derives th p b → a ≡ b

pub proofs_come_once : ((th : Theory) (bytes : List ℕ) (p q : Proof) → IsWellFormed th → ReadsAsProof th bytes p → ReadsAsProof th bytes q → p ≡ q)
    → ((th : Theory) (bytes : List ℕ) (p : Proof) (f : LineFault) → IsWellFormed th → ReadsAsProof th bytes p → FirstCause th bytes f → ⊥)
    → ((th : Theory) (bytes : List ℕ) (f g : LineFault) → FirstCause th bytes f → FirstCause th bytes g → f ≡ g)
    → ((th : Theory) (p : Proof) (n : ℕ) → Accepted th p → FirstFail th p n → ⊥)
    → ((th : Theory) (p : Proof) (n m : ℕ) → FirstFail th p n → FirstFail th p m → n ≡ m)
    → ((th : Theory) (p : Proof) (a b : List (List Goal)) → Derives th p a → Derives th p b → a ≡ b) → ProofsOnce
proofs_come_once o e c b f r = record {
  one_proof = λ th ok bytes p q x y. o th bytes p q ok x y;
  either = λ th ok bytes p x a y. e th bytes p x ok a y;
  fault = c;
  not_both = b;
  one_failure = f;
  one_relation = r;
}

-- bytes that read as a proof are not refused
pub read_or_refused : ProofsOnce → (th : Theory) → IsWellFormed th → (p : Proof) (place : ℕ) (c : Cause) (bytes : List ℕ) → ReadsAsProof th bytes p
    → ProofRefusal th place c bytes → ⊥
read_or_refused o th ok p place cause.Line bytes r f = o.either th ok bytes p (Line_fault place) r f
read_or_refused o th ok p place cause.LineLimit bytes r f = o.either th ok bytes p (Limit_fault place) r f
read_or_refused o th ok p place c bytes r f = absurd f

pub proofs_once : ProofsOnce → (th : Theory) → IsOneWay (ProofRefusal th)
proofs_once o th p q cause.Line cause.Line bytes a b =
    let e : Line_fault p ≡ Line_fault q = o.fault th bytes (Line_fault p) (Line_fault q) a b in (cc, same_cause cause.Line)
proofs_once o th p q cause.LineLimit cause.LineLimit bytes a b =
    let e : Limit_fault p ≡ Limit_fault q = o.fault th bytes (Limit_fault p) (Limit_fault q) a b in (cc, same_cause cause.LineLimit)
proofs_once o th p q cause.Line cause.LineLimit bytes a b =
    absurd (let e : Line_fault p ≡ Limit_fault q = o.fault th bytes (Line_fault p) (Limit_fault q) a b in cc)
proofs_once o th p q cause.LineLimit cause.Line bytes a b =
    absurd (let e : Limit_fault p ≡ Line_fault q = o.fault th bytes (Limit_fault p) (Line_fault q) a b in cc)
proofs_once o th p q cause.Line d bytes a b = absurd b
proofs_once o th p q cause.LineLimit d bytes a b = absurd b
proofs_once o th p q c d bytes a b = absurd a
