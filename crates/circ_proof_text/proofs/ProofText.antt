-- Bytes read as a proof exactly where they are a text of the grammar whose lines pass all checks and no limit.
use Rattle.std.specs.Prelude.{◌≡◌, ℕ, ◌++◌, List, [], ◌∷◌, refl}
use Rattle.std.proofs.Common.{sym, ◌∙◌, ap, subst}
use Rattle.circ_theory.specs.Theory.{Theory}
use Rattle.circ_theory.specs.WellFormed.{IsWellFormed}
use Rattle.circ_proof.specs.Proof.{Proof, ProofFor}
use Rattle.circ_line.specs.Line.{Line}
use Rattle.circ_grammar.specs.Grammar.{NumberedProof, proof_lines}
use Rattle.circ_grammar.specs.FirstBad.{file_text, AllInRange, AllPass, NoLimit, IsTextOf, LineFault}
use Rattle.circ_grammar.proofs.OneAnswer as one
use Rattle.circ_grammar.proofs.NothingLeftOut.{some_answer}
use Rattle.circ_proof_text.specs.Checks.{Seen, nothing, after, after_all}
use Rattle.circ_proof_text.specs.ProofText.{numbers_of, proof_text, line_tests, ReadsAsProof, FirstCause}
use Rattle.circ_proof_text.proofs.Fine.{AllFine}
use Rattle.circ_proof_text.proofs.Numbers.{fine_fits, fits_fine, one_proof}

pub after_all-append : (th : Theory) (c : Seen) (a b : List Line) → after_all th c (a ++ b) ≡ after_all th (after_all th c a) b
after_all-append th c [] b = refl
after_all-append th c (l ∷ a) b = after_all-append th (after th c l) a b

-- what lines are that are fine, by the tests
pub record AreGoodLines (th : Theory) (before ls : List Line) : Type 0 where
  pub fit : AllInRange ls
  pub pass : AllPass (line_tests th) before ls
  pub within : NoLimit (line_tests th) before ls

good_lines : (th : Theory) (before ls : List Line) → AllFine th (after_all th nothing before) ls → AreGoodLines th before ls
good_lines th before [] h = record { fit = tt; pass = tt; within = tt }
good_lines th before (l ∷ ls) h =
    let P : Seen → Type 0 = λ c. AllFine th c ls in
    let q = good_lines th (before ++ l ∷ []) ls (subst P (sym (after_all-append th nothing before (l ∷ []))) h.3) in
    record { fit = (h.0, q.fit); pass = (h.1, q.pass); within = (h.2, q.within) }

pub fine_lines : (th : Theory) (before ls : List Line) → AllInRange ls → AllPass (line_tests th) before ls → NoLimit (line_tests th) before ls
    → AllFine th (after_all th nothing before) ls
fine_lines th before [] f h k = tt
fine_lines th before (l ∷ ls) f h k =
    let P : Seen → Type 0 = λ c. AllFine th c ls in
    (f.0, h.0, k.0, subst P (after_all-append th nothing before (l ∷ [])) (fine_lines th (before ++ l ∷ []) ls f.1 h.1 k.1))

pub reads_text : (th : Theory) (bytes : List ℕ) (p : Proof) → IsWellFormed th → ReadsAsProof th bytes p → IsTextOf (line_tests th) (numbers_of p) bytes
reads_text th bytes p w h =
    let f = fits_fine th p w h.proof_for in
    let a = good_lines th [] (proof_lines (numbers_of p)) f.1 in
    record { parts = f.0; fit = a.fit; text = h.text; pass = a.pass; within = a.within }

pub text_reads : (th : Theory) (bytes : List ℕ) (q : NumberedProof) → IsTextOf (line_tests th) q bytes → (p : Proof) × ReadsAsProof th bytes p × (numbers_of p ≡ q)
text_reads th bytes q h =
    let f : (p : Proof) × ProofFor th p × (numbers_of p ≡ q) = fine_fits th q h.parts (fine_lines th [] (proof_lines q) h.fit h.pass h.within) in
    (f.0, record { proof_for = f.1; text = h.text ∙ ap (λ x. file_text (proof_lines x)) (sym f.2) }, f.2)

pub one_reading : (th : Theory) (bytes : List ℕ) (p q : Proof) → IsWellFormed th → ReadsAsProof th bytes p → ReadsAsProof th bytes q → p ≡ q
one_reading th bytes p q w h k =
    one_proof th p q h.proof_for k.proof_for
    (one.one_proof (line_tests th) bytes (numbers_of p) (numbers_of q) (reads_text th bytes p w h) (reads_text th bytes q w k))

pub reads_back : (th : Theory) (p : Proof) → ProofFor th p → ReadsAsProof th (proof_text p) p
reads_back th p f = record { proof_for = f; text = refl }

pub not_both : (th : Theory) (bytes : List ℕ) (p : Proof) (fault : LineFault) → IsWellFormed th → ReadsAsProof th bytes p → FirstCause th bytes fault → ⊥
not_both th bytes p fault w h f = one.no_fault (line_tests th) bytes (numbers_of p) (reads_text th bytes p w h) fault f

pub some_cause : (th : Theory) (bytes : List ℕ) → ((p : Proof) → ReadsAsProof th bytes p → ⊥) → ((fault : LineFault) → FirstCause th bytes fault → ⊥) → ⊥
some_cause th bytes none no_fault = some_answer (line_tests th) bytes (λ q t. let r = text_reads th bytes q t in none r.0 r.1) no_fault

pub one_cause : (th : Theory) (bytes : List ℕ) (f g : LineFault) → FirstCause th bytes f → FirstCause th bytes g → f ≡ g
one_cause th bytes f g a b = one.one_fault (line_tests th) bytes f g a b
