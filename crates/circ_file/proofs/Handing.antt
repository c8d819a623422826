-- Parts that are handed out, and the end of the text.
use Rattle.std.specs.Prelude.{◌≡◌, ℕ, ◌+◌, List, [], ◌∷◌, ◌++◌, Option, Some, None, Ok, Err, refl}
use Rattle.std.proofs.Common.{sym, ◌∙◌, ap, subst, append_assoc}
use Rattle.circ_theory.specs.Theory.{Theory}
use Rattle.circ_theory.specs.WellFormed.{IsWellFormed}
use Rattle.circ_proof.specs.Proof.{Proof}
use Rattle.circ_proof.specs.Fitting.{Fit}
use Rattle.circ_grammar.specs.Now.{Ended}
use Rattle.circ_proof_text.specs.Parts.{Part, parts_of}
use Rattle.circ_proof_text.specs.ProofText.{ReadsAsProof}
use Rattle.circ_proof_text.specs.Reading.{Reading, StandsFor}
use Rattle.circ_proof_text.proofs.Standing.{hands, ends, ends_badly}
use Rattle.circ_proof_text.proofs.Handed.{handed_fit, handed_first, handed_counted}
use Rattle.circ_file.specs.View.{now_of, queue_of, plain_part, Pops}
use Rattle.circ_file.specs.Feeding.{reading_of, Stands, Hands, EndsText, handed_with, waiting_in, AreShown}
use Rattle.circ_file.specs.declared.fault.FileFault.TheVariants.{Line}
use Rattle.circ_table.specs.declared.part.Part.{Part as CodePart}
use Rattle.circ_file.specs.Adding.{terms_in}
use Rattle.circ_file.specs.Lines.{seen_of}
use Rattle.circ_file.specs.declared.machine.Machine.{Machine}
use Rattle.circ_file.specs.declared.reader.FileReader.{FileReader}
use Rattle.circ_file.proofs.Standing.{reading_with}
use Rattle.circ_file.proofs.Taking.{seen_with, counted_in}

pub whole_text : (th : Theory) (x : List ℕ) (handed : List Part) (f : FileReader) → Stands th x handed f → f.rest.items ≡ [] → now_of f.reader.machine ≡ Ended
    → EndsText (Ok tt) th x handed f
whole_text th x handed f s r e = ends th x handed (reading_of s.wanted f) s.stands r e

pub broken_text : (th : Theory) (x : List ℕ) (handed : List Part) (f : FileReader) → Stands th x handed f
    → (f.rest.items ≡ [] → now_of f.reader.machine ≡ Ended → ⊥) → EndsText (Err (Line (f.lines + 1))) th x handed f
broken_text th x handed f s open_yet = (ends_badly th x handed (reading_of s.wanted f) s.stands open_yet, λ e. absurd (cc))

pub next_handed : (th : Theory) (x : List ℕ) (handed : List Part) (f g : FileReader) (o : Option CodePart) → (s : Stands th x handed f)
    → Pops o (queue_of f.reader.machine) (queue_of g.reader.machine) → reading_of s.wanted g ≡ record (reading_of s.wanted f) { waiting = queue_of g.reader.machine }
    → g.reader.theory.now ≡ f.reader.theory.now → g.fault ≡ f.fault → Hands o th x handed g
next_handed th x handed f g None s p same t e =
    let k : Reading = reading_of s.wanted f in
    let S : Reading → Type 0 = λ y. StandsFor th x handed y in
    let W : List Part → Type 0 = λ w. StandsFor th x handed (record k { waiting = w }) in
    (p.1, record { theory = t ∙ s.theory; wanted = s.wanted; stands = subst S (sym same) (subst W (p.0 ∙ sym p.1) s.stands); fault = e ∙ s.fault })
next_handed th x handed f g (Some part) s p same t e =
    let k : Reading = reading_of s.wanted f in
    let S : Reading → Type 0 = λ y. StandsFor th x (handed ++ plain_part part ∷ []) y in
    record {
      theory = t ∙ s.theory;
      wanted = s.wanted;
      stands = subst S (sym same) (hands th x handed k (plain_part part) (queue_of g.reader.machine) p s.stands);
      fault = e ∙ s.fault;
    }

abbrev pub with_machine : FileReader → Machine → FileReader
with_machine f m = record f { reader = record f.reader { machine = m } }

-- the machine's next part is handed out
pub pop_handed : (th : Theory) (x : List ℕ) (handed : List Part) (f : FileReader) (m : Machine) (o : Option CodePart) → Stands th x handed f
    → Pops o (queue_of f.reader.machine) (queue_of m) → now_of m ≡ now_of f.reader.machine → m.places ≡ f.reader.machine.places
    → Hands o th x handed (with_machine f m)
pop_handed th x handed f m o s p n g =
    let new : FileReader = with_machine f m in
    let same = ap (λ n. reading_with f.lines f.rest.items n (seen_of s.wanted new.reader) (queue_of m)) n
    ∙ ap (λ ps. reading_with f.lines f.rest.items (now_of f.reader.machine)
    (seen_with (counted_in (seen_of s.wanted f.reader)) (terms_in f.reader.table) ps.items s.wanted) (queue_of m)) g in
    next_handed th x handed f new o s p same refl refl

-- The parts handed out fit, and are the first parts of each proof whose text goes on from the bytes.
pub hands_fit : (th : Theory) (x : List ℕ) (handed : List Part) (o : Option CodePart) (g : FileReader) → Hands o th x handed g → Fit th (handed_with handed o)
hands_fit th x handed None g h = handed_fit th x handed (reading_of h.1.wanted g) h.1.stands
hands_fit th x handed (Some part) g h = handed_fit th x (handed ++ plain_part part ∷ []) (reading_of h.wanted g) h.stands

stood_first : (th : Theory) (x later : List ℕ) (handed : List Part) (g : FileReader) (p : Proof) → IsWellFormed th → Stands th x handed g
    → ReadsAsProof th (x ++ later) p → (xs : List Part) × (parts_of p ≡ handed ++ xs)
stood_first th x later handed g p w s r =
    let f = handed_first th x later handed (reading_of s.wanted g) p w s.stands r in
    (waiting_in g ++ f.0, f.1 ∙ append_assoc handed (waiting_in g) f.0)

pub hands_first : (th : Theory) (x later : List ℕ) (handed : List Part) (o : Option CodePart) (g : FileReader) (p : Proof) → IsWellFormed th
    → Hands o th x handed g → ReadsAsProof th (x ++ later) p → (xs : List Part) × (parts_of p ≡ handed_with handed o ++ xs)
hands_first th x later handed None g p w h r = stood_first th x later handed g p w h.1 r
hands_first th x later handed (Some part) g p w h r = stood_first th x later (handed ++ plain_part part ∷ []) g p w h r

-- They are those that the lines show, up to the parts that wait.
pub hands_shown : (th : Theory) (x later : List ℕ) (handed : List Part) (o : Option CodePart) (g : FileReader) (p : Proof) → IsWellFormed th
    → Hands o th x handed g → ReadsAsProof th (x ++ later) p → AreShown p g.lines handed o
hands_shown th x later handed None g p w h r = record {
  rest = waiting_in g;
  shown = sym (handed_counted th x later handed (reading_of h.1.wanted g) p w h.1.stands r);
  all = λ e. h.0;
}
hands_shown th x later handed (Some part) g p w h r = record {
  rest = waiting_in g;
  shown = sym (handed_counted th x later (handed ++ plain_part part ∷ []) (reading_of h.wanted g) p w h.stands r);
  all = λ e. absurd (cc);
}
