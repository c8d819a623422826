-- Where a reader stands after a line, and after the bytes of a line that is not whole.
use Rattle.std.specs.Prelude.{◌≡◌, ℕ, ◌+◌, true, false, List, [], ◌∷◌, ◌++◌, length, refl, None}
use Rattle.std.proofs.Common.{sym, ◌∙◌, ap, subst, append_assoc, inl, inr}
use Rattle.std.proofs.lemmas.List.{length-map, append-nil}
use Rattle.circ_theory.specs.Theory.{Theory}
use Rattle.circ_line.specs.Plain.{NoFeed}
use Rattle.circ_grammar.specs.FirstBad.{file_text, Line_fault, Limit_fault}
use Rattle.circ_grammar.specs.Now.{Now, Reducing, Joining}
use Rattle.circ_grammar.proofs.Feeding.{no_feed_append}
use Rattle.circ_proof_text.specs.Checks.{Seen, after, passes_at, limit_at}
use Rattle.circ_proof_text.specs.ProofText.{FirstCause}
use Rattle.circ_proof_text.specs.Parts.{Part}
use Rattle.circ_proof_text.specs.Reading.{Reading, StandsFor, after_line}
use Rattle.circ_proof_text.proofs.Wanted.{wants, wants_of}
use Rattle.circ_proof_text.proofs.Standing.{keeps_rest, takes_line, faults_form, faults_next, faults_check, faults_limit, standing_wanted}
use Rattle.circ_file.specs.View.{now_of, queue_of, splits_in}
use Rattle.circ_file.specs.Lines.{seen_of, ReadsNext}
use Rattle.circ_file.specs.Feeding.{FaultIs, IsOfLine, IsLineFault, reading_of, Stands}
use Rattle.circ_file.specs.declared.fault.FileFault.{FileFault}
use Rattle.circ_file.specs.declared.taken.Taken.TheVariants as taken
use Rattle.circ_file.specs.declared.reader.FileReader.{FileReader}

-- as many numbers of whys are wanted as splits are open
wants_counted : (n : Now) → length (wants_of n) ≡ splits_in n
wants_counted (Reducing ss chain) = length-map ss wants
wants_counted (Joining n chain) = wants_counted n
wants_counted _ = refl

pub wanted_counted : (th : Theory) (x : List ℕ) (handed : List Part) (k : Reading) → StandsFor th x handed k → length k.seen.wanted ≡ splits_in k.under_way
wanted_counted th x handed k s = ap length (standing_wanted th x handed k s) ∙ wants_counted k.under_way

-- some numbers of whys
pub some_wanted : (n : Now) → (w : List ℕ) × (length w ≡ splits_in n)
some_wanted n = (wants_of n, wants_counted n)

abbrev pub reading_with : ℕ → List ℕ → Now → Seen → List Part → Reading
reading_with lines rest n seen waiting = record { lines = lines; rest = rest; under_way = n; seen = seen; waiting = waiting }

pub same_reading : (k : Reading) (lines : ℕ) (rest : List ℕ) (seen : Seen) (waiting : List Part) → lines ≡ k.lines → rest ≡ k.rest → seen ≡ k.seen → waiting ≡ k.waiting
    → reading_with lines rest k.under_way seen waiting ≡ k
same_reading k lines rest seen waiting a b c d =
    ap (λ x. reading_with x rest k.under_way seen waiting) a ∙ ap (λ x. reading_with k.lines x k.under_way seen waiting) b
    ∙ ap (λ x. reading_with k.lines k.rest k.under_way x waiting) c ∙ ap (λ x. reading_with k.lines k.rest k.under_way k.seen x) d

module _ (th : Theory) (x more_bytes : List ℕ) (handed : List Part) (f g : FileReader) (s : Stands th x handed f) where
  -- A line is taken.
  pub line_taken : ReadsNext taken.Yes s.wanted f.reader (f.rest.items ++ more_bytes) g.reader → g.reader.theory.now ≡ f.reader.theory.now → g.lines ≡ f.lines + 1
      → g.rest.items ≡ [] → g.fault ≡ None → Stands th (x ++ (more_bytes ++ (10 ∷ []))) handed g
  line_taken (l, text, range, t) a b c d =
      let k : Reading = reading_of s.wanted f in
      let P : Theory → Type 0 = λ y. passes_at y k.seen l ≡ true in
      let Q : Theory → Type 0 = λ y. limit_at y k.seen l ≡ false in
      let R : Theory → Type 0 = λ y. seen_of (after y k.seen l).wanted g.reader ≡ after y k.seen l in
      let stands = takes_line th x more_bytes handed k l (now_of g.reader.machine) s.stands range text t.next (subst P s.theory t.passes) (subst Q s.theory t.within) in
      let next : Reading = after_line th k l (now_of g.reader.machine) in
      let same : reading_of (after th k.seen l).wanted g ≡ next
      = same_reading next g.lines g.rest.items (seen_of (after th k.seen l).wanted g.reader) (queue_of g.reader.machine) b c (subst R s.theory t.seen) t.queue in
      let S : Reading → Type 0 = λ y. StandsFor th (x ++ (more_bytes ++ (10 ∷ []))) handed y in
      record { theory = a ∙ s.theory; wanted = (after th k.seen l).wanted; stands = subst S (sym same) stands; fault = d }

  -- A line is refused, whatever comes later.
  pub line_refused : ReadsNext taken.Line s.wanted f.reader (f.rest.items ++ more_bytes) g.reader → NoFeed more_bytes → (later : List ℕ)
      → FirstCause th ((x ++ (more_bytes ++ (10 ∷ []))) ++ later) (Line_fault (f.lines + 1))
  line_refused (inl none) n later = faults_form th x more_bytes later handed (reading_of s.wanted f) s.stands n none
  line_refused (inr (l, text, range, inl none)) n later = faults_next th x more_bytes later handed (reading_of s.wanted f) l s.stands range text none
  line_refused (inr (l, text, range, inr fails)) n later =
      let k : Reading = reading_of s.wanted f in
      let P : Theory → Type 0 = λ y. passes_at y k.seen l ≡ false in
      faults_check th x more_bytes later handed k l s.stands range text (subst P s.theory fails)

  -- A line passes a limit.
  pub line_over : ReadsNext taken.Limit s.wanted f.reader (f.rest.items ++ more_bytes) g.reader → (later : List ℕ)
      → FirstCause th ((x ++ (more_bytes ++ (10 ∷ []))) ++ later) (Limit_fault (f.lines + 1))
  line_over (l, text, range, h) later =
      let k : Reading = reading_of s.wanted f in
      let P : Theory → Type 0 = λ y. passes_at y k.seen l ≡ true in
      let Q : Theory → Type 0 = λ y. limit_at y k.seen l ≡ true in
      faults_limit th x more_bytes later handed k l h.0 s.stands range text h.1 (subst P s.theory h.2) (subst Q s.theory h.3)

  -- The fault of the line is that of a whole line.
  pub line_shows : (e : FileFault) → NoFeed more_bytes → IsOfLine e (f.lines + 1)
      → ((later : List ℕ) → FaultIs th ((x ++ (more_bytes ++ (10 ∷ []))) ++ later) e) → IsLineFault th (x ++ (more_bytes ++ (10 ∷ []))) e
  line_shows e n number fault =
      let r : StandsFor th x handed (reading_of s.wanted f) = s.stands in
      let front : List ℕ = file_text r.whole_lines in
      let line : List ℕ = f.rest.items ++ more_bytes in
      let P : ℕ → Type 0 = λ m. IsOfLine e (m + 1) in
      let Q : List ℕ → Type 0 = λ y. (later : List ℕ) → FaultIs th (y ++ later) e in
      let same : x ++ (more_bytes ++ (10 ∷ [])) ≡ front ++ (line ++ (10 ∷ []))
      = ap (λ y. y ++ (more_bytes ++ (10 ∷ []))) r.fed.at.text ∙ append_assoc front f.rest.items (more_bytes ++ (10 ∷ []))
      ∙ ap (λ y. front ++ y) (sym (append_assoc f.rest.items more_bytes (10 ∷ []))) in
      record {
        before = r.whole_lines;
        line = line;
        after = [];
        no_feed = no_feed_append f.rest.items more_bytes r.fed.no_feed n;
        whole = same ∙ sym (append-nil (front ++ (line ++ (10 ∷ []))));
        number = subst P r.fed.count number;
        fault = subst Q same fault;
      }

  -- Bytes without a line feed are kept.
  pub rest_taken : NoFeed more_bytes → g.reader ≡ f.reader → g.lines ≡ f.lines → g.rest.items ≡ f.rest.items ++ more_bytes → g.fault ≡ None
      → Stands th (x ++ more_bytes) handed g
  rest_taken n a b c d =
      let k : Reading = reading_of s.wanted f in
      let next : Reading = record k { rest = k.rest ++ more_bytes } in
      let same : reading_of s.wanted g ≡ next
      = ap (λ r. reading_with g.lines g.rest.items (now_of r.machine) (seen_of s.wanted r) (queue_of r.machine)) a
      ∙ same_reading next g.lines g.rest.items k.seen k.waiting b c refl refl in
      let S : Reading → Type 0 = λ y. StandsFor th (x ++ more_bytes) handed y in
      record { theory = ap (λ r. r.theory.now) a ∙ s.theory; wanted = s.wanted; stands = subst S (sym same) (keeps_rest th x more_bytes handed k n s.stands); fault = d }
