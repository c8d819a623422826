-- What a reader has handed out: it fits the theory, and is the front of the parts of each proof whose text begins with the bytes.
use Rattle.std.specs.Prelude.{◌≡◌, ℕ, ◌≤◌, ◌⊎◌, List, [], ◌∷◌, ◌++◌, length, map, refl}
use Rattle.std.proofs.Common.{sym, ◌∙◌, ap, subst, arith, append_assoc, append-nil, length-append, inl, inr}
use Rattle.std.proofs.lemmas.List.{map-append}
use Rattle.circ_theory.specs.Theory.{Theory}
use Rattle.circ_theory.specs.WellFormed.{IsWellFormed}
use Rattle.circ_proof.specs.Proof.{Proof}
use Rattle.circ_line.specs.Line.{TableLine, Line}
use Rattle.circ_line.specs.Text.{line_text}
use Rattle.circ_grammar.specs.Grammar.{NumberedTable, proof_lines}
use Rattle.circ_grammar.specs.FirstBad.{file_text, IsTextOf}
use Rattle.circ_grammar.specs.Machine.{State, begin, tabling, placing, certifying, opened, stepping, simplifying, reducing, joining, closed, ended}
use Rattle.circ_grammar.specs.Parts.{Head_part, NumberedPart, shown_by}
use Rattle.circ_grammar.specs.Parts as grammar
use Rattle.circ_grammar.specs.Shown.{shown}
use Rattle.circ_grammar.proofs.FirstBad.{same_front}
use Rattle.circ_grammar.proofs.Shown.{shown_first}
use Rattle.circ_grammar.proofs.ShownBy.{shown_is}
use Rattle.circ_proof_text.specs.TableText.{entries_of}
use Rattle.circ_proof_text.specs.ProofText.{numbers_of, line_tests, ReadsAsProof}
use Rattle.circ_proof_text.specs.Parts.{Part, part_with, parts_of}
use Rattle.circ_proof.specs.Fitting.{Fit}
use Rattle.circ_proof_text.specs.Reading.{Reading, StandsFor}
use Rattle.circ_proof_text.proofs.TableText.{one_table}
use Rattle.circ_proof_text.proofs.FineFronts.{HaveTerms}
use Rattle.circ_proof_text.proofs.ProofText.{fine_lines, reads_text}
use Rattle.circ_proof_text.proofs.SeenTerms.{table_of}
use Rattle.circ_proof_text.proofs.Parts.{parts_are}
use Rattle.circ_proof_text.proofs.Standing.{standing_terms}
use Rattle.circ_proof_text.proofs.Fitting.{fit_cut, lines_show, shows_fit}

-- What is handed out fits the theory.
pub handed_fit : (th : Theory) (bytes : List ℕ) (handed : List Part) (k : Reading) → StandsFor th bytes handed k → Fit th handed
handed_fit th bytes handed k s =
    let a = fine_lines th [] s.whole_lines s.fed.at.fit s.fed.at.pass s.fed.at.within in
    let all : Fit th (map (part_with k.seen.terms) (shown s.state))
    = shows_fit th s.state k.seen.terms (standing_terms th bytes handed k s) (lines_show th s.whole_lines s.state s.fed.at.state a) in
    let P : List Part → Type 0 = Fit th in
    fit_cut th handed k.waiting (subst P s.parts all)

-- a state that shows parts shows its table first
abbrev ShowsTable : State → Type 0
ShowsTable m = (t : NumberedTable) × (ps : List (ℕ × ℕ)) × (xs : List NumberedPart) × (shown m ≡ Head_part t ps ∷ xs) × (t.lines ≡ table_of m)

shown_table : (m : State) → (shown m ≡ []) ⊎ ShowsTable m
shown_table begin = inl refl
shown_table (tabling es) = inl refl
shown_table (placing es ps) = inl refl
shown_table (certifying f ls) = inr (f.table, f.places, _, refl, refl)
shown_table (opened o) = inr (o.front.table, o.front.places, _, refl, refl)
shown_table (stepping o) = inr (o.front.table, o.front.places, _, refl, refl)
shown_table (simplifying o c) = inr (o.front.table, o.front.places, _, refl, refl)
shown_table (reducing o fs c) = inr (o.front.table, o.front.places, _, refl, refl)
shown_table (joining m c) = shown_table m
shown_table (closed f bs) = inr (f.table, f.places, _, refl, refl)
shown_table (ended f bs) = inr (f.table, f.places, _, refl, refl)

table_in : List NumberedPart → List TableLine
table_in [] = []
table_in (Head_part es ps ∷ xs) = es.lines
table_in (x ∷ xs) = []

module _ (th : Theory) (bytes later : List ℕ) (handed : List Part) (k : Reading) (p : Proof) (w : IsWellFormed th) where
  -- the proof's lines go on from those that were read
  goes_on : (s : StandsFor th bytes handed k) → ReadsAsProof th (bytes ++ later) p → (more : List Line) × (proof_lines (numbers_of p) ≡ s.whole_lines ++ more)
  goes_on s r = go (le_or_le (length s.whole_lines) (length all))
    where
      all : List Line
      all = proof_lines (numbers_of p)

      t : IsTextOf (line_tests th) (numbers_of p) (bytes ++ later)
      t = reads_text th (bytes ++ later) p w r

      le_or_le : (a b : ℕ) → (a ≤ b) ⊎ (b ≤ a)
      le_or_le a b = grind arith

      text_is : file_text s.whole_lines ++ (k.rest ++ later) ≡ file_text (proof_lines (numbers_of p)) ++ []
      text_is = sym (append_assoc (file_text s.whole_lines) k.rest later) ∙ ap (λ x. x ++ later) (sym s.fed.at.text)
          ∙ t.text ∙ sym (append-nil (file_text (proof_lines (numbers_of p))))

      none_left : (more : List Line) → s.whole_lines ≡ proof_lines (numbers_of p) ++ more → [] ≡ file_text more ++ (k.rest ++ later)
          → (ls : List Line) × (proof_lines (numbers_of p) ≡ s.whole_lines ++ ls)
      none_left [] e g = ([], sym (append-nil s.whole_lines ∙ e ∙ append-nil (proof_lines (numbers_of p))))
      none_left (l ∷ ls) e g = absurd (omega (
        arith,
        ap length g,
        length-append (line_text l ++ (10 ∷ file_text ls)) (k.rest ++ later),
        length-append (line_text l) (10 ∷ file_text ls),
      ))

      go : (length s.whole_lines ≤ length (proof_lines (numbers_of p))) ⊎ (length (proof_lines (numbers_of p)) ≤ length s.whole_lines)
          → (more : List Line) × (proof_lines (numbers_of p) ≡ s.whole_lines ++ more)
      go (inl l) =
          let c = same_front s.whole_lines (proof_lines (numbers_of p)) (k.rest ++ later) [] s.fed.at.fit t.fit l text_is in (c.0, c.1)
      go (inr l) =
          let c = same_front (proof_lines (numbers_of p)) s.whole_lines [] (k.rest ++ later) t.fit s.fed.at.fit l (sym text_is) in none_left c.0 c.1 c.2

  -- what is shown is shown with the terms of the proof's table
  with_its_terms : (s : StandsFor th bytes handed k) → ReadsAsProof th (bytes ++ later) p → (xs : List NumberedPart)
      → grammar.parts_of (numbers_of p) ≡ shown s.state ++ xs → map (part_with p.table) (shown s.state) ≡ handed ++ k.waiting
  unfolding table_in
  with_its_terms s r xs e = go (shown_table s.state) ∙ s.parts
    where
      t : HaveTerms th [] (table_of s.state) k.seen.terms
      t = standing_terms th bytes handed k s

      go : (shown s.state ≡ []) ⊎ ShowsTable s.state → map (part_with p.table) (shown s.state) ≡ map (part_with k.seen.terms) (shown s.state)
      go (inl none) = ap (map (part_with p.table)) none ∙ ap (map (part_with k.seen.terms)) (sym none)
      go (inr (h, ps, ys, some, same)) =
          let lines : entries_of [] p.table ≡ table_of s.state = ap table_in e ∙ ap (λ x. table_in (x ++ xs)) some ∙ same in
          let own : p.table ≡ k.seen.terms
          = one_table th.signature [] p.table k.seen.terms r.proof_for.entries t.entries r.proof_for.sorted t.sorted (lines ∙ sym t.lines) in
          ap (λ x. map (part_with x) (shown s.state)) own

  -- What is handed out and what waits are those parts of the proof that so many lines show, the first ones.
  pub handed_first : StandsFor th bytes handed k → ReadsAsProof th (bytes ++ later) p → (xs : List Part) × (parts_of p ≡ (handed ++ k.waiting) ++ xs)
  handed_first s r =
      let m = goes_on s r in
      let t : IsTextOf (line_tests th) (numbers_of p) (bytes ++ later) = reads_text th (bytes ++ later) p w r in
      let x = shown_first s.whole_lines m.0 s.state (numbers_of p) s.fed.at.state t.parts m.1 in (
        map (part_with p.table) x.0,
        sym (parts_are th p r.proof_for) ∙ ap (map (part_with p.table)) x.1 ∙ map-append (part_with p.table) (shown s.state) x.0
            ∙ ap (λ y. y ++ map (part_with p.table) x.0) (with_its_terms s r x.0 x.1),
      )

  pub handed_counted : StandsFor th bytes handed k → ReadsAsProof th (bytes ++ later) p
      → handed ++ k.waiting ≡ map (part_with p.table) (shown_by k.lines (grammar.parts_of (numbers_of p)))
  handed_counted s r =
      let m = goes_on s r in
      let t : IsTextOf (line_tests th) (numbers_of p) (bytes ++ later) = reads_text th (bytes ++ later) p w r in
      let x = shown_first s.whole_lines m.0 s.state (numbers_of p) s.fed.at.state t.parts m.1 in
      sym (with_its_terms s r x.0 x.1)
      ∙ ap (map (part_with p.table)) (shown_is s.whole_lines m.0 s.state (numbers_of p) s.fed.at.state t.parts m.1)
      ∙ ap (λ n. map (part_with p.table) (shown_by n (grammar.parts_of (numbers_of p)))) (sym s.fed.count)
