-- How a reader goes on that is fed a proof's text in pieces, and what it answers.
use Rattle.std.specs.Prelude.{◌≡◌, ℕ, ◌+◌, true, false, List, [], ◌∷◌, ◌++◌, length, map, refl, Some, None}
use Rattle.std.proofs.Common.{sym, ◌∙◌, ap, subst, append_assoc}
use Rattle.std.proofs.lemmas.List.{map-append, length-map}
use Rattle.std.proofs.lemmas.Option.{same_Some}
use Rattle.circ_theory.specs.Theory.{Theory}
use Rattle.circ_proof.specs.Plain.{ChainOf}
use Rattle.circ_proof.specs.Proof.{Proof}
use Rattle.circ_line.specs.Line.{Line, table_line, head_line, place_line, certificate_line, block_line, goal_line, given_line, simplify_line}
use Rattle.circ_line.specs.Line.{reduce_line, derive_line, cases_line, done_line, same_line, split_line, if_line, left_line, right_line, end_line}
use Rattle.circ_line.specs.Text.{line_text, IsInRange}
use Rattle.circ_line.specs.Plain.{NoFeed, ReadsLine}
use Rattle.circ_grammar.specs.Grammar.{NumberedBlock}
use Rattle.circ_grammar.specs.FirstBad.{Line_fault, Limit_fault}
use Rattle.circ_grammar.specs.Machine.{Front, OpenSplit, State, begin, tabling, on_table, next, proof_of}
use Rattle.circ_grammar.specs.Parts as grammar
use Rattle.circ_grammar.specs.Shown.{shown, brings}
use Rattle.circ_grammar.specs.Now.{Now, Reducing, Ended, now, next_now, line_part}
use Rattle.circ_grammar.proofs.Feeding.{fed_nothing, fed_rest, fed_line, fed_form, fed_next, fed_check, fed_limit, fed_whole, fed_end, one_fed}
use Rattle.circ_grammar.proofs.Now.{line_part_is}
use Rattle.circ_grammar.proofs.Shown.{next_shown}
use Rattle.circ_proof_text.specs.Checks.{Seen, nothing, after, after_all, passes_at, limit_at}
use Rattle.circ_proof_text.specs.ProofText.{numbers_of, line_tests, ReadsAsProof, FirstCause}
use Rattle.circ_proof_text.specs.Parts.{Part, part_with, parts_of}
use Rattle.circ_proof_text.specs.Reading.{Reading, kept, nothing_read, StandsFor, line_parts, after_line}
use Rattle.circ_proof_text.proofs.TableText.{one_table}
use Rattle.circ_proof_text.proofs.Fine.{AllFine}
use Rattle.circ_proof_text.proofs.FineFronts.{HaveTerms}
use Rattle.circ_proof_text.proofs.ProofText.{after_all-append, fine_lines, text_reads}
use Rattle.circ_proof_text.proofs.SeenTerms.{table_of, version_of, is_of_table, same_terms, lines_terms, lines_version}
use Rattle.circ_proof_text.proofs.Parts.{parts_are, any_table}
use Rattle.circ_proof_text.proofs.Wanted.{wants, wants_of, lines_wanted}

-- Nothing was read.
pub starts : (th : Theory) → StandsFor th [] [] nothing_read
starts th = record { whole_lines = []; state = begin; fed = fed_nothing (line_tests th); seen = refl; parts = refl }

-- Bytes without a line feed are kept.
pub keeps_rest : (th : Theory) (bytes piece : List ℕ) (handed : List Part) (k : Reading) → NoFeed piece → StandsFor th bytes handed k
    → StandsFor th (bytes ++ piece) handed (record k { rest = k.rest ++ piece })
keeps_rest th bytes piece handed k n s = record {
  whole_lines = s.whole_lines;
  state = s.state;
  fed = fed_rest (line_tests th) bytes piece s.whole_lines s.state (kept k) s.fed n;
  seen = s.seen;
  parts = s.parts;
}

-- A part is handed out.
pub hands : (th : Theory) (bytes : List ℕ) (handed : List Part) (k : Reading) (x : Part) (xs : List Part) → k.waiting ≡ x ∷ xs → StandsFor th bytes handed k
    → StandsFor th bytes (handed ++ x ∷ []) (record k { waiting = xs })
hands th bytes handed k x xs e s = record {
  whole_lines = s.whole_lines;
  state = s.state;
  fed = s.fed;
  seen = s.seen;
  parts = s.parts ∙ ap (λ y. handed ++ y) e ∙ sym (append_assoc handed (x ∷ []) xs);
}

-- the parts that a line shows, with the terms after it

others : (th : Theory) (c : Seen) (m n : State) (l : Line) → is_of_table l ≡ false → next m l ≡ Some n
    → map (part_with (after th c l).terms) (shown n) ≡ map (part_with c.terms) (shown m) ++ map (part_with c.terms) (brings m l)
others th c m n l z e =
    ap (λ x. map (part_with x) (shown n)) (same_terms th c l z) ∙ ap (map (part_with c.terms)) (next_shown m n l e)
    ∙ map-append (part_with c.terms) (shown m) (brings m l)

shows : (th : Theory) (c : Seen) (m n : State) (l : Line) → next m l ≡ Some n
    → map (part_with (after th c l).terms) (shown n) ≡ map (part_with c.terms) (shown m) ++ map (part_with c.terms) (brings m l)
shows th c m n (table_line x) e = go m e
  where
    go : (m : State) → on_table m x ≡ Some n → map (part_with (after th c (table_line x)).terms) (shown n) ≡ map (part_with c.terms) (shown m) ++ []
    go (tabling es) e = ap (λ y. map (part_with (after th c (table_line x)).terms) (shown y)) (sym (same_Some _ n e))
    go _ e = absurd (cc)
shows th c m n (head_line v) e = others th c m n (head_line v) refl e
shows th c m n (place_line a b) e = others th c m n (place_line a b) refl e
shows th c m n certificate_line e = others th c m n certificate_line refl e
shows th c m n block_line e = others th c m n block_line refl e
shows th c m n (goal_line a b) e = others th c m n (goal_line a b) refl e
shows th c m n (given_line a b) e = others th c m n (given_line a b) refl e
shows th c m n simplify_line e = others th c m n simplify_line refl e
shows th c m n reduce_line e = others th c m n reduce_line refl e
shows th c m n derive_line e = others th c m n derive_line refl e
shows th c m n (cases_line t) e = others th c m n (cases_line t) refl e
shows th c m n done_line e = others th c m n done_line refl e
shows th c m n same_line e = others th c m n same_line refl e
shows th c m n (split_line a b) e = others th c m n (split_line a b) refl e
shows th c m n if_line e = others th c m n if_line refl e
shows th c m n (left_line l) e = others th c m n (left_line l) refl e
shows th c m n (right_line l) e = others th c m n (right_line l) refl e
shows th c m n end_line e = others th c m n end_line refl e

-- the parts that the next line brings are told by the part under way
brought : (m : State) (k : Reading) (l : Line) → now m ≡ k.under_way → map (part_with k.seen.terms) (brings m l) ≡ line_parts k l
brought m k l e =
    sym (any_table k.seen.terms k.seen.terms (brings m l))
    ∙ ap (map (part_with k.seen.terms)) (line_part_is k.seen.terms m l ∙ ap (λ u. line_part k.seen.terms u l) e)

-- A whole line is read: what is kept and some bytes are its text, and the line feed comes.
pub takes_line : (th : Theory) (bytes more : List ℕ) (handed : List Part) (k : Reading) (l : Line) (n : Now) → StandsFor th bytes handed k
    → IsInRange l → k.rest ++ more ≡ line_text l → next_now k.under_way l ≡ Some n → passes_at th k.seen l ≡ true → limit_at th k.seen l ≡ false
    → StandsFor th (bytes ++ (more ++ (10 ∷ []))) handed (after_line th k l n)
takes_line th bytes more handed k l n s fits e g pass within =
    let f = fed_line (line_tests th) bytes more s.whole_lines s.state (kept k) l n s.fed fits e g
    (ap (λ c. passes_at th c l) (sym s.seen) ∙ pass) (ap (λ c. limit_at th c l) (sym s.seen) ∙ within) in
    record {
      whole_lines = s.whole_lines ++ (l ∷ []);
      state = f.0;
      fed = f.2;
      seen = ap (λ c. after th c l) s.seen ∙ sym (after_all-append th nothing s.whole_lines (l ∷ []));
      parts = shows th k.seen s.state f.0 l f.1 ∙ ap (λ x. x ++ map (part_with k.seen.terms) (brings s.state l)) s.parts
          ∙ append_assoc handed k.waiting (map (part_with k.seen.terms) (brings s.state l))
          ∙ ap (λ x. handed ++ (k.waiting ++ x)) (brought s.state k l s.fed.part);
    }

-- The faults of a line that is whole, whatever comes later.

pub faults_form : (th : Theory) (bytes more later : List ℕ) (handed : List Part) (k : Reading) → StandsFor th bytes handed k → NoFeed more
    → ReadsLine (k.rest ++ more) None → FirstCause th ((bytes ++ (more ++ (10 ∷ []))) ++ later) (Line_fault (k.lines + 1))
faults_form th bytes more later handed k s n none = fed_form (line_tests th) bytes more later s.whole_lines s.state (kept k) s.fed n none

pub faults_next : (th : Theory) (bytes more later : List ℕ) (handed : List Part) (k : Reading) (l : Line) → StandsFor th bytes handed k
    → IsInRange l → k.rest ++ more ≡ line_text l → next_now k.under_way l ≡ None
    → FirstCause th ((bytes ++ (more ++ (10 ∷ []))) ++ later) (Line_fault (k.lines + 1))
faults_next th bytes more later handed k l s fits e g = fed_next (line_tests th) bytes more later s.whole_lines s.state (kept k) l s.fed fits e g

pub faults_check : (th : Theory) (bytes more later : List ℕ) (handed : List Part) (k : Reading) (l : Line) → StandsFor th bytes handed k
    → IsInRange l → k.rest ++ more ≡ line_text l → passes_at th k.seen l ≡ false
    → FirstCause th ((bytes ++ (more ++ (10 ∷ []))) ++ later) (Line_fault (k.lines + 1))
faults_check th bytes more later handed k l s fits e fails =
    fed_check (line_tests th) bytes more later s.whole_lines s.state (kept k) l s.fed fits e (ap (λ c. passes_at th c l) (sym s.seen) ∙ fails)

pub faults_limit : (th : Theory) (bytes more later : List ℕ) (handed : List Part) (k : Reading) (l : Line) (n : Now) → StandsFor th bytes handed k
    → IsInRange l → k.rest ++ more ≡ line_text l → next_now k.under_way l ≡ Some n → passes_at th k.seen l ≡ true → limit_at th k.seen l ≡ true
    → FirstCause th ((bytes ++ (more ++ (10 ∷ []))) ++ later) (Limit_fault (k.lines + 1))
faults_limit th bytes more later handed k l n s fits e g pass reached =
    fed_limit (line_tests th) bytes more later s.whole_lines s.state (kept k) l n s.fed fits e g
    (ap (λ c. passes_at th c l) (sym s.seen) ∙ pass) (ap (λ c. limit_at th c l) (sym s.seen) ∙ reached)

-- the terms are those of the table that the lines have written
pub standing_terms : (th : Theory) (bytes : List ℕ) (handed : List Part) (k : Reading) (s : StandsFor th bytes handed k)
    → HaveTerms th [] (table_of s.state) k.seen.terms
standing_terms th bytes handed k s =
    let fine : AllFine th nothing s.whole_lines = fine_lines th [] s.whole_lines s.fed.at.fit s.fed.at.pass s.fed.at.within in
    let P : Seen → Type 0 = λ c. HaveTerms th [] (table_of s.state) c.terms in
    subst P (sym s.seen) (lines_terms th s.state s.whole_lines s.fed.at.state fine)

-- the version is the one that the first line has named
standing_version : (th : Theory) (bytes : List ℕ) (handed : List Part) (k : Reading) (s : StandsFor th bytes handed k) → k.seen.version ≡ version_of s.state
standing_version th bytes handed k s =
    let fine : AllFine th nothing s.whole_lines = fine_lines th [] s.whole_lines s.fed.at.fit s.fed.at.pass s.fed.at.within in
    ap (λ c. c.version) s.seen ∙ lines_version th s.state s.whole_lines s.fed.at.state fine

-- The bytes are at their end, and whole: they read as a proof, and the parts are its parts.
pub ends : (th : Theory) (bytes : List ℕ) (handed : List Part) (k : Reading) → StandsFor th bytes handed k → k.rest ≡ [] → k.under_way ≡ Ended
    → (p : Proof) × ReadsAsProof th bytes p × (handed ++ k.waiting ≡ parts_of p) × (p.version ≡ k.seen.version)
ends th bytes handed k s r u =
    let w = fed_whole (line_tests th) bytes s.whole_lines s.state (kept k) s.fed r u in
    let f : Front = w.0 in
    let bs : List NumberedBlock = w.1 in
    let p : (p : Proof) × ReadsAsProof th bytes p × (numbers_of p ≡ proof_of f bs) = text_reads th bytes (proof_of f bs) w.3 in
    let t : HaveTerms th [] (table_of s.state) k.seen.terms = standing_terms th bytes handed k s in
    let own : k.seen.terms ≡ p.0.table
    = one_table th.signature [] k.seen.terms p.0.table t.entries p.1.proof_for.entries t.sorted p.1.proof_for.sorted
    (t.lines ∙ ap table_of w.2 ∙ sym (ap (λ x. x.table.lines) p.2)) in (
      p.0,
      p.1,
      sym s.parts ∙ ap (λ x. map (part_with x) (shown s.state)) own ∙ ap (λ x. map (part_with p.0.table) (shown x)) w.2
          ∙ ap (λ x. map (part_with p.0.table) (grammar.parts_of x)) (sym p.2) ∙ parts_are th p.0 p.1.proof_for,
      ap (λ x. x.table.version) p.2 ∙ sym (standing_version th bytes handed k s ∙ ap version_of w.2),
    )

-- The bytes are at their end, and not whole.
pub ends_badly : (th : Theory) (bytes : List ℕ) (handed : List Part) (k : Reading) → StandsFor th bytes handed k
    → (k.rest ≡ [] → k.under_way ≡ Ended → ⊥) → FirstCause th bytes (Line_fault (k.lines + 1))
ends_badly th bytes handed k s open_yet = fed_end (line_tests th) bytes s.whole_lines s.state (kept k) s.fed open_yet

-- What is kept, and what is handed out with what waits, depend on the bytes alone, whatever the pieces were.
pub one_standing : (th : Theory) (bytes : List ℕ) (xs ys : List Part) (k j : Reading) → StandsFor th bytes xs k → StandsFor th bytes ys j
    → (kept k ≡ kept j) × (k.seen ≡ j.seen) × (xs ++ k.waiting ≡ ys ++ j.waiting)
one_standing th bytes xs ys k j a b =
    let o = one_fed (line_tests th) bytes a.whole_lines b.whole_lines a.state b.state (kept k) (kept j) a.fed b.fed in
    let c : k.seen ≡ j.seen = a.seen ∙ ap (after_all th nothing) o.0 ∙ sym b.seen in
    (o.2, c, sym a.parts ∙ ap (λ x. map (part_with k.seen.terms) (shown x)) o.1 ∙ ap (λ x. map (part_with x.terms) (shown b.state)) c ∙ b.parts)

-- The whys that open splits still want are those of the part under way.
pub standing_wanted : (th : Theory) (bytes : List ℕ) (handed : List Part) (k : Reading) → StandsFor th bytes handed k → k.seen.wanted ≡ wants_of k.under_way
standing_wanted th bytes handed k s =
    ap (λ c. c.wanted) s.seen ∙ lines_wanted th s.state s.whole_lines s.fed.at.state ∙ ap wants_of s.fed.part

-- as many splits are open as the part under way has
pub open_splits : (th : Theory) (bytes : List ℕ) (handed : List Part) (k : Reading) → StandsFor th bytes handed k → (fs : List OpenSplit) (c : ChainOf ℕ)
    → k.under_way ≡ Reducing fs c → length k.seen.wanted ≡ length fs
open_splits th bytes handed k s fs c u = ap length (standing_wanted th bytes handed k s ∙ ap wants_of u) ∙ length-map fs wants
