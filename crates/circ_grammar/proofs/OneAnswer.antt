-- Bytes are the text of one proof, or have one first line at fault, and never both.
use Rattle.std.specs.Prelude.{◌≡◌, ℕ, ◌<◌, ◌≤◌, ◌⊎◌, List, [], ◌∷◌, ◌++◌, length, true}
use Rattle.std.proofs.Common.{sym, ◌∙◌, ap, arith, append-nil, length-append, inl, inr, subst}
use Rattle.std.proofs.lemmas.Option.{same_Some}
use Rattle.circ_line.specs.Line.{Line}
use Rattle.circ_line.specs.Text.{line_text}
use Rattle.circ_grammar.specs.Grammar.{NumberedProof, proof_lines}
use Rattle.circ_grammar.specs.FirstBad.{LineTests, file_text, AllInRange, NoLimit, IsTextOf, IsGood, PassesLimit, LineFault, Line_fault, Limit_fault}
use Rattle.circ_grammar.specs.FirstBad.{IsFirstFault}
use Rattle.circ_grammar.specs.Machine.{State, begin, ended, run, proof_of, front, numbered_table}
use Rattle.circ_grammar.proofs.Complete.{proof_run}
use Rattle.circ_grammar.proofs.FirstBad.{same_front, limit_at, false_true}

abbrev proof_at : State → NumberedProof
proof_at (ended f bs) = proof_of f bs
proof_at _ = record { table = numbered_table 0 []; places = []; certificates = []; blocks = [] }

no_more : (a b : List Line) (more : List Line) (rest : List ℕ) → b ≡ a ++ more → [] ≡ file_text more ++ rest → b ≡ a
no_more a b [] rest e f = e ∙ append-nil a
no_more a b (l ∷ more) rest e f = absurd (omega (
  arith,
  ap length f,
  length-append (line_text l ++ (10 ∷ file_text more)) rest,
  length-append (line_text l) (10 ∷ file_text more),
))

at_most : (a b : ℕ) → (a ≤ b) ⊎ (b < a)
at_most a b = grind arith

-- A file is the text of one proof at most.
pub one_proof : (r : LineTests) (bytes : List ℕ) (p q : NumberedProof) → IsTextOf r p bytes → IsTextOf r q bytes → p ≡ q
one_proof r bytes p q t u = go (at_most (length (proof_lines p)) (length (proof_lines q)))
  where
    lines : (x y : NumberedProof) → IsTextOf r x bytes → IsTextOf r y bytes → length (proof_lines x) ≤ length (proof_lines y)
        → proof_lines y ≡ proof_lines x
    lines x y v w h = let s : (more : List Line) × (proof_lines y ≡ proof_lines x ++ more) × ([] ≡ file_text more ++ [])
        = same_front (proof_lines x) (proof_lines y) [] [] v.fit w.fit h (ap (λ z. z ++ []) (sym v.text ∙ w.text)) in
        no_more (proof_lines x) (proof_lines y) s.0 [] s.1 s.2

    same : proof_lines q ≡ proof_lines p → p ≡ q
    same e = ap proof_at (same_Some (ended (front p.table p.places p.certificates) p.blocks) (ended (front q.table q.places q.certificates) q.blocks)
        (sym (proof_run p t.parts) ∙ (ap (run begin) (sym e) ∙ proof_run q u.parts)))

    go : (length (proof_lines p) ≤ length (proof_lines q)) ⊎ (length (proof_lines q) < length (proof_lines p)) → p ≡ q
    go (inl h) = same (lines p q t u h)
    go (inr h) = same (sym (lines q p u t (omega arith)))

-- The text of a proof has no first line at fault.
pub no_fault : (r : LineTests) (bytes : List ℕ) (p : NumberedProof) → IsTextOf r p bytes → (f : LineFault) → IsFirstFault r bytes f → ⊥
no_fault r bytes p t (Line_fault n) h = h.3 p t
no_fault r bytes p t (Limit_fault n) h = go h.3
  where
    within : (ls : List Line) (l : Line) (more : List Line) → proof_lines p ≡ (ls ++ (l ∷ [])) ++ more → r.limit ls l ≡ true → ⊥
    within ls l more e reached = let N : List Line → Type 0 = NoLimit r [] in
        false_true (sym (limit_at r [] ls l more (subst N e t.within)) ∙ reached)

    cases : (ls : List Line) (l : Line) (rest : List ℕ) → bytes ≡ file_text (ls ++ (l ∷ [])) ++ rest → AllInRange (ls ++ (l ∷ [])) → r.limit ls l ≡ true
        → (length (ls ++ (l ∷ [])) ≤ length (proof_lines p)) ⊎ (length (proof_lines p) < length (ls ++ (l ∷ []))) → ⊥
    cases ls l rest text fit reached (inl h) =
        let s : (more : List Line) × (proof_lines p ≡ (ls ++ (l ∷ [])) ++ more) × (rest ≡ file_text more ++ [])
        = same_front (ls ++ (l ∷ [])) (proof_lines p) rest [] fit t.fit h (sym text ∙ (t.text ∙ sym (append-nil (file_text (proof_lines p))))) in
        within ls l s.0 s.1 reached
    cases ls l rest text fit reached (inr h) =
        let s : (more : List Line) × (ls ++ (l ∷ []) ≡ proof_lines p ++ more) × ([] ≡ file_text more ++ rest)
        = same_front (proof_lines p) (ls ++ (l ∷ [])) [] rest t.fit fit (omega arith)
        (append-nil (file_text (proof_lines p)) ∙ (sym t.text ∙ text)) in
        omega (arith, h, ap length (no_more (proof_lines p) (ls ++ (l ∷ [])) s.0 rest s.1 s.2))

    go : PassesLimit r bytes n → ⊥
    go (ls, l, rest, len, text, fit, reached) = cases ls l rest text fit reached (at_most (length (ls ++ (l ∷ []))) (length (proof_lines p)))

three_ways : (a b : ℕ) → (a < b) ⊎ ((b < a) ⊎ (a ≡ b))
three_ways a b = grind arith

-- A file has one first line at fault at most.
pub one_fault : (r : LineTests) (bytes : List ℕ) (f g : LineFault) → IsFirstFault r bytes f → IsFirstFault r bytes g → f ≡ g
one_fault r bytes (Line_fault n) (Line_fault m) h k = go (three_ways n m)
  where
    go : (n < m) ⊎ ((m < n) ⊎ (n ≡ m)) → Line_fault n ≡ Line_fault m
    go (inl z) = absurd (h.2 (k.1.good n (omega arith)))
    go (inr (inl z)) = absurd (k.2 (h.1.good m (omega arith)))
    go (inr (inr z)) = ap (λ x. Line_fault x) z
one_fault r bytes (Limit_fault n) (Limit_fault m) h k = go (three_ways n m)
  where
    go : (n < m) ⊎ ((m < n) ⊎ (n ≡ m)) → Limit_fault n ≡ Limit_fault m
    go (inl z) = absurd (k.1.within n (omega arith) h.3)
    go (inr (inl z)) = absurd (h.1.within m (omega arith) k.3)
    go (inr (inr z)) = ap (λ x. Limit_fault x) z
one_fault r bytes (Line_fault n) (Limit_fault m) h k = go (three_ways n m)
  where
    go : (n < m) ⊎ ((m < n) ⊎ (n ≡ m)) → Line_fault n ≡ Limit_fault m
    go (inl z) = absurd (h.2 (k.1.good n (omega arith)))
    go (inr (inl z)) = absurd (h.1.within m (omega arith) k.3)
    go (inr (inr z)) = let P : ℕ → Type 0 = IsGood r bytes in absurd (h.2 (subst P (sym z) k.2))
one_fault r bytes (Limit_fault n) (Line_fault m) h k = go (three_ways n m)
  where
    go : (n < m) ⊎ ((m < n) ⊎ (n ≡ m)) → Limit_fault n ≡ Line_fault m
    go (inl z) = absurd (k.1.within n (omega arith) h.3)
    go (inr (inl z)) = absurd (k.2 (h.1.good m (omega arith)))
    go (inr (inr z)) = let P : ℕ → Type 0 = IsGood r bytes in absurd (k.2 (subst P z h.2))
