-- Bytes that are no proof's text have a first line at fault: a reader that goes from line to line comes to the one or the other.
use Rattle.std.specs.Prelude.{◌≡◌, ℕ, ◌+◌, ◌<◌, ◌⊎◌, List, [], ◌∷◌, ◌++◌, length, refl, Option, Some, None, nat_eq, Bool, true, false, zero, suc}
use Rattle.std.proofs.Common.{◌∙◌, ap, arith, length-append, inl, inr, subst}
use Rattle.std.proofs.lemmas.Bool.{eqb-true}
use Rattle.circ_line.specs.Line.{Line}
use Rattle.circ_line.specs.Text.{line_text}
use Rattle.circ_line.specs.Plain.{NoFeed}
use Rattle.circ_grammar.specs.Grammar.{NumberedProof}
use Rattle.circ_grammar.specs.FirstBad.{LineTests, IsTextOf, LineFault, Line_fault, Limit_fault, IsFirstFault}
use Rattle.circ_grammar.specs.Machine.{State, begin, tabling, placing, certifying, opened, stepping, simplifying, reducing, joining, closed, ended, next, proof_of}
use Rattle.circ_grammar.specs.Reading.{At, NextLine, IsEnded}
use Rattle.circ_grammar.proofs.FirstBad.{bad_cut, bad_form, bad_next, bad_check, bad_limit, go_on, whole}

-- up to the first line feed, where there is one
abbrev HasFeed : List ℕ → Type 0
HasFeed bytes = (b : List ℕ) × (after : List ℕ) × NoFeed b × (bytes ≡ b ++ (10 ∷ after))

first_feed : (bytes : List ℕ) → NoFeed bytes ⊎ HasFeed bytes
first_feed [] = inl tt
first_feed (c ∷ bytes) = go (first_feed bytes) (nat_eq c 10) refl
  where
    go : NoFeed bytes ⊎ HasFeed bytes → (b : Bool) → nat_eq c 10 ≡ b → NoFeed (c ∷ bytes) ⊎ HasFeed (c ∷ bytes)
    go h true e = inr ([], bytes, tt, ap (λ x. x ∷ bytes) (eqb-true c 10 e))
    go (inl h) false e = inl (e, h)
    go (inr (b, after, h, s)) false e = inr (c ∷ b, after, (e, h), ap (λ x. c ∷ x) s)

ended_or_not : (m : State) → IsEnded m ⊎ (IsEnded m → ⊥)
ended_or_not (ended f bs) = inl (f, bs, refl)
ended_or_not begin = inr (λ h. absurd (cc h.2))
ended_or_not (tabling es) = inr (λ h. absurd (cc h.2))
ended_or_not (placing es ps) = inr (λ h. absurd (cc h.2))
ended_or_not (certifying f ls) = inr (λ h. absurd (cc h.2))
ended_or_not (opened o) = inr (λ h. absurd (cc h.2))
ended_or_not (stepping o) = inr (λ h. absurd (cc h.2))
ended_or_not (simplifying o c) = inr (λ h. absurd (cc h.2))
ended_or_not (reducing o fs c) = inr (λ h. absurd (cc h.2))
ended_or_not (joining m c) = inr (λ h. absurd (cc h.2))
ended_or_not (closed f bs) = inr (λ h. absurd (cc h.2))

-- what bytes are: some proof's text, or with a first line at fault
abbrev pub HasAnswer : LineTests → List ℕ → Type 0
HasAnswer r bytes = ((p : NumberedProof) × IsTextOf r p bytes) ⊎ ((f : LineFault) × IsFirstFault r bytes f)

at_end : (r : LineTests) (bytes : List ℕ) (ls : List Line) (rest : List ℕ) (m : State) → At r bytes ls rest m → NoFeed rest → HasAnswer r bytes
at_end r bytes ls [] m at h = go (ended_or_not m)
  where
    go : IsEnded m ⊎ (IsEnded m → ⊥) → HasAnswer r bytes
    go (inl (f, bs, e)) = let P : State → Type 0 = At r bytes ls [] in inl (proof_of f bs, whole r bytes ls f bs (subst P e at))
    go (inr open_yet) = inr (Line_fault (length ls + 1), bad_cut r bytes ls [] m at h (λ e. open_yet))
at_end r bytes ls (c ∷ rest) m at h = inr (Line_fault (length ls + 1), bad_cut r bytes ls (c ∷ rest) m at h (λ e z. omega (arith, ap length e)))

-- The next line is bad, or it is read.
at_line : (r : LineTests) (bytes : List ℕ) (ls : List Line) (rest after : List ℕ) (m : State) → At r bytes ls rest m
    → (l : Line) → NextLine rest l after → HasAnswer r bytes ⊎ ((n : State) × At r bytes (ls ++ (l ∷ [])) after n)
at_line r bytes ls rest after m at l line = go (next m l) refl
  where
    limits : (n : State) → next m l ≡ Some n → r.passes ls l ≡ true → (b : Bool) → r.limit ls l ≡ b
        → HasAnswer r bytes ⊎ ((n : State) × At r bytes (ls ++ (l ∷ [])) after n)
    limits n e pass true reached = inl (inr (Limit_fault (length ls + 1), bad_limit r bytes ls rest after m n at l line e pass reached))
    limits n e pass false within = inr (n, go_on r bytes ls rest after m n at l line e pass within)

    checks : (n : State) → next m l ≡ Some n → (b : Bool) → r.passes ls l ≡ b → HasAnswer r bytes ⊎ ((n : State) × At r bytes (ls ++ (l ∷ [])) after n)
    checks n e false fails = inl (inr (Line_fault (length ls + 1), bad_check r bytes ls rest after m at l line fails))
    checks n e true pass = limits n e pass (r.limit ls l) refl

    go : (o : Option State) → next m l ≡ o → HasAnswer r bytes ⊎ ((n : State) × At r bytes (ls ++ (l ∷ [])) after n)
    go None e = inl (inr (Line_fault (length ls + 1), bad_next r bytes ls rest after m at l line e))
    go (Some n) e = checks n e (r.passes ls l) refl

-- From each place there is an answer.
answer_after : (r : LineTests) (bytes : List ℕ) → (HasAnswer r bytes → ⊥) → (n : ℕ) (ls : List Line) (rest : List ℕ) (m : State) → At r bytes ls rest m
    → length rest < n + 1
    → ((l : Line) (after : List ℕ) (q : State) → At r bytes (ls ++ (l ∷ [])) after q → length after < n → ⊥) → ⊥
answer_after r bytes none n ls rest m at h ih = go (first_feed rest)
  where
    read : (l : Line) (after : List ℕ) → rest ≡ line_text l ++ (10 ∷ after)
        → HasAnswer r bytes ⊎ ((q : State) × At r bytes (ls ++ (l ∷ [])) after q) → ⊥
    read l after e (inl a) = none a
    read l after e (inr (q, further)) = ih l after q further (omega (arith, h, ap length e, length-append (line_text l) (10 ∷ after)))

    go : NoFeed rest ⊎ HasFeed rest → ⊥
    go (inl z) = none (at_end r bytes ls rest m at z)
    go (inr (b, after, z, s)) = none (inr (
      Line_fault (length ls + 1),
      bad_form r bytes ls rest b after m at z s (λ l fits e.
          let t : rest ≡ line_text l ++ (10 ∷ after) = s ∙ ap (λ x. x ++ (10 ∷ after)) e in
          read l after t (at_line r bytes ls rest after m at l (fits, t))),
    ))

some_answer_from : (r : LineTests) (bytes : List ℕ) → (HasAnswer r bytes → ⊥) → (n : ℕ) (ls : List Line) (rest : List ℕ) (m : State)
    → At r bytes ls rest m → length rest < n → ⊥
some_answer_from r bytes none zero ls rest m at h = absurd (omega arith)
some_answer_from r bytes none (suc n) ls rest m at h =
    answer_after r bytes none n ls rest m at (omega arith) (λ l after q further z. some_answer_from r bytes none n (ls ++ (l ∷ [])) after q further z)

-- Bytes that are no proof's text have a first line at fault.
pub some_answer : (r : LineTests) (bytes : List ℕ) → ((p : NumberedProof) → IsTextOf r p bytes → ⊥)
    → ((f : LineFault) → IsFirstFault r bytes f → ⊥) → ⊥
some_answer r bytes no_text no_bad = some_answer_from r bytes none (length bytes + 1) [] bytes begin start (omega arith)
  where
    none : HasAnswer r bytes → ⊥
    none (inl (p, t)) = no_text p t
    none (inr (f, h)) = no_bad f h

    start : At r bytes [] bytes begin
    start = record { text = refl; state = refl; fit = tt; pass = tt; within = tt }
