-- A text that breaks off, and one that goes on after its end: the next line is the first at fault.
use Rattle.std.specs.Prelude.{◌≡◌, ℕ, ◌+◌, List, [], ◌∷◌, ◌++◌, length, refl, Option, Some, None, cond, Bool, true, false}
use Rattle.std.specs.Option.{option_and_then}
use Rattle.std.proofs.Common.{sym, ◌∙◌, ap, arith, subst}
use Rattle.std.proofs.lemmas.Option.{none-some}
use Rattle.circ_line.specs.Line.{Line, head_line, table_line, place_line, certificate_line, block_line, goal_line, given_line, simplify_line}
use Rattle.circ_line.specs.Line.{reduce_line, derive_line, cases_line, done_line, same_line, split_line, if_line, left_line, right_line, end_line}
use Rattle.circ_line.specs.Text.{line_text, IsInRange}
use Rattle.circ_line.specs.Plain.{NoFeed}
use Rattle.circ_grammar.specs.Grammar.{NumberedBlock, NumberedProof, proof_lines, is_bare}
use Rattle.circ_grammar.specs.FirstBad.{LineTests, file_text, AllInRange, AllPass, NoLimit, IsTextOf, IsGood, Line_fault, IsFirstFault}
use Rattle.circ_grammar.specs.Machine.{Front, State, begin, ended, next, run, front}
use Rattle.circ_grammar.specs.Reading.{At, IsEnded}
use Rattle.circ_grammar.proofs.Complete.{proof_run, run-front, begins_run}
use Rattle.circ_grammar.proofs.FirstBad.{all_front, pass_front, more_line, run_push, follows_fit, first_bad, bad_cut}

no_test : (b : Bool) → ◌≡◌ {A = Option State} (cond b None None) None
no_test true = refl
no_test false = refl

ended_stops : (f : Front) (bs : List NumberedBlock) (l : Line) → next (ended f bs) l ≡ None
ended_stops f bs (head_line v) = refl
ended_stops f bs (table_line t) = refl
ended_stops f bs (place_line op arg) = refl
ended_stops f bs certificate_line = refl
ended_stops f bs block_line = refl
ended_stops f bs (goal_line left right) = refl
ended_stops f bs (given_line left right) = refl
ended_stops f bs simplify_line = refl
ended_stops f bs reduce_line = refl
ended_stops f bs derive_line = refl
ended_stops f bs (cases_line t) = refl
ended_stops f bs done_line = refl
ended_stops f bs same_line = refl
ended_stops f bs (split_line term count) = refl
ended_stops f bs if_line = refl
ended_stops f bs (left_line link) = no_test (is_bare link)
ended_stops f bs (right_line link) = no_test (is_bare link)
ended_stops f bs end_line = refl

limit_front : (r : LineTests) (before a b : List Line) → NoLimit r before (a ++ b) → NoLimit r before a
limit_front r before [] b h = tt
limit_front r before (l ∷ a) b h = (h.0, limit_front r (before ++ (l ∷ [])) a b h.1)

abbrev last : NumberedProof → State
last p = ended (front p.table p.places p.certificates) p.blocks

-- A reader stands after the first lines of a text, whatever comes then.
front_at : (r : LineTests) (p : NumberedProof) (bytes : List ℕ) → IsTextOf r p bytes → (ls later : List Line) (rest : List ℕ) → proof_lines p ≡ ls ++ later
    → (m : State) × At r (file_text ls ++ rest) ls rest m × (run m later ≡ Some (last p))
front_at r p bytes t ls later rest e =
    let q : (q : State) × (run begin ls ≡ Some q) × (run q later ≡ Some (last p))
    = run-front begin (last p) ls later (ap (run begin) (sym e) ∙ proof_run p t.parts) in
    let F : List Line → Type 0 = AllInRange in let P : List Line → Type 0 = AllPass r [] in let N : List Line → Type 0 = NoLimit r [] in
    let at : At r (file_text ls ++ rest) ls rest q.0 = record {
      text = refl;
      state = q.1;
      fit = all_front IsInRange ls later (subst F e t.fit);
      pass = pass_front r [] ls later (subst P e t.pass);
      within = limit_front r [] ls later (subst N e t.within);
    } in
    (q.0, at, q.2)

pub broken_off : (r : LineTests) (p : NumberedProof) (bytes : List ℕ) → IsTextOf r p bytes → (ls : List Line) (l : Line) (later : List Line)
    (rest : List ℕ) → proof_lines p ≡ ls ++ (l ∷ later) → NoFeed rest → IsFirstFault r (file_text ls ++ rest) (Line_fault (length ls + 1))
broken_off r p bytes t ls l later rest e h =
    let a : (m : State) × At r (file_text ls ++ rest) ls rest m × (run m (l ∷ later) ≡ Some (last p)) = front_at r p bytes t ls (l ∷ later) rest e in
    bad_cut r (file_text ls ++ rest) ls rest a.0 a.1 h (λ z. not_ended a.0 a.2)
  where
    not_ended : (m : State) → run m (l ∷ later) ≡ Some (last p) → IsEnded m → ⊥
    not_ended m e (f, bs, q) = let P : State → Type 0 = λ x. run x (l ∷ later) ≡ Some (last p) in
        none-some (last p) (sym (ap (λ o. option_and_then (λ n. run n later) o) (ended_stops f bs l)) ∙ subst P q e)

pub goes_on : (r : LineTests) (p : NumberedProof) (bytes : List ℕ) → IsTextOf r p bytes → (b : ℕ) (more : List ℕ)
    → IsFirstFault r (bytes ++ (b ∷ more)) (Line_fault (length (proof_lines p) + 1))
goes_on r p bytes t b more =
    first_bad r (bytes ++ (b ∷ more)) (proof_lines p) (b ∷ more) (last p) at bad (λ z. absurd (omega (arith, ap length z)))
  where
    at : At r (bytes ++ (b ∷ more)) (proof_lines p) (b ∷ more) (last p)
    at = record { text = ap (λ x. x ++ (b ∷ more)) t.text; state = proof_run p t.parts; fit = t.fit; pass = t.pass; within = t.within }

    bad : IsGood r (bytes ++ (b ∷ more)) (length (proof_lines p) + 1) → ⊥
    bad (xs, later, len, text, follows, pass) =
        let q : (l : Line) × (xs ≡ proof_lines p ++ (l ∷ [])) × (b ∷ more ≡ line_text l ++ (10 ∷ later)) × IsInRange l
        = more_line r (bytes ++ (b ∷ more)) (proof_lines p) (b ∷ more) (last p) at xs later len text (follows_fit xs follows) in
        let n : (n : State) × (run begin xs ≡ Some n) = begins_run xs (follows.0, follows.1, follows.2, follows.3) in
        let f : next (last p) q.0 ≡ Some n.0 = run_push (last p) (proof_lines p) q.0 (proof_run p t.parts) n.0 (ap (run begin) (sym q.1) ∙ n.1) in
        none-some n.0 (sym (ended_stops (front p.table p.places p.certificates) p.blocks q.0) ∙ f)
