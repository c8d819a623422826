-- The parts that good lines show fit the theory, and so do those of a proof that fits.
use Rattle.std.specs.Prelude.{◌≡◌, ℕ, ◌+◌, ◌<◌, ◌≤◌, List, [], ◌∷◌, ◌++◌, length, map, refl, Some}
use Rattle.std.specs.List.{AllByRecursion}
use Rattle.std.proofs.Common.{sym, ◌∙◌, ap, subst, arith, append_assoc, append-nil}
use Rattle.std.proofs.lemmas.List.{map-append}
use Rattle.std.proofs.lemmas.Bool.{eqb-true}
use Rattle.circ_term.specs.Tree.{Tree}
use Rattle.circ_theory.specs.Theory.{Theory}
use Rattle.circ_theory.specs.WellFormed.{IsWellFormed}
use Rattle.circ_special.specs.declared.place.Place.{Place}
use Rattle.circ_proof.specs.Plain.{LinkOf}
use Rattle.circ_proof.specs.Table.{term_limit}
use Rattle.circ_proof.specs.Rules.{Simplify, Reduce, Derive, Cases, Done}
use Rattle.circ_proof.specs.Certified.{due}
use Rattle.circ_proof.specs.Proof.{AreLinksFor, goal_at, step_limit, Proof, ProofFor}
use Rattle.circ_line.specs.Line.{Line, block_line, simplify_line, reduce_line, if_line, end_line}
use Rattle.circ_grammar.specs.Grammar.{NumberedStep, Simplify_step, Reduce_step, Derive_step, Cases_step}
use Rattle.circ_grammar.specs.Grammar.{NumberedBlock, NumberedProof, lines_of, place_lines, goal_lines}
use Rattle.circ_grammar.specs.Grammar.{chain_lines, step_lines, certificate_lines, block_lines, proof_lines, HasGoals}
use Rattle.circ_grammar.specs.Machine.{Front, OpenBlock, State, begin, tabling, placing}
use Rattle.circ_grammar.specs.Machine.{certifying, opened, stepping, simplifying, reducing, joining, closed, ended}
use Rattle.circ_grammar.specs.Machine.{front, run}
use Rattle.circ_grammar.specs.Parts.{NumberedPart, Done_part, block_parts, blocks_parts, certificate_parts, step_parts}
use Rattle.circ_grammar.specs.Parts as grammar
use Rattle.circ_grammar.specs.Shown.{front_parts, parts_with, open_parts, shown}
use Rattle.circ_grammar.proofs.Spelled.{front_lines, blocks_lines, open_lines, stack_lines, so_far, run_so_far}
use Rattle.circ_grammar.proofs.Finish.{HasWholeGoals, IsSound, run_sound}
use Rattle.circ_grammar.proofs.Complete.{proof_run}
use Rattle.circ_proof_text.specs.TableText.{entries_of}
use Rattle.circ_proof_text.specs.Checks.{nothing}
use Rattle.circ_proof_text.specs.ProofText.{numbers_of}
use Rattle.circ_proof_text.specs.Parts.{Part, Head, Certificate, Goals, Step, parts_of, place_with, part_with}
use Rattle.circ_proof.specs.Fitting.{IsHeadFor, FitSteps, FitBlocks, FitRest, Fit}
use Rattle.circ_proof_text.proofs.TableText.{one_table}
use Rattle.circ_proof_text.proofs.Fine.{AllFine}
use Rattle.circ_proof_text.proofs.FineBlocks.{seen, IsNumberedStepFor, IsNumberedBlockFor, numbered_steps_in, steps_to, names_to, blocks_to}
use Rattle.circ_proof_text.proofs.FineFronts.{certificates_to, places_to, HaveTerms, table_to}
use Rattle.circ_proof_text.proofs.Numbers.{not_empty, fits_fine}
use Rattle.circ_proof_text.proofs.Parts.{parts_are}
use Rattle.circ_proof_text.proofs.SeenTerms.{table_of}

-- lists of parts

steps_fit : (th : Theory) (ts : List Tree) (m : ℕ) (ss : List NumberedStep) (k : List Part) → AllByRecursion (IsNumberedStepFor (length ts)) ss
    → m + length ss ≤ step_limit → FitSteps th ts (m + length ss) k → FitSteps th ts m (map (part_with ts) (step_parts ss) ++ k)
steps_fit th ts m [] k h l f = let e : m + 0 ≡ m = omega arith in let P : ℕ → Type 0 = λ x. FitSteps th ts x k in subst P e f
steps_fit th ts m (Simplify_step c ∷ ss) k h l f =
    let e : m + length (Simplify_step c ∷ ss) ≡ m + 1 + length ss = omega arith in let P : ℕ → Type 0 = λ x. FitSteps th ts x k in
    (omega arith, h.0, steps_fit th ts (m + 1) ss k h.1 (omega arith) (subst P e f))
steps_fit th ts m (Reduce_step w ∷ ss) k h l f =
    let e : m + length (Reduce_step w ∷ ss) ≡ m + 1 + length ss = omega arith in let P : ℕ → Type 0 = λ x. FitSteps th ts x k in
    (omega arith, h.0, steps_fit th ts (m + 1) ss k h.1 (omega arith) (subst P e f))
steps_fit th ts m (Derive_step ∷ ss) k h l f =
    let e : m + length (Derive_step ∷ ss) ≡ m + 1 + length ss = omega arith in let P : ℕ → Type 0 = λ x. FitSteps th ts x k in
    (omega arith, tt, steps_fit th ts (m + 1) ss k h.1 (omega arith) (subst P e f))
steps_fit th ts m (Cases_step t ∷ ss) k h l f =
    let e : m + length (Cases_step t ∷ ss) ≡ m + 1 + length ss = omega arith in let P : ℕ → Type 0 = λ x. FitSteps th ts x k in
    (omega arith, h.0, steps_fit th ts (m + 1) ss k h.1 (omega arith) (subst P e f))

block_fit : (th : Theory) (ts : List Tree) (m : ℕ) (b : NumberedBlock) (k : List Part) → HasGoals b → IsNumberedBlockFor th ts b → m + (length b.steps + 1) ≤ step_limit
    → FitBlocks th ts (m + (length b.steps + 1)) k → FitBlocks th ts m (map (part_with ts) (block_parts b) ++ k)
block_fit th ts m b k g h l f =
    let e : m + (length b.steps + 1) ≡ m + length b.steps + 1 = omega arith in
    let P : ℕ → Type 0 = λ x. FitBlocks th ts x k in
    let Q : List Part → Type 0 = λ x. FitSteps th ts m x in
    let a : List Part = map (part_with ts) (step_parts b.steps) in
    let s : FitSteps th ts m (a ++ (Step Done ∷ k)) = steps_fit th ts m b.steps (Step Done ∷ k) h.steps (omega arith) (omega arith, subst P e f) in
    let same : a ++ (Step Done ∷ k) ≡ map (part_with ts) (step_parts b.steps ++ Done_part ∷ []) ++ k
    = sym (append_assoc a (Step Done ∷ []) k) ∙ ap (λ x. x ++ k) (sym (map-append (part_with ts) (step_parts b.steps) (Done_part ∷ []))) in
    (record { some_goal = not_empty b.goals g; names_fit = h.names; goals_are = refl }, subst Q same s)

blocks_fit : (th : Theory) (ts : List Tree) (m : ℕ) (bs : List NumberedBlock) (k : List Part) → AllByRecursion HasGoals bs → AllByRecursion (IsNumberedBlockFor th ts) bs
    → m + numbered_steps_in bs ≤ step_limit → FitBlocks th ts (m + numbered_steps_in bs) k → FitBlocks th ts m (map (part_with ts) (blocks_parts bs) ++ k)
blocks_fit th ts m [] k g h l f = let e : m + 0 ≡ m = omega arith in let P : ℕ → Type 0 = λ x. FitBlocks th ts x k in subst P e f
blocks_fit th ts m (b ∷ bs) k g h l f =
    let e : m + numbered_steps_in (b ∷ bs) ≡ m + (length b.steps + 1) + numbered_steps_in bs = omega arith in
    let P : ℕ → Type 0 = λ x. FitBlocks th ts x k in
    let Q : List Part → Type 0 = λ x. FitBlocks th ts m x in
    let a : List Part = map (part_with ts) (block_parts b) in
    let r : FitBlocks th ts m (a ++ (map (part_with ts) (blocks_parts bs) ++ k))
    = block_fit th ts m b (map (part_with ts) (blocks_parts bs) ++ k) g.0 h.0 (omega arith)
    (blocks_fit th ts (m + (length b.steps + 1)) bs k g.1 h.1 (omega arith) (subst P e f)) in
    subst Q (sym (append_assoc a (map (part_with ts) (blocks_parts bs)) k)
    ∙ ap (λ x. x ++ k) (sym (map-append (part_with ts) (block_parts b) (blocks_parts bs)))) r

certificates_fit : (th : Theory) (ts : List Tree) (gs : List Place) (n : ℕ) (cs : List (List (LinkOf ℕ))) (k : List Part)
    → AllByRecursion (AreLinksFor (length ts)) cs → n + length cs ≤ length (due th gs) → FitRest th ts gs (n + length cs) k
    → FitRest th ts gs n (map (part_with ts) (certificate_parts cs) ++ k)
certificates_fit th ts gs n [] k h l f = let e : n + 0 ≡ n = omega arith in let P : ℕ → Type 0 = λ x. FitRest th ts gs x k in subst P e f
certificates_fit th ts gs n (c ∷ cs) k h l f =
    let e : n + length (c ∷ cs) ≡ n + 1 + length cs = omega arith in let P : ℕ → Type 0 = λ x. FitRest th ts gs x k in
    (omega arith, h.0, certificates_fit th ts gs (n + 1) cs k h.1 (omega arith) (subst P e f))

rest_fit : (th : Theory) (ts : List Tree) (gs : List Place) (n : ℕ) (k : List Part) → n ≡ length (due th gs) → FitBlocks th ts 0 k → FitRest th ts gs n k
rest_fit th ts gs n [] e f = tt
rest_fit th ts gs n (Goals goals names ∷ k) e f = (e, f)
rest_fit th ts gs n (Head table places ∷ k) e f = absurd f
rest_fit th ts gs n (Certificate ls ∷ k) e f = absurd f
rest_fit th ts gs n (Step s ∷ k) e f = absurd f

-- parts that fit, cut off

mutual
  steps_cut : (th : Theory) (ts : List Tree) (m : ℕ) (xs ys : List Part) → FitSteps th ts m (xs ++ ys) → FitSteps th ts m xs
  steps_cut th ts m [] ys f = tt
  steps_cut th ts m (Step Done ∷ xs) ys f = (f.0, blocks_cut th ts (m + 1) xs ys f.1)
  steps_cut th ts m (Step (Simplify c) ∷ xs) ys f = (f.0, f.1, steps_cut th ts (m + 1) xs ys f.2)
  steps_cut th ts m (Step (Reduce w) ∷ xs) ys f = (f.0, f.1, steps_cut th ts (m + 1) xs ys f.2)
  steps_cut th ts m (Step Derive ∷ xs) ys f = (f.0, f.1, steps_cut th ts (m + 1) xs ys f.2)
  steps_cut th ts m (Step (Cases u) ∷ xs) ys f = (f.0, f.1, steps_cut th ts (m + 1) xs ys f.2)
  steps_cut th ts m (Head table places ∷ xs) ys f = absurd f
  steps_cut th ts m (Certificate ls ∷ xs) ys f = absurd f
  steps_cut th ts m (Goals goals names ∷ xs) ys f = absurd f

  blocks_cut : (th : Theory) (ts : List Tree) (m : ℕ) (xs ys : List Part) → FitBlocks th ts m (xs ++ ys) → FitBlocks th ts m xs
  blocks_cut th ts m [] ys f = tt
  blocks_cut th ts m (Goals goals names ∷ xs) ys f = (f.0, steps_cut th ts m xs ys f.1)
  blocks_cut th ts m (Head table places ∷ xs) ys f = absurd f
  blocks_cut th ts m (Certificate ls ∷ xs) ys f = absurd f
  blocks_cut th ts m (Step s ∷ xs) ys f = absurd f

rest_cut : (th : Theory) (ts : List Tree) (gs : List Place) (n : ℕ) (xs ys : List Part) → FitRest th ts gs n (xs ++ ys) → FitRest th ts gs n xs
rest_cut th ts gs n [] ys f = tt
rest_cut th ts gs n (Certificate ls ∷ xs) ys f = (f.0, f.1, rest_cut th ts gs (n + 1) xs ys f.2)
rest_cut th ts gs n (Goals goals names ∷ xs) ys f = (f.0, blocks_cut th ts 0 (Goals goals names ∷ xs) ys f.1)
rest_cut th ts gs n (Head table places ∷ xs) ys f = absurd f
rest_cut th ts gs n (Step s ∷ xs) ys f = absurd f

pub fit_cut : (th : Theory) (xs ys : List Part) → Fit th (xs ++ ys) → Fit th xs
fit_cut th [] ys f = tt
fit_cut th (Head table places ∷ xs) ys f = (f.0, rest_cut th table places 0 xs ys f.1)
fit_cut th (Certificate ls ∷ xs) ys f = absurd f
fit_cut th (Goals goals names ∷ xs) ys f = absurd f
fit_cut th (Step s ∷ xs) ys f = absurd f

-- what the lines up to the first block give
record IsFrontFor (th : Theory) (f : Front) (ts : List Tree) : Type 0 where
  pub lines : entries_of [] ts ≡ f.table.lines
  pub head : IsHeadFor th ts (map place_with f.places)
  pub certificates_fit : AllByRecursion (AreLinksFor (length ts)) f.certificates
  pub few : length f.certificates ≤ length (due th (map place_with f.places))

front_to : (th : Theory) (f : Front) (k : List Line) → AllFine th nothing (front_lines f k)
    → (ts : List Tree) × IsFrontFor th f ts × AllFine th (seen f.table.version ts (map place_with f.places) (length f.certificates) 0) k
front_to th f k h =
    let gs : List Place = map place_with f.places in
    let e : (us : List Tree) × HaveTerms th [] f.table.lines us
    × AllFine th (seen f.table.version us [] 0 0) (lines_of place_lines f.places (lines_of certificate_lines f.certificates k))
    = table_to th f.table.version [] f.table.lines (lines_of place_lines f.places (lines_of certificate_lines f.certificates k)) tt (omega arith) h.3 in
    let ts : List Tree = e.0 in
    let g = places_to th f.table.version ts [] f.places (lines_of certificate_lines f.certificates k) tt e.2 in
    let c = certificates_to th f.table.version ts gs 0 f.certificates k (omega arith) g.1 in
    let z : 0 + length f.certificates ≡ length f.certificates = omega arith in
    let P : ℕ → Type 0 = λ x. AllFine th (seen f.table.version ts gs x 0) k in
    let few : 0 + length f.certificates ≤ length (due th gs) = c.2 in
    let short : 0 + length ts ≤ term_limit = e.1.few in (
      ts,
      record {
        lines = e.1.lines;
        head = record {
          sorted = e.1.sorted;
          within = e.1.within;
          entries = e.1.entries;
          short_table = omega (arith, short);
          set = record { increasing = g.0.increasing; places = g.0.places };
        };
        certificates_fit = c.0;
        few = omega (arith, few);
      },
      subst P z c.3,
    )

-- blocks that fit after such a front, and more parts after them
record AreBlocksAfter (th : Theory) (f : Front) (ts : List Tree) (bs : List NumberedBlock) (k : List Part) : Type 0 where
  pub all_certified : 0 < length bs → length f.certificates ≡ length (due th (map place_with f.places))
  pub have_goals : AllByRecursion HasGoals bs
  pub blocks_for : AllByRecursion (IsNumberedBlockFor th ts) bs
  pub few_steps : 0 + numbered_steps_in bs ≤ step_limit
  pub certified_before : 0 < length k → length f.certificates ≡ length (due th (map place_with f.places))
  pub rest_fits : FitBlocks th ts (0 + numbered_steps_in bs) k

whole_fit : (th : Theory) (f : Front) (ts : List Tree) (bs : List NumberedBlock) (k : List Part) → IsFrontFor th f ts → AreBlocksAfter th f ts bs k
    → Fit th (map (part_with ts) (parts_with f bs) ++ k)
whole_fit th f ts bs k fr h =
    let gs : List Place = map place_with f.places in
    let z : length f.certificates ≡ 0 + length f.certificates = omega arith in
    let few : length f.certificates ≤ length (due th gs) = fr.few in
    let a : List Part = map (part_with ts) (certificate_parts f.certificates) in
    let b : List Part = map (part_with ts) (blocks_parts bs) in
    let P : ℕ → Type 0 = λ x. FitRest th ts gs x (b ++ k) in
    let Q : List Part → Type 0 = λ x. FitRest th ts gs 0 x in
    let rest : FitRest th ts gs (length f.certificates) (b ++ k)
    = go bs h.all_certified (blocks_fit th ts 0 bs k h.have_goals h.blocks_for h.few_steps h.rest_fits) in (
      fr.head,
      subst Q (sym (append_assoc a b k) ∙ ap (λ x. x ++ k) (sym (map-append (part_with ts) (certificate_parts f.certificates) (blocks_parts bs))))
          (certificates_fit th ts gs 0 f.certificates (b ++ k) fr.certificates_fit (omega (arith, few)) (subst P z rest)),
    )
  where
    no_block : (k : List Part) → (0 < length k → length f.certificates ≡ length (due th (map place_with f.places))) → FitBlocks th ts 0 k
        → FitRest th ts (map place_with f.places) (length f.certificates) k
    no_block [] c r = tt
    no_block (x ∷ k) c r = rest_fit th ts (map place_with f.places) (length f.certificates) (x ∷ k) (c (omega arith)) r

    go : (bs : List NumberedBlock) → (0 < length bs → length f.certificates ≡ length (due th (map place_with f.places)))
        → FitBlocks th ts 0 (map (part_with ts) (blocks_parts bs) ++ k)
        → FitRest th ts (map place_with f.places) (length f.certificates) (map (part_with ts) (blocks_parts bs) ++ k)
    go [] c r = no_block k h.certified_before r
    go (b ∷ bs) c r =
        rest_fit th ts (map place_with f.places) (length f.certificates) (map (part_with ts) (blocks_parts (b ∷ bs)) ++ k) (c (omega arith)) r

-- The parts fit over the terms of the front's table.
abbrev pub Shows : Theory → Front → List NumberedPart → Type 0
Shows th f xs = (ts : List Tree) × (entries_of [] ts ≡ f.table.lines) × IsHeadFor th ts (map place_with f.places) × Fit th (map (part_with ts) xs)

nil_fit : (th : Theory) (ts : List Tree) (xs : List NumberedPart) → Fit th (map (part_with ts) xs ++ []) → Fit th (map (part_with ts) xs)
nil_fit th ts xs f = let P : List Part → Type 0 = Fit th in subst P (append-nil (map (part_with ts) xs)) f

front_shows : (th : Theory) (f : Front) (k : List Line) → AllFine th nothing (front_lines f k) → Shows th f (front_parts f)
front_shows th f k h =
    let r : (ts : List Tree) × IsFrontFor th f ts × AllFine th (seen f.table.version ts (map place_with f.places) (length f.certificates) 0) k = front_to th f k h in
    let a : Fit th (map (part_with r.0) (parts_with f []) ++ []) = whole_fit th f r.0 [] [] r.1 (record {
      all_certified = λ z. absurd (omega arith);
      have_goals = tt;
      blocks_for = tt;
      few_steps = omega arith;
      certified_before = λ z. absurd (omega arith);
      rest_fits = tt;
    }) in
    let P : List NumberedPart → Type 0 = λ x. Fit th (map (part_with r.0) x) in
    (r.0, r.1.lines, r.1.head, subst P (append-nil (front_parts f)) (nil_fit th r.0 (parts_with f []) a))

blocks_shows : (th : Theory) (f : Front) (bs : List NumberedBlock) (k : List Line) → AllByRecursion HasGoals bs → AllFine th nothing (blocks_lines f bs k)
    → Shows th f (parts_with f bs)
blocks_shows th f bs k g h =
    let gs : List Place = map place_with f.places in
    let r : (ts : List Tree) × IsFrontFor th f ts × AllFine th (seen f.table.version ts gs (length f.certificates) 0) (lines_of block_lines bs k)
    = front_to th f (lines_of block_lines bs k) h in
    let b = blocks_to th f.table.version r.0 gs (length f.certificates) 0 bs k (omega arith) r.2 in (
      r.0,
      r.1.lines,
      r.1.head,
      nil_fit th r.0 (parts_with f bs) (whole_fit th f r.0 bs [] r.1 (record {
        all_certified = b.0;
        have_goals = g;
        blocks_for = b.1;
        few_steps = b.3;
        certified_before = λ z. absurd (omega arith);
        rest_fits = tt;
      })),
    )

open_shows : (th : Theory) (o : OpenBlock) (k : List Line) → HasWholeGoals o → AllFine th nothing (open_lines o k) → Shows th o.front (open_parts o)
open_shows th o k g h =
    let bs : List NumberedBlock = o.blocks in
    let f : Front = o.front in
    let gs : List Place = map place_with f.places in
    let rest : List Line = lines_of goal_lines o.goals (lines_of step_lines o.steps k) in
    let r : (ts : List Tree) × IsFrontFor th f ts × AllFine th (seen f.table.version ts gs (length f.certificates) 0) (lines_of block_lines bs (block_line ∷ rest))
    = front_to th f (lines_of block_lines bs (block_line ∷ rest)) h in
    let ts : List Tree = r.0 in
    let b = blocks_to th f.table.version ts gs (length f.certificates) 0 bs (block_line ∷ rest) (omega arith) r.2 in
    let m : ℕ = 0 + numbered_steps_in bs in
    let low : m ≤ step_limit = b.3 in
    let one : length f.certificates ≡ length (due th gs) = eqb-true (length f.certificates) (length (due th gs)) b.4.1 in
    let n = names_to th f.table.version ts gs (length f.certificates) m 0 o.goals (lines_of step_lines o.steps k) b.4.3 in
    let s = steps_to th f.table.version ts gs (length f.certificates) m n.2.0 o.steps k low n.2.1 in
    let x : List Part = Goals (map (goal_at ts) o.goals) o.goals ∷ map (part_with ts) (step_parts o.steps) in
    let P : List Part → Type 0 = λ y. FitSteps th ts m y in
    let inner : FitSteps th ts m (map (part_with ts) (step_parts o.steps))
    = subst P (append-nil (map (part_with ts) (step_parts o.steps))) (steps_fit th ts m o.steps [] s.0 s.2 tt) in
    let a : Fit th (map (part_with ts) (parts_with f bs) ++ x) = whole_fit th f ts bs x r.1 (record {
      all_certified = b.0;
      have_goals = g.0;
      blocks_for = b.1;
      few_steps = b.3;
      certified_before = λ z. one;
      rest_fits = (record { some_goal = not_empty o.goals g.1; names_fit = n.0; goals_are = refl }, inner);
    }) in
    let Q : List Part → Type 0 = Fit th in
    (ts, r.1.lines, r.1.head, subst Q (sym (map-append (part_with ts) (parts_with f bs) _)) a)

-- what the parts of a state are that is reached by fine lines
abbrev pub ShowsAt : Theory → State → Type 0
ShowsAt th begin = Unit {0}
ShowsAt th (tabling es) = Unit {0}
ShowsAt th (placing es ps) = Unit {0}
ShowsAt th (certifying f ls) = Shows th f (front_parts f)
ShowsAt th (opened o) = Shows th o.front (parts_with o.front o.blocks)
ShowsAt th (stepping o) = Shows th o.front (open_parts o)
ShowsAt th (simplifying o c) = Shows th o.front (open_parts o)
ShowsAt th (reducing o fs c) = Shows th o.front (open_parts o)
ShowsAt th (joining m c) = ShowsAt th m
ShowsAt th (closed f bs) = Shows th f (parts_with f bs)
ShowsAt th (ended f bs) = Shows th f (parts_with f bs)

state_shows : (th : Theory) (m : State) (k : List Line) → IsSound m → AllFine th nothing (so_far m k) → ShowsAt th m
state_shows th begin k g h = tt
state_shows th (tabling es) k g h = tt
state_shows th (placing es ps) k g h = tt
state_shows th (certifying f ls) k g h = front_shows th f (certificate_lines ls k) h
state_shows th (opened o) k g h = blocks_shows th o.front o.blocks (block_line ∷ lines_of goal_lines o.goals k) g h
state_shows th (stepping o) k g h = open_shows th o k g h
state_shows th (simplifying o c) k g h = open_shows th o (simplify_line ∷ chain_lines c k) g h
state_shows th (reducing o fs c) k g h = open_shows th o (reduce_line ∷ stack_lines fs (chain_lines c k)) g.0 h
state_shows th (joining m c) k g h = state_shows th m (if_line ∷ chain_lines c k) g.0 h
state_shows th (closed f bs) k g h = blocks_shows th f bs k g.1 h
state_shows th (ended f bs) k g h = blocks_shows th f bs (end_line ∷ k) g.1 h

-- The parts that fine lines show fit.
pub lines_show : (th : Theory) (ls : List Line) (m : State) → run begin ls ≡ Some m → AllFine th nothing ls → ShowsAt th m
lines_show th ls m e h =
    let same : ls ≡ so_far m [] = sym (run_so_far begin m ls [] e ∙ append-nil ls) in
    let P : List Line → Type 0 = AllFine th nothing in
    state_shows th m [] (run_sound begin m ls tt e) (subst P same h)

over_table : (th : Theory) (f : Front) (xs : List NumberedPart) (ts : List Tree) → HaveTerms th [] f.table.lines ts → Shows th f xs → Fit th (map (part_with ts) xs)
over_table th f xs ts k s =
    let same : s.0 ≡ ts = one_table th.signature [] s.0 ts s.2.entries k.entries s.2.sorted k.sorted (s.1 ∙ sym k.lines) in
    let P : List Tree → Type 0 = λ x. Fit th (map (part_with x) xs) in subst P same s.3

-- and so they do over the terms of the state's table
pub shows_fit : (th : Theory) (m : State) (ts : List Tree) → HaveTerms th [] (table_of m) ts → ShowsAt th m → Fit th (map (part_with ts) (shown m))
shows_fit th begin ts k s = tt
shows_fit th (tabling es) ts k s = tt
shows_fit th (placing es ps) ts k s = tt
shows_fit th (certifying f ls) ts k s = over_table th f (shown (certifying f ls)) ts k s
shows_fit th (opened o) ts k s = over_table th o.front (shown (opened o)) ts k s
shows_fit th (stepping o) ts k s = over_table th o.front (shown (stepping o)) ts k s
shows_fit th (simplifying o c) ts k s = over_table th o.front (shown (simplifying o c)) ts k s
shows_fit th (reducing o fs c) ts k s = over_table th o.front (shown (reducing o fs c)) ts k s
shows_fit th (joining m c) ts k s = shows_fit th m ts k s
shows_fit th (closed f bs) ts k s = over_table th f (shown (closed f bs)) ts k s
shows_fit th (ended f bs) ts k s = over_table th f (shown (ended f bs)) ts k s

-- The parts of a proof that fits, fit.
pub parts_fit : (th : Theory) (p : Proof) → IsWellFormed th → ProofFor th p → Fit th (parts_of p)
parts_fit th p w f =
    let a = fits_fine th p w f in
    let q : NumberedProof = numbers_of p in
    let s : Shows th (front q.table q.places q.certificates) (grammar.parts_of q)
    = lines_show th (proof_lines q) (ended (front q.table q.places q.certificates) q.blocks) (proof_run q a.0) a.1 in
    let same : s.0 ≡ p.table = one_table th.signature [] s.0 p.table s.2.entries f.entries s.2.sorted f.sorted s.1 in
    let P : List Tree → Type 0 = λ x. Fit th (map (part_with x) (grammar.parts_of q)) in
    let Q : List Part → Type 0 = Fit th in
    subst Q (parts_are th p f) (subst P same s.3)
