-- The terms that lines have given are those of the table that they have written.
use Rattle.std.specs.Prelude.{◌≡◌, ℕ, zero, suc, Bool, true, false, List, [], ◌∷◌, ◌++◌, refl, Some}
use Rattle.std.specs.List.{AllByRecursion}
use Rattle.std.proofs.Common.{sym, ◌∙◌, ap, subst, arith, append_assoc, append-nil}
use Rattle.circ_term.specs.Tree.{Tree}
use Rattle.circ_theory.specs.Signature.{IsWellSorted}
use Rattle.circ_theory.specs.Theory.{Theory}
use Rattle.circ_proof.specs.Plain.{LinkOf, LinksOf, ChainsOf, Equation_link, Hypothesis_link, Assumption_link, Content_link, no_link, more_links, no_chain}
use Rattle.circ_proof.specs.Plain.{more_chains, ChainOf, WhyOf, WhysOf, Same_why, Split_why, no_why, more_whys}
use Rattle.circ_proof.specs.Proof.{GoalNames, AreEntries}
use Rattle.circ_line.specs.Line.{TableLine, Line, head_line, table_line, place_line, certificate_line, block_line, goal_line, given_line, simplify_line}
use Rattle.circ_line.specs.Line.{reduce_line, derive_line, cases_line, done_line, same_line, split_line, if_line, left_line, right_line, end_line}
use Rattle.circ_proof.specs.Counting.{why_count}
use Rattle.circ_grammar.specs.Grammar.{NumberedStep, Simplify_step, Reduce_step, Derive_step, Cases_step, NumberedTable, NumberedBlock, lines_of, table_lines, place_lines}
use Rattle.circ_grammar.specs.Grammar.{head_lines, conds_lines, left_row, right_row, link_conds, given_lines}
use Rattle.circ_grammar.specs.Grammar.{left_lines, right_lines, goal_lines, chain_lines, why_lines, whys_lines, step_lines, certificate_lines, block_lines}
use Rattle.circ_grammar.specs.Machine.{Front, OpenBlock, OpenSplit, State, begin, tabling, placing, certifying, opened, stepping, simplifying, reducing}
use Rattle.circ_grammar.specs.Machine.{joining, closed, ended, front, run}
use Rattle.circ_grammar.proofs.Spelled.{front_lines, stack_lines, so_far, run_so_far}
use Rattle.circ_proof_text.specs.TableText.{entries_of}
use Rattle.circ_proof_text.specs.Checks.{Seen, nothing, with_term, after_same, after, after_all}
use Rattle.circ_proof_text.proofs.TableText.{entry_args, entry_term}
use Rattle.circ_proof_text.proofs.Fine.{AllFine}
use Rattle.circ_proof_text.proofs.FineBlocks.{seen}
use Rattle.circ_proof_text.proofs.FineFronts.{HaveTerms, table_to}

-- the lines of the table that a state has
abbrev pub table_of : State → List TableLine
table_of begin = []
table_of (tabling es) = es.lines
table_of (placing es ps) = es.lines
table_of (certifying f ls) = f.table.lines
table_of (opened o) = o.front.table.lines
table_of (stepping o) = o.front.table.lines
table_of (simplifying o c) = o.front.table.lines
table_of (reducing o fs c) = o.front.table.lines
table_of (joining m c) = table_of m
table_of (closed f bs) = f.table.lines
table_of (ended f bs) = f.table.lines

-- the version that its first line has named
abbrev pub version_of : State → ℕ
version_of begin = 0
version_of (tabling es) = es.version
version_of (placing es ps) = es.version
version_of (certifying f ls) = f.table.version
version_of (opened o) = o.front.table.version
version_of (stepping o) = o.front.table.version
version_of (simplifying o c) = o.front.table.version
version_of (reducing o fs c) = o.front.table.version
version_of (joining m c) = version_of m
version_of (closed f bs) = f.table.version
version_of (ended f bs) = f.table.version

-- lines that are none of the table

abbrev pub is_of_table : Line → Bool
is_of_table (table_line l) = true
is_of_table _ = false

-- nor the first line
abbrev is_of_head : Line → Bool
is_of_head (head_line v) = true
is_of_head l = is_of_table l

abbrev NoTable : List Line → Type 0
NoTable ls = AllByRecursion (λ l. is_of_head l ≡ false) ls

no_table : {A : Type 0} (f : A → List Line → List Line) → ((x : A) (k : List Line) → NoTable k → NoTable (f x k)) → (xs : List A) (k : List Line) → NoTable k
    → NoTable (lines_of f xs k)
no_table f h [] k n = n
no_table f h (x ∷ xs) k n = h x (lines_of f xs k) (no_table f h xs k n)

mutual
  conds_no_table : (cs : ChainsOf ℕ) (k : List Line) → NoTable k → NoTable (conds_lines cs k)
  conds_no_table no_chain k n = n
  conds_no_table (more_chains l r cs) k n =
      (refl, lefts_no_table l (right_row r (same_line ∷ conds_lines cs k)) (rights_no_table r (same_line ∷ conds_lines cs k) (refl, conds_no_table cs k n)))

  link_no_table : (l : LinkOf ℕ) (k : List Line) → NoTable k → NoTable (link_conds l k)
  link_no_table (Equation_link number way path ts cs) k n = conds_no_table cs k n
  link_no_table (Hypothesis_link number way path ts cs) k n = conds_no_table cs k n
  link_no_table (Assumption_link number way path) k n = n
  link_no_table (Content_link op path t) k n = n

  lefts_no_table : (r : LinksOf ℕ) (k : List Line) → NoTable k → NoTable (left_row r k)
  lefts_no_table no_link k n = n
  lefts_no_table (more_links l ls) k n = (refl, link_no_table l (left_row ls k) (lefts_no_table ls k n))

  rights_no_table : (r : LinksOf ℕ) (k : List Line) → NoTable k → NoTable (right_row r k)
  rights_no_table no_link k n = n
  rights_no_table (more_links l ls) k n = (refl, link_no_table l (right_row ls k) (rights_no_table ls k n))

chain_no_table : (c : ChainOf ℕ) (k : List Line) → NoTable k → NoTable (chain_lines c k)
chain_no_table c k n =
    no_table left_lines (λ x j h. (refl, link_no_table x j h)) c.left (lines_of right_lines c.right k)
    (no_table right_lines (λ x j h. (refl, link_no_table x j h)) c.right k n)

mutual
  why_no_table : (w : WhyOf ℕ) (k : List Line) → NoTable k → NoTable (why_lines w k)
  why_no_table (Same_why c) k n = chain_no_table c (same_line ∷ k) (refl, n)
  why_no_table (Split_why c t ws) k n = chain_no_table c (split_line t (why_count ws) ∷ whys_lines ws k) (refl, whys_no_table ws k n)

  whys_no_table : (ws : WhysOf ℕ) (k : List Line) → NoTable k → NoTable (whys_lines ws k)
  whys_no_table no_why k n = n
  whys_no_table (more_whys w ws) k n = why_no_table w (whys_lines ws k) (whys_no_table ws k n)

step_no_table : (s : NumberedStep) (k : List Line) → NoTable k → NoTable (step_lines s k)
step_no_table (Simplify_step c) k n = (refl, chain_no_table c k n)
step_no_table (Reduce_step w) k n = (refl, why_no_table w k n)
step_no_table Derive_step k n = (refl, n)
step_no_table (Cases_step t) k n = (refl, n)

places_no_table : (ps : List (ℕ × ℕ)) (k : List Line) → NoTable k → NoTable (lines_of place_lines ps k)
places_no_table ps k n = no_table place_lines (λ x j h. (refl, h)) ps k n

goals_no_table : (gs : List GoalNames) (k : List Line) → NoTable k → NoTable (lines_of goal_lines gs k)
goals_no_table gs k n = no_table goal_lines (λ x j h. (refl, no_table given_lines (λ y i z. (refl, z)) x.conds j h)) gs k n

certificate_no_table : (ls : List (LinkOf ℕ)) (k : List Line) → NoTable k → NoTable (certificate_lines ls k)
certificate_no_table ls k n = (refl, no_table left_lines (λ x j h. (refl, link_no_table x j h)) ls k n)

block_no_table : (b : NumberedBlock) (k : List Line) → NoTable k → NoTable (block_lines b k)
block_no_table b k n =
    (refl, goals_no_table b.goals (lines_of step_lines b.steps (done_line ∷ k)) (no_table step_lines step_no_table b.steps (done_line ∷ k) (refl, n)))

blocks_no_table : (bs : List NumberedBlock) (k : List Line) → NoTable k → NoTable (lines_of block_lines bs k)
blocks_no_table bs k n = no_table block_lines block_no_table bs k n

-- the lines of an open block after its front
open_no_table : (o : OpenBlock) (k : List Line) → NoTable k
    → NoTable (lines_of block_lines o.blocks (block_line ∷ lines_of goal_lines o.goals (lines_of step_lines o.steps k)))
open_no_table o k n =
    blocks_no_table o.blocks (block_line ∷ lines_of goal_lines o.goals (lines_of step_lines o.steps k))
    (refl, goals_no_table o.goals (lines_of step_lines o.steps k) (no_table step_lines step_no_table o.steps k n))

stack_no_table : (fs : List OpenSplit) (k : List Line) → NoTable k → NoTable (stack_lines fs k)
stack_no_table [] k n = n
stack_no_table (f ∷ fs) k n =
    stack_no_table fs (chain_lines f.chain (split_line f.term f.count ∷ whys_lines f.whys k))
    (chain_no_table f.chain (split_line f.term f.count ∷ whys_lines f.whys k) (refl, whys_no_table f.whys k n))

-- what lines give

pub same_terms : (th : Theory) (c : Seen) (l : Line) → is_of_table l ≡ false → (after th c l).terms ≡ c.terms
same_terms th c (head_line v) z = refl
same_terms th c (table_line x) z = absurd (cc)
same_terms th c (place_line a b) z = refl
same_terms th c certificate_line z = refl
same_terms th c block_line z = refl
same_terms th c (goal_line a b) z = refl
same_terms th c (given_line a b) z = refl
same_terms th c simplify_line z = refl
same_terms th c reduce_line z = refl
same_terms th c derive_line z = refl
same_terms th c (cases_line t) z = refl
same_terms th c done_line z = refl
same_terms th c same_line z = closes c.ifs
  where
    closes : (n : ℕ) → (after_same c n).terms ≡ c.terms
    closes zero = refl
    closes (suc n) = refl
same_terms th c (split_line t n) z = refl
same_terms th c if_line z = refl
same_terms th c (left_line l) z = refl
same_terms th c (right_line l) z = refl
same_terms th c end_line z = refl

-- the terms and the version
abbrev head_in : Seen → List Tree × ℕ
head_in c = (c.terms, c.version)

same_head : (th : Theory) (c : Seen) (l : Line) → is_of_head l ≡ false → head_in (after th c l) ≡ head_in c
same_head th c (head_line v) z = absurd (cc)
same_head th c (table_line x) z = absurd (cc)
same_head th c (place_line a b) z = refl
same_head th c certificate_line z = refl
same_head th c block_line z = refl
same_head th c (goal_line a b) z = refl
same_head th c (given_line a b) z = refl
same_head th c simplify_line z = refl
same_head th c reduce_line z = refl
same_head th c derive_line z = refl
same_head th c (cases_line t) z = refl
same_head th c done_line z = refl
same_head th c (split_line t n) z = refl
same_head th c if_line z = refl
same_head th c (left_line l) z = refl
same_head th c (right_line l) z = refl
same_head th c end_line z = refl
same_head th c same_line z = closes c.ifs
  where
    closes : (n : ℕ) → head_in (after_same c n) ≡ head_in c
    closes zero = refl
    closes (suc n) = refl

head_stays : (th : Theory) (c : Seen) (k : List Line) → NoTable k → head_in (after_all th c k) ≡ head_in c
head_stays th c [] n = refl
head_stays th c (l ∷ k) n = head_stays th (after th c l) k n.1 ∙ same_head th c l n.0

table_gives : (th : Theory) (v : ℕ) (ts us : List Tree) (k : List Line) → AreEntries ts us → AllByRecursion (IsWellSorted th.signature) us
    → after_all th (seen v ts [] 0 0) (lines_of table_lines (entries_of ts us) k) ≡ after_all th (seen v (ts ++ us) [] 0 0) k
table_gives th v ts [] k b g = ap (λ x. after_all th (seen v x [] 0 0) k) (sym (append-nil ts))
table_gives th v ts (u ∷ us) k b g =
    ap (λ o. after_all th (with_term (seen v ts [] 0 0) o) (lines_of table_lines (entries_of (ts ++ u ∷ []) us) k))
    (entry_term th.signature ts u (entry_args ts u b.0) g.0)
    ∙ table_gives th v (ts ++ u ∷ []) us k b.1 g.1 ∙ ap (λ x. after_all th (seen v x [] 0 0) k) (append_assoc ts (u ∷ []) us)

-- what such lines give: the terms of the table, and the version
record Gives (th : Theory) (v : ℕ) (ls : List TableLine) (c : Seen) : Type 0 where
  pub terms : HaveTerms th [] ls c.terms
  pub version : c.version ≡ v

-- the lines of a table and then lines that are none of it
table_terms : (th : Theory) (es : NumberedTable) (k : List Line) → NoTable k → AllFine th nothing (head_lines es k)
    → Gives th es.version es.lines (after_all th nothing (head_lines es k))
table_terms th es k n h =
    let v : ℕ = es.version in
    let r : (us : List Tree) × HaveTerms th [] es.lines us × AllFine th (seen v us [] 0 0) k = table_to th v [] es.lines k tt (omega arith) h.3 in
    let P : List Tree → Type 0 = HaveTerms th [] es.lines in
    let given : head_in (after_all th nothing (head_lines es k)) ≡ (r.0, v)
    = ap (λ x. head_in (after_all th (seen v [] [] 0 0) (lines_of table_lines x k))) (sym r.1.lines)
    ∙ ap head_in (table_gives th v [] r.0 k r.1.entries r.1.sorted) ∙ head_stays th (seen v r.0 [] 0 0) k n in
    record { terms = subst P (sym (ap (λ x. x.0) given)) r.1; version = ap (λ x. x.1) given }

front_terms : (th : Theory) (f : Front) (k : List Line) → NoTable k → AllFine th nothing (front_lines f k)
    → Gives th f.table.version f.table.lines (after_all th nothing (front_lines f k))
front_terms th f k n h =
    table_terms th f.table (lines_of place_lines f.places (lines_of certificate_lines f.certificates k))
    (places_no_table f.places (lines_of certificate_lines f.certificates k) (no_table certificate_lines certificate_no_table f.certificates k n)) h

begin_terms : (th : Theory) (k : List Line) → NoTable k → Gives th 0 [] (after_all th nothing k)
begin_terms th k n =
    let P : List Tree → Type 0 = HaveTerms th [] [] in
    let given : head_in (after_all th nothing k) ≡ ([], 0) = head_stays th nothing k n in
    record {
      terms = subst P (sym (ap (λ x. x.0) given)) (record { lines = refl; entries = tt; sorted = tt; within = tt; few = omega arith });
      version = ap (λ x. x.1) given;
    }

state_terms : (th : Theory) (m : State) (k : List Line) → NoTable k → AllFine th nothing (so_far m k)
    → Gives th (version_of m) (table_of m) (after_all th nothing (so_far m k))
state_terms th begin k n h = begin_terms th k n
state_terms th (tabling es) k n h = front_terms th (front es [] []) k n h
state_terms th (placing es ps) k n h = front_terms th (front es ps []) k n h
state_terms th (certifying f ls) k n h = front_terms th f (certificate_lines ls k) (certificate_no_table ls k n) h
state_terms th (opened o) k n h =
    let j : List Line = block_line ∷ lines_of goal_lines o.goals k in
    front_terms th o.front (lines_of block_lines o.blocks j) (blocks_no_table o.blocks j (refl, goals_no_table o.goals k n)) h
state_terms th (stepping o) k n h = front_terms th o.front _ (open_no_table o k n) h
state_terms th (simplifying o c) k n h = front_terms th o.front _ (open_no_table o (simplify_line ∷ chain_lines c k) (refl, chain_no_table c k n)) h
state_terms th (reducing o fs c) k n h =
    front_terms th o.front _ (open_no_table o (reduce_line ∷ stack_lines fs (chain_lines c k))
    (refl, stack_no_table fs (chain_lines c k) (chain_no_table c k n))) h
state_terms th (joining m c) k n h = state_terms th m (if_line ∷ chain_lines c k) (refl, chain_no_table c k n) h
state_terms th (closed f bs) k n h = front_terms th f (lines_of block_lines bs k) (blocks_no_table bs k n) h
state_terms th (ended f bs) k n h = front_terms th f (lines_of block_lines bs (end_line ∷ k)) (blocks_no_table bs (end_line ∷ k) (refl, n)) h

lines_give : (th : Theory) (m : State) (ls : List Line) → run begin ls ≡ Some m → AllFine th nothing ls
    → Gives th (version_of m) (table_of m) (after_all th nothing ls)
lines_give th m ls e h =
    let same : ls ≡ so_far m [] = sym (run_so_far begin m ls [] e ∙ append-nil ls) in
    let P : List Line → Type 0 = AllFine th nothing in
    let Q : List Line → Type 0 = λ x. Gives th (version_of m) (table_of m) (after_all th nothing x) in
    subst Q (sym same) (state_terms th m [] tt (subst P same h))

-- The terms that fine lines give are those of the table of the state that the lines lead to, and the version is its version.
pub lines_terms : (th : Theory) (m : State) (ls : List Line) → run begin ls ≡ Some m → AllFine th nothing ls
    → HaveTerms th [] (table_of m) (after_all th nothing ls).terms
lines_terms th m ls e h = (lines_give th m ls e h).terms

pub lines_version : (th : Theory) (m : State) (ls : List Line) → run begin ls ≡ Some m → AllFine th nothing ls
    → (after_all th nothing ls).version ≡ version_of m
lines_version th m ls e h = (lines_give th m ls e h).version
