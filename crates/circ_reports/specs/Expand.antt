-- What `expand` does: the experiment that its words are, its outcome, what it answers, and what it prints.
use Rattle.std.specs.Prelude.{◌≡◌, ◌≤◌, ◌+◌, ◌-◌, ℕ, zero, suc, List, [], ◌∷◌, ◌++◌, length, map, flat_map, take, drop, nat_eq, Bool, not, false, ◌==◌, codes, decimal, Option, Some, None, if◌then◌else◌}
use Rattle.std.specs.List.{slice_get, filter, list_any}
use Rattle.circ_outer.specs.Shelf.{ShelfState}
use Rattle.circ_term.specs.Tree.{Tree, Var, sort_of}
use Rattle.circ_theory.specs.Experiment.{on}
use Rattle.circ_theory.specs.Fresh.{fresh_after, parameter_sorts}
use Rattle.circ_theory.specs.Signature.{Signature}
use Rattle.circ_theory.specs.Theory.{Theory, Pair, pair_with}
use Rattle.circ_theory.specs.Variables.{seen_in}
use Rattle.circ_theory.specs.declared.way.Way.{Way}
use Rattle.circ_theory.specs.Goal.{Goal}
use Rattle.circ_mixfix.specs.Printing.{text_of_term}
use Rattle.circ_line.specs.Text.{path_word, way_word}
use Rattle.circ_proof.specs.Accepted.{Accepted, FirstFail}
use Rattle.circ_proof.specs.Proof.{Proof}
use Rattle.circ_entry.specs.Entries.{Written, FitsWritten, written_entry, written_entries, derivative_at}
use Rattle.circ_expand.specs.Answers.{LeadsOnGoal}
use Rattle.circ_expand.specs.Expand.{Spending, Yields, Past, expansion}
use Rattle.circ_expand.specs.declared.fault.ExpandFault.{ExpandFault}
use Rattle.circ_expand.specs.declared.fault.ExpandFault.TheVariants as fault
use Rattle.circ_expand.specs.Goals.{all_goals, goal_misfit}
use Rattle.circ_expand.specs.Pieces.{Pieces}
use Rattle.circ_expand.specs.Rows.{PlainRow, Equation_row, Content_row, Assumption_row, Cases_row, Case_row, End_row, rows_of}
use Rattle.circ_show.specs.GoalsText.{pair_line}
use Rattle.circ_files.specs.Files.{Held, RefusesFile}
use Rattle.circ_files.specs.Refusals.{proof_places, text_of_refusal}
use Rattle.circ_status.specs.Texts.{refused_text}
use Rattle.circ_files.specs.TheoryFile.{ReadsTheory, TakesTheory, TheoryRefusal, IsTheoryFault}
use Rattle.circ_status.specs.declared.status.Status.{Status}
use Rattle.circ_status.specs.declared.status.Status.TheVariants as status
use Rattle.circ_reports.specs.PlainProof.{ReadsPlainProof, TakesPlainProof, PlainProofRefusal, IsPlainProofFault}
use Rattle.circ_reports.specs.Reduce.{limit_status}

-- ---- the experiment

-- the numbers k, k + 1 and so on, so many
abbrev pub numbers_from : (k count : ℕ) → List ℕ
numbers_from k zero = []
numbers_from k (suc count) = k ∷ numbers_from (k + 1) count

-- the numbers of the variables of its sides
abbrev pub numbers_in : Goal → List ℕ
numbers_in g = map (λ v. v.number) (seen_in g.right (seen_in g.left []))

abbrev pub is_free : (taken : List ℕ) → ℕ → Bool
is_free taken n = not (list_any (nat_eq n) taken)

-- the first of the numbers that no variable of the goal has, so many
abbrev pub free_numbers : Goal → (count : ℕ) → List ℕ
free_numbers g count = take count (filter (is_free (numbers_in g)) (numbers_from 0 (fresh_after g.left g.right + count)))

-- variables of these sorts with these numbers
abbrev pub variables_named : (numbers sorts : List ℕ) → List Tree
variables_named ns [] = []
variables_named [] (s ∷ ss) = []
variables_named (n ∷ ns) (s ∷ ss) = Var n s ∷ variables_named ns ss

-- the sorts of the parameters of a derivative
abbrev pub sorts_at : Theory → (derivative : ℕ) → List ℕ
sorts_at th k = parameter_sorts (derivative_at th k)

-- an entry for each derivative, whose parameters are variables with the first of the numbers that are left
abbrev pub entries_named : Theory → (numbers derivatives : List ℕ) → List Written
entries_named th ns [] = []
entries_named th ns (k ∷ ks) = written_entry k (variables_named ns (sorts_at th k)) ∷ entries_named th (drop (length (sorts_at th k)) ns) ks

-- how many parameters the derivatives have
abbrev pub parameter_count : Theory → (derivatives : List ℕ) → ℕ
parameter_count th [] = 0
parameter_count th (k ∷ ks) = length (sorts_at th k) + parameter_count th ks

-- the experiment of these derivatives on a goal, with fresh variables
abbrev pub fresh_experiment : Theory → Goal → (derivatives : List ℕ) → List Written
fresh_experiment th g ks = entries_named th (free_numbers g (parameter_count th ks)) ks

-- ---- what is printed

-- a rule, which way it is used, its number, and where
abbrev pub rule_line : (rule : List ℕ) → Way → (number : ℕ) → (path : List ℕ) → List ℕ
rule_line rule way number path = rule ++ way_word way ++ codes " " ++ decimal number ++ codes " " ++ path_word path ++ codes "\n"

-- a row, one a line, without the terms of a link
abbrev pub row_line : Signature → PlainRow → List ℕ
row_line sig (Equation_row number way path terms) = rule_line (codes "equation ") way number path
row_line sig (Content_row op path old new by) = codes "content " ++ decimal op ++ codes " " ++ path_word path ++ codes "\n"
row_line sig (Assumption_row number way path) = rule_line (codes "assumption ") way number path
row_line sig (Cases_row term) = codes "cases " ++ text_of_term sig false term ++ codes "\n"
row_line sig Case_row = codes "case\n"
row_line sig End_row = codes "end\n"

-- how many of the rows are links
abbrev pub links_among : List PlainRow → ℕ
links_among [] = 0
links_among (Cases_row term ∷ rs) = links_among rs
links_among (Case_row ∷ rs) = links_among rs
links_among (End_row ∷ rs) = links_among rs
links_among (r ∷ rs) = links_among rs + 1

-- the two sides of a goal in an experiment
abbrev pub pair_on : Theory → List Written → Goal → Pair
pair_on th ws g = pair_with (on (written_entries th ws) g.left) (on (written_entries th ws) g.right)

-- the pair, the rows of the derivation, one a line, and how many links it has
abbrev pub rows_text : Theory → List Written → Goal → List PlainRow → List ℕ
rows_text th ws g rs =
    codes "expanded\n" ++ pair_line (codes "pair: ") th.signature (pair_on th ws g) ++ flat_map (row_line th.signature) rs
    ++ codes "links: " ++ decimal (links_among rs) ++ codes "\n"

abbrev pub expanded_text : Theory → List Written → Goal → Pieces → List ℕ
expanded_text th ws g xs = rows_text th ws g (rows_of xs)

-- ---- how the work on an accepted proof ends

-- a derivation is written out, for an experiment on a goal; or there is none, and this is answered
pub data Expanded : Type 0 where
  Written_out : (experiment : List Written) (goal : Goal) (pieces : Pieces) → Expanded
  Not_written : (s : Status) → Expanded

-- by what comes of 100,000 units. It never stops of an accepted proof.
abbrev pub by_units : (experiment : List Written) → Goal → Spending Pieces → Expanded
by_units ws g (Yields xs left) = Written_out ws g xs
by_units ws g (Past l) = Not_written (limit_status l)
by_units ws g _ = Not_written (status.Expansion 100001)

-- by the first entry that does not fit
abbrev pub by_misfit : Option ℕ → Expanded → Expanded
by_misfit (Some n) e = Not_written (status.Misfit n)
by_misfit None e = e

-- of the goal with this number, counted from 0, if there is one
abbrev pub by_goal : Theory → Proof → (number : ℕ) → (derivatives : List ℕ) → Option Goal → Expanded
by_goal th p n ks None = Not_written (status.Misfit 0)
by_goal th p n ks (Some g) =
    let ws = fresh_experiment th g ks in by_misfit (goal_misfit th p n ws) (by_units ws g (expansion 100000 th p n ws))

-- the number counted from 0, of one that counts from 1
abbrev pub number_before : ℕ → Option ℕ
number_before n = if n == 0 then None else Some (n - 1)

abbrev pub by_number : Theory → Proof → (derivatives : List ℕ) → Option ℕ → Expanded
by_number th p ks None = Not_written (status.Misfit 0)
by_number th p ks (Some n) = by_goal th p n ks (slice_get (all_goals p.blocks) n)

-- of the goal with this number, counted from 1
abbrev pub expanded : Theory → Proof → (goal : ℕ) → (derivatives : List ℕ) → Expanded
expanded th p goal ks = by_number th p ks (number_before goal)

-- a derivation is written out, with this text
abbrev pub Writes : Theory → Expanded → (text : List ℕ) → Type 0
Writes th (Written_out ws g xs) text = text ≡ expanded_text th ws g xs
Writes th (Not_written s) text = ⊥

-- there is none, and this is answered
abbrev pub EndsAs : Expanded → Status → Type 0
EndsAs (Written_out ws g xs) s = ⊥
EndsAs (Not_written r) s = s ≡ r

-- the same, or memory ran out
abbrev pub WritesNone : Expanded → Status → Type 0
WritesNone e status.Memory = Unit {0}
WritesNone e s = EndsAs e s

-- the answer to a fault
abbrev pub fault_answer : ExpandFault → Status
fault_answer (fault.Long units) = status.Expansion units
fault_answer (fault.TooBig nodes) = status.TooBig nodes
fault_answer (fault.TooDeep depth) = status.TooDeep depth
fault_answer fault.Memory = status.Memory

-- ---- the outcome

-- The outcome, with its text: the theory file refuses the command; or this reads, and the proof file refuses it; or both read, and step n is the first that is
-- no instance of its rule; or every step is one, and there is no derivation, or it is given.
pub data ExpandOutcome (held : Held) (theory proof : List ℕ) (goal : ℕ) (derivatives : List ℕ) : Status → (text : List ℕ) → Type 0 where
  no_theory : (s : Status) → RefusesFile held 1 theory TheoryRefusal s → ExpandOutcome held theory proof goal derivatives s (text_of_refusal proof_places s)
  no_proof : (s : Status) (th : Theory) → ReadsTheory held theory th → RefusesFile held 2 proof (PlainProofRefusal th) s
      → ExpandOutcome held theory proof goal derivatives s (text_of_refusal proof_places s)
  refused : (n : ℕ) (th : Theory) (p : Proof) → ReadsTheory held theory th → ReadsPlainProof held proof th p → FirstFail th p n
      → ExpandOutcome held theory proof goal derivatives (status.Refused n) (refused_text n)
  not_written : (s : Status) (th : Theory) (p : Proof) → ReadsTheory held theory th → ReadsPlainProof held proof th p → Accepted th p
      → EndsAs (expanded th p goal derivatives) s → ExpandOutcome held theory proof goal derivatives s (text_of_refusal proof_places s)
  written_out : (text : List ℕ) (th : Theory) (p : Proof) → ReadsTheory held theory th → ReadsPlainProof held proof th p → Accepted th p
      → Writes th (expanded th p goal derivatives) text → ExpandOutcome held theory proof goal derivatives status.Ok text

-- ---- what is answered

-- The proof has a goal of this number, counted from 1, an experiment of these derivatives fits it, and this is the text of a derivation from the experiment on
-- its left side to that on its right side, with no hypothesis.
pub record ShowsDerivation (th : Theory) (p : Proof) (goal : ℕ) (derivatives : List ℕ) (text : List ℕ) : Type 0 where
  pub counted : 1 ≤ goal
  pub on_goal : Goal
  pub goal_is : slice_get (all_goals p.blocks) (goal - 1) ≡ Some on_goal
  pub experiment : List Written
  pub derivatives_are : map (λ w. w.derivative) experiment ≡ derivatives
  pub fits : FitsWritten th experiment (sort_of on_goal.left)
  pub pieces : Pieces
  pub leads : LeadsOnGoal th pieces experiment on_goal
  pub text_is : text ≡ expanded_text th experiment on_goal pieces

-- The proof is accepted, its derivation has this text, and this is what it shows.
pub record Expands (th : Theory) (p : Proof) (goal : ℕ) (derivatives : List ℕ) (text : List ℕ) : Type 0 where
  pub accepted : Accepted th p
  pub writes : Writes th (expanded th p goal derivatives) text
  pub shows : ShowsDerivation th p goal derivatives text

-- The two files read, the proof is accepted, and its derivation has this text.
pub record IsExpanded (theory proof : List ℕ) (goal : ℕ) (derivatives : List ℕ) (text : List ℕ) (before : ShelfState) : Type 0 where
  pub th : Theory
  pub p : Proof
  pub expands : Expands th p goal derivatives text
  pub takes_theory : TakesTheory theory th before
  pub takes_proof : TakesPlainProof proof th p before

-- Why a proof gives no derivation: step n is the first that is no instance of its rule; or it is accepted, and there is none; or memory ran out.
pub data GivesNone (th : Theory) (p : Proof) (goal : ℕ) (derivatives : List ℕ) : Status → Type 0 where
  step_fails : (n : ℕ) → FirstFail th p n → GivesNone th p goal derivatives (status.Refused n)
  none_written : (s : Status) → Accepted th p → EndsAs (expanded th p goal derivatives) s → GivesNone th p goal derivatives s
  no_memory : GivesNone th p goal derivatives status.Memory

-- Why it is refused: the theory file is at fault; or it reads, and the proof file is at fault; or both read, and the proof gives no derivation.
pub data RefusesExpand (theory proof : List ℕ) (goal : ℕ) (derivatives : List ℕ) (before after : ShelfState) : Status → Type 0 where
  theory_fault : (s : Status) → IsTheoryFault theory before after s → RefusesExpand theory proof goal derivatives before after s
  proof_fault : (s : Status) (th : Theory) → TakesTheory theory th before → IsPlainProofFault proof th before after s
      → RefusesExpand theory proof goal derivatives before after s
  none_given : (s : Status) (th : Theory) (p : Proof) → TakesTheory theory th before → TakesPlainProof proof th p before → GivesNone th p goal derivatives s
      → RefusesExpand theory proof goal derivatives before after s
