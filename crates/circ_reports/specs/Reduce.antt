-- What `reduce` does: what becomes of the terms, its outcome, and what it prints.
use Rattle.std.specs.Prelude.{◌≡◌, ℕ, ◌-◌, List, [], ◌∷◌, ◌++◌, false, flat_map, codes, decimal}
use Rattle.circ_outer.specs.Shelf.{ShelfState}
use Rattle.circ_term.specs.Tree.{Tree}
use Rattle.circ_term.specs.Limits.{Limit, Big, Deep}
use Rattle.circ_theory.specs.Signature.{Signature}
use Rattle.circ_theory.specs.Theory.{Theory}
use Rattle.circ_mixfix.specs.Printing.{text_of_term}
use Rattle.circ_rewrite.specs.Norm.{Normalised, Normal_form, Budget_spent, Limit_passed}
use Rattle.circ_rewrite.specs.TheoryRules.{theory_rules}
use Rattle.circ_rewrite.specs.declared.fault.RewriteFault.{RewriteFault}
use Rattle.circ_rewrite.specs.declared.fault.RewriteFault.TheVariants as fault
use Rattle.circ_conditional_norm.specs.Norm.{conditional_norm}
use Rattle.circ_script.specs.Script.{Script}
use Rattle.circ_script.specs.declared.job.Job.TheVariants as job
use Rattle.circ_files.specs.Refusals.{statement_places, text_of_refusal}
use Rattle.circ_files.specs.Files.{Held, RefusesFile}
use Rattle.circ_files.specs.ScriptFile.{ReadsScript, TakesScript, ScriptRefusal, IsScriptFault}
use Rattle.circ_files.specs.TheoryFile.{ReadsTheory, TakesTheory, TheoryRefusal, IsTheoryFault}
use Rattle.circ_status.specs.declared.status.Status.{Status}
use Rattle.circ_status.specs.declared.status.Status.TheVariants as status

-- What becomes of terms that are reduced with one budget: all have normal forms, and this is left; or the first that has none ends it, since the
-- budget is spent or a limit passed.
pub data Reduced : Type 0 where
  Results : (results : List Tree) (left : ℕ) → Reduced
  Spent : Reduced
  Past_limit : (limit : Limit) → Reduced

-- a normal form and what is left go on; whatever else a term comes to is the end
abbrev pub go_on : Normalised → (Tree → (left : ℕ) → Reduced) → Reduced
go_on (Normal_form u traces left) next = next u left
go_on Budget_spent next = Spent
go_on (Limit_passed l left) next = Past_limit l

-- the terms in order, each with what the one before left, by the theory's rules and no assumptions, with no try around it; these are the results so far
abbrev pub reduced_after : Theory → (results : List Tree) → (budget : ℕ) → List Tree → Reduced
reduced_after th results n [] = Results results n
reduced_after th results n (t ∷ ts) =
    go_on (conditional_norm 0 th.signature (theory_rules th) [] n t) (λ u left. reduced_after th (results ++ u ∷ []) left ts)

abbrev pub reduced : Theory → (budget : ℕ) → List Tree → Reduced
reduced th budget ts = reduced_after th [] budget ts

-- the status of a limit
abbrev pub limit_status : Limit → Status
limit_status (Big nodes) = status.TooBig nodes
limit_status (Deep depth) = status.TooDeep depth

-- The terms end with this status. If the budget is spent, it gives the whole budget.
abbrev pub EndsWith : (budget : ℕ) → Reduced → Status → Type 0
EndsWith budget (Results results left) s = ⊥
EndsWith budget Spent s = s ≡ status.Spent budget 0 0
EndsWith budget (Past_limit l) s = s ≡ limit_status l

-- the status of a fault, and what it says of the terms
abbrev pub fault_status : (budget : ℕ) → RewriteFault → Status
fault_status budget fault.Spent = status.Spent budget 0 0
fault_status budget (fault.TooBig nodes) = status.TooBig nodes
fault_status budget (fault.TooDeep depth) = status.TooDeep depth
fault_status budget fault.Memory = status.Memory

abbrev pub FaultEnds : Reduced → RewriteFault → Type 0
FaultEnds r fault.Spent = r ≡ Spent
FaultEnds r (fault.TooBig nodes) = r ≡ Past_limit (Big nodes)
FaultEnds r (fault.TooDeep depth) = r ≡ Past_limit (Deep depth)
FaultEnds r fault.Memory = Unit {0}

-- a result, one a line
abbrev pub result_line : Signature → Tree → List ℕ
result_line sig t = codes "result: " ++ text_of_term sig false t ++ codes "\n"

-- the results, and how many replacements were made
abbrev pub results_text : Signature → List Tree → (rewrites : ℕ) → List ℕ
results_text sig results rewrites = flat_map (result_line sig) results ++ codes "rewrites: " ++ decimal rewrites ++ codes "\n"

-- The outcome, with its text: the theory file refuses the command; or this reads, and the script file refuses it; or both read, and a term has no normal
-- form; or all have.
pub data ReduceOutcome (held : Held) (budget : ℕ) (theory script : List ℕ) : Status → (text : List ℕ) → Type 0 where
  no_theory : (s : Status) → RefusesFile held 1 theory TheoryRefusal s
      → ReduceOutcome held budget theory script s (text_of_refusal statement_places s)
  no_script : (s : Status) (th : Theory) → ReadsTheory held theory th → RefusesFile held 2 script (ScriptRefusal th job.Reduce) s
      → ReduceOutcome held budget theory script s (text_of_refusal statement_places s)
  not_reduced : (s : Status) (th : Theory) (sc : Script) → ReadsTheory held theory th → ReadsScript held script th job.Reduce sc
      → EndsWith budget (reduced th budget sc.terms) s → ReduceOutcome held budget theory script s (text_of_refusal statement_places s)
  all_reduced : (th : Theory) (sc : Script) (results : List Tree) (left : ℕ) → ReadsTheory held theory th → ReadsScript held script th job.Reduce sc
      → reduced th budget sc.terms ≡ Results results left
      → ReduceOutcome held budget theory script status.Ok (results_text th.signature results (budget - left))

-- All terms have normal forms, of which this is the text.
pub record Reduces (th : Theory) (budget : ℕ) (terms : List Tree) (text : List ℕ) : Type 0 where
  pub results : List Tree
  pub left : ℕ
  pub all : reduced th budget terms ≡ Results results left
  pub text_is : text ≡ results_text th.signature results (budget - left)

-- The terms end with this status, or memory ran out.
abbrev pub Ends : Theory → (budget : ℕ) → List Tree → Status → Type 0
Ends th budget terms status.Memory = Unit {0}
Ends th budget terms s = EndsWith budget (reduced th budget terms) s

-- The two files read, and all terms of the script have normal forms, with this text.
pub record IsReduced (budget : ℕ) (theory script : List ℕ) (text : List ℕ) (before : ShelfState) : Type 0 where
  pub th : Theory
  pub sc : Script
  pub reduces : Reduces th budget sc.terms text
  pub takes_theory : TakesTheory theory th before
  pub takes_script : TakesScript script th job.Reduce sc before

-- The two files read, and the terms of the script end with this status.
pub record TermsEnd (budget : ℕ) (theory script : List ℕ) (s : Status) (before : ShelfState) : Type 0 where
  pub th : Theory
  pub sc : Script
  pub ends : EndsWith budget (reduced th budget sc.terms) s
  pub takes_theory : TakesTheory theory th before
  pub takes_script : TakesScript script th job.Reduce sc before

-- Why it is refused: the theory file is at fault; or it reads, and the script file is at fault; or both read, and a term has no normal form.
pub data RefusesReduce (budget : ℕ) (theory script : List ℕ) (before after : ShelfState) : Status → Type 0 where
  theory_fault : (s : Status) → IsTheoryFault theory before after s → RefusesReduce budget theory script before after s
  script_fault : (s : Status) (th : Theory) → TakesTheory theory th before → IsScriptFault script th job.Reduce before after s
      → RefusesReduce budget theory script before after s
  term_ends : (s : Status) → TermsEnd budget theory script s before → RefusesReduce budget theory script before after s
