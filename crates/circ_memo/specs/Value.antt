-- What contracts see of a memo, and what it answers without its traces.
use Rattle.std.specs.Prelude.{◌≡◌, ℕ, List, Option, Result, Ok, Err, refl}
use Rattle.std.specs.Coded.{Coded, code_by, coded×, coded_list}
use Rattle.circ_term.specs.Tree.{Tree}
use Rattle.circ_theory.specs.Theory.{Theory}
use Rattle.circ_theory.specs.Code.{theory_code}
use Rattle.circ_theory.specs.Pair.{Pair, pairs_code}
use Rattle.circ_rewrite.specs.Replacement.{Replacement, Traced}
use Rattle.circ_rewrite.specs.Norm.{Normalised, Normal_form}
use Rattle.circ_rewrite.specs.Plain.{Faults}
use Rattle.circ_rewrite.specs.Code.{rule_code}
use Rattle.circ_nodes.specs.Named.{IsNamed}
use Rattle.circ_memo.specs.Keeping.{IsForm, IsNumberKept}
use Rattle.circ_memo.specs.declared.parts.Entry.{Entry}
use Rattle.circ_rewrite.specs.declared.fault.RewriteFault.{RewriteFault}
use Rattle.circ_rewrite.specs.declared.parts.Rule.{Rule}

-- what terms are rewritten by
pub record Rewriting : Type 0 where
  pub theory : Theory
  pub rules : List Rule
  pub assumptions : List Pair

abbrev pub rewriting_code : Coded Rewriting
rewriting_code =
    code_by (Theory × (List Rule × List Pair)) (coded× theory_code (coded× (coded_list rule_code) pairs_code))
    (λ r. (r.theory, (r.rules, r.assumptions))) (λ p. record { theory = p.0; rules = p.1.0; assumptions = p.1.1 }) (λ _. refl)

-- the answer is the normal form, or the fault says what it comes to, with what is left of the budget
abbrev pub AnswersValue : Result Tree RewriteFault → (left : ℕ) → Normalised → Type 0
AnswersValue (Ok t) left o = (ts : List Traced) × (o ≡ Normal_form t ts left)
AnswersValue (Err e) left o = Faults e left o

-- Entry e is kept of t, whose number is n, and is what normalising comes to.
pub record IsAnswer (due : Tree → Option Replacement) (nodes : List Tree) (es : List (Option Entry)) (t : Tree) (n : ℕ) (e : Entry) (left : ℕ) (o : Normalised) : Type 0 where
  pub named : IsNamed nodes n t
  pub there : IsNumberKept es n e.count
  pub form : IsForm due nodes t e
  pub is : o ≡ Normal_form form.value form.traces left

-- the answer is a number with what is kept of it, or the fault says what it comes to
abbrev pub AnswersKept : (due : Tree → Option Replacement) (nodes : List Tree) (es : List (Option Entry)) (t : Tree) → Result (ℕ × Entry) RewriteFault → (left : ℕ) → Normalised → Type 0
AnswersKept due nodes es t (Ok x) left o = IsAnswer due nodes es t x.0 x.1 left o
AnswersKept due nodes es t (Err e) left o = Faults e left o
