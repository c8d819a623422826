-- What the calls answer that try rules.
use Rattle.std.specs.Prelude.{◌≡◌, ◌-◌, ℕ, List, [], ◌∷◌, Option, Some, None, Result, Ok, Err}
use Rattle.circ_term.specs.Tree.{Tree}
use Rattle.circ_term.specs.Limits.{Big, Deep, IsWithinLimits}
use Rattle.circ_term.specs.Substitution.{Substitution, instance}
use Rattle.circ_theory.specs.Theory.{Pair}
use Rattle.circ_rewrite.specs.Norm.{Normalised, Normal_form}
use Rattle.circ_rewrite.specs.Plain.{Faults, plain_passes, plain_traces}
use Rattle.circ_rewrite.specs.Replacement.{Reason, By_rule, By_assumption, By_content, Passes, more_passes, Replacement, trace_row}
use Rattle.circ_rewrite.specs.declared.fault.RewriteFault.{RewriteFault}
use Rattle.circ_rewrite.specs.declared.fault.RewriteFault.TheVariants.{Spent, TooBig, TooDeep, Memory}
use Rattle.circ_rewrite.specs.declared.parts.Pass.{Pass}
use Rattle.circ_rewrite.specs.declared.parts.Trace.{Trace}
use Rattle.circ_nodes.specs.Named.{IsNamed}
use Rattle.circ_due.specs.Chosen.{IsChoice}
use Rattle.circ_due.specs.declared.means.Means.{Means}
use Rattle.circ_conditional_norm.specs.Norm.{inner_norm, norm_with_room, try_limit}
use Rattle.circ_conditional_norm.specs.Tries.{Normaliser, condition_holds, due_trying}
use Rattle.circ_conditional_norm.specs.Work.{Work, Made, Out, Past, map_found}
use Rattle.circ_tries.specs.declared.parts.Found.{Found}

-- how conditions are normalised, with so many tries around the term whose rules are tried
abbrev pub conditions_by : Means → (tries : ℕ) → Option Normaliser
conditions_by m tries = inner_norm (try_limit - tries) m.theory.now.signature m.rules.items m.assumptions

-- what is due with so many tries around the term
abbrev pub due_in : Means → (tries : ℕ) → (budget : ℕ) → Tree → Work (Option Replacement)
due_in m tries = due_trying (conditions_by m tries) m.theory.now.signature m.rules.items m.assumptions

-- normal forms with so many tries around the term
abbrev pub norm_by : Means → (tries : ℕ) → Normaliser
norm_by m tries = norm_with_room (try_limit - tries) m.theory.now.signature m.rules.items m.assumptions

-- the same replacement, with these passes for the conditions of its rule
abbrev pub with_passes : Passes → Reason → Reason
with_passes passes (By_rule name terms conds) = By_rule name terms passes
with_passes passes (By_assumption number) = By_assumption number
with_passes passes (By_content op term) = By_content op term

abbrev pub passing : Passes → Replacement → Replacement
passing passes r = record { reason = with_passes passes r.reason; new = r.new }

-- The replacement d of t was found: its choice, and the passes of its conditions.
abbrev pub IsFound : (nodes : List Tree) → Means → (t : Tree) → Found → Replacement → Type 0
IsFound nodes m t found d = (r : Replacement) × IsChoice nodes m t found.choice r × (d ≡ passing (plain_passes found.conds.items) r)

-- The fault says why the work came to no value, with what is left; or memory ran out.
abbrev pub Hinders : {A : Type 0} → RewriteFault → (left : ℕ) → Work A → Type 0
Hinders Spent left w = (w ≡ Out) × (left ≡ 0)
Hinders (TooBig n) left w = w ≡ Past (Big n) left
Hinders (TooDeep n) left w = w ≡ Past (Deep n) left
Hinders Memory left w = Unit {0}

-- the answer is the replacement that is due, or that there is none, or says why neither is known
abbrev pub FindsDue : (nodes : List Tree) → Means → (t : Tree) → (left : ℕ) → Work (Option Replacement) → Result (Option Found) RewriteFault → Type 0
FindsDue nodes m t left w (Ok None) = w ≡ Made None left
FindsDue nodes m t left w (Ok (Some found)) = (d : Replacement) × IsFound nodes m t found d × (w ≡ Made (Some d) left)
FindsDue nodes m t left w (Err e) = Hinders e left w

-- the answer is the passes of conditions that hold, or that they don't
abbrev pub FindsPasses : {X : Type 0} → (X → Passes) → (left : ℕ) → Work (Option Passes) → Result (Option X) RewriteFault → Type 0
FindsPasses view left w (Ok None) = w ≡ Made None left
FindsPasses view left w (Ok (Some x)) = w ≡ Made (Some (view x)) left
FindsPasses view left w (Err e) = Hinders e left w

-- a pass before others
abbrev pub pass_before : Pass → Passes → Passes
pass_before p rest = more_passes (trace_row (plain_traces p.left.items)) (trace_row (plain_traces p.right.items)) rest

-- the answer is the pass of a condition that holds, or that it does not, whatever the conditions behind it come to
abbrev pub TestsCondition : Normaliser → Substitution → Pair → (budget left : ℕ) → Result (Option Pass) RewriteFault → Type 0
TestsCondition normal σ p k left (Ok None) = (rest : ℕ → Work (Option Passes)) → condition_holds normal σ p k rest ≡ Made None left
TestsCondition normal σ p k left (Ok (Some pass)) =
    (rest : ℕ → Work (Option Passes)) → condition_holds normal σ p k rest ≡ map_found (pass_before pass) (rest left)
TestsCondition normal σ p k left (Err e) = (rest : ℕ → Work (Option Passes)) → Hinders e left (condition_holds normal σ p k rest)

-- the pass of two sides whose normal forms have these numbers, with these traces; none where the numbers differ
abbrev pub IsPassOf : (a : ℕ) → (left : List Trace) → (b : ℕ) → (right : List Trace) → Option Pass → Type 0
IsPassOf a left b right None = a ≡ b → ⊥
IsPassOf a left b right (Some pass) = (a ≡ b) × (pass.left.items ≡ left) × (pass.right.items ≡ right)

-- the answer is the numbers of both sides of a condition, or says why the condition comes to nothing, however its sides are normalised
abbrev pub BuildsSides : (nodes : List Tree) → Substitution → Pair → Result (ℕ × ℕ) RewriteFault → Type 0
BuildsSides nodes σ p (Ok x) = (IsNamed nodes x.0 (instance σ p.left) × IsWithinLimits (instance σ p.left))
    × (IsNamed nodes x.1 (instance σ p.right) × IsWithinLimits (instance σ p.right))
BuildsSides nodes σ p (Err e) = (normal : Normaliser) (k : ℕ) (rest : ℕ → Work (Option Passes)) → Hinders e k (condition_holds normal σ p k rest)

-- passes before others
abbrev pub passes_before : List Pass → Passes → Passes
passes_before [] rest = rest
passes_before (p ∷ ps) rest = pass_before p (passes_before ps rest)

-- the number is that of the normal form, with these traces; or the fault says what it comes to
abbrev pub AnswersNumber : {X : Type 0} → (X → List Trace) → (nodes : List Tree) → (left : ℕ) → Normalised → Result (ℕ × X) RewriteFault → Type 0
AnswersNumber view nodes left o (Ok x) = (v : Tree) × IsNamed nodes x.0 v × (o ≡ Normal_form v (plain_traces (view x.1)) left)
AnswersNumber view nodes left o (Err e) = Faults e left o
