-- What the reader's functions come to, statement by statement: a theory, or the first cause.
use Rattle.std.specs.Prelude.{◌≡◌, ℕ, List, [], ◌∷◌, Bool, Option, Some, None, Result, Ok, Err}
use Rattle.circ_term.specs.Tree.{Tree}
use Rattle.circ_theory.specs.declared.fault.TheoryFault.{TheoryFault}
use Rattle.circ_theory.specs.Goal.{Goal}
use Rattle.circ_theory.specs.Theory.{Theory, goal}
use Rattle.circ_theory.specs.Adding.{sort_number, sort_fault, var_fault, op_fault, equation_fault, with_sort, with_var, with_op, with_equation}
use Rattle.circ_theory.specs.Observing.{derivative_fault, with_derivative, cases_fault, with_cases}
use Rattle.circ_mixfix.specs.Answers.{long_count, first_long}
use Rattle.circ_mixfix.specs.Found.{pairs_of}
use Rattle.circ_statement.specs.Attributes.{Spelled}
use Rattle.circ_statement.specs.Said.{Said, inclusion, sorts, operators, variables, equation, derivative, cases}
use Rattle.circ_read.specs.declared.cause.Cause.{Cause}
use Rattle.circ_read.specs.declared.cause.Cause.TheVariants.{UnknownTheory, UnknownSort, NoParse}
use Rattle.circ_read.specs.Causes.{cause_of}
use Rattle.circ_read.specs.Adding.{sort_numbers, constant_numbers, operator_with, ReadsAlone, equation_lists, ReadsEquation, ReadsHole}
use Rattle.circ_read.specs.Refusing.{ReadsNotAlone, terms_text}

-- the theory with a part, or why the part is not added
abbrev pub adds : Option TheoryFault → Theory → Result Theory Cause
adds None u = Ok u
adds (Some f) u = Err (cause_of f)

-- what comes after a first step, where that has no cause
abbrev pub followed_by : {A B : Type 0} → Result A Cause → (A → Result B Cause) → Result B Cause
followed_by (Ok a) f = f a
followed_by (Err c) f = Err c

-- The parts are added from the left, up to the first that has a cause.
abbrev pub all_added : {A : Type 0} → (Theory → A → Result Theory Cause) → Theory → List A → Result Theory Cause
all_added add th [] = Ok th
all_added add th (a ∷ rest) = followed_by (add th a) (λ u. all_added add u rest)

abbrev pub or_cause : {A : Type 0} → Option A → Cause → Result A Cause
or_cause None c = Err c
or_cause (Some a) c = Ok a

abbrev pub sort_named : Theory → List ℕ → Result ℕ Cause
sort_named th w = or_cause (sort_number th.signature w) UnknownSort

abbrev pub sorts_named : Theory → List (List ℕ) → Result (List ℕ) Cause
sorts_named th ws = or_cause (sort_numbers th ws) UnknownSort

abbrev pub sort_added : Theory → List ℕ → Result Theory Cause
sort_added th name = adds (sort_fault th name) (with_sort th name)

abbrev pub variable_added : (sort : ℕ) → Theory → List ℕ → Result Theory Cause
variable_added s th name = adds (var_fault th name s) (with_var th name s)

abbrev pub operator_added : (args : List ℕ) (result : ℕ) (assoc comm idem : Bool) → Theory → Spelled → Result Theory Cause
operator_added args result assoc comm idem th p =
    adds (op_fault th (operator_with args result assoc comm idem p)) (with_op th (operator_with args result assoc comm idem p))

abbrev pub constants_named : Theory → (sort : ℕ) → List (List ℕ) → Result (List ℕ) Cause
constants_named th s ws = or_cause (constant_numbers th s ws) NoParse

-- what reading token lists as terms comes to
abbrev pub TermsOutcome : (too_long : Option ℕ) (Reads : List Tree → Type 0) (shown : List Tree → List ℕ) → Result (List Tree) Cause → Type 0
TermsOutcome too_long Reads shown (Ok ts) = ReadsAlone too_long Reads ts
TermsOutcome too_long Reads shown (Err c) = ReadsNotAlone too_long Reads shown c

abbrev pub ListsOutcome : Theory → List (List (List ℕ)) → Result (List Tree) Cause → Type 0
ListsOutcome th lists o = TermsOutcome (first_long lists) (ReadsEquation th lists) (terms_text th) o

abbrev pub HoleOutcome : Theory → List (List ℕ) → Result (List Tree) Cause → Type 0
HoleOutcome th term o = TermsOutcome (long_count term) (ReadsHole th term) (terms_text th) o

-- the goal that the terms are
abbrev pub goal_of_terms : List Tree → Option Goal
goal_of_terms [] = None
goal_of_terms (t ∷ []) = None
goal_of_terms (t ∷ u ∷ ts) = Some (goal (pairs_of ts) t u)

-- the theory with an equation, and with a derivative
abbrev pub goal_added : Theory → (exec : Bool) → Option Goal → Result Theory Cause
goal_added th exec None = Err NoParse
goal_added th exec (Some g) = adds (equation_fault th g.conds) (with_equation th (record { left = g.left; right = g.right; conds = g.conds; exec = exec }))

abbrev pub equation_added : Theory → (exec : Bool) → List Tree → Result Theory Cause
equation_added th exec ts = goal_added th exec (goal_of_terms ts)

abbrev pub derivative_added : Theory → List Tree → Result Theory Cause
derivative_added th [] = Err NoParse
derivative_added th (t ∷ []) = adds (derivative_fault th t) (with_derivative th t)
derivative_added th (t ∷ u ∷ ts) = Err NoParse

-- what reading a statement comes to; no theory can be included
abbrev pub ComesTo : Theory → Said → Result Theory Cause → Type 0
ComesTo th (inclusion name) r = r ≡ Err UnknownTheory
ComesTo th (sorts names) r = r ≡ all_added sort_added th names
ComesTo th (operators forms args result a c i) r =
    r ≡ followed_by (sorts_named th args) (λ ss. followed_by (sort_named th result) (λ s. all_added (operator_added ss s a c i) th forms))
ComesTo th (variables names sort) r = r ≡ followed_by (sort_named th sort) (λ s. all_added (variable_added s) th names)
ComesTo th (equation left right conds exec) r =
    (o : Result (List Tree) Cause) × ListsOutcome th (equation_lists left right conds) o × (r ≡ followed_by o (equation_added th exec))
ComesTo th (derivative term) r = (o : Result (List Tree) Cause) × HoleOutcome th term o × (r ≡ followed_by o (derivative_added th))
ComesTo th (cases sort names) r =
    r ≡ followed_by (sort_named th sort) (λ s. followed_by (constants_named th s names) (λ cs. adds (cases_fault th s cs) (with_cases th s cs)))
