-- Why a statement is refused: its first cause.
use Rattle.std.specs.Prelude.{◌≡◌, ◌⊎◌, ℕ, List, [], ◌∷◌, Bool, true, Option, Some, None}
use Rattle.std.proofs.Common.{Less}
use Rattle.circ_term.specs.Tree.{Tree, trees_of}
use Rattle.circ_term.specs.Order.{trees_cmp}
use Rattle.circ_theory.specs.declared.fault.TheoryFault.{TheoryFault}
use Rattle.circ_theory.specs.Goal.{Goal}
use Rattle.circ_theory.specs.Theory.{Theory, goal}
use Rattle.circ_theory.specs.Adding.{sort_number, sort_fault, equation_fault, with_sort}
use Rattle.circ_theory.specs.Observing.{derivative_fault, cases_fault}
use Rattle.circ_mixfix.specs.Answers.{long_count, first_long}
use Rattle.circ_mixfix.specs.Found.{pairs_of}
use Rattle.circ_mixfix.specs.Printing.{text_of_term, text_of_goal}
use Rattle.circ_statement.specs.Said.{Said, inclusion, sorts, operators, variables, equation, derivative, cases}
use Rattle.circ_read.specs.declared.cause.Cause.{Cause}
use Rattle.circ_read.specs.declared.cause.Cause.TheVariants.{UnknownTheory, UnknownSort, TooLong, NoParse, Ambiguous}
use Rattle.circ_read.specs.Causes.{cause_of}
use Rattle.circ_read.specs.Adding.{first_fault, sort_numbers, constant_numbers, variable_fault, with_variable, operator_fault, with_operator, ReadsAlone, equation_lists, goal_terms, ReadsEquation, ReadsHole}

-- There is a fault, which is this cause.
abbrev pub IsCauseOf : Option TheoryFault → Cause → Type 0
IsCauseOf None c = ⊥
IsCauseOf (Some f) c = c ≡ cause_of f

-- What is looked up is missing, which is a cause; or else the cause is one of what was found.
abbrev pub LacksOr : {A : Type 0} → Option A → (missing : Cause) → (A → Cause → Type 0) → Cause → Type 0
LacksOr None missing Has c = c ≡ missing
LacksOr (Some a) missing Has c = Has a c

-- Token lists do not read as the only terms: one is too long, or there is no reading, or there are two, which are shown.
pub data ReadsNotAlone (too_long : Option ℕ) (Reads : List Tree → Type 0) (shown : List Tree → List ℕ) : Cause → Type 0 where
  too_many_tokens : (n : ℕ) → too_long ≡ Some n → ReadsNotAlone too_long Reads shown (TooLong n)
  no_reading : too_long ≡ None → ((ts : List Tree) → Reads ts → ⊥) → ReadsNotAlone too_long Reads shown NoParse
  two_readings : (ts us : List Tree) → too_long ≡ None → Reads ts → Reads us → trees_cmp (trees_of ts) (trees_of us) ≡ Less
      → ReadsNotAlone too_long Reads shown (Ambiguous (shown ts) (shown us))

-- a term as it is printed, perhaps with a hole, and an equation or a goal
abbrev pub shown_text : (hole : Bool) → Theory → List Tree → List ℕ
shown_text hole th [] = []
shown_text hole th (t ∷ []) = text_of_term th.signature hole t
shown_text hole th (t ∷ u ∷ ts) = text_of_goal th.signature (goal (pairs_of ts) t u)

-- in a theory text a term by itself is a derivative's
abbrev pub terms_text : Theory → List Tree → List ℕ
terms_text th ts = shown_text true th ts

-- The token lists of an equation do not read as the only terms, or else the equation is not added.
abbrev pub RefusesEquation : Theory → List (List (List ℕ)) → Cause → Type 0
RefusesEquation th lists c =
    ReadsNotAlone (first_long lists) (ReadsEquation th lists) (terms_text th) c
    ⊎ ((g : Goal) × (ReadsAlone (first_long lists) (ReadsEquation th lists) (goal_terms g) × IsCauseOf (equation_fault th g.conds) c))

-- The statement has this first cause in the theory. One equation a kind; `RefusesInclusion` has inclusions.
abbrev pub RefusesStatement : Theory → Said → Cause → Type 0
RefusesStatement th (inclusion name) c = c ≡ UnknownTheory
RefusesStatement th (sorts names) c = IsCauseOf (first_fault sort_fault with_sort th names) c
RefusesStatement th (operators forms args result a k i) c =
    LacksOr (sort_numbers th args) UnknownSort
    (λ ss. LacksOr (sort_number th.signature result) UnknownSort
    (λ s. IsCauseOf (first_fault (operator_fault ss s a k i) (with_operator ss s a k i) th forms))) c
RefusesStatement th (variables names sort) c =
    LacksOr (sort_number th.signature sort) UnknownSort (λ s. IsCauseOf (first_fault (variable_fault s) (with_variable s) th names)) c
RefusesStatement th (equation left right conds exec) c = RefusesEquation th (equation_lists left right conds) c
RefusesStatement th (derivative term) c =
    ReadsNotAlone (long_count term) (ReadsHole th term) (terms_text th) c
    ⊎ ((t : Tree) × (ReadsAlone (long_count term) (ReadsHole th term) (t ∷ []) × IsCauseOf (derivative_fault th t) c))
RefusesStatement th (cases sort names) c =
    LacksOr (sort_number th.signature sort) UnknownSort (λ s. LacksOr (constant_numbers th s names) NoParse (λ cs. IsCauseOf (cases_fault th s cs))) c
