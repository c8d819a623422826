-- What a statement that is accepted adds to a theory.
use Rattle.std.specs.Prelude.{◌≡◌, ℕ, List, [], ◌∷◌, Bool, true, ◌==◌, if◌then◌else◌, Option, Some, None, is_some}
use Rattle.std.specs.List.{slice_get}
use Rattle.std.specs.Option.{option_map, option_or, option_and_then}
use Rattle.circ_term.specs.Tree.{Tree}
use Rattle.circ_form.specs.declared.forms.Piece.{Piece}
use Rattle.circ_form.specs.declared.forms.Piece.TheVariants.{Hole, Word}
use Rattle.circ_theory.specs.declared.fault.TheoryFault.{TheoryFault}
use Rattle.circ_form.specs.Form.{pieces_of, form_fault}
use Rattle.circ_theory.specs.Signature.{Signature, Operator}
use Rattle.circ_theory.specs.Goal.{Goal}
use Rattle.circ_theory.specs.Theory.{Theory}
use Rattle.circ_theory.specs.Adding.{sort_number, op_of_form, sort_fault, var_fault, op_fault, equation_fault, with_sort, with_var, with_op, with_equation}
use Rattle.circ_theory.specs.Observing.{derivative_fault, with_derivative, cases_fault, with_cases}
use Rattle.circ_mixfix.specs.Answers.{long_count, first_long, ReadsOnly}
use Rattle.circ_mixfix.specs.Readings.{ReadsTwos}
use Rattle.circ_mixfix.specs.Found.{sides_of_pairs}
use Rattle.circ_statement.specs.Attributes.{Spelled}
use Rattle.circ_statement.specs.Said.{Said, SaidSides, inclusion, sorts, operators, variables, equation, derivative, cases}

-- the fault of the first part that has one, where the parts before it are added
abbrev pub first_fault : {A : Type 0} → (fault : Theory → A → Option TheoryFault) (with_one : Theory → A → Theory) → Theory → List A
    → Option TheoryFault
first_fault fault with_one th [] = None
first_fault fault with_one th (a ∷ rest) = option_or (fault th a) (first_fault fault with_one (with_one th a) rest)

-- the theory with the parts, from the left
abbrev pub with_all : {A : Type 0} → (with_one : Theory → A → Theory) → Theory → List A → Theory
with_all with_one th [] = th
with_all with_one th (a ∷ rest) = with_all with_one (with_one th a) rest

-- Parts of which none has a fault are added.
pub record AddsAll {A : Type 0} (fault : Theory → A → Option TheoryFault) (with_one : Theory → A → Theory) (th : Theory) (parts : List A) (u : Theory)
    : Type 0 where
  pub no_fault : first_fault fault with_one th parts ≡ None
  pub is : u ≡ with_all with_one th parts

-- the numbers that the words have, if each has one
abbrev pub all_numbers : (List ℕ → Option ℕ) → List (List ℕ) → Option (List ℕ)
all_numbers number [] = Some []
all_numbers number (w ∷ ws) = option_and_then (λ n. option_map (λ ns. n ∷ ns) (all_numbers number ws)) (number w)

-- the numbers of sorts by their names
abbrev pub sort_numbers : Theory → List (List ℕ) → Option (List ℕ)
sort_numbers th ws = all_numbers (sort_number th.signature) ws

abbrev pub variable_fault : (sort : ℕ) → Theory → List ℕ → Option TheoryFault
variable_fault s th name = var_fault th name s

abbrev pub with_variable : (sort : ℕ) → Theory → List ℕ → Theory
with_variable s th name = with_var th name s

abbrev pub operator_with : (args : List ℕ) (result : ℕ) (assoc comm idem : Bool) → Spelled → Operator
operator_with args result assoc comm idem p =
    record { form = p.form; args = args; result = result; prec = p.prec; side = p.side; assoc = assoc; comm = comm; idem = idem }

abbrev pub operator_fault : (args : List ℕ) (result : ℕ) (assoc comm idem : Bool) → Theory → Spelled → Option TheoryFault
operator_fault args result assoc comm idem th p = op_fault th (operator_with args result assoc comm idem p)

abbrev pub with_operator : (args : List ℕ) (result : ℕ) (assoc comm idem : Bool) → Theory → Spelled → Theory
with_operator args result assoc comm idem th p = with_op th (operator_with args result assoc comm idem p)

-- the form that is one word, where this is the word
abbrev pub one_word : List Piece → Option (List Piece)
one_word [] = None
one_word (Hole ∷ ps) = None
one_word (Word w ∷ []) = Some (Word w ∷ [])
one_word (Word w ∷ p ∷ ps) = None

abbrev pub word_form : List ℕ → Option (List Piece)
word_form w = if is_some (form_fault w) then None else one_word (pieces_of w)

-- the number, where it is that of an operator with this result
abbrev pub of_sort : Signature → (sort op : ℕ) → Option ℕ
of_sort sig s n = option_and_then (λ o. if o.result == s then Some n else None) (slice_get sig.ops n)

-- the constant of a sort with this one word as its form
abbrev pub constant_number : Signature → (sort : ℕ) → List ℕ → Option ℕ
constant_number sig s w = option_and_then (λ form. option_and_then (of_sort sig s) (op_of_form sig form [])) (word_form w)

abbrev pub constant_numbers : Theory → (sort : ℕ) → List (List ℕ) → Option (List ℕ)
constant_numbers th s ws = all_numbers (constant_number th.signature s) ws

-- Token lists, of which none is too long, read as these terms and as no others.
pub record ReadsAlone (too_long : Option ℕ) (Reads : List Tree → Type 0) (ts : List Tree) : Type 0 where
  pub short : too_long ≡ None
  pub reads : Reads ts
  pub only : (us : List Tree) → Reads us → us ≡ ts

-- the token lists of an equation or a goal, in the order in which they are read: its sides, then those of its conditions
abbrev pub condition_lists : List SaidSides → List (List (List ℕ))
condition_lists [] = []
condition_lists (s ∷ conds) = s.left ∷ s.right ∷ condition_lists conds

abbrev pub equation_lists : (left right : List (List ℕ)) → List SaidSides → List (List (List ℕ))
equation_lists left right conds = left ∷ right ∷ condition_lists conds

abbrev pub ReadsEquation : Theory → List (List (List ℕ)) → List Tree → Type 0
ReadsEquation th lists ts = ReadsTwos th.signature th.variables lists ts

-- its terms, in the same order
abbrev pub goal_terms : Goal → List Tree
goal_terms g = g.left ∷ g.right ∷ sides_of_pairs g.conds

-- the term of a derivative
abbrev pub ReadsHole : Theory → (term : List (List ℕ)) → List Tree → Type 0
ReadsHole th term ts = ReadsOnly th.signature th.variables true term ts

pub record AddsOperators (th : Theory) (forms : List Spelled) (args : List (List ℕ)) (result : List ℕ) (assoc comm idem : Bool) (u : Theory) : Type 0 where
  pub sorts : List ℕ
  pub sort : ℕ
  pub args_are : sort_numbers th args ≡ Some sorts
  pub result_is : sort_number th.signature result ≡ Some sort
  pub adds : AddsAll (operator_fault sorts sort assoc comm idem) (with_operator sorts sort assoc comm idem) th forms u

pub record DeclaresVariables (th : Theory) (names : List (List ℕ)) (sort : List ℕ) (u : Theory) : Type 0 where
  pub number : ℕ
  pub sort_is : sort_number th.signature sort ≡ Some number
  pub adds : AddsAll (variable_fault number) (with_variable number) th names u

pub record AddsEquation (th : Theory) (lists : List (List (List ℕ))) (exec : Bool) (u : Theory) : Type 0 where
  pub says : Goal
  pub alone : ReadsAlone (first_long lists) (ReadsEquation th lists) (goal_terms says)
  pub no_fault : equation_fault th says.conds ≡ None
  pub is : u ≡ with_equation th (record { left = says.left; right = says.right; conds = says.conds; exec = exec })

pub record AddsDerivative (th : Theory) (term : List (List ℕ)) (u : Theory) : Type 0 where
  pub body : Tree
  pub alone : ReadsAlone (long_count term) (ReadsHole th term) (body ∷ [])
  pub no_fault : derivative_fault th body ≡ None
  pub is : u ≡ with_derivative th body

pub record AddsCases (th : Theory) (sort : List ℕ) (names : List (List ℕ)) (u : Theory) : Type 0 where
  pub number : ℕ
  pub constants : List ℕ
  pub sort_is : sort_number th.signature sort ≡ Some number
  pub constants_are : constant_numbers th number names ≡ Some constants
  pub no_fault : cases_fault th number constants ≡ None
  pub is : u ≡ with_cases th number constants

-- The statement is accepted, and adds this. One equation a kind; `Includes` has inclusions.
abbrev pub AddsStatement : Theory → Said → Theory → Type 0
AddsStatement th (inclusion name) u = ⊥
AddsStatement th (sorts names) u = AddsAll sort_fault with_sort th names u
AddsStatement th (operators forms args result a c i) u = AddsOperators th forms args result a c i u
AddsStatement th (variables names sort) u = DeclaresVariables th names sort u
AddsStatement th (equation left right conds exec) u = AddsEquation th (equation_lists left right conds) exec u
AddsStatement th (derivative term) u = AddsDerivative th term u
AddsStatement th (cases sort names) u = AddsCases th sort names u
