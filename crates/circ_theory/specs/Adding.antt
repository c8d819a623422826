-- Adding a part to a theory: when it is refused, and what is there afterwards.
use Rattle.std.specs.Prelude.{◌≡◌, ℕ, ◌+◌, List, [], ◌∷◌, ◌++◌, Bool, not, ◌==◌, ◌&&◌, nat_eq, nat_lt, if◌then◌else◌, length, map, position, find, Option, Some, None, is_some, unwrap_or, Result, Ok, Err}
use Rattle.std.specs.List.{slice_get, list_any}
use Rattle.std.specs.Option.{option_map, option_or, option_and_then}
use Rattle.std.specs.Cmp.Lexicographic.{pointwise}
use Rattle.circ_term.specs.Tree.{Tree, App, sort_of, trees_of}
use Rattle.circ_form.specs.declared.forms.Piece.{Piece}
use Rattle.circ_pairs.specs.declared.goals.Equation.{Equation}
use Rattle.circ_theory.specs.declared.fault.TheoryFault.{TheoryFault}
use Rattle.circ_theory.specs.declared.fault.TheoryFault.TheVariants.{Twice, UnknownSort, IllSorted, NotVisible, Limit, Memory}
use Rattle.circ_theory.specs.Limits.{sort_limit, variable_limit, operator_limit, equation_limit, argument_limit, condition_limit}
use Rattle.circ_theory.specs.Signature.{Signature, Operator}
use Rattle.circ_pairs.specs.Pair.{Pair}
use Rattle.circ_theory.specs.Theory.{Theory, declared}
use Rattle.circ_form.specs.Form.{is_same_piece}
use Rattle.circ_theory.specs.Operators.{is_same_operator, is_ill_sorted}

-- the number of the sort of this name
abbrev pub sort_number : Signature → List ℕ → Option ℕ
sort_number sig name = position (pointwise nat_eq name) sig.sorts

-- one part more would be too many
abbrev pub count_fault : (most count : ℕ) → Option TheoryFault
count_fault most count = if nat_lt most (count + 1) then Some (Limit (count + 1)) else None

-- why a sort is not added
abbrev pub sort_fault : Theory → List ℕ → Option TheoryFault
sort_fault th name = option_or (option_map Twice (sort_number th.signature name)) (count_fault sort_limit (length th.signature.sorts))

abbrev pub is_no_sort : Signature → ℕ → Bool
is_no_sort sig s = not (nat_lt s (length sig.sorts))

-- the first argument sort or else the result sort that the signature lacks
abbrev pub unknown_sort : Signature → Operator → Option ℕ
unknown_sort sig o = find (is_no_sort sig) (o.args ++ o.result ∷ [])

-- the number of the declared variable of this name
abbrev pub var_number : Theory → List ℕ → Option ℕ
var_number th name = position (λ d. pointwise nat_eq name d.name) th.variables

-- why variable n is not declared with this sort again: it has another
abbrev pub old_var_fault : Theory → (sort n : ℕ) → Option TheoryFault
old_var_fault th sort n = option_and_then (λ d. if d.sort == sort then None else Some (Twice n)) (slice_get th.variables n)

-- why a variable of a new name is not added
abbrev pub new_var_fault : Theory → (sort : ℕ) → Option TheoryFault
new_var_fault th sort = option_or (if is_no_sort th.signature sort then Some (UnknownSort sort) else None) (count_fault variable_limit (length th.variables))

-- why a variable is not declared
abbrev pub var_fault : Theory → List ℕ → (sort : ℕ) → Option TheoryFault
var_fault th name sort = unwrap_or (option_map (old_var_fault th sort) (var_number th name)) (new_var_fault th sort)

-- the number of the operator of this form and these argument sorts
abbrev pub op_number : Signature → Operator → Option ℕ
op_number sig o = position (is_same_operator o) sig.ops

-- the same by form and sorts alone
abbrev pub op_of_form : Signature → List Piece → (args : List ℕ) → Option ℕ
op_of_form sig form args = position (λ o. pointwise is_same_piece form o.form && pointwise nat_eq args o.args) sig.ops

-- why an operator is not added
abbrev pub op_fault : Theory → Operator → Option TheoryFault
op_fault th o =
    option_or (option_map Twice (op_number th.signature o))
    (option_or (option_map UnknownSort (unknown_sort th.signature o))
    (option_or (if is_ill_sorted o then Some (IllSorted (length th.signature.ops)) else None)
    (option_or (if nat_lt argument_limit (length o.args) then Some (Limit (length o.args)) else None)
    (count_fault operator_limit (length th.signature.ops)))))

-- a part with so many items is too large
abbrev pub long_fault : (most count : ℕ) → Option TheoryFault
long_fault most count = if nat_lt most count then Some (Limit count) else None

-- whether a sort is the hole's sort of a derivative
abbrev pub is_hidden : Theory → ℕ → Bool
is_hidden th s = list_any (λ d. s == d.hole) th.derivatives

-- the sort of the first condition of a hidden sort
abbrev pub hidden_condition : Theory → List Pair → Option ℕ
hidden_condition th E = option_map (λ p. sort_of p.left) (find (λ p. is_hidden th (sort_of p.left)) E)

-- why an equation with these conditions is not added
abbrev pub equation_fault : Theory → (conds : List Pair) → Option TheoryFault
equation_fault th E =
    option_or (option_map NotVisible (hidden_condition th E))
    (option_or (count_fault equation_limit (length th.equations)) (long_fault condition_limit (length E)))

abbrev pub with_sort : Theory → List ℕ → Theory
with_sort th name = record th { signature = record th.signature { sorts = th.signature.sorts ++ name ∷ [] } }

-- the theory in which the variable is declared, as it may be already
abbrev pub with_var : Theory → List ℕ → (sort : ℕ) → Theory
with_var th name sort = if is_some (var_number th name) then th else record th { variables = th.variables ++ declared name sort ∷ [] }

abbrev pub with_op : Theory → Operator → Theory
with_op th o = record th { signature = record th.signature { ops = th.signature.ops ++ o ∷ [] } }

abbrev pub with_equation : Theory → Equation → Theory
with_equation th e = record th { equations = th.equations ++ e ∷ [] }

-- the fault is the first one that there is, or memory ran out
abbrev pub IsFaultOf : TheoryFault → Option TheoryFault → Type 0
IsFaultOf Memory o = Unit {0}
IsFaultOf f o = o ≡ Some f

-- the new part has this number where there is no fault
abbrev pub Numbers : Result ℕ TheoryFault → Option TheoryFault → ℕ → Type 0
Numbers (Ok n) o number = (o ≡ None) × (n ≡ number)
Numbers (Err f) o number = IsFaultOf f o

-- the operator on these terms, where there is such an operator and it takes their sorts
abbrev pub application : Signature → ℕ → List Tree → Option Tree
application sig f ts =
    option_and_then (λ o. if pointwise nat_eq (map sort_of ts) o.args then Some (App f o.result (trees_of ts)) else None) (slice_get sig.ops f)
