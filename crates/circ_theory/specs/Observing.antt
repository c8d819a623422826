-- What a term has to be for a derivative, and when derivatives and case lists are refused.
use Rattle.std.specs.Prelude.{ℕ, List, [], ◌∷◌, ◌++◌, Bool, false, not, ◌==◌, ◌&&◌, ◌||◌, if◌then◌else◌, length, find, Option, Some}
use Rattle.std.specs.Prelude.{None, is_some}
use Rattle.std.specs.List.{list_any, slice_get}
use Rattle.std.specs.Option.{option_map, option_map_or, option_or}
use Rattle.circ_term.specs.Tree.{Tree}
use Rattle.circ_theory.specs.declared.fault.TheoryFault.{TheoryFault}
use Rattle.circ_theory.specs.declared.fault.TheoryFault.TheVariants.{Twice, UnknownSort, IllSorted, NotLinear, HoleCount, NoConstant, NotVisible}
use Rattle.circ_theory.specs.declared.fault.TheoryFault.TheVariants.{NowHidden}
use Rattle.circ_theory.specs.Limits.{derivative_limit, parameter_limit, constant_limit}
use Rattle.circ_theory.specs.Signature.{Signature}
use Rattle.circ_theory.specs.Theory.{Theory, Derivative, CaseList}
use Rattle.circ_theory.specs.Adding.{count_fault, is_no_sort}
pub use Rattle.circ_pairs.specs.Pair.{has_condition_of}
pub use Rattle.circ_pairs.specs.Slots.{is_hole, is_parameter, holes_in, all_holes_in, parameters_in, all_parameters_in, parameter_sorts_in, all_parameter_sorts_in, AreParametersInOrder, first_repeated}
pub use Rattle.circ_theory.specs.Adding.{long_fault, is_hidden}

abbrev pub first_or_zero : List ℕ → ℕ
first_or_zero [] = 0
first_or_zero (n ∷ ns) = n

abbrev pub derivative_with : (hole : ℕ) → Tree → Derivative
derivative_with hole t = record { hole = hole; body = t }

-- the derivative whose body the term is
abbrev pub derivative_of : Tree → Derivative
derivative_of t = derivative_with (first_or_zero (holes_in t)) t

-- the constants of a sort's case list
abbrev pub cases_of : Theory → ℕ → Option (List ℕ)
cases_of th s = option_map (λ l. l.constants) (find (λ l. s == l.sort) th.cases)

-- whether a condition of an equation is of this sort
abbrev pub is_condition_sort : Theory → ℕ → Bool
is_condition_sort th s = list_any (λ e. has_condition_of s e.conds) th.equations

abbrev pub hole_fault : ℕ → Option TheoryFault
hole_fault count = if count == 1 then None else Some (HoleCount count)

-- why a sort cannot become hidden: it has a case list, or a condition is of it
abbrev pub now_hidden : Theory → ℕ → Option TheoryFault
now_hidden th s = if is_some (cases_of th s) || is_condition_sort th s then Some (NowHidden s) else None

-- why a derivative is not added, by its least parameter that is repeated, its holes and the number of its parameters
abbrev pub slots_fault : Theory → (repeated : Option ℕ) → (holes : List ℕ) → (params : ℕ) → Option TheoryFault
slots_fault th repeated holes params =
    option_or (option_map NotLinear repeated)
    (option_or (hole_fault (length holes))
    (option_or (now_hidden th (first_or_zero holes))
    (option_or (long_fault parameter_limit params)
    (count_fault derivative_limit (length th.derivatives)))))

-- why a derivative is not added
abbrev pub derivative_fault : Theory → Tree → Option TheoryFault
derivative_fault th t = slots_fault th (first_repeated (parameters_in t)) (holes_in t) (length (parameters_in t))

abbrev pub with_derivative : Theory → Tree → Theory
with_derivative th t = record th { derivatives = th.derivatives ++ derivative_of t ∷ [] }

-- whether an operator is a constant of the sort
abbrev pub is_constant : Signature → (sort op : ℕ) → Bool
is_constant sig s c = option_map_or (λ o. (length o.args == 0) && (o.result == s)) (slice_get sig.ops c) false

-- why a case list is not added, in parts: a constant or the sort has one, or stands twice
abbrev pub twice_listed : Theory → (sort : ℕ) → List ℕ → Option TheoryFault
twice_listed th s cs = option_or (if is_some (cases_of th s) then Some (Twice s) else None) (option_map Twice (first_repeated cs))

-- sort and constants do not fit
abbrev pub no_constants : Theory → (sort : ℕ) → List ℕ → Option TheoryFault
no_constants th s cs =
    option_or (if is_no_sort th.signature s then Some (UnknownSort s) else None)
    (option_or (option_map IllSorted (find (λ c. not (is_constant th.signature s c)) cs)) (if length cs == 0 then Some NoConstant else None))

-- why a case list is not added
abbrev pub cases_fault : Theory → (sort : ℕ) → List ℕ → Option TheoryFault
cases_fault th s cs =
    option_or (twice_listed th s cs)
    (option_or (no_constants th s cs) (option_or (if is_hidden th s then Some (NotVisible s) else None) (long_fault constant_limit (length cs))))

abbrev pub case_list : ℕ → List ℕ → CaseList
case_list s cs = record { sort = s; constants = cs }

abbrev pub with_cases : Theory → (sort : ℕ) → List ℕ → Theory
with_cases th s cs = record th { cases = th.cases ++ case_list s cs ∷ [] }
