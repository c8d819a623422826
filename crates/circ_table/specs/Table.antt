-- A table of terms that goes by numbers: the least number of a term, a term that is added, and the terms that were asked for.
use Rattle.std.specs.Prelude.{◌≡◌, ℕ, ◌==◌, if◌then◌else◌, List, [], ◌∷◌, ◌++◌, Option, Some, None, Result, Ok, Err}
use Rattle.std.specs.List.{slice_get, AllByRecursion}
use Rattle.std.specs.Option.{option_map, option_and_then}
use Rattle.circ_term.specs.Tree.{Tree}
use Rattle.circ_term.specs.Limits.{first_limit, IsWithinLimits, Names}
use Rattle.circ_term.specs.declared.fault.TermFault.{TermFault}
use Rattle.circ_proof.specs.Table.{number_in}

-- the term of which this is the least number
abbrev pub first_at : List Tree → ℕ → Option Tree
first_at table n = option_and_then (λ t. if number_in table t == n then Some t else None) (slice_get table n)

abbrev pub firsts_at : List Tree → List ℕ → Option (List Tree)
firsts_at table [] = Some []
firsts_at table (n ∷ ns) = option_and_then (λ t. option_map (λ ts. t ∷ ts) (firsts_at table ns)) (first_at table n)

-- What a call answers that adds the term: it goes last, where it is within the limits. Else the table is as before.
abbrev pub AddsRow : {U : Type 0} → (old new : List Tree) → Tree → Result U TermFault → Type 0
AddsRow old new t (Ok u) = (new ≡ old ++ t ∷ []) × IsWithinLimits t
AddsRow old new t (Err e) = (new ≡ old) × Names e (first_limit t)

-- the term has a number in the table
abbrev pub IsIn : (table : List Tree) → Tree → Type 0
IsIn table t = (n : ℕ) × (slice_get table n ≡ Some t)

-- each of these terms has a number in the table
abbrev pub AreIn : (table terms : List Tree) → Type 0
AreIn table terms = AllByRecursion (IsIn table) terms
