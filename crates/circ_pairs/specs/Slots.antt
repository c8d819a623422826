-- The holes and the parameters of a term, as the bodies of derivatives have them.
use Rattle.std.specs.Prelude.{ℕ, List, [], ◌∷◌, Bool, not, ◌==◌, nat_eq, if◌then◌else◌, map, Option, Some, None}
use Rattle.std.specs.List.{list_any, filter}
use Rattle.circ_term.specs.Tree.{Tree, Trees}
use Rattle.circ_pairs.specs.Variables.{Variable, occurrences, all_occurrences, seen_in, AreNumberedFrom}

-- variable 0 of any sort
abbrev pub is_hole : Variable → Bool
is_hole v = v.number == 0

abbrev pub is_parameter : Variable → Bool
is_parameter v = not (is_hole v)

-- the sorts of the holes, one for each place from the left
abbrev pub holes_in : Tree → List ℕ
holes_in t = map (λ v. v.sort) (filter is_hole (occurrences t))

abbrev pub all_holes_in : Trees → List ℕ
all_holes_in ts = map (λ v. v.sort) (filter is_hole (all_occurrences ts))

-- the numbers of the parameters, one for each place from the left
abbrev pub parameters_in : Tree → List ℕ
parameters_in t = map (λ v. v.number) (filter is_parameter (occurrences t))

abbrev pub all_parameters_in : Trees → List ℕ
all_parameters_in ts = map (λ v. v.number) (filter is_parameter (all_occurrences ts))

-- the sorts of the parameters, one for each place from the left
abbrev pub parameter_sorts_in : Tree → List ℕ
parameter_sorts_in t = map (λ v. v.sort) (filter is_parameter (occurrences t))

abbrev pub all_parameter_sorts_in : Trees → List ℕ
all_parameter_sorts_in ts = map (λ v. v.sort) (filter is_parameter (all_occurrences ts))

-- The parameters are numbered from 1, by first occurrence.
abbrev pub AreParametersInOrder : Tree → Type 0
AreParametersInOrder t = AreNumberedFrom 1 (filter is_parameter (seen_in t []))

-- the first item that stands again later
abbrev pub first_repeated : List ℕ → Option ℕ
first_repeated [] = None
first_repeated (n ∷ ns) = if list_any (nat_eq n) ns then Some n else first_repeated ns
