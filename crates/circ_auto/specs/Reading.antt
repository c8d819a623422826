-- How the words of an automaton's text are read from the left, word by word.
use Rattle.std.specs.Prelude.{ℕ, ◌+◌, ◌-◌, ◌*◌, ◌==◌, List, [], ◌∷◌, Bool, true, false, nat_lt, if◌then◌else◌, codes, Option, Some, None}
use Rattle.std.specs.Char.{is_ascii_digit}
use Rattle.std.specs.List.{list_all}
use Rattle.std.specs.Option.{option_map, option_and_then}
use Rattle.circ_statement.specs.Words as statement
use Rattle.circ_statement.specs.Words.{Word, is_name}

abbrev pub is_word : Word → Word → Bool
is_word v w = statement.is_word v w

-- the first word, and those behind it
abbrev pub front_of : List Word → Option (Word × List Word)
front_of [] = None
front_of (w ∷ ws) = Some (w, ws)

-- the words behind this first word
abbrev pub after : Word → List Word → Option (List Word)
after v [] = None
after v (w ∷ ws) = if is_word w v then Some ws else None

abbrev pub is_none_left : List Word → Bool
is_none_left [] = true
is_none_left (w ∷ ws) = false

-- the number that digits go on to after n, at most 4,294,967,295
abbrev pub digits_on : ℕ → List ℕ → Option ℕ
digits_on n [] = Some n
digits_on n (b ∷ bs) =
    if is_ascii_digit b then (if nat_lt 4294967295 (10 * n + (b - 48)) then None else digits_on (10 * n + (b - 48)) bs) else None

abbrev pub zero_alone : List ℕ → Option ℕ
zero_alone [] = Some 0
zero_alone (b ∷ bs) = None

-- the number that a word spells, in decimal digits with no zero in front
abbrev pub numeral : Word → Option ℕ
numeral [] = None
numeral (b ∷ bs) = if b == 48 then zero_alone bs else if is_ascii_digit b then digits_on (b - 48) bs else None

-- names up to a stop, and the words behind it
abbrev pub names_in : List Word → Option (List Word × List Word)
names_in [] = None
names_in (w ∷ ws) =
    if is_word w (codes ".") then Some ([], ws) else if is_name w then option_map (λ r. (w ∷ r.0, r.1)) (names_in ws) else None

-- numbers up to a stop, and the words behind it
abbrev pub numbers_in : List Word → Option (List ℕ × List Word)
numbers_in [] = None
numbers_in (w ∷ ws) =
    if is_word w (codes ".") then Some ([], ws) else option_and_then (λ n. option_map (λ r. (n ∷ r.0, r.1)) (numbers_in ws)) (numeral w)

-- one number, a stop, and the words behind it
abbrev pub number_in : List Word → Option (ℕ × List Word)
number_in ws = option_and_then (λ r. option_and_then (λ n. option_map (λ rest. (n, rest)) (after (codes ".") r.1)) (numeral r.0)) (front_of ws)

abbrev pub are_below : ℕ → List ℕ → Bool
are_below limit ns = list_all (λ n. nat_lt n limit) ns
