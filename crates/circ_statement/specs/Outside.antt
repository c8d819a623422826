-- Words cut outside parentheses.
use Rattle.std.specs.Prelude.{ℕ, ◌+◌, ◌==◌, ◌&&◌, zero, suc, List, [], ◌∷◌, ◌++◌, codes, if◌then◌else◌, Option, Some, None}
use Rattle.std.specs.Option.{option_map, option_and_then}
use Rattle.circ_statement.specs.Words.{Word, is_word}

abbrev pub closed : ℕ → Option ℕ
closed zero = None
closed (suc n) = Some n

-- how many parentheses are open after a word, of so many before it; None where one is closed that is not open
abbrev pub opened : ℕ → Word → Option ℕ
opened n w = if is_word w (codes "(") then Some (n + 1) else if is_word w (codes ")") then closed n else Some n

-- words more at the front of the first part
abbrev pub longer : List Word → List (List Word) → List (List Word)
longer ws [] = []
longer ws (p ∷ ps) = (ws ++ p) ∷ ps

-- the words cut at each word `at` that stands outside parentheses; None where a parenthesis is closed that is not open
abbrev pub cut_from : (at : Word) (level : ℕ) → List Word → Option (List (List Word))
cut_from at n [] = Some ([] ∷ [])
cut_from at n (w ∷ ws) =
    if is_word w at && (n == 0) then option_map (λ ps. [] ∷ ps) (cut_from at 0 ws)
    else option_and_then (λ m. option_map (longer (w ∷ [])) (cut_from at m ws)) (opened n w)

abbrev pub parts_at : Word → List Word → Option (List (List Word))
parts_at at ws = cut_from at 0 ws
