-- The statements of an automaton's text, one after another: what each gives, or the first cause.
use Rattle.std.specs.Prelude.{◌≡◌, ℕ, ◌+◌, ◌==◌, ◌&&◌, zero, suc, List, [], ◌∷◌, ◌++◌, Bool, true, false, nat_lt, if◌then◌else◌, length, replicate, slice_set, position, codes, Option, Some, None, Result, Ok, Err}
use Rattle.std.specs.Option.{option_and_then}
use Rattle.circ_statement.specs.Words.{Word, is_name}
use Rattle.circ_auto.specs.declared.fault.AutoCause.{AutoCause}
use Rattle.circ_auto.specs.declared.fault.AutoCause.TheVariants.{Shape, Twice, Limit}
use Rattle.circ_auto.specs.Machine.{Machine}
use Rattle.circ_auto.specs.Reading.{is_word, front_of, after, is_none_left, numeral, names_in, numbers_in, number_in, are_below}

-- what a part of the text gives: a value, or else a cause with the number of its statement
abbrev pub Part : Type 0 → Type 0
Part A = Result A (ℕ × AutoCause)

-- a value, or else Shape in this statement
abbrev pub or_shape : {A : Type 0} → (number : ℕ) → Option A → Part A
or_shape n None = Err (n, Shape)
or_shape n (Some a) = Ok a

-- the value, unless there is a cause
abbrev pub unless_refused : {A : Type 0} → (number : ℕ) → Option AutoCause → A → Part A
unless_refused n None a = Ok a
unless_refused n (Some c) a = Err (n, c)

-- a part, and the one that follows it
abbrev pub followed : {A B : Type 0} → Part A → (A → Part B) → Part B
followed (Ok a) next = next a
followed (Err e) next = Err e

-- the head: `automaton`, a name, `is`
abbrev pub head_in : List Word → Option (List Word)
head_in ws =
    option_and_then (λ r. if is_name r.0 then after (codes "is") r.1 else None) (option_and_then front_of (after (codes "automaton") ws))

-- a place, or else another
abbrev pub or_place : Option ℕ → Option ℕ → Option ℕ
or_place None other = other
or_place (Some n) other = Some n

-- the earlier place of the first word that repeats one before it
abbrev pub repeat_after : (before : List Word) → List Word → Option ℕ
repeat_after before [] = None
repeat_after before (w ∷ ws) = or_place (position (is_word w) before) (repeat_after (before ++ w ∷ []) ws)

-- a letter is repeated, or else there are more than 64
abbrev pub repeated_or_many : Option ℕ → (count : ℕ) → Option AutoCause
repeated_or_many (Some n) count = Some (Twice n)
repeated_or_many None count = if nat_lt 64 count then Some (Limit count) else None

-- why these are not the letters: there is none; or else one repeats another; or else there are more than 64
abbrev pub letters_cause : List Word → Option AutoCause
letters_cause [] = Some Shape
letters_cause (w ∷ ws) = repeated_or_many (repeat_after [] (w ∷ ws)) (length (w ∷ ws))

abbrev pub letters_part : List Word → Part (List Word × List Word)
letters_part ws =
    followed (or_shape 2 (option_and_then names_in (after (codes "letters") ws))) (λ r. unless_refused 2 (letters_cause r.0) r)

-- why there are not so many states: there is none; or there are more than 1,000
abbrev pub states_cause : ℕ → Option AutoCause
states_cause n = if n == 0 then Some Shape else if nat_lt 1000 n then Some (Limit n) else None

abbrev pub states_part : List Word → Part (ℕ × List Word)
states_part ws =
    followed (or_shape 3 (option_and_then number_in (after (codes "states") ws))) (λ r. unless_refused 3 (states_cause r.0) r)

-- the state at which it starts
abbrev pub start_in : (states : ℕ) → List Word → Option (ℕ × List Word)
start_in n ws = option_and_then (λ r. if nat_lt r.0 n then Some r else None) (option_and_then number_in (after (codes "start") ws))

-- the states that accept
abbrev pub accept_in : (states : ℕ) → List Word → Option (List ℕ × List Word)
accept_in n ws =
    option_and_then (λ r. if are_below n r.0 then Some r else None) (option_and_then numbers_in (after (codes "accept") ws))

abbrev pub is_number : ℕ → Option ℕ → Bool
is_number n None = false
is_number n (Some m) = m == n

-- the words behind the number of a state
abbrev pub behind_state : ℕ → List Word → Option (List Word)
behind_state s ws = option_and_then (λ r. if is_number s (numeral r.0) then Some r.1 else None) (front_of ws)

-- the row of a state: a target for each letter
abbrev pub row_in : (letters states state : ℕ) → List Word → Option (List ℕ × List Word)
row_in k n s ws =
    option_and_then (λ r. if (length r.0 == k) && are_below n r.0 then Some r else None)
    (option_and_then numbers_in (option_and_then (behind_state s) (after (codes "from") ws)))

-- so many rows, from that of a state on: their targets one after another
abbrev pub rows_part : (letters states : ℕ) → (rows state : ℕ) → List Word → Part (List ℕ × List Word)
rows_part k n zero s ws = Ok ([], ws)
rows_part k n (suc rows) s ws =
    followed (or_shape (6 + s) (row_in k n s ws)) (λ r. followed (rows_part k n rows (s + 1) r.1) (λ t. Ok (r.0 ++ t.0, t.1)))

-- the end, and nothing behind it
abbrev pub end_in : List Word → Option (Unit {0})
end_in ws = option_and_then (λ r. if is_none_left r then Some tt else None) (after (codes "endautomaton") ws)

-- for each of some states whether it is among those marked and these
abbrev pub marked : List Bool → List ℕ → List Bool
marked bs [] = bs
marked bs (s ∷ ss) = marked (slice_set bs s true) ss

-- what the first four statements give, with the words behind them
pub record Opening : Type 0 where
  pub letters : List Word
  pub states : ℕ
  pub start : ℕ
  pub ahead : List Word

abbrev pub opening : List Word → Part Opening
opening ws =
    followed (or_shape 1 (head_in ws)) (λ a.
    followed (letters_part a) (λ l.
    followed (states_part l.1) (λ n.
    followed (or_shape 4 (start_in n.0 n.1)) (λ s.
    Ok (record { letters = l.0; states = n.0; start = s.0; ahead = s.1 })))))

-- the automaton of an opening and of what the words behind it give
abbrev pub closing : Opening → Part Machine
closing o =
    followed (or_shape 5 (accept_in o.states o.ahead)) (λ f.
    followed (rows_part (length o.letters) o.states o.states 0 f.1) (λ t.
    followed (or_shape (6 + o.states) (end_in t.1)) (λ e.
    Ok (record { letters = o.letters; start = o.start; accepting = marked (replicate o.states false) f.0; targets = t.0 }))))

-- the automaton of all statements, or the first cause
abbrev pub automaton_of : List Word → Part Machine
automaton_of ws = followed (opening ws) closing
