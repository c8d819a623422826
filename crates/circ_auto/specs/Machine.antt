-- Automata and the words that they accept.
use Rattle.std.specs.Prelude.{◌≡◌, ℕ, ◌<◌, ◌≤◌, ◌+◌, ◌*◌, List, [], ◌∷◌, Bool, false, length, get_or, Option, Some, None, refl}
use Rattle.std.specs.List.{AllByRecursion}
use Rattle.std.specs.Coded.{Coded, code_by, coded×, coded_ℕ, coded_list, coded_bool}
use Rattle.circ_auto.specs.Graph.{IsWord}
use Rattle.circ_auto.specs.Reading.{is_word}

-- Letters are known by their names, and states by their numbers. The targets stand state after state, and in each state letter after letter.
pub record Machine : Type 0 where
  pub letters : List (List ℕ)
  pub start : ℕ
  pub accepting : List Bool
  pub targets : List ℕ

-- the number of states
abbrev pub states : Machine → ℕ
states m = length m.accepting

abbrev pub target : Machine → ℕ → ℕ → ℕ
target m s x = get_or m.targets (s * length m.letters + x) 0

abbrev pub is_accepting : Machine → ℕ → Bool
is_accepting m s = get_or m.accepting s false

-- the state to which the word leads
abbrev pub arrives : Machine → ℕ → List ℕ → ℕ
arrives m s [] = s
arrives m s (x ∷ w) = arrives m (target m s x) w

-- the targets along the word lead from the start to an accepting state
abbrev pub accepts : Machine → List ℕ → Bool
accepts m w = is_accepting m (arrives m m.start w)

-- no two of the words are the same
abbrev pub AreAllDifferent : List (List ℕ) → Type 0
AreAllDifferent [] = Unit {0}
AreAllDifferent (w ∷ ws) = AllByRecursion (λ v. is_word v w ≡ false) ws × AreAllDifferent ws

-- 1 to 64 letters, all different, and 1 to 1,000 states; the start and the targets are states
pub record IsMachine (m : Machine) : Type 0 where
  pub letters : 0 < length m.letters
  pub few_letters : length m.letters ≤ 64
  pub different : AreAllDifferent m.letters
  pub few_states : length m.accepting ≤ 1000
  pub start : m.start < length m.accepting
  pub rows : length m.targets ≡ length m.accepting * length m.letters
  pub targets : AllByRecursion (λ s. s < length m.accepting) m.targets

-- exactly one of two automata with the same letters accepts the word
pub record Differs (m n : Machine) (w : List ℕ) : Type 0 where
  pub word : IsWord (length m.letters) w
  pub differs : (accepts m w ≡ accepts n w) → ⊥

-- what comparing answers: a shortest word that exactly one accepts, or that each word is accepted by both or by neither
abbrev pub Compares : Machine → Machine → Option (List ℕ) → Type 0
Compares m n None = (w : List ℕ) → IsWord (length m.letters) w → accepts m w ≡ accepts n w
Compares m n (Some v) = Differs m n v × ((w : List ℕ) → Differs m n w → length v ≤ length w)

abbrev pub machine_code : Coded Machine
machine_code =
    code_by (List (List ℕ) × (ℕ × (List Bool × List ℕ)))
    (coded× (coded_list (coded_list coded_ℕ)) (coded× coded_ℕ (coded× (coded_list coded_bool) (coded_list coded_ℕ))))
    (λ m. (m.letters, (m.start, (m.accepting, m.targets))))
    (λ p. record { letters = p.0; start = p.1.0; accepting = p.1.1.0; targets = p.1.1.1 })
    (λ _. refl)
