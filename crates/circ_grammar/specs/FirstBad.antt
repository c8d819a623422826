-- Which bytes are the text of a proof, and which line of any others is the first at fault.
use Rattle.std.specs.Prelude.{◌≡◌, ℕ, ◌+◌, ◌-◌, ◌<◌, ◌≤◌, List, [], ◌∷◌, ◌++◌, length, Bool, true, false}
use Rattle.std.specs.List.{AllByRecursion}
use Rattle.circ_line.specs.Line.{Line}
use Rattle.circ_line.specs.Text.{line_text, IsInRange}
use Rattle.circ_grammar.specs.Grammar.{NumberedProof, HasParts, proof_lines}

-- What is asked of a line after the lines before it: whether it passes the checks, and whether it passes a limit.
pub record LineTests : Type 0 where
  pub passes : List Line → Line → Bool
  pub limit : List Line → Line → Bool

-- each line's text and its line feed
abbrev pub file_text : List Line → List ℕ
file_text [] = []
file_text (l ∷ ls) = line_text l ++ (10 ∷ file_text ls)

abbrev pub AllInRange : List Line → Type 0
AllInRange ls = AllByRecursion IsInRange ls

-- Each line passes the checks on it and the lines before it.
abbrev pub AllPass : LineTests → (before : List Line) → List Line → Type 0
AllPass r before [] = Unit {0}
AllPass r before (l ∷ ls) = (r.passes before l ≡ true) × AllPass r (before ++ (l ∷ [])) ls

-- No line passes a limit.
abbrev pub NoLimit : LineTests → (before : List Line) → List Line → Type 0
NoLimit r before [] = Unit {0}
NoLimit r before (l ∷ ls) = (r.limit before l ≡ false) × NoLimit r (before ++ (l ∷ [])) ls

-- The bytes are the text of the proof, and all its lines are as the tests ask.
pub record IsTextOf (r : LineTests) (p : NumberedProof) (bytes : List ℕ) : Type 0 where
  pub parts : HasParts p
  pub fit : AllInRange (proof_lines p)
  pub text : bytes ≡ file_text (proof_lines p)
  pub pass : AllPass r [] (proof_lines p)
  pub within : NoLimit r [] (proof_lines p)

-- Some list that begins with these lines follows the grammar.
abbrev pub Follows : List Line → Type 0
Follows ls = (p : NumberedProof) × (later : List Line) × HasParts p × (proof_lines p ≡ ls ++ later) × AllInRange (proof_lines p)

-- The bytes are good up to n: they begin with n lines, which some list that follows the grammar begins with, and each of which passes the checks.
abbrev pub IsGood : LineTests → List ℕ → ℕ → Type 0
IsGood r bytes n = (ls : List Line) × (rest : List ℕ) × (length ls ≡ n) × (bytes ≡ file_text ls ++ rest) × Follows ls × AllPass r [] ls

-- The bytes begin with n lines, of which the last passes a limit.
abbrev pub PassesLimit : LineTests → List ℕ → ℕ → Type 0
PassesLimit r bytes n = (ls : List Line) × (l : Line) × (rest : List ℕ) × (length ls + 1 ≡ n)
    × (bytes ≡ file_text (ls ++ (l ∷ [])) ++ rest) × AllInRange (ls ++ (l ∷ [])) × (r.limit ls l ≡ true)

pub data LineFault : Type 0 where
  Line_fault : (number : ℕ) → LineFault
  Limit_fault : (number : ℕ) → LineFault

-- Neither comes at the first n lines.
pub record IsFaultless (r : LineTests) (bytes : List ℕ) (n : ℕ) : Type 0 where
  pub good : (k : ℕ) → k ≤ n → IsGood r bytes k
  pub within : (k : ℕ) → k ≤ n → PassesLimit r bytes k → ⊥

-- The fault is at the least number, counted from 1, at which the bytes are not good or a line passes a limit. Where both hold it is Line. A proof's
-- whole text has no line after its last, and no fault.
abbrev pub IsFirstFault : LineTests → List ℕ → LineFault → Type 0
IsFirstFault r bytes (Line_fault n) =
    (0 < n) × IsFaultless r bytes (n - 1) × (IsGood r bytes n → ⊥) × ((p : NumberedProof) → IsTextOf r p bytes → ⊥)
IsFirstFault r bytes (Limit_fault n) = (0 < n) × IsFaultless r bytes (n - 1) × IsGood r bytes n × PassesLimit r bytes n
