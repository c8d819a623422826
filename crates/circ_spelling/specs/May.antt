-- What ranges may spell, where precedences are left aside.
use Rattle.std.specs.Prelude.{◌≡◌, ◌<◌, ◌≤◌, ◌+◌, ℕ, List, [], ◌∷◌, Some, length}
use Rattle.std.specs.List.{slice_get}
use Rattle.circ_spelling.specs.declared.grammar.Symbol.{Symbol}
use Rattle.circ_spelling.specs.declared.grammar.Symbol.TheVariants.{Word, Hole}
use Rattle.circ_spelling.specs.declared.grammar.Rule.{Rule}
use Rattle.circ_spelling.specs.declared.grammar.Variable.{Variable}
use Rattle.circ_spelling.specs.declared.grammar.Grammar.{Grammar}
use Rattle.circ_spelling.specs.declared.starts.Starts.{Starts}
use Rattle.circ_spelling.specs.Limits.{opening, closing}
use Rattle.circ_spelling.specs.Reads.{IsToken}
use Rattle.circ_spelling.specs.Ends.{Has, ends_at}

-- the symbols may go from i up to j, as far as the sets tell
abbrev pub MayRow : List ℕ → List Starts → List Symbol → ℕ → ℕ → Type 0
MayRow ts st [] i j = i ≡ j
MayRow ts st (Word w ∷ ps) i j = IsToken ts i w × MayRow ts st ps (i + 1) j
MayRow ts st (Hole s b ∷ ps) i j = (m : ℕ) × (i < m) × (m ≤ length ts) × Has (ends_at st s i) m × MayRow ts st ps m j

-- the sets have what a rule of the sort s with these symbols adds to them, whose first hole ends at m, or which begins there
abbrev pub RuleClosed : List ℕ → List Starts → ℕ → List Symbol → ℕ → Type 0
RuleClosed ts st s [] m = Unit {0}
RuleClosed ts st s (Word w ∷ ps) m = (j : ℕ) → MayRow ts st (Word w ∷ ps) m j → Has (ends_at st s m) j
RuleClosed ts st s (Hole a b ∷ ps) m = (i j : ℕ) → i < m → Has (ends_at st a i) m → MayRow ts st ps m j → Has (ends_at st s i) j

-- of the first n rules
abbrev pub RulesClosed : List ℕ → List Starts → List Rule → ℕ → ℕ → Type 0
RulesClosed ts st rs n m = (k : ℕ) (r : Rule) → k < n → slice_get rs k ≡ Some r → RuleClosed ts st r.sort r.symbols.items m

abbrev pub VariablesClosed : List ℕ → List Starts → List Variable → ℕ → ℕ → Type 0
VariablesClosed ts st vs n i = (k : ℕ) (v : Variable) → k < n → slice_get vs k ≡ Some v → IsToken ts i v.word → Has (ends_at st v.sort i) (i + 1)

-- what parentheses from i up to m add
abbrev pub PairClosed : List Starts → ℕ → ℕ → Type 0
PairClosed st i m = (s : ℕ) → Has (ends_at st s (i + 1)) m → Has (ends_at st s i) (m + 1)

abbrev pub ParenthesesClosed : List ℕ → List Starts → ℕ → Type 0
ParenthesesClosed ts st i = (m : ℕ) → IsToken ts i opening → IsToken ts m closing → PairClosed st i m

-- at a place nothing more is spelled
pub record ClosedAt (g : Grammar) (ts : List ℕ) (st : List Starts) (i : ℕ) : Type 0 where
  pub variables : VariablesClosed ts st g.variables.items (length g.variables.items) i
  pub parentheses : ParenthesesClosed ts st i
  pub rules : RulesClosed ts st g.rules.items (length g.rules.items) i

-- at no place
abbrev pub IsClosed : Grammar → List ℕ → List Starts → Type 0
IsClosed g ts st = (i : ℕ) → i ≤ length ts → ClosedAt g ts st i
