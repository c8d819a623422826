-- The sorts of a grammar's terms.
use Rattle.std.specs.Prelude.{◌≡◌, ◌<◌, ◌⊎◌, ℕ, Bool, true, false, List, [], ◌∷◌, Some, length, get_or}
use Rattle.std.specs.List.{slice_get}
use Rattle.circ_spelling.specs.declared.grammar.Rule.{Rule}
use Rattle.circ_spelling.specs.declared.grammar.Variable.{Variable}
use Rattle.circ_spelling.specs.declared.grammar.Grammar.{Grammar}

abbrev pub HasSort : List ℕ → ℕ → Type 0
HasSort [] s = ⊥
HasSort (x ∷ xs) s = (x ≡ s) ⊎ HasSort xs s

abbrev pub StaySorts : List ℕ → List ℕ → Type 0
StaySorts old new = (s : ℕ) → HasSort old s → HasSort new s

abbrev pub IsSeen : List Bool → ℕ → Type 0
IsSeen seen s = get_or seen s false ≡ true

-- what was seen is listed
abbrev pub AreSeen : List Bool → List ℕ → Type 0
AreSeen seen sorts = (s : ℕ) → IsSeen seen s → HasSort sorts s

-- the sorts of the first m rules are listed
abbrev pub RuleSorts : List Rule → ℕ → List ℕ → Type 0
RuleSorts rs m sorts = (n : ℕ) (r : Rule) → n < m → slice_get rs n ≡ Some r → HasSort sorts r.sort

abbrev pub VariableSorts : List Variable → ℕ → List ℕ → Type 0
VariableSorts vs m sorts = (n : ℕ) (v : Variable) → n < m → slice_get vs n ≡ Some v → HasSort sorts v.sort

-- the sort of each rule and each variable is listed
pub record AreSorts (g : Grammar) (sorts : List ℕ) : Type 0 where
  pub rules : RuleSorts g.rules.items (length g.rules.items) sorts
  pub variables : VariableSorts g.variables.items (length g.variables.items) sorts
