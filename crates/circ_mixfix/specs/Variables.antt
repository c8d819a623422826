-- The chart's variables for the first texts.
use Rattle.std.specs.Prelude.{◌≡◌, ◌<◌, ◌++◌, ℕ, List, [], ◌∷◌, Bool, nat_eq, if◌then◌else◌, Option, Some, None}
use Rattle.std.specs.List.{slice_get, Contains}
use Rattle.std.specs.Cmp.Lexicographic.{pointwise}
use Rattle.circ_spelling.specs.declared.grammar.Variable as chart_variable
use Rattle.circ_theory.specs.Signature.{Signature}
use Rattle.circ_theory.specs.Theory.{Theory, Declared, declared}
use Rattle.circ_mixfix.specs.Spells.{HasNoColon, IsVariable}
use Rattle.circ_mixfix.specs.Answers.{declared_by}
use Rattle.circ_mixfix.specs.Coding.{IsVariableOf}
use Rattle.circ_mixfix.specs.declared.variables.Declarations.{Declarations}
use Rattle.circ_mixfix.specs.declared.variables.Declarations.TheVariants.{Listed, OfTheory}
use Rattle.circ_mixfix.specs.declared.variables.Scope.{Scope}

abbrev pub declarations : Theory → Declarations → List Declared
declarations th (Listed vs) = declared_by vs.now
declarations th OfTheory = th.variables

abbrev pub vars_in : Scope → List Declared
vars_in c = declarations c.theory.now c.declared

-- the variables of this name, by its number
abbrev pub variables_named : List Declared → ℕ → List ℕ → List chart_variable.Variable
variables_named [] i w = []
variables_named (d ∷ ds) i w = if pointwise nat_eq d.name w then record { word = i; number = i; sort = d.sort } ∷ variables_named ds i w else variables_named ds i w

-- the declared variables of this name, by its number
pub record AreDeclared (vars : List Declared) (i : ℕ) (w : List ℕ) (vs : List chart_variable.Variable) : Type 0 where
  pub sound : (n : ℕ) (v : chart_variable.Variable) → slice_get vs n ≡ Some v → (v.word ≡ i) × (v.number ≡ i) × Contains vars (declared w v.sort)
  pub all : (s : ℕ) → Contains vars (declared w s) → (n : ℕ) × (slice_get vs n ≡ Some (record { word = i; number = i; sort = s }))

-- the list with the declared variables of one name more
abbrev pub AddsDeclared : List Declared → ℕ → List ℕ → (old new : List chart_variable.Variable) → Type 0
AddsDeclared vars i w old new = (vs : List chart_variable.Variable) × (new ≡ old ++ vs) × AreDeclared vars i w vs

-- the text is cut at its first colon
abbrev pub IsCut : List ℕ → Option (List ℕ × List ℕ) → Type 0
IsCut w None = HasNoColon w
IsCut w (Some r) = (w ≡ r.0 ++ 58 ∷ r.1) × HasNoColon r.0

-- the one name and the one sort that the token has as a variable
abbrev pub GivesVariable : Signature → List Declared → Bool → List ℕ → Option (List ℕ × ℕ) → Type 0
GivesVariable sig vars hole w None = (name : List ℕ) (s : ℕ) → IsVariable sig vars hole w name s → ⊥
GivesVariable sig vars hole w (Some r) = IsVariable sig vars hole w r.0 r.1 × ((name : List ℕ) (s : ℕ) → IsVariable sig vars hole w name s
    → (name ≡ r.0) × (s ≡ r.1))

-- the variables that the text of one number is
pub record AreVariablesOf (sig : Signature) (vars : List Declared) (hole : Bool) (ws : List (List ℕ)) (i : ℕ) (w : List ℕ) (vs : List chart_variable.Variable) : Type 0 where
  pub sound : (n : ℕ) (v : chart_variable.Variable) → slice_get vs n ≡ Some v
      → (name : List ℕ) × (v.word ≡ i) × (slice_get ws v.number ≡ Some name) × IsVariable sig vars hole w name v.sort
  pub all : (name : List ℕ) (s : ℕ) → IsVariable sig vars hole w name s
      → (n : ℕ) × (v : chart_variable.Variable) × (slice_get vs n ≡ Some v) × IsVariableOf ws name i s v

-- the list with the variables of one text more
abbrev pub AddsVariables : Signature → List Declared → Bool → List (List ℕ) → ℕ → List ℕ → (old new : List chart_variable.Variable) → Type 0
AddsVariables sig vars hole ws i w old new = (vs : List chart_variable.Variable) × (new ≡ old ++ vs) × AreVariablesOf sig vars hole ws i w vs

-- the variables of the first m texts
pub record HasVariables (sig : Signature) (vars : List Declared) (hole : Bool) (ws : List (List ℕ)) (m : ℕ) (vs : List chart_variable.Variable) : Type 0 where
  pub variables : (n : ℕ) (v : chart_variable.Variable) → slice_get vs n ≡ Some v
      → (w name : List ℕ) × (slice_get ws v.word ≡ Some w) × (slice_get ws v.number ≡ Some name) × IsVariable sig vars hole w name v.sort
  pub all_variables : (i : ℕ) (w name : List ℕ) (s : ℕ) → i < m → slice_get ws i ≡ Some w → IsVariable sig vars hole w name s
      → (n : ℕ) × (v : chart_variable.Variable) × (slice_get vs n ≡ Some v) × IsVariableOf ws name i s v
