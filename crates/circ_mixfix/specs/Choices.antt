-- Choices of terms for pairs of token lists.
use Rattle.std.specs.Prelude.{◌≡◌, ◌≢◌, ◌⊎◌, ℕ, List, [], ◌∷◌, ◌++◌, map, Bool, true, false, ◌||◌}
use Rattle.circ_term.specs.Tree.{Tree}
use Rattle.circ_chart.specs.Few.{Enough}
use Rattle.circ_theory.specs.Signature.{Signature}
use Rattle.circ_theory.specs.Theory.{Declared}
use Rattle.circ_mixfix.specs.Named.{Named, NamedVariable, seen_in_list, numbered, place_from}
use Rattle.circ_mixfix.specs.Coding.{named_by}
use Rattle.circ_mixfix.specs.NamesSeen.{named_of}
use Rattle.circ_mixfix.specs.Readings.{SpellTwos}
use Rattle.circ_mixfix.specs.Found.{In, Image, AreOrdered}
use Rattle.circ_mixfix.specs.declared.few.Few.{Few}
use Rattle.circ_mixfix.specs.declared.few.Few.TheVariants.{Empty, One, Two}
use Rattle.circ_mixfix.specs.declared.choices.Choice.{Choice}
use Rattle.circ_mixfix.specs.declared.choices.Choices.{Choices}

-- the variables that were seen for a choice
abbrev pub names_of : Choice → List NamedVariable
names_of c = map named_of c.seen.keys

-- The choice is these terms: their variables are those seen, and they are numbered by the places of these, whatever is seen later.
pub record IsChoice (c : Choice) (qs : List Named) : Type 0 where
  pub seen : names_of c ≡ seen_in_list qs []
  pub terms : (more : List NamedVariable) → c.terms.items ≡ map (numbered (place_from 0 (names_of c ++ more))) qs

abbrev pub IsNew : Choice → Type 0
IsNew c = IsChoice c []

-- nothing is chosen yet
abbrev pub HaveNothing : Choices → Type 0
HaveNothing c = IsNew c.first × IsNew c.second × (c.differ ≡ false)

-- the terms of the chart are chosen besides
abbrev pub Extends : (texts : List (List ℕ)) → List Tree → (old new : Choice) → Type 0
Extends ws ts old new = (qs : List Named) → IsChoice old qs → IsChoice new (qs ++ map (named_by ws) ts)

abbrev pub first_in : Few → List Tree
first_in Empty = []
first_in (One a) = a.terms.items
first_in (Two a b) = a.terms.items

abbrev pub last_in : Few → List Tree
last_in Empty = []
last_in (One a) = a.terms.items
last_in (Two a b) = b.terms.items

abbrev pub is_two : Few → Bool
is_two Empty = false
is_two (One a) = false
is_two (Two a b) = true

abbrev pub is_some : Few → Bool
is_some Empty = false
is_some (One a) = true
is_some (Two a b) = true

-- what is found for one pair more is chosen besides
pub record AddsFound (ws : List (List ℕ)) (found : Few) (old new : Choices) : Type 0 where
  pub first : Extends ws (first_in found) old.first new.first
  pub second : Extends ws (last_in found) old.second new.second
  pub differ : new.differ ≡ (old.differ || is_two found)

abbrev pub IsAdded : (texts : List (List ℕ)) → Few → (old new : Choices) → Bool → Type 0
IsAdded ws found old new true = (is_some found ≡ true) × AddsFound ws found old new
IsAdded ws found old new false = is_some found ≡ false

-- the terms are the one choice, or the other where they differ
abbrev pub OneOf : (first second : List Tree) → (differ : Bool) → List Tree → Type 0
OneOf first second differ ts = (ts ≡ first) ⊎ ((differ ≡ true) × (ts ≡ second))

-- what was found of one pair is enough of the terms that the two token lists spell, and different terms of the chart have different names
pub record KeepsSpelled (sig : Signature) (vars : List Declared) (left right ws : List (List ℕ)) (found : Few) : Type 0 where
  pub enough : Enough (Image (map (named_by ws)) (In found)) (SpellTwos sig vars (left ∷ right ∷ []))
  pub apart : (ts us : List Tree) → In found ts → In found us → map (named_by ws) ts ≡ map (named_by ws) us → ts ≡ us
  pub ordered : AreOrdered found

-- Of all token lists, those before the ones that are left are read: with what is spelled by those that are left, either choice spells all of them, and where the
-- choices do not differ there is no other.
pub record HaveChosen (sig : Signature) (vars : List Declared) (all left : List (List (List ℕ))) (c : Choices) : Type 0 where
  pub first : List Named
  pub second : List Named
  pub is_first : IsChoice c.first first
  pub is_second : IsChoice c.second second
  pub from_first : (qs : List Named) → SpellTwos sig vars left qs → SpellTwos sig vars all (first ++ qs)
  pub from_second : (qs : List Named) → SpellTwos sig vars left qs → SpellTwos sig vars all (second ++ qs)
  pub all_begin : (ps : List Named) → SpellTwos sig vars all ps → (qs : List Named) × SpellTwos sig vars left qs × (c.differ ≡ false → ps ≡ first ++ qs)
  pub apart : c.differ ≡ true → first ≢ second

-- one pair more is read; or else nothing spells all token lists
abbrev pub ReadsOn : Signature → List Declared → (all left : List (List (List ℕ))) → Choices → Bool → Type 0
ReadsOn sig vars all left c true = HaveChosen sig vars all left c
ReadsOn sig vars all left c false = (ps : List Named) → SpellTwos sig vars all ps → ⊥
