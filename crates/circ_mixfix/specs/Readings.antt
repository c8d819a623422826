-- Readings: what token lists spell, with the variables numbered by first occurrence.
use Rattle.std.specs.Prelude.{◌≡◌, ℕ, List, [], ◌∷◌, Bool, true, false, map}
use Rattle.circ_term.specs.Tree.{Tree}
use Rattle.circ_theory.specs.Signature.{Signature}
use Rattle.circ_theory.specs.Theory.{Declared}
use Rattle.circ_mixfix.specs.Named.{Named, NamedVariable, numbered, seen_in, seen_in_list, place_from}
use Rattle.circ_mixfix.specs.Symbols.{every}
use Rattle.circ_mixfix.specs.Spells.{Spells}

-- The hole is variable 0 and others are numbered from 1.
abbrev pub behind_hole : List NamedVariable → List ℕ → ℕ → ℕ
behind_hole vs [] s = 0
behind_hole vs (b ∷ n) s = place_from 1 vs (b ∷ n) s

-- the variables but the hole
abbrev pub without_hole : List NamedVariable → List NamedVariable
without_hole [] = []
without_hole (v ∷ vs) = keep v.name v (without_hole vs)
  where
    keep : List ℕ → NamedVariable → List NamedVariable → List NamedVariable
    keep [] v vs = vs
    keep (b ∷ n) v vs = v ∷ vs

abbrev pub numbers_of : Bool → List NamedVariable → List ℕ → ℕ → ℕ
numbers_of true vs = behind_hole (without_hole vs)
numbers_of false vs = place_from 0 vs

-- the term as it is read
abbrev pub reading_of : Bool → Named → Tree
reading_of hole q = numbered (numbers_of hole (seen_in q [])) q

-- the tokens read as the term
pub record ReadsOne (sig : Signature) (vars : List Declared) (hole : Bool) (tokens : List (List ℕ)) (t : Tree) : Type 0 where
  pub sort : ℕ
  pub spelled : Named
  pub spells : Spells sig vars hole every sort tokens spelled
  pub is : t ≡ reading_of hole spelled

-- The two token lists read as the two terms, which have one sort; the variables are numbered over both.
pub record ReadsPair (sig : Signature) (vars : List Declared) (left right : List (List ℕ)) (t u : Tree) : Type 0 where
  pub sort : ℕ
  pub first : Named
  pub second : Named
  pub spells_first : Spells sig vars false every sort left first
  pub spells_second : Spells sig vars false every sort right second
  pub first_is : t ≡ numbered (place_from 0 (seen_in second (seen_in first []))) first
  pub second_is : u ≡ numbered (place_from 0 (seen_in second (seen_in first []))) second

-- the two token lists spell the two terms, which have one sort
pub record SpellBoth (sig : Signature) (vars : List Declared) (left right : List (List ℕ)) (q r : Named) : Type 0 where
  pub sort : ℕ
  pub spells_left : Spells sig vars false every sort left q
  pub spells_right : Spells sig vars false every sort right r

-- The token lists spell the terms, in twos of one sort. An odd number of lists spells nothing.
abbrev pub SpellTwos : Signature → List Declared → List (List (List ℕ)) → List Named → Type 0
SpellTwos sig vars [] [] = Unit {0}
SpellTwos sig vars [] (q ∷ qs) = ⊥
SpellTwos sig vars (left ∷ []) qs = ⊥
SpellTwos sig vars (left ∷ right ∷ lists) [] = ⊥
SpellTwos sig vars (left ∷ right ∷ lists) (q ∷ []) = ⊥
SpellTwos sig vars (left ∷ right ∷ lists) (q ∷ r ∷ qs) = SpellBoth sig vars left right q r × SpellTwos sig vars lists qs

-- the terms with their variables numbered from 0 over all of them
abbrev pub numbered_list : List Named → List Tree
numbered_list qs = map (numbered (place_from 0 (seen_in_list qs []))) qs

-- The token lists read as the terms, in twos of one sort; the variables are numbered over all.
pub record ReadsTwos (sig : Signature) (vars : List Declared) (lists : List (List (List ℕ))) (ts : List Tree) : Type 0 where
  pub spelled : List Named
  pub spells : SpellTwos sig vars lists spelled
  pub are : ts ≡ numbered_list spelled
