-- Readings that were found, as lists of terms.
use Rattle.std.specs.Prelude.{◌≡◌, ◌⊎◌, Bool, List, [], ◌∷◌, Result, Ok, Err}
use Rattle.std.proofs.Common.{Less}
use Rattle.circ_term.specs.Tree.{Tree, trees_of, sort_of}
use Rattle.circ_term.specs.Order.{trees_cmp}
use Rattle.circ_chart.specs.Few.{Enough}
use Rattle.circ_chart.specs.Tops.{Among}
use Rattle.circ_theory.specs.Signature.{Signature, IsWellSorted}
use Rattle.circ_theory.specs.Theory.{Pair, pair_with, goal, IsWellSortedPair, AreWellSortedPairs}
use Rattle.circ_theory.specs.Observing.{AreParametersInOrder}
use Rattle.circ_theory.specs.Variables.{IsInOrder, AreNumberedFrom, seen_in_pairs}
use Rattle.circ_mixfix.specs.Numbering.{numbered_anew}
use Rattle.circ_mixfix.specs.declared.few.Reading.{Reading}
use Rattle.circ_mixfix.specs.declared.parse.ParseFault.{ParseFault}
use Rattle.circ_mixfix.specs.declared.parse.ParseFault.TheVariants.{NoParse, Ambiguous}
use Rattle.circ_mixfix.specs.declared.few.Few.{Few}
use Rattle.circ_mixfix.specs.declared.few.Few.TheVariants.{Empty, One, Two}

abbrev pub In : Few → List Tree → Type 0
In Empty ts = ⊥
In (One a) ts = ts ≡ a.terms.items
In (Two a b) ts = (ts ≡ a.terms.items) ⊎ (ts ≡ b.terms.items)

-- two readings are in order
abbrev pub AreOrdered : Few → Type 0
AreOrdered Empty = Unit {0}
AreOrdered (One a) = Unit {0}
AreOrdered (Two a b) = trees_cmp (trees_of a.terms.items) (trees_of b.terms.items) ≡ Less

abbrev pub IsTwo : Few → Type 0
IsTwo Empty = ⊥
IsTwo (One a) = ⊥
IsTwo (Two a b) = Unit {0}

-- the found ones are all that P is true of, or two of several
pub record KeepsReadings (found : Few) (P : List Tree → Type 0) : Type 0 where
  pub enough : Enough (In found) P
  pub ordered : AreOrdered found

-- the image of a set
pub record Image {X Y : Type 0} (f : X → Y) (E : X → Type 0) (y : Y) : Type 0 where
  pub from : X
  pub has : E from
  pub is : y ≡ f from

-- one of the terms, with its variables numbered anew
abbrev pub OneRead : Bool → List Tree → List Tree → Type 0
OneRead hole us ts = Image (λ t. numbered_anew hole t ∷ []) (Among us) ts

abbrev pub terms_of : Pair → List Tree
terms_of p = p.left ∷ p.right ∷ []

-- the left term with one of the right ones, of one sort
pub record RightRead (left : Tree) (rights : List Tree) (ts : List Tree) : Type 0 where
  pub right : Tree
  pub listed : Among rights right
  pub same_sort : sort_of right ≡ sort_of left
  pub is : ts ≡ left ∷ right ∷ []

-- one of the left terms with one of the right ones
pub record BothRead (lefts rights : List Tree) (ts : List Tree) : Type 0 where
  pub left : Tree
  pub listed : Among lefts left
  pub with_right : RightRead left rights ts

-- the terms are a pair that is numbered in order
abbrev pub IsPairInOrder : List Tree → Type 0
IsPairInOrder ts = (p : Pair) × (ts ≡ terms_of p) × IsInOrder (goal [] p.left p.right)

-- the sides of pairs, one after another
abbrev pub sides_of_pairs : List Pair → List Tree
sides_of_pairs [] = []
sides_of_pairs (p ∷ ps) = p.left ∷ p.right ∷ sides_of_pairs ps

-- terms in twos, as pairs; the last of an odd number is left out
abbrev pub pairs_of : List Tree → List Pair
pairs_of [] = []
pairs_of (t ∷ []) = []
pairs_of (t ∷ u ∷ ts) = pair_with t u ∷ pairs_of ts

-- the terms are pairs that are well-sorted, each of one sort
abbrev pub AreTwosSorted : Signature → List Tree → Type 0
AreTwosSorted sig ts = (ps : List Pair) × (ts ≡ sides_of_pairs ps) × AreWellSortedPairs sig ps

-- the terms are pairs that are numbered in order, over all of them
abbrev pub AreTwosInOrder : List Tree → Type 0
AreTwosInOrder ts = (ps : List Pair) × (ts ≡ sides_of_pairs ps) × AreNumberedFrom 0 (seen_in_pairs ps [])

-- the terms are one, whose parameters are numbered from 1 by first occurrence
abbrev pub IsWithParameters : List Tree → Type 0
IsWithParameters ts = (t : Tree) × (ts ≡ t ∷ []) × AreParametersInOrder t

abbrev pub AreWithParameters : Few → Type 0
AreWithParameters found = (ts : List Tree) → In found ts → IsWithParameters ts

-- the terms are one that is well-sorted
abbrev pub IsOneSorted : Signature → List Tree → Type 0
IsOneSorted sig ts = (t : Tree) × (ts ≡ t ∷ []) × IsWellSorted sig t

-- the terms are a pair that is well-sorted, of one sort
abbrev pub ArePairSorted : Signature → List Tree → Type 0
ArePairSorted sig ts = (p : Pair) × (ts ≡ terms_of p) × IsWellSortedPair sig p

-- the answer that tells of what was found
abbrev pub Tells : Few → Result Reading ParseFault → Type 0
Tells Empty r = r ≡ Err NoParse
Tells (One a) r = r ≡ Ok a
Tells (Two a b) r = r ≡ Err (Ambiguous a b)
