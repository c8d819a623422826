-- What a difference shows.
use Rattle.std.specs.Prelude.{◌≡◌, ◌≢◌, ◌≤◌, ◌-◌, ℕ, List, [], false, Some}
use Rattle.std.specs.List.{slice_get, Contains, AllByRecursion}
use Rattle.circ_term.specs.Tree.{Tree, App, none, sort_of}
use Rattle.circ_theory.specs.Theory.{Theory, CaseList}
use Rattle.circ_theory.specs.Derivable.{Derivable}
use Rattle.circ_theory.specs.Experiment.{on}
use Rattle.circ_theory.specs.Goal.{Goal}
use Rattle.circ_match.specs.Matcher.{has_variable}
use Rattle.circ_entry.specs.Entries.{Written, written_entries, FitsWritten}
use Rattle.circ_refute.specs.PlainRefutation.{Refuted, Told_apart, Alike, Spent, Past_limit, Decision}

-- two different constants of one case list
pub record AreTwoCases (th : Theory) (l m : Tree) : Type 0 where
  pub list : CaseList
  pub listed : Contains th.cases list
  pub first : ℕ
  pub second : ℕ
  pub first_listed : Contains list.constants first
  pub second_listed : Contains list.constants second
  pub different : first ≢ second
  pub left : l ≡ App first list.sort none
  pub right : m ≡ App second list.sort none

-- no variable of the term is a hole
abbrev pub HasNoHole : Tree → Type 0
HasNoHole t = (s : ℕ) → has_variable t 0 s ≡ false

abbrev pub HaveNoHoles : Written → Type 0
HaveNoHoles w = AllByRecursion HasNoHole w.parameters

-- The experiment fits the goal, and leads its sides, by derivations from the theory alone, to two different constants of one case list.
pub record DiffersBy (th : Theory) (g : Goal) (ws : List Written) (l m : Tree) : Type 0 where
  pub fits : FitsWritten th ws (sort_of g.left)
  pub no_holes : AllByRecursion HaveNoHoles ws
  pub two_cases : AreTwoCases th l m
  pub left : Derivable th [] (on (written_entries th ws) g.left) l
  pub right : Derivable th [] (on (written_entries th ws) g.right) m

-- what is found of the goal is right
abbrev pub IsRight : Theory → Goal → Refuted → Type 0
IsRight th g (Told_apart ws l m) = DiffersBy th g ws l m
IsRight th g Alike = Unit {0}
IsRight th g Spent = Unit {0}
IsRight th g (Past_limit limit) = Unit {0}

-- what is found of goals, of which the first has number i, is right: where two sides are told apart, they are those of the goal that decides
abbrev pub IsRightOf : Theory → (i : ℕ) → List Goal → (number : ℕ) → Refuted → Type 0
IsRightOf th i gs n (Told_apart ws l m) = (g : Goal) × (slice_get gs (n - i) ≡ Some g) × DiffersBy th g ws l m × (i ≤ n)
IsRightOf th i gs n Alike = Unit {0}
IsRightOf th i gs n Spent = Unit {0}
IsRightOf th i gs n (Past_limit limit) = Unit {0}

abbrev pub IsRightDecision : Theory → List Goal → Decision → Type 0
IsRightDecision th gs x = IsRightOf th 1 gs x.goal x.conclusion.refuted
