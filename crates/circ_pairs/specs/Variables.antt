-- The variables of terms and pairs, in the order of their first occurrence, and by number.
use Rattle.std.specs.Prelude.{◌≡◌, ℕ, ◌+◌, List, [], ◌∷◌, ◌++◌, map, ◌==◌, ◌&&◌, ◌||◌, nat_lt, if◌then◌else◌, Bool}
use Rattle.std.specs.List.{list_any}
use Rattle.circ_term.specs.Tree.{Tree, Trees, Var, App, none, more, sort_of}
use Rattle.circ_term.specs.Substitution.{Substitution}
use Rattle.circ_pairs.specs.Pair.{Pair}
use Rattle.circ_pairs.specs.declared.goals.Goal.{Goal}

-- Two variables are the same where number and sort are equal.
pub record Variable : Type 0 where
  pub number : ℕ
  pub sort : ℕ

abbrev pub is_variable : Variable → Variable → Bool
is_variable v w = (v.number == w.number) && (v.sort == w.sort)

abbrev pub seen : Variable → List Variable → List Variable
seen v vs = if list_any (is_variable v) vs then vs else vs ++ v ∷ []

-- the variables seen so far, with those of a term added from the left at their first occurrence
abbrev mutual
  pub seen_in : Tree → List Variable → List Variable
  seen_in (Var n s) vs = seen (record { number = n; sort = s }) vs
  seen_in (App f s ts) vs = seen_in_all ts vs

  pub seen_in_all : Trees → List Variable → List Variable
  seen_in_all none vs = vs
  seen_in_all (more t ts) vs = seen_in_all ts (seen_in t vs)

abbrev pub seen_in_pairs : List Pair → List Variable → List Variable
seen_in_pairs [] vs = vs
seen_in_pairs (p ∷ ps) vs = seen_in_pairs ps (seen_in p.right (seen_in p.left vs))

-- the variables of a goal by first occurrence: left side, right side, conditions
abbrev pub variables_of : Goal → List Variable
variables_of g = seen_in_pairs g.conds (seen_in g.right (seen_in g.left []))

-- every occurrence of a variable, from the left
abbrev mutual
  pub occurrences : Tree → List Variable
  occurrences (Var n s) = record { number = n; sort = s } ∷ []
  occurrences (App f s ts) = all_occurrences ts

  pub all_occurrences : Trees → List Variable
  all_occurrences none = []
  all_occurrences (more t ts) = occurrences t ++ all_occurrences ts

abbrev pub pair_occurrences : List Pair → List Variable
pair_occurrences [] = []
pair_occurrences (p ∷ ps) = occurrences p.left ++ (occurrences p.right ++ pair_occurrences ps)

-- the variables have the numbers k, k + 1, and so on
abbrev pub AreNumberedFrom : ℕ → List Variable → Type 0
AreNumberedFrom k [] = Unit {0}
AreNumberedFrom k (v ∷ vs) = (v.number ≡ k) × AreNumberedFrom (k + 1) vs

-- A goal is numbered in order: its m variables have the numbers 0 to m - 1 by first occurrence, left side first, conditions last.
abbrev pub IsInOrder : Goal → Type 0
IsInOrder g = AreNumberedFrom 0 (variables_of g)

-- by number, then sort
abbrev pub is_before : Variable → Variable → Bool
is_before v w = nat_lt v.number w.number || ((v.number == w.number) && nat_lt v.sort w.sort)

abbrev pub put_in_order : Variable → List Variable → List Variable
put_in_order v [] = v ∷ []
put_in_order v (w ∷ ws) = if is_before w v then w ∷ put_in_order v ws else v ∷ w ∷ ws

abbrev pub sorted : List Variable → List Variable
sorted [] = []
sorted (v ∷ vs) = put_in_order v (sorted vs)

-- one term for each variable, each of its variable's sort
abbrev pub FitVariables : List Variable → List Tree → Type 0
FitVariables [] [] = Unit {0}
FitVariables [] (t ∷ ts) = ⊥
FitVariables (v ∷ vs) [] = ⊥
FitVariables (v ∷ vs) (t ∷ ts) = (sort_of t ≡ v.sort) × FitVariables vs ts

-- the substitution that gives each variable its term
abbrev pub given : List Variable → List Tree → Substitution
given [] ts = Var
given (v ∷ vs) [] = Var
given (v ∷ vs) (t ∷ ts) = λ n s. if (v.number == n) && (v.sort == s) then t else given vs ts n s

-- the sorts of a goal's variables, in the order of their first occurrence
abbrev pub sorts_of : Goal → List ℕ
sorts_of g = map (λ v. v.sort) (variables_of g)

-- the variables of these sorts, with the numbers from k on
abbrev pub numbered : ℕ → List ℕ → List Variable
numbered k [] = []
numbered k (s ∷ ss) = record { number = k; sort = s } ∷ numbered (k + 1) ss
