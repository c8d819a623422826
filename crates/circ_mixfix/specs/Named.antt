-- Terms whose variables have names, as token lists spell them.
use Rattle.std.specs.Prelude.{ℕ, ◌+◌, List, [], ◌∷◌, ◌++◌, Bool, ◌==◌, ◌&&◌, if◌then◌else◌, nat_eq}
use Rattle.std.specs.List.{list_any}
use Rattle.std.specs.Cmp.Lexicographic.{pointwise}
use Rattle.circ_term.specs.Tree.{Tree, Trees, Var, App, none, more}

-- A variable has a name and a sort. The hole of a derivative has the empty name.
mutual
  pub data Named : Type 0 where
    Variable : (name : List ℕ) (sort : ℕ) → Named
    Applied : (op sort : ℕ) (args : NamedList) → Named

  pub data NamedList : Type 0 where
    no_terms : NamedList
    terms : (first : Named) (rest : NamedList) → NamedList

abbrev pub sort_of : Named → ℕ
sort_of (Variable n s) = s
sort_of (Applied f s qs) = s

-- the term with a number for each variable
abbrev mutual
  pub numbered : (List ℕ → ℕ → ℕ) → Named → Tree
  numbered ν (Variable n s) = Var (ν n s) s
  numbered ν (Applied f s qs) = App f s (all_numbered ν qs)

  pub all_numbered : (List ℕ → ℕ → ℕ) → NamedList → Trees
  all_numbered ν no_terms = none
  all_numbered ν (terms q qs) = more (numbered ν q) (all_numbered ν qs)

pub record NamedVariable : Type 0 where
  pub name : List ℕ
  pub sort : ℕ

abbrev pub is_named : NamedVariable → NamedVariable → Bool
is_named v w = pointwise nat_eq v.name w.name && (v.sort == w.sort)

-- the variables seen so far, with those of a term added from the left at their first occurrence
abbrev mutual
  pub seen_in : Named → List NamedVariable → List NamedVariable
  seen_in (Variable n s) vs = let v : NamedVariable = record { name = n; sort = s } in if list_any (is_named v) vs then vs else vs ++ v ∷ []
  seen_in (Applied f s qs) vs = seen_in_all qs vs

  pub seen_in_all : NamedList → List NamedVariable → List NamedVariable
  seen_in_all no_terms vs = vs
  seen_in_all (terms q qs) vs = seen_in_all qs (seen_in q vs)

-- the variables of several terms, added from the left
abbrev pub seen_in_list : List Named → List NamedVariable → List NamedVariable
seen_in_list [] vs = vs
seen_in_list (q ∷ qs) vs = seen_in_list qs (seen_in q vs)

-- the place of a variable in the list, from k on
abbrev pub place_from : ℕ → List NamedVariable → List ℕ → ℕ → ℕ
place_from k [] n s = k
place_from k (v ∷ vs) n s = if is_named (record { name = n; sort = s }) v then k else place_from (k + 1) vs n s
