-- The table of a proof that is being written: a list of terms, each of which is there once and after its arguments.
use Rattle.std.specs.Prelude.{◌≡◌, ℕ, ◌≤◌, ◌<◌, Bool, true, false, if◌then◌else◌, List, [], ◌∷◌, ◌++◌, length, Option, Some, None, Result, Ok, Err}
use Rattle.std.specs.List.{AllByRecursion, list_any, position_or_len}
use Rattle.circ_term.specs.Tree.{Tree, Trees, Var, App, none, more, args_of}
use Rattle.circ_term.specs.Order.{is_same}

-- the most terms of a table
abbrev pub term_limit : ℕ
term_limit = 16777216

-- whether the term is in the table
abbrev pub has : List Tree → Tree → Bool
has table t = list_any (is_same t) table

-- the number of a term that is in the table: its first place
abbrev pub number_in : List Tree → Tree → ℕ
number_in table t = position_or_len (is_same t) table

-- the term goes last where it is new
abbrev pub entered : List Tree → Tree → List Tree
entered table t = if has table t then table else table ++ t ∷ []

-- the table with those of the term's subterms that it lacks, in post-order
abbrev mutual
  pub added : List Tree → Tree → List Tree
  added table (Var n s) = entered table (Var n s)
  added table (App f s ts) = entered (all_added table ts) (App f s ts)

  pub all_added : List Tree → Trees → List Tree
  all_added table none = table
  all_added table (more t ts) = all_added (added table t) ts

-- What a call answers: the term's number in the table grown. Or that would be too long, and the old one stays.
abbrev pub Numbers : {E : Type 0} → (old new grown : List Tree) → Tree → Result (Option ℕ) E → Type 0
Numbers old new grown t (Ok (Some n)) = (new ≡ grown) × (n ≡ number_in new t)
Numbers old new grown t (Ok None) = (new ≡ old) × (term_limit < length grown)
Numbers old new grown t (Err e) = new ≡ old

-- a term that can go last: its arguments are there, and it is not
pub record IsNext (before : List Tree) (t : Tree) : Type 0 where
  pub arguments : AllByRecursion (λ a. has before a ≡ true) (args_of t)
  pub fresh : has before t ≡ false

abbrev pub AreNext : List Tree → List Tree → Type 0
AreNext before [] = Unit {0}
AreNext before (t ∷ ts) = IsNext before t × AreNext (before ++ t ∷ []) ts

-- each term can go last in the table before it
pub record IsTable (table : List Tree) : Type 0 where
  pub few : length table ≤ term_limit
  pub in_order : AreNext [] table
