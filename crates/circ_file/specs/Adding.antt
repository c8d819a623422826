-- A table that takes lines, and is closed.
use Rattle.std.specs.Prelude.{◌≡◌, ℕ, ◌||◌, nat_eq, Bool, true, false, if◌then◌else◌, List, [], ◌∷◌, ◌++◌, length, map, Option, Some, None}
use Rattle.std.specs.Option.{option_map_or}
use Rattle.std.specs.Cmp.Lexicographic.{pointwise}
use Rattle.circ_term.specs.Tree.{Tree, sort_of}
use Rattle.circ_theory.specs.Signature.{Signature}
use Rattle.circ_theory.specs.Goal.{Goal}
use Rattle.circ_proof.specs.Table.{term_limit}
use Rattle.circ_theory.specs.Theory.{Theory, Pair, pair_with, goal}
use Rattle.circ_theory.specs.Rewriting.{named}
use Rattle.circ_line.specs.Line.{TableLine}
use Rattle.circ_proof_text.specs.TableText.{term_for}
use Rattle.circ_proof_text.specs.Checks.{is_full, is_too_large, is_goal, is_condition}
use Rattle.circ_file.specs.declared.table.ReadTable.{ReadTable}
use Rattle.circ_file.specs.declared.table.ReadTable.TheVariants.{Open, Closed}
use Rattle.circ_file.specs.declared.taken.Taken.{Taken}
use Rattle.circ_file.specs.declared.taken.Taken.TheVariants.{Yes, Line, Limit}

-- the terms of the lines so far
abbrev pub terms_in : ReadTable → List Tree
terms_in (Open rows) = rows
terms_in (Closed terms) = terms.0

-- whether the table still takes lines
abbrev pub is_open : ReadTable → Bool
is_open (Open rows) = true
is_open (Closed terms) = false

-- there are such terms, and they have these sorts
abbrev pub have_sorts : Option (List Tree) → List ℕ → Bool
have_sorts o sorts = option_map_or (λ ts. pointwise nat_eq (map sort_of ts) sorts) o false

-- the goal of two numbers, where both are in the table and their terms have one sort
abbrev pub goal_for : List Tree → (left right : ℕ) → Option Goal
goal_for table a b = if is_goal table a b then Some (goal [] (named table a) (named table b)) else None

-- the condition of two numbers, where these are of one visible sort
abbrev pub condition_for : Theory → List Tree → (left right : ℕ) → Option Pair
condition_for th table a b = if is_condition th table a b then Some (pair_with (named table a) (named table b)) else None

-- The line's term goes last; or it has none; or it has one, and passes a limit.
abbrev pub AddsLine : Signature → List Tree → TableLine → Taken → List Tree → Type 0
AddsLine sig ts l Yes us = (t : Tree) × (term_for sig ts l ≡ Some t) × ((is_full term_limit (length ts) || is_too_large (Some t)) ≡ false) × (us ≡ ts ++ t ∷ [])
AddsLine sig ts l Line us = term_for sig ts l ≡ None
AddsLine sig ts l Limit us = (t : Tree) × (term_for sig ts l ≡ Some t) × ((is_full term_limit (length ts) || is_too_large (Some t)) ≡ true)
