-- How a theory lies in memory.
use Rattle.std.specs.Prelude.{◌≡◌, ◌≤◌, ℕ, List, [], ◌∷◌, ◌++◌, Bool, true, ◌&&◌, if◌then◌else◌, nat_eq, length, map, Vec, Option}
use Rattle.std.specs.List.{AllByRecursion, list_any}
use Rattle.std.specs.Map.{lookup}
use Rattle.std.specs.Option.{option_map_or, option_eq}
use Rattle.std.specs.Cmp.Lexicographic.{pointwise}
use Rattle.circ_theory.specs.declared.overloads.Overloads.{Overloads}
use Rattle.circ_theory.specs.declared.parts.OpDecl.{OpDecl}
use Rattle.circ_theory.specs.declared.theories.OpKey.{OpKey}
use Rattle.circ_theory.specs.declared.theories.Listed.{Listed}
use Rattle.circ_theory.specs.declared.theories.Observer.{Observer}
use Rattle.circ_theory.specs.declared.theories.Parts.{Parts}
use Rattle.circ_form.specs.Form.{text_of, IsForm}
use Rattle.circ_theory.specs.Signature.{Operator}
use Rattle.circ_pairs.specs.Goal.{goal_of}
use Rattle.circ_theory.specs.Theory.{Theory, declared}
use Rattle.circ_pairs.specs.Variables.{sorts_of}
use Rattle.circ_theory.specs.Operators.{operator_of, ops_by_word, ops_by_word_and_sort}
use Rattle.circ_pairs.specs.Rule.{is_rule}
use Rattle.circ_pairs.specs.Slots.{parameter_sorts_in}
use Rattle.circ_theory.specs.Observing.{derivative_with, is_hidden, case_list, is_condition_sort}
use Rattle.circ_theory.specs.WellFormed.{IsWellFormed}

-- the key of an operator in the map of operators: the text of its form, which gives the form back, and the argument sorts
pub record IsKeyOf (k : OpKey) (o : Operator) : Type 0 where
  pub form : k.form.items ≡ text_of o.form
  pub is_form : IsForm o.form
  pub args : k.args.items ≡ o.args

-- the keys have the same text and the same sorts
abbrev pub is_same_key : OpKey → OpKey → Bool
is_same_key a b = pointwise nat_eq a.form.items b.form.items && pointwise nat_eq a.args.items b.args.items

-- an operator stands under its key
abbrev pub IsEntry : OpKey × OpDecl → Type 0
IsEntry e = IsKeyOf e.0 (operator_of e.1)

-- what is kept with an equation: the sorts of its variables, no more than there are numbers, and whether it is a rule
pub record IsListed (l : Listed) : Type 0 where
  pub sorts : l.sorts.items ≡ sorts_of (goal_of l.equation)
  pub few : length l.sorts.items ≤ 4294967296
  pub rule : l.rule ≡ is_rule l.equation

-- the sorts kept with a derivative are those of its parameters
abbrev pub IsObserver : Observer → Type 0
IsObserver o = o.sorts.items ≡ parameter_sorts_in o.term

-- the numbers kept under a sort
abbrev pub kept_at : {B : Type 0} → List (Option ℕ × Vec ℕ B) → Option ℕ → List ℕ
kept_at es s = option_map_or (λ v. v.items) (lookup (option_eq nat_eq s) es) []

-- the numbers of the operators of one word whose first argument has this sort
abbrev pub kept_with : Overloads → Option ℕ → List ℕ
kept_with o s = if option_eq nat_eq s o.sort then o.same.items else kept_at o.others.entries s

-- the numbers kept under a word
abbrev pub kept_under : {A : Type 0} → List (Vec ℕ A × Overloads) → List ℕ → List ℕ
kept_under es w = option_map_or (λ o. o.all.items) (lookup (λ k. pointwise nat_eq w k.items) es) []

-- the numbers kept under a word and a sort
abbrev pub kept_under_both : {A : Type 0} → List (Vec ℕ A × Overloads) → List ℕ → Option ℕ → List ℕ
kept_under_both es w s = option_map_or (λ o. kept_with o s) (lookup (λ k. pointwise nat_eq w k.items) es) []

-- a number more under a word and a sort, and all others as they were
pub record IsNoted {A : Type 0} (old new : List (Vec ℕ A × Overloads)) (word : List ℕ) (sort : Option ℕ) (number : ℕ) : Type 0 where
  pub words : (w : List ℕ) → kept_under new w ≡ (if pointwise nat_eq w word then kept_under old w ++ number ∷ [] else kept_under old w)
  pub both : (w : List ℕ) (s : Option ℕ)
      → kept_under_both new w s ≡ (if pointwise nat_eq w word && option_eq nat_eq s sort then kept_under_both old w s ++ number ∷ [] else kept_under_both old w s)

-- the same numbers
pub record IsKeptSo {A : Type 0} (old new : List (Vec ℕ A × Overloads)) : Type 0 where
  pub words : (w : List ℕ) → kept_under new w ≡ kept_under old w
  pub both : (w : List ℕ) (s : Option ℕ) → kept_under_both new w s ≡ kept_under_both old w s

abbrev pub theory_of : Parts → Theory
theory_of a = record {
  name = a.name;
  signature = record { sorts = map (λ k. k.items) a.sorts.keys; ops = map (λ e. operator_of e.1) a.ops.entries };
  variables = map (λ e. declared e.0.items e.1) a.vars.entries;
  equations = map (λ l. l.equation) a.equations.items;
  derivatives = map (λ o. derivative_with o.hole o.term) a.derivatives.items;
  cases = map (λ e. case_list e.0 e.1.items) a.cases.entries;
}

pub record IsKept (a : Parts) : Type 0 where
  pub well_formed : IsWellFormed (theory_of a)
  pub entries : AllByRecursion IsEntry a.ops.entries
  pub listed : AllByRecursion IsListed a.equations.items
  pub observers : AllByRecursion IsObserver a.derivatives.items
  pub hidden : (s : ℕ) → list_any (nat_eq s) a.hidden.keys ≡ is_hidden (theory_of a) s
  pub conditions : (s : ℕ) → is_condition_sort (theory_of a) s ≡ true → list_any (nat_eq s) a.condition_sorts.keys ≡ true
  pub by_word : (w : List ℕ) → kept_under a.by_word.entries w ≡ ops_by_word (theory_of a).signature w
  pub by_both : (w : List ℕ) (s : Option ℕ) → kept_under_both a.by_word.entries w s ≡ ops_by_word_and_sort (theory_of a).signature w s
