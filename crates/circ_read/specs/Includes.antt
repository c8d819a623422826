-- Theories of the library put into a theory.
use Rattle.std.specs.Prelude.{◌≡◌, ℕ, List, [], ◌∷◌, ◌++◌, Bool, true, false, nat_eq, Option, Some, None}
use Rattle.std.specs.List.{list_any}
use Rattle.std.specs.Cmp.Lexicographic.{pointwise}
use Rattle.circ_lib.specs.Library.{library_text}
use Rattle.circ_theory.specs.Theory.{Theory, Declared}
use Rattle.circ_statement.specs.Said.{Said, inclusion, sorts, operators, variables, equation, derivative, cases}
use Rattle.circ_read.specs.Text.{ReadsTo}
use Rattle.circ_read.specs.Adding.{AddsStatement}

-- a theory, with the names of the library's theories that were included
pub record Scope : Type 0 where
  pub theory : Theory
  pub included : List (List ℕ)

abbrev pub scope : Theory → List (List ℕ) → Scope
scope th names = record { theory = th; included = names }

abbrev pub is_included : Scope → List ℕ → Bool
is_included s name = list_any (λ w. pointwise nat_eq w name) s.included

-- the theory of this name without parts
abbrev pub empty_theory : List ℕ → Theory
empty_theory name = record { name = name; signature = record { sorts = []; ops = [] }; variables = []; equations = []; derivatives = []; cases = [] }

-- the theory with these declared variables in place of its own
abbrev pub with_variables : Theory → List Declared → Theory
with_variables th vs = record th { variables = vs }

-- the text of a theory of the library
unfoldable pub text_named : List ℕ → Option (List ℕ)
text_named name = library_text name

-- An inclusion stands for the statements of the library's text, read in the theory as it stands, but with that text's variables alone.
-- What is included already is passed over.
pub data Includes (s : Scope) (name : List ℕ) : Scope → Type 0 where
  again : is_included s name ≡ true → Includes s name s
  anew : (text : List ℕ) (u : Theory) → is_included s name ≡ false → text_named name ≡ Some text
      → ReadsTo AddsStatement (λ _. with_variables s.theory []) text u
      → Includes s name (scope (with_variables u s.theory.variables) (s.included ++ name ∷ []))

abbrev pub included_name : Said → Option (List ℕ)
included_name (inclusion name) = Some name
included_name (sorts names) = None
included_name (operators forms args result a c i) = None
included_name (variables names sort) = None
included_name (equation left right conds exec) = None
included_name (derivative term) = None
included_name (cases sort names) = None

abbrev pub AddsBy : Option (List ℕ) → Scope → Said → Scope → Type 0
AddsBy None s said t = AddsStatement s.theory said t.theory × (t.included ≡ s.included)
AddsBy (Some name) s said t = Includes s name t

-- The statement is accepted in a scope, and leads to this one: an inclusion, or what it adds to the theory.
abbrev pub AddsIn : Scope → Said → Scope → Type 0
AddsIn s said t = AddsBy (included_name said) s said t
