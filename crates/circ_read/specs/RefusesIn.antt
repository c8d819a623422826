-- Why a statement is refused in a scope.
use Rattle.std.specs.Prelude.{◌≡◌, ℕ, List, [], false, Option, Some, None}
use Rattle.circ_statement.specs.Said.{Said}
use Rattle.circ_read.specs.declared.cause.Cause.{Cause}
use Rattle.circ_read.specs.declared.cause.Cause.TheVariants.{UnknownTheory}
use Rattle.circ_read.specs.Adding.{AddsStatement}
use Rattle.circ_read.specs.Refusing.{RefusesStatement}
use Rattle.circ_read.specs.Failing.{FailsAt}
use Rattle.circ_read.specs.Includes.{Scope, is_included, text_named, with_variables, included_name}

-- The library lacks the theory, or its text has this first cause.
pub data RefusesInclusion (s : Scope) (name : List ℕ) : Cause → Type 0 where
  unknown : is_included s name ≡ false → text_named name ≡ None → RefusesInclusion s name UnknownTheory
  broken : (text : List ℕ) (n : ℕ) (c : Cause) → is_included s name ≡ false → text_named name ≡ Some text
      → FailsAt AddsStatement RefusesStatement (λ _. with_variables s.theory []) text n c → RefusesInclusion s name c

abbrev pub RefusesBy : Option (List ℕ) → Scope → Said → Cause → Type 0
RefusesBy None s said c = RefusesStatement s.theory said c
RefusesBy (Some name) s said c = RefusesInclusion s name c

-- The statement has this first cause in a scope: that of an inclusion, or of what it adds to the theory.
abbrev pub RefusesIn : Scope → Said → Cause → Type 0
RefusesIn s said c = RefusesBy (included_name said) s said c
