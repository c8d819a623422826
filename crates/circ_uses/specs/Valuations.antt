-- What the code keeps of substitutions: variables with terms, and which derivatives' parameters go before them.
use Rattle.std.specs.Prelude.{◌≡◌, ℕ, suc, ◌-◌, not, nat_lt, ◌==◌, ◌&&◌, if◌then◌else◌, List, [], ◌∷◌, map, Option, Some, None}
use Rattle.std.specs.Option.{option_or}
use Rattle.circ_term.specs.Tree.{Tree}
use Rattle.circ_term.specs.Substitution.{Substitution}
use Rattle.circ_term.specs.Subst.{Bound, found, substitution_of}
use Rattle.circ_theory.specs.Observing.{derivative_with}
use Rattle.circ_theory.specs.Variables.{Variable as TheVariable}
use Rattle.circ_match.specs.Matcher.{has_variable}
use Rattle.circ_expansion.specs.Expand.{extended}
use Rattle.circ_uses.specs.declared.valuation.Variable.{Variable}
use Rattle.circ_uses.specs.declared.valuation.Valuation.{Valuation}
use Rattle.circ_uses.specs.declared.by.Over.{Over}
use Rattle.circ_uses.specs.declared.by.By.{By}
use Rattle.circ_uses.specs.declared.by.Plugged.{Plugged}
use Rattle.circ_theory.specs.Experiment.{plug}

abbrev pub bound_of : Variable × Tree → Bound
bound_of e = record { number = e.0.number; sort = e.0.sort; term = e.1 }

abbrev pub bounds_in : Valuation → List Bound
bounds_in v = map bound_of v.terms.entries

abbrev pub valued_by : Valuation → Substitution
valued_by v = substitution_of (bounds_in v)

-- τ is σ with this term for the variable, unless it has one
abbrev pub Fills : (σ τ : List Bound) (number sort : ℕ) → Tree → Type 0
Fills σ τ number sort t = (n s : ℕ) → found τ n s ≡ option_or (found σ n s) (if (number == n) && (sort == s) then Some t else None)

-- a variable as the code keeps it
abbrev pub variable_of : Variable → TheVariable
variable_of v = record { number = v.number; sort = v.sort }

-- the parameters of derivatives before a substitution, the last ones first
abbrev pub with_overs : Substitution → List Over → Substitution
with_overs σ [] = σ
with_overs σ (o ∷ os) = with_overs (extended (derivative_with 0 o.body) o.first σ (valued_by o.params.value)) os

-- the parameter that a variable is, if it is one
abbrev pub over_number : Over → (number sort : ℕ) → Option ℕ
over_number o n s = if not (nat_lt n o.first) && has_variable o.body (suc (n - o.first)) s then Some (suc (n - o.first)) else None

abbrev pub by_of : By → Substitution
by_of b = with_overs (valued_by b.base.value) b.overs.items

-- with a term for a hole before it
abbrev pub plugged_by : Option Plugged → Substitution → Substitution
plugged_by None σ = σ
plugged_by (Some p) σ = plug p.hole p.term σ

-- a variable with what a substitution gives it
abbrev pub bound_by : Substitution → TheVariable → Bound
bound_by σ v = record { number = v.number; sort = v.sort; term = σ v.number v.sort }
