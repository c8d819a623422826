-- A `Subst` as contracts see it: a list of bound variables of which the first counts.
use Rattle.std.specs.Prelude.{◌≡◌, ℕ, List, [], ◌∷◌, ◌==◌, ◌&&◌, if◌then◌else◌, Option, Some, None, Result, Ok, Err, unwrap_or, refl}
use Rattle.std.specs.Ordering.{nat_cmp, ordering_then}
use Rattle.std.proofs.Common.{Ordering}
use Rattle.std.specs.Coded.{Coded, code_by, coded×, coded_ℕ, coded_list}
use Rattle.circ_term.specs.Tree.{Tree, Trees, Var, list_of}
use Rattle.circ_term.specs.Code.{tree_code}
use Rattle.circ_term.specs.Limits.{first_limits, Names}
use Rattle.circ_term.specs.Substitution.{Substitution}
use Rattle.circ_term.specs.declared.fault.TermFault.{TermFault}

pub record Bound : Type 0 where
  pub number : ℕ
  pub sort : ℕ
  pub term : Tree

abbrev pub bound_code : Coded Bound
bound_code =
    code_by (ℕ × (ℕ × Tree)) (coded× coded_ℕ (coded× coded_ℕ tree_code))
    (λ b. (b.number, (b.sort, b.term)))
    (λ p. record { number = p.0; sort = p.1.0; term = p.1.1 })
    (λ _. refl)

abbrev pub bounds_code : Coded (List Bound)
bounds_code = coded_list bound_code

-- by number, then sort
abbrev pub bound_cmp : Bound → Bound → Ordering
bound_cmp b c = ordering_then (nat_cmp b.number c.number) (nat_cmp b.sort c.sort)

-- the term that a variable is bound to
abbrev pub found : List Bound → ℕ → ℕ → Option Tree
found [] n s = None
found (b ∷ bs) n s = if (n == b.number) && (s == b.sort) then Some b.term else found bs n s

-- the substitution as a function: a variable that is not bound stays
abbrev pub substitution_of : List Bound → Substitution
substitution_of σ = λ n s. unwrap_or (found σ n s) (Var n s)

-- τ is σ with the variable (number, sort) bound to the term t, and no other changed
abbrev pub Binds : List Bound → List Bound → ℕ → ℕ → Tree → Type 0
Binds σ τ number sort t =
    (n s : ℕ) → found τ n s ≡ (if (number == n) && (sort == s) then Some t else found σ n s)

-- what a call that builds the trees us answers
abbrev pub BuildsAll : {X : Type 0} → (X → List Tree) → Result X TermFault → Trees → Type 0
BuildsAll view (Ok x) us = (view x ≡ list_of us) × (first_limits us ≡ None)
BuildsAll view (Err e) us = Names e (first_limits us)
