-- Certificates: why the places of a special set are special (`Certified`).
use Rattle.std.specs.Prelude.{◌≡◌, ◌⊎◌, ℕ, ◌+◌, zero, suc, List, [], ◌∷◌, ◌++◌, length, map}
use Rattle.std.specs.List.{slice_get}
use Rattle.std.specs.Option.{option_map_or}
use Rattle.circ_term.specs.Tree.{Tree, Trees, Var, App, none, more, trees_of}
use Rattle.circ_term.specs.Limits.{IsWithinLimits}
use Rattle.circ_theory.specs.Signature.{Operator}
use Rattle.circ_theory.specs.Theory.{Theory, Derivative}
use Rattle.circ_theory.specs.Experiment.{derived}
use Rattle.circ_special.specs.declared.place.Place.{Place}
use Rattle.circ_special.specs.Special.{IsPlace}
use Rattle.circ_special.specs.Guarded.{Guarded}
use Rattle.circ_proof.specs.Plain.{LinkOf}
use Rattle.circ_proof.specs.Runs.{Runs}
use Rattle.circ_proof.specs.Link.{setting, Leads}
use Rattle.circ_theory.specs.Fresh.{numbered_from, variables_from, derivatives_of}

-- variable 0 at one place, and variables numbered from k at the others from the left
abbrev pub start_args : (place k : ℕ) (sorts : List ℕ) → Trees
start_args i k [] = none
start_args zero k (s ∷ ss) = more (Var 0 s) (trees_of (variables_from k ss))
start_args (suc i) k (s ∷ ss) = more (Var k s) (start_args i (k + 1) ss)

-- the derivative on the operator applied to these variables; its parameters get the next numbers
abbrev pub start_term : Operator → Place → Derivative → Tree
start_term o g d = derived d (App g.op o.result (start_args g.arg 1 o.args)) (numbered_from (length o.args))

-- The links lead from the start term, by equations and content alone, to a term that is guarded in variable 0.
pub record Certified (th : Theory) (G : List Place) (g : Place) (d : Derivative) (links : List (LinkOf Tree)) : Type 0 where
  pub place : IsPlace th g
  pub within : IsWithinLimits (start_term place.operator g d)
  pub last : Tree
  pub leads : Runs (Leads (setting th G [] [])) links (start_term place.operator g d) last
  pub guarded : Guarded th G last 0 place.sort

-- the derivatives of the result sort of an operator
abbrev pub derivatives_at : Theory → Place → List Derivative
derivatives_at th g = option_map_or (λ o. derivatives_of th o.result) (slice_get th.signature.ops g.op) []

-- what certificates are due: one for each place in order and each derivative of its result sort in order
abbrev pub due_at : Theory → Place → List (Place × Derivative)
due_at th g = map (λ d. (g, d)) (derivatives_at th g)

abbrev pub due : Theory → List Place → List (Place × Derivative)
due th [] = []
due th (g ∷ gs) = due_at th g ++ due th gs

-- each that is due is certified by its links
abbrev pub AreCertified : Theory → List Place → List (Place × Derivative) → List (List (LinkOf Tree)) → Type 0
AreCertified th G [] [] = Unit {0}
AreCertified th G [] (ls ∷ lss) = ⊥
AreCertified th G (x ∷ xs) [] = ⊥
AreCertified th G (x ∷ xs) (ls ∷ lss) = Certified th G x.0 x.1 ls × AreCertified th G xs lss

-- certificate n, counted from 1, is the first that does not certify what is due
abbrev pub CertificateFails : Theory → List Place → List (Place × Derivative) → List (List (LinkOf Tree)) → ℕ → Type 0
CertificateFails th G [] lss n = ⊥
CertificateFails th G (x ∷ xs) [] n = ⊥
CertificateFails th G (x ∷ xs) (ls ∷ lss) n =
    ((n ≡ 1) × (Certified th G x.0 x.1 ls → ⊥)) ⊎ (Certified th G x.0 x.1 ls × (m : ℕ) × (n ≡ m + 1) × CertificateFails th G xs lss m)
