-- Runs of steps, each of which leads to one state at most: where they end, and where they fail first.
use Rattle.std.specs.Prelude.{◌≡◌, ◌+◌, ℕ, List, [], ◌∷◌, ◌++◌, length, refl}
use Rattle.std.proofs.Common.{sym, subst, inl, inr, arith}
use Rattle.circ_proof.specs.Runs.{Runs, FailsFirst}

-- each step leads from a state to one state at most
abbrev pub LeadsToOne : {X S : Type 0} → (X → S → S → Type 0) → Type 0
LeadsToOne {X = X} {S = S} Leads = (x : X) (a b c : S) → Leads x a b → Leads x a c → b ≡ c

-- steps that run do not fail
pub runs_or_fails : {X S : Type 0} (Leads : X → S → S → Type 0) → LeadsToOne Leads → (xs : List X) (a b : S) (n : ℕ) → Runs Leads xs a b
    → FailsFirst Leads xs a n → ⊥
runs_or_fails Leads one [] a b n r f = f
runs_or_fails Leads one (x ∷ xs) a b n r (inl f) = f.1 r.0 r.1
runs_or_fails {S = S} Leads one (x ∷ xs) a b n r (inr f) =
    let e : r.0 ≡ f.0 = one x a r.0 f.0 r.1 f.1 in
    let P : S → Type 0 = λ m. Runs Leads xs m b in
    runs_or_fails Leads one xs f.0 b f.2 (subst P e r.2) f.4

-- one step alone is the first that fails
pub fails_on : {X S : Type 0} (Leads : X → S → S → Type 0) (xs ys : List X) (a b : S) (n m : ℕ) → m ≡ length xs + n → Runs Leads xs a b
    → FailsFirst Leads ys b n → FailsFirst Leads (xs ++ ys) a m
fails_on {S = S} Leads [] ys a b n m e r f =
    let P : S → Type 0 = λ c. FailsFirst Leads ys c m in
    let k : m ≡ n = omega (arith, e) in
    subst P (sym r) (subst (FailsFirst Leads ys b) (sym k) f)
fails_on Leads (x ∷ xs) ys a b n m e r f =
    inr (r.0, r.1, length xs + n, omega (arith, e), fails_on Leads xs ys r.0 b n (length xs + n) refl r.2 f)
