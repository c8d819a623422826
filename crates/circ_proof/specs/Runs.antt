-- Runs: steps that lead from one state to another, and the first step that leads nowhere. States are terms, pairs of them, or what a proof has still to show.
use Rattle.std.specs.Prelude.{◌≡◌, ◌⊎◌, ℕ, ◌+◌, List, [], ◌∷◌}

-- the steps lead from a to b, one after the other
abbrev pub Runs : {X S : Type 0} → (X → S → S → Type 0) → List X → S → S → Type 0
Runs Leads [] a b = a ≡ b
Runs {S = S} Leads (x ∷ xs) a b = (m : S) × Leads x a m × Runs Leads xs m b

-- Step n, counted from 1, is the first that leads nowhere from where those before it lead.
abbrev pub FailsFirst : {X S : Type 0} → (X → S → S → Type 0) → List X → S → ℕ → Type 0
FailsFirst Leads [] a n = ⊥
FailsFirst {S = S} Leads (x ∷ xs) a n =
    ((n ≡ 1) × ((b : S) → Leads x a b → ⊥)) ⊎ ((b : S) × Leads x a b × (m : ℕ) × (n ≡ m + 1) × FailsFirst Leads xs b m)
