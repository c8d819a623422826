-- Accepted proofs, and where a proof fails first (`Accepted`).
use Rattle.std.specs.Prelude.{◌≡◌, ◌⊎◌, ◌+◌, ℕ, List, [], ◌∷◌, ◌++◌, length, map}
use Rattle.circ_term.specs.Tree.{Tree}
use Rattle.circ_theory.specs.Theory.{Theory}
use Rattle.circ_theory.specs.Rewriting.{named}
use Rattle.circ_theory.specs.Goal.{Goal}
use Rattle.circ_proof.specs.Plain.{LinkOf, map_link}
use Rattle.circ_proof.specs.Runs.{FailsFirst}
use Rattle.circ_proof.specs.Rules.{State, state, ProofStep, map_step, StepOf, StepsOf}
use Rattle.circ_proof.specs.Certified.{due, AreCertified, CertificateFails}
use Rattle.circ_proof.specs.Proof.{Block, Proof}

-- the certificates and the steps of a proof, with the terms of its table
abbrev pub certificates_of : Proof → List (List (LinkOf Tree))
certificates_of p = map (map (map_link (named p.table))) p.certificates

abbrev pub steps_of : (table : List Tree) → Block → List (ProofStep Tree)
steps_of table b = map (map_step (named table)) b.steps

-- Every certificate holds.
abbrev pub Admissible : Theory → Proof → Type 0
Admissible th p = AreCertified th p.places (due th p.places) (certificates_of p)

-- A block begins with the goals of all earlier blocks as hypotheses H, and with its own goals. Its steps lead to no goal, and ds are the hypotheses that
-- they append.
abbrev pub BlocksDerive : Theory → Proof → (H : List Goal) → List Block → (derived : List (List Goal)) → Type 0
BlocksDerive th p H [] [] = Unit {0}
BlocksDerive th p H [] (ds ∷ dss) = ⊥
BlocksDerive th p H (b ∷ bs) [] = ⊥
BlocksDerive th p H (b ∷ bs) (ds ∷ dss) =
    StepsOf th p.places (steps_of p.table b) (state H b.goals) (state (H ++ ds) []) × BlocksDerive th p (H ++ b.goals) bs dss

-- Every certificate and every step holds, and these are the hypotheses that each block derived.
pub record Derives (th : Theory) (p : Proof) (derived : List (List Goal)) : Type 0 where
  pub admissible : Admissible th p
  pub blocks : BlocksDerive th p [] p.blocks derived

abbrev pub Accepted : Theory → Proof → Type 0
Accepted th p = (dss : List (List Goal)) × Derives th p dss

-- Step n of the blocks, counted from 1 over all of them, is the first that is no instance of its rule.
abbrev pub BlockFails : Theory → Proof → (H : List Goal) → List Block → ℕ → Type 0
BlockFails th p H [] n = ⊥
BlockFails th p H (b ∷ bs) n =
    FailsFirst (StepOf th p.places) (steps_of p.table b) (state H b.goals) n
    ⊎ ((e : State) × StepsOf th p.places (steps_of p.table b) (state H b.goals) e
    × (m : ℕ) × (n ≡ length b.steps + m) × BlockFails th p (H ++ b.goals) bs m)

-- The first certificate or step that fails; certificates are counted before steps.
abbrev pub FirstFail : Theory → Proof → ℕ → Type 0
FirstFail th p n =
    CertificateFails th p.places (due th p.places) (certificates_of p) n
    ⊎ (Admissible th p × (m : ℕ) × (n ≡ length p.certificates + m) × BlockFails th p [] p.blocks m)
