-- The terms that links, steps and goals name, in the order of their lines.
use Rattle.std.specs.Prelude.{ℕ, List, [], ◌∷◌, ◌++◌, flat_map}
use Rattle.circ_proof.specs.Plain.{LinkOf, ChainOf, WhyOf, WhysOf, Same_why, Split_why, no_why, more_whys}
use Rattle.circ_proof.specs.Link.{terms_of}
use Rattle.circ_proof.specs.Rules.{ProofStep, Simplify, Reduce, Derive, Cases, Done}
use Rattle.circ_proof.specs.Proof.{GoalNames}

abbrev pub links_terms : {T : Type 0} → List (LinkOf T) → List T
links_terms ls = flat_map terms_of ls

abbrev pub chain_terms : {T : Type 0} → ChainOf T → List T
chain_terms c = links_terms c.left ++ links_terms c.right

abbrev mutual
  pub why_terms : {T : Type 0} → WhyOf T → List T
  why_terms (Same_why c) = chain_terms c
  why_terms (Split_why c u ws) = chain_terms c ++ (u ∷ whys_terms ws)

  pub whys_terms : {T : Type 0} → WhysOf T → List T
  whys_terms no_why = []
  whys_terms (more_whys w ws) = why_terms w ++ whys_terms ws

abbrev pub step_terms : {T : Type 0} → ProofStep T → List T
step_terms (Simplify c) = chain_terms c
step_terms (Reduce w) = why_terms w
step_terms Derive = []
step_terms (Cases u) = u ∷ []
step_terms Done = []

-- the two sides, by the numbers of their terms
abbrev pub sides_terms : ℕ × ℕ → List ℕ
sides_terms c = c.0 ∷ c.1 ∷ []

-- a goal's left side, its right side, and the sides of its conditions
abbrev pub name_terms : GoalNames → List ℕ
name_terms n = n.left ∷ n.right ∷ flat_map sides_terms n.conds

abbrev pub names_terms : List GoalNames → List ℕ
names_terms ns = flat_map name_terms ns
