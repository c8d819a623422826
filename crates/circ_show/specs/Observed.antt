-- Sorts that experiments observe.
use Rattle.std.specs.Prelude.{ℕ, List}
use Rattle.circ_theory.specs.Theory.{Theory, IsHidden}
use Rattle.circ_theory.specs.Experiment.{Entry, Fits}

-- Some experiment fits the sort.
abbrev pub IsObserved : Theory → ℕ → Type 0
IsObserved th s = (cs : List Entry) × Fits th cs s

-- The sort is hidden, and no experiment fits it.
pub record IsUnobserved (th : Theory) (s : ℕ) : Type 0 where
  pub hidden : IsHidden th s
  pub no_experiment : (cs : List Entry) → Fits th cs s → ⊥
