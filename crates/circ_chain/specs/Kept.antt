-- What is kept of a term.
use Rattle.std.specs.Prelude.{◌≡◌, ℕ, List, length, Option}
use Rattle.circ_term.specs.Tree.{Tree}
use Rattle.circ_rewrite.specs.Replacement.{Replacement, Traced}
use Rattle.circ_chain.specs.Chain.{Reduces}

-- The traces, so many, lead from t to its normal form v, and no term that they make is past the bounds.
pub record IsKeptForm (due : Tree → Option Replacement) (t v : Tree) (traces : List Traced) (count big deep : ℕ) : Type 0 where
  pub reduces : Reduces due big deep t traces v
  pub count_is : length traces ≡ count
