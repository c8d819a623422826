-- Arguments that are normalised one after the other, each by itself.
use Rattle.std.specs.Prelude.{◌≡◌, ℕ, List, [], ◌∷◌, Option}
use Rattle.circ_term.specs.Tree.{Tree, Trees, App}
use Rattle.circ_rewrite.specs.Replacement.{Replacement, Traced}
use Rattle.circ_rewrite.specs.Standing.{AreSettled, HasSettledBelow}
use Rattle.circ_chain.specs.Chain.{Chain}

-- the replacements are made below the root
abbrev pub AreBelow : List Traced → Type 0
AreBelow [] = Unit {0}
AreBelow (tr ∷ ts) = (tr.path ≡ [] → ⊥) × AreBelow ts

module _ (due : Tree → Option Replacement) where
  -- The traces, below the root, lead from t to f(us), of which the first i arguments are settled.
  pub record Through (big deep : ℕ) (t : Tree) (traces : List Traced) (f s i : ℕ) (us : Trees) : Type 0 where
    pub chain : Chain due big deep t traces (App f s us)
    pub below : AreBelow traces
    pub settled : AreSettled due i us

  -- They lead from t to u, whose arguments are all settled, so that u is known by t.
  pub record Readies (big deep : ℕ) (t : Tree) (traces : List Traced) (u : Tree) : Type 0 where
    pub chain : Chain due big deep t traces u
    pub below : AreBelow traces
    pub settled : HasSettledBelow due u
