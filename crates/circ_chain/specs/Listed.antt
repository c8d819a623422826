-- Traces that are listed, of a term that stands in another one.
use Rattle.std.specs.Prelude.{◌≡◌, ℕ, List, ◌++◌, map, length, drop, Option}
use Rattle.circ_term.specs.Tree.{Tree, Trees, App, list_of}
use Rattle.circ_rewrite.specs.Replacement.{Replacement, Traced}
use Rattle.circ_chain.specs.Chain.{under, Chain}
use Rattle.circ_chain.specs.Through.{Through}

module _ (due : Tree → Option Replacement) where
  -- The traces of a chain from t to u, where t stands at p in a whole term, are listed after the old ones.
  pub record Lists (p : List ℕ) (t u : Tree) (old new : List Traced) : Type 0 where
    pub big : ℕ
    pub deep : ℕ
    pub traces : List Traced
    pub chain : Chain due big deep t traces u
    pub listed : new ≡ old ++ map (under p) traces

  -- The traces of the first i arguments of f(ts) are listed. Now f(us) stands, whose other arguments are as they were.
  pub record ListsThrough (p : List ℕ) (f s i : ℕ) (ts us : Trees) (old new : List Traced) : Type 0 where
    pub big : ℕ
    pub deep : ℕ
    pub traces : List Traced
    pub through : Through due big deep (App f s ts) traces f s i us
    pub listed : new ≡ old ++ map (under p) traces
    pub rest : drop i (list_of us) ≡ drop i (list_of ts)
    pub count : length (list_of us) ≡ length (list_of ts)
