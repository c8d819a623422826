-- Replacements in a term by itself, within bounds on size and depth, and how they stop.
use Rattle.std.specs.Prelude.{◌≡◌, ◌≤◌, ◌<◌, ◌⊎◌, ℕ, ◌+◌, List, [], ◌∷◌, ◌++◌, length, Option, Some}
use Rattle.circ_term.specs.Tree.{Tree, size_of, depth_of, replaced}
use Rattle.circ_term.specs.Limits.{Limit, first_limit, IsWithinLimits}
use Rattle.circ_rewrite.specs.Replacement.{Replacement, Placed, Traced, placed, traced}
use Rattle.circ_rewrite.specs.Norm.{first_due}
use Rattle.circ_rewrite.specs.Standing.{IsSettled}

-- the trace of a replacement in the subterm at p, in the whole term
abbrev pub under : (p : List ℕ) → Traced → Traced
under p tr = record { path = p ++ tr.path; reason = tr.reason }

module _ (due : Tree → Option Replacement) where
  -- the replacement is the first that is due in t, and makes u
  pub record IsFirst (q : Placed) (t u : Tree) : Type 0 where
    pub first : first_due due t ≡ Some q
    pub made : replaced t q.path q.replacement.new ≡ Some u

  -- the first replacement that is due in t is the one of this trace, and makes u, which is within the bounds
  pub record IsStep (big deep : ℕ) (t : Tree) (trace : Traced) (u : Tree) : Type 0 where
    pub replacement : Replacement
    pub is_first : IsFirst (placed trace.path replacement) t u
    pub is_trace : trace ≡ traced (placed trace.path replacement)
    pub small : size_of u ≤ big
    pub shallow : depth_of u ≤ deep

  -- The traces lead from t to u, each a step within the bounds.
  abbrev pub Chain : (big deep : ℕ) → (t : Tree) → (traces : List Traced) → (u : Tree) → Type 0
  Chain big deep t [] u = t ≡ u
  Chain big deep t (tr ∷ ts) u = (x : Tree) × IsStep big deep t tr x × Chain big deep x ts u

  -- they lead from t to its normal form v
  abbrev pub Reduces : (big deep : ℕ) → (t : Tree) → (traces : List Traced) → (v : Tree) → Type 0
  Reduces big deep t traces v = Chain big deep t traces v × IsSettled due v

  -- After these traces, fewer than k, the next replacement makes x, which may be past the bounds.
  pub record Next (big deep k : ℕ) (t : Tree) (traces : List Traced) (x : Tree) : Type 0 where
    pub here : Tree
    pub place : Placed
    pub chain : Chain big deep t traces here
    pub fewer : length traces < k
    pub is_first : IsFirst place here x

  -- after k replacements another is due
  pub record RunsOut (big deep k : ℕ) (t : Tree) : Type 0 where
    pub traces : List Traced
    pub here : Tree
    pub place : Placed
    pub chain : Chain big deep t traces here
    pub count : length traces ≡ k
    pub is_due : first_due due here ≡ Some place

  -- With this left of k, the next replacement makes a term past a limit.
  pub record Breaks (big deep k left : ℕ) (t : Tree) (limit : Limit) : Type 0 where
    pub traces : List Traced
    pub new : Tree
    pub next : Next big deep k t traces new
    pub past : first_limit new ≡ Some limit
    pub count : left + length traces ≡ k

  -- With this left of k, the next replacement makes x, which is within the limits and past the bounds.
  pub record Outgrows (big deep k left : ℕ) (t x : Tree) : Type 0 where
    pub traces : List Traced
    pub next : Next big deep k t traces x
    pub within : IsWithinLimits x
    pub past : (big < size_of x) ⊎ (deep < depth_of x)
    pub count : left + length traces ≡ k
