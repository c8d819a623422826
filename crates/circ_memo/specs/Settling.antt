-- What the calls answer that normalise a term by itself, within bounds.
use Rattle.std.specs.Prelude.{◌≡◌, ◌⊎◌, ◌≤◌, ◌<◌, ℕ, ◌+◌, ◌-◌, Bool, true, false, List, [], ◌∷◌, length, Option, Some, None, Result, Ok, Err}
use Rattle.std.specs.List.{slice_get}
use Rattle.circ_term.specs.Tree.{Tree, Trees, App, args_of, size_of, depth_of}
use Rattle.circ_term.specs.Limits.{Big, Deep, node_limit, depth_limit, argument_limit}
use Rattle.circ_rewrite.specs.Replacement.{Replacement, Traced}
use Rattle.circ_rewrite.specs.declared.fault.RewriteFault.{RewriteFault}
use Rattle.circ_rewrite.specs.declared.fault.RewriteFault.TheVariants.{Spent, TooBig, TooDeep, Memory}
use Rattle.circ_nodes.specs.Named.{IsNamed, AreNamed}
use Rattle.circ_chain.specs.Chain.{RunsOut, Breaks, Outgrows}
use Rattle.circ_chain.specs.Through.{Through, Readies}
use Rattle.circ_memo.specs.Keeping.{IsInBounds, IsForm, IsNumberKept, IsWayKept}
use Rattle.circ_memo.specs.declared.parts.Bounds.{Bounds}
use Rattle.circ_memo.specs.declared.parts.Entry.{Entry}
use Rattle.circ_memo.specs.declared.parts.Way.{Way}
use Rattle.circ_memo.specs.declared.parts.Step.{Step}
use Rattle.circ_memo.specs.declared.parts.Passing.{Passing}
use Rattle.circ_memo.specs.declared.parts.Turn.{Turn}
use Rattle.circ_memo.specs.declared.parts.Turn.TheVariants.{Settled, Stepped}
use Rattle.circ_memo.specs.declared.parts.Stop.{Stop}
use Rattle.circ_memo.specs.declared.parts.Stop.TheVariants as stop

-- the term is within the bounds, and these are within the limits
pub record IsWithin (b : Bounds) (t : Tree) : Type 0 where
  pub small : size_of t ≤ b.big
  pub shallow : depth_of t ≤ b.deep
  pub big : b.big ≤ node_limit
  pub deep : b.deep ≤ depth_limit

-- so is the term of a number
abbrev pub IsInside : List Tree → Bounds → (number : ℕ) → Type 0
IsInside nodes b n = (t : Tree) × IsNamed nodes n t × IsWithin b t

-- true: the term is past the bounds; false: it is not
abbrev pub IsPastIf : Bounds → Tree → Bool → Type 0
IsPastIf b t true = (b.big < size_of t) ⊎ (b.deep < depth_of t)
IsPastIf b t false = (size_of t ≤ b.big) × (depth_of t ≤ b.deep)

module _ (due : Tree → Option Replacement) (nodes : List Tree) (b : Bounds) where
  -- The fault says why t has no normal form within the bounds, with this left of the budget k; or memory ran out.
  abbrev pub Faulted : (k left : ℕ) → Tree → RewriteFault → Type 0
  Faulted k left t Spent = RunsOut due b.big b.deep k t × (left ≡ 0)
  Faulted k left t (TooBig n) = Breaks due b.big b.deep k left t (Big n)
  Faulted k left t (TooDeep n) = Breaks due b.big b.deep k left t (Deep n)
  Faulted k left t Memory = Unit {0}

  -- so does what stops the work
  abbrev pub Stops : (k left : ℕ) → Tree → Stop → Type 0
  Stops k left t (stop.Fault e) = Faulted k left t e
  Stops k left t (stop.Outgrows m) = (x : Tree) × IsNamed nodes m x × Outgrows due b.big b.deep k left t x

  -- the entry may be kept of t, and no term on the way is past the bounds
  abbrev pub IsToKeep : Tree → Entry → Type 0
  IsToKeep t e = IsForm due nodes t e × IsInBounds b e

  -- the answer is what is to be kept of t, or what stops the work
  abbrev pub Settles : (k left : ℕ) → Tree → Result Entry Stop → Type 0
  Settles k left t (Ok e) = IsToKeep t e × (left + e.count ≡ k)
  Settles k left t (Err s) = Stops k left t s

  -- the way leads from t to u, whose arguments are normal
  pub record IsWay (t : Tree) (w : Way) (u : Tree) : Type 0 where
    pub traces : List Traced
    pub there : IsNamed nodes w.ready u
    pub count : length traces ≡ w.count
    pub readies : Readies due w.big w.deep t traces u
    pub small : w.big ≤ b.big
    pub shallow : w.deep ≤ b.deep

  abbrev pub FindsWay : (k left : ℕ) → Tree → Result Way Stop → Type 0
  FindsWay k left t (Ok w) = (u : Tree) × IsWay t w u × (left + w.count ≡ k)
  FindsWay k left t (Err s) = Stops k left t s

  -- one replacement at the root of u makes the term of number m; or none is due
  abbrev pub Advances : (k left : ℕ) → Tree → Result (Option ℕ) Stop → Type 0
  Advances k left u (Ok None) = (due u ≡ None) × (left ≡ k)
  Advances k left u (Ok (Some m)) =
      (r : Replacement) × (due u ≡ Some r) × IsNamed nodes m r.new × (size_of r.new ≤ b.big) × (depth_of r.new ≤ b.deep) × (left + 1 ≡ k)
  Advances k left u (Err s) = Stops k left u s

  -- the step leads from t to v: normal arguments, then a replacement at the root
  pub record IsPassed (t : Tree) (s : Step) (v : Tree) : Type 0 where
    pub ready : Tree
    pub replacement : Replacement
    pub here : IsNamed nodes s.here t
    pub way : IsWay t s.way ready
    pub is_due : due ready ≡ Some replacement
    pub next : IsNamed nodes s.next v
    pub new : replacement.new ≡ v
    pub small : size_of v ≤ b.big
    pub shallow : depth_of v ≤ b.deep

  -- the steps lead from t to u
  abbrev pub ArePassed : Tree → List Step → Tree → Type 0
  ArePassed t [] u = t ≡ u
  ArePassed t (s ∷ ss) u = (v : Tree) × IsPassed t s v × ArePassed v ss u

  abbrev pub Turns : (k left : ℕ) → Tree → Result Turn Stop → Type 0
  Turns k left t (Ok (Settled e)) = IsToKeep t e × (left + e.count ≡ k)
  Turns k left t (Ok (Stepped s)) = (v : Tree) × IsPassed t s v × (left + s.way.count + 1 ≡ k)
  Turns k left t (Err s) = Stops k left t s

  -- the first i arguments of t are normal, by so many replacements, and the others are as they were
  pub record IsPassing (t : Tree) (i : ℕ) (p : Passing) : Type 0 where
    pub args : Trees
    pub traces : List Traced
    pub named : AreNamed nodes p.args.items args
    pub few : length p.args.items ≤ argument_limit
    pub within : IsWithin b t
    pub size : p.size ≡ size_of (App p.op p.sort args)
    pub depth : p.depth ≡ depth_of t
    pub count : length traces ≡ p.count
    pub through : Through due p.big p.deep t traces p.op p.sort i args
    pub small : p.big ≤ b.big
    pub shallow : p.deep ≤ b.deep

  -- no argument was passed yet; a variable has none
  abbrev pub Begins : Tree → Option Passing → Type 0
  Begins t None = args_of t ≡ []
  Begins t (Some p) = IsPassing t 0 p × (p.count ≡ 0)

  -- the first i arguments were passed
  abbrev pub Passes : (k left : ℕ) → Tree → (i : ℕ) → Passing → Result (Unit {0}) Stop → Type 0
  Passes k left t i p (Ok _) = IsPassing t i p × (left + p.count ≡ k)
  Passes k left t i p (Err s) = Stops k left t s

-- the bounds that the others leave to an argument of this size
abbrev pub room : Passing → Bounds → (own : ℕ) → Bounds
room p b own = record { big = b.big - p.size + own; deep = b.deep - 1 }

-- how many replacements the steps made
abbrev pub passed_count : List Step → ℕ
passed_count [] = 0
passed_count (s ∷ ss) = s.way.count + 1 + passed_count ss

-- the terms of a step are there
abbrev pub IsStepIn : (nodes : List Tree) → Step → Type 0
IsStepIn nodes s = (s.here < length nodes) × (s.way.ready < length nodes) × (s.next < length nodes)

-- The step begins at number n, and its way is kept.
pub record IsLinked (nodes : List Tree) (es : List (Option Entry)) (n : ℕ) (s : Step) : Type 0 where
  pub here : s.here ≡ n
  pub term : Tree
  pub named : IsNamed nodes n term
  pub way : IsWayKept nodes es n term s.way.ready s.way.count

-- the steps lead from number n to number m
abbrev pub AreLinked : (nodes : List Tree) → List (Option Entry) → (n : ℕ) → List Step → (m : ℕ) → Type 0
AreLinked nodes es n [] m = n ≡ m
AreLinked nodes es n (s ∷ ss) m = IsLinked nodes es n s × AreLinked nodes es s.next ss m

-- what comes of a turn at number n is kept, or begins there
abbrev pub IsTurnKept : (nodes : List Tree) → List (Option Entry) → (n : ℕ) → Turn → Type 0
IsTurnKept nodes es n (Settled e) = IsNumberKept es n e.count
IsTurnKept nodes es n (Stepped s) = IsLinked nodes es n s

-- Something is kept of the first i arguments of t, and the others are as they were.
pub record HasPassed (nodes : List Tree) (es : List (Option Entry)) (t : Tree) (i : ℕ) (p : Passing) : Type 0 where
  pub op : ℕ
  pub sort : ℕ
  pub args : Trees
  pub numbers : List ℕ
  pub is : t ≡ App op sort args
  pub named : AreNamed nodes numbers args
  pub long : length numbers ≡ length p.args.items
  pub kept : (j n : ℕ) → j < i → slice_get numbers j ≡ Some n → IsNumberKept es n p.count
  pub rest : (j : ℕ) → i ≤ j → slice_get p.args.items j ≡ slice_get numbers j
