-- What is kept of terms, and when it may be used.
use Rattle.std.specs.Prelude.{◌≡◌, ◌≤◌, ◌<◌, ◌⊎◌, ℕ, zero, suc, List, [], ◌∷◌, Option, Some, None}
use Rattle.std.specs.List.{slice_get}
use Rattle.circ_term.specs.Tree.{Tree, Trees, App}
use Rattle.circ_rewrite.specs.Replacement.{Replacement, Traced}
use Rattle.circ_nodes.specs.Named.{IsNamed, AreNamed}
use Rattle.circ_chain.specs.Kept.{IsKeptForm}
use Rattle.circ_chain.specs.Through.{Readies}
use Rattle.circ_memo.specs.declared.parts.Bounds.{Bounds}
use Rattle.circ_memo.specs.declared.parts.Entry.{Entry}

-- what is kept of the term of a number
abbrev pub kept_at : List (Option Entry) → ℕ → Option Entry
kept_at [] n = None
kept_at (o ∷ os) zero = o
kept_at (o ∷ os) (suc n) = kept_at os n

-- the same is kept of each term
abbrev pub HasSame : (old new : List (Option Entry)) → Type 0
HasSame old new = (n : ℕ) → kept_at new n ≡ kept_at old n

-- the entry is kept of this term, and of the others what was kept
pub record Puts (number : ℕ) (e : Entry) (old new : List (Option Entry)) : Type 0 where
  pub there : kept_at new number ≡ Some e
  pub others : (n : ℕ) → (n ≡ number) ⊎ (kept_at new n ≡ kept_at old n)

-- the bounds allow the use of what is kept
pub record IsInBounds (b : Bounds) (e : Entry) : Type 0 where
  pub small : e.big ≤ b.big
  pub shallow : e.deep ≤ b.deep

-- the budget and the bounds allow it
pub record Fits (b : Bounds) (budget : ℕ) (e : Entry) : Type 0 where
  pub count : e.count ≤ budget
  pub bounds : IsInBounds b e

-- something is kept of the term of a number, with at most so many replacements
abbrev pub IsNumberKept : List (Option Entry) → (n count : ℕ) → Type 0
IsNumberKept es n c = (e : Entry) × (kept_at es n ≡ Some e) × (e.count ≤ c)

-- where something was kept, something is kept, with as many replacements
abbrev pub Stays : (old new : List (Option Entry)) → Type 0
Stays old new = (n : ℕ) (e : Entry) → kept_at old n ≡ Some e → (d : Entry) × (kept_at new n ≡ Some d) × (d.count ≡ e.count)

-- something is kept of each argument of t, with at most so many replacements
pub record HasKeptArgs (nodes : List Tree) (es : List (Option Entry)) (t : Tree) (count : ℕ) : Type 0 where
  pub op : ℕ
  pub sort : ℕ
  pub args : Trees
  pub numbers : List ℕ
  pub is : t ≡ App op sort args
  pub named : AreNamed nodes numbers args
  pub kept : (i n : ℕ) → slice_get numbers i ≡ Some n → IsNumberKept es n count

-- the way from t, whose number is n, to normal arguments is kept: they are normal, or something is kept of each
abbrev pub IsWayKept : (nodes : List Tree) → List (Option Entry) → (n : ℕ) → Tree → (ready count : ℕ) → Type 0
IsWayKept nodes es n t ready c = (ready ≡ n) ⊎ HasKeptArgs nodes es t c

module _ (due : Tree → Option Replacement) (nodes : List Tree) where
  -- what is kept is the normal form of t, and how many replacements lead to it, in terms that are not past these bounds
  pub record IsForm (t : Tree) (e : Entry) : Type 0 where
    pub value : Tree
    pub traces : List Traced
    pub there : IsNamed nodes e.value value
    pub form : IsKeptForm due t value traces e.count e.big e.deep

  -- a replacement at the root leads from u to the term of this number, of which something is kept; or none is due
  abbrev pub IsNextKept : List (Option Entry) → (u : Tree) → (count : ℕ) → Option ℕ → Type 0
  IsNextKept es u c None = due u ≡ None
  IsNextKept es u c (Some m) = (r : Replacement) × (due u ≡ Some r) × IsNamed nodes m r.new × (d : ℕ) × IsNumberKept es m d × (d < c)

  -- the entry of t, whose number is n, tells the traces: to normal arguments, and from there
  pub record IsTold (es : List (Option Entry)) (n : ℕ) (t : Tree) (e : Entry) : Type 0 where
    pub ready : Tree
    pub known : List Traced
    pub big : ℕ
    pub deep : ℕ
    pub there : IsNamed nodes e.ready ready
    pub readies : Readies due big deep t known ready
    pub way : IsWayKept nodes es n t e.ready e.count
    pub next : IsNextKept es ready e.count e.next

  -- the entry may be kept of the term of a number
  pub record IsKept (es : List (Option Entry)) (n : ℕ) (e : Entry) : Type 0 where
    pub term : Tree
    pub here : IsNamed nodes n term
    pub form : IsForm term e
    pub told : IsTold es n term e

  -- all that is kept is right
  abbrev pub AreKept : List (Option Entry) → Type 0
  AreKept es = (n : ℕ) (e : Entry) → kept_at es n ≡ Some e → IsKept es n e
