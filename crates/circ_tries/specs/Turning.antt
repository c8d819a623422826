-- What the calls answer that normalise a term by itself, within bounds, under tries.
use Rattle.std.specs.Prelude.{◌≡◌, ◌⊎◌, ◌≤◌, ◌<◌, ℕ, ◌+◌, true, List, [], ◌∷◌, ◌++◌, length, map, Option, Some, None, is_some, Result, Ok, Err}
use Rattle.circ_term.specs.Tree.{Tree, args_of, operator_number}
use Rattle.circ_term.specs.Limits.{Big, Deep, first_limit, node_limit, depth_limit}
use Rattle.circ_rewrite.specs.Replacement.{Replacement, placed, Traced}
use Rattle.circ_rewrite.specs.Plain.{plain_traces}
use Rattle.circ_rewrite.specs.declared.fault.RewriteFault.{RewriteFault}
use Rattle.circ_rewrite.specs.declared.fault.RewriteFault.TheVariants.{Spent, TooBig, TooDeep, Memory}
use Rattle.circ_chain.specs.Chain.{under}
use Rattle.circ_nodes.specs.Named.{IsNamed}
use Rattle.circ_conditional_norm.specs.Norm.{look_from}
use Rattle.circ_conditional_norm.specs.Within.{Bounded, Form, Ran_out, Broken, Outgrown, Room as PlainRoom, IsInRoom, run_in}
use Rattle.circ_conditional_norm.specs.Work.{Work, LeavesAtMost, map_found}
use Rattle.circ_tries.specs.declared.parts.Course.{Course}
use Rattle.circ_tries.specs.declared.parts.Room.{Room}
use Rattle.circ_tries.specs.declared.parts.Stop.{Stop}
use Rattle.circ_tries.specs.declared.parts.Stop.TheVariants as stop
use Rattle.circ_tries.specs.declared.parts.Turn.{Turn}
use Rattle.circ_tries.specs.declared.parts.Turn.TheVariants.{Settled, Stepped}

abbrev pub plain_room : Room → PlainRoom
plain_room b = record { big = b.big; deep = b.deep }

-- the term of a number is within the bounds, and these are within the limits
pub record IsInside (nodes : List Tree) (b : Room) (number : ℕ) : Type 0 where
  pub term : Tree
  pub named : IsNamed nodes number term
  pub room : IsInRoom (plain_room b) term
  pub big : b.big ≤ node_limit
  pub deep : b.deep ≤ depth_limit

-- the number is that of the term u, or memory ran out
abbrev pub IsPut : (nodes : List Tree) → Tree → Result ℕ Stop → Type 0
IsPut nodes u (Ok m) = IsNamed nodes m u
IsPut nodes u (Err s) = s ≡ stop.Fault Memory

-- the work stops at the term u, which passes a limit or is the one of the number; or memory ran out
abbrev pub IsOutgrown : (nodes : List Tree) → Tree → Stop → Type 0
IsOutgrown nodes u (stop.Outgrows m) = IsNamed nodes m u × (first_limit u ≡ None)
IsOutgrown nodes u (stop.Fault Spent) = ⊥
IsOutgrown nodes u (stop.Fault (TooBig n)) = first_limit u ≡ Some (Big n)
IsOutgrown nodes u (stop.Fault (TooDeep n)) = first_limit u ≡ Some (Deep n)
IsOutgrown nodes u (stop.Fault Memory) = Unit {0}

-- the traces, of a term that stands at the path, are written after the others
abbrev pub Writes : (path : List ℕ) → (old new : Course) → (traces : List Traced) → Type 0
Writes path old new traces =
    (plain_traces new.traces.items ≡ plain_traces old.traces.items ++ map (under path) traces) × (new.path.items ≡ path)

-- both are applications, with as many arguments
abbrev pub IsAlike : (t u : Tree) → Type 0
IsAlike t u = (is_some (operator_number u) ≡ true) × (length (args_of u) ≡ length (args_of t))

-- no more is left than there was
abbrev pub IsFallingDue : ((budget : ℕ) → Tree → Work (Option Replacement)) → Type 0
IsFallingDue due = (k : ℕ) (t : Tree) → LeavesAtMost k (due k t)

-- only the root is left to be looked at
abbrev pub IsAtRoot : (due : (budget : ℕ) → Tree → Work (Option Replacement)) → (from : List ℕ) → Tree → Type 0
IsAtRoot due from t = (k : ℕ) → look_from due from t k ≡ map_found (placed []) (due k t)

module _ (due : (budget : ℕ) → Tree → Work (Option Replacement)) (b : Room) where
  -- Work at the path `from` in t with this budget comes to this, whatever was traced before.
  abbrev pub ComesTo : (from : List ℕ) → (t : Tree) → (budget : ℕ) → (List Traced → Bounded) → Type 0
  ComesTo from t k o = (us : List Traced) → run_in due (plain_room b) k from t us k ≡ o us

  -- it goes on at the path `to` in u, after these traces and with this left
  abbrev pub GoesOn : (from : List ℕ) → (t : Tree) → (budget : ℕ) → (to : List ℕ) → (u : Tree) → (traces : List Traced) → (left : ℕ) → Type 0
  GoesOn from t k to u vs left = ComesTo from t k (λ us. run_in due (plain_room b) left to u (us ++ vs) left)

  module _ (nodes : List Tree) where
    -- The fault says what it comes to, with this left of the budget; or memory ran out.
    abbrev pub FaultsAt : (from : List ℕ) → (t : Tree) → (budget left : ℕ) → RewriteFault → Type 0
    FaultsAt from t k left Spent = ComesTo from t k (λ us. Ran_out) × (left ≡ 0)
    FaultsAt from t k left (TooBig n) = ComesTo from t k (λ us. Broken (Big n) left)
    FaultsAt from t k left (TooDeep n) = ComesTo from t k (λ us. Broken (Deep n) left)
    FaultsAt from t k left Memory = Unit {0}

    -- so does what stops the work
    abbrev pub StopsAt : (from : List ℕ) → (t : Tree) → (budget left : ℕ) → Stop → Type 0
    StopsAt from t k left (stop.Fault e) = FaultsAt from t k left e
    StopsAt from t k left (stop.Outgrows m) = (x : Tree) × IsNamed nodes m x × ComesTo from t k (λ us. Outgrown x left)

    -- the number is that of the normal form, to which the traces lead
    abbrev pub SettlesAt : (path : List ℕ) → (old new : Course) → (from : List ℕ) → (t : Tree) → (budget left : ℕ) → (number : ℕ) → Type 0
    SettlesAt path old new from t k left m =
        (v : Tree) × (vs : List Traced) × IsNamed nodes m v × ComesTo from t k (λ us. Form v (us ++ vs) left) × Writes path old new vs

    -- the number is that of a term at which the work begins anew, after these traces, one at least
    abbrev pub StepsTo : (path : List ℕ) → (old new : Course) → (from : List ℕ) → (t : Tree) → (budget left : ℕ) → (number : ℕ) → Type 0
    StepsTo path old new from t k left m =
        (v : Tree) × (vs : List Traced) × IsNamed nodes m v × GoesOn from t k [] v vs left × Writes path old new vs × IsInRoom (plain_room b) v × (left < k)

    -- what a replacement at the root comes to
    abbrev pub MakesAt : (path : List ℕ) → (old new : Course) → (from : List ℕ) → (t : Tree) → (budget left : ℕ) → Result ℕ Stop → Type 0
    MakesAt path old new from t k left (Ok m) = StepsTo path old new from t k left m
    MakesAt path old new from t k left (Err s) = StopsAt from t k left s

    -- what a turn at a term comes to
    abbrev pub TurnsAt : (path : List ℕ) → (old new : Course) → (from : List ℕ) → (t : Tree) → (budget left : ℕ) → Result Turn Stop → Type 0
    TurnsAt path old new from t k left (Ok (Settled m)) = SettlesAt path old new from t k left m
    TurnsAt path old new from t k left (Ok (Stepped m)) = StepsTo path old new from t k left m
    TurnsAt path old new from t k left (Err s) = StopsAt from t k left s

    -- what normalising a term comes to
    abbrev pub Ends : (path : List ℕ) → (old new : Course) → (t : Tree) → (budget left : ℕ) → Result ℕ Stop → Type 0
    Ends path old new t k left (Ok m) = SettlesAt path old new [] t k left m
    Ends path old new t k left (Err s) = StopsAt [] t k left s

    -- what normalising the arguments of a term comes to: only the root of the term with normal arguments is left
    abbrev pub ReadiesArgs : (path : List ℕ) → (old new : Course) → (t : Tree) → (budget left : ℕ) → Result ℕ Stop → Type 0
    ReadiesArgs path old new t k left (Ok m) =
        (u : Tree) × (vs : List Traced) × (to : List ℕ) × IsNamed nodes m u × GoesOn [] t k to u vs left × IsAtRoot due to u × Writes path old new vs
        × IsInRoom (plain_room b) u
    ReadiesArgs path old new t k left (Err s) = StopsAt [] t k left s

    -- what normalising argument i comes to, where those before it are normal: the work goes on at the next one
    abbrev pub PassesArg : (path : List ℕ) → (old new : Course) → (t : Tree) → (i budget left : ℕ) → Result ℕ Stop → Type 0
    PassesArg path old new t i k left (Ok m) =
        (u : Tree) × (vs : List Traced) × IsNamed nodes m u × GoesOn (i ∷ []) t k ((i + 1) ∷ []) u vs left × IsAlike t u × Writes path old new vs
        × IsInRoom (plain_room b) u × ((left < k) ⊎ (t ≡ u))
    PassesArg path old new t i k left (Err s) = StopsAt (i ∷ []) t k left s
