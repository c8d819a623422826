-- A term with another argument, and with another subterm.
use Rattle.std.proofs.Common.{◌≡◌, ℕ, List, [], ◌∷◌, Option, Some, None, Err, ap, sym, ◌∙◌}
use Rattle.std.specs.Option.{option_and_then}
use Rattle.std.specs.List.{slice_get}
use Rattle.circ_term.specs.Tree.{Tree, args_of, with_arg, replaced}
use Rattle.circ_term.specs.Limits.{IsWithinLimits, BuildsSome}
use Rattle.circ_term.specs.declared.fault.TermFault.{TermFault}
use Rattle.circ_term.proofs.Replaced.{fault_at}
use Rattle.circ_nodes.specs.Named.{tree_at, IsNamed, InternsSome}
use Rattle.circ_nodes.proofs.Located.{named_tree}

to_builds : (nodes : List Tree) (e : TermFault) (o : Option Tree) → InternsSome nodes (Err e) o → BuildsSome (Err e) o
to_builds nodes e None h = h
to_builds nodes e (Some u) h = h

from_builds : (nodes : List Tree) (e : TermFault) (o : Option Tree) → BuildsSome (Err e) o → InternsSome nodes (Err e) o
from_builds nodes e None h = h
from_builds nodes e (Some u) h = h

pub fault_above : (old new : List Tree) (e : TermFault) (t : Tree) (path : List ℕ) (i : ℕ) (rest : List ℕ) (u : Tree) (n : ℕ)
    → path ≡ i ∷ rest → (a : Tree) × (slice_get (args_of t) i ≡ Some a) × IsNamed old n a → IsWithinLimits t
    → InternsSome new (Err e) (replaced (tree_at old n) rest u) → InternsSome new (Err e) (replaced t path u)
fault_above old new e t path i rest u n p h w b =
    let a : tree_at old n ≡ h.0 = named_tree old n h.0 h.2 in
    from_builds new e (replaced t path u)
    (fault_at e t path i rest u (tree_at old n) p (ap Some a ∙ sym h.1) w (to_builds new e (replaced (tree_at old n) rest u) b))

-- one step of the path
pub replaced_step : (old : List Tree) (t : Tree) (path : List ℕ) (i : ℕ) (rest : List ℕ) (u : Tree) (n : ℕ)
    → path ≡ i ∷ rest → (a : Tree) × (slice_get (args_of t) i ≡ Some a) × IsNamed old n a
    → replaced t path u ≡ with_arg t i (replaced (tree_at old n) rest u)
replaced_step old t path i rest u n p h =
    ap (λ q. replaced t q u) p
    ∙ ap (λ o. with_arg t i (option_and_then (λ a. replaced a rest u) o)) (h.1 ∙ ap Some (sym (named_tree old n h.0 h.2)))

-- with the term that was made below
pub replaced_made : (t : Tree) (i : ℕ) (u a : Tree) → slice_get (args_of t) i ≡ Some a → replaced t (i ∷ []) u ≡ with_arg t i (Some u)
replaced_made t i u a h = ap (λ o. with_arg t i (option_and_then (λ x. Some u) o)) h
