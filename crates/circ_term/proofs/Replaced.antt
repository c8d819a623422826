-- Going down a path, and replacing at its end, one step at a time.
use Rattle.std.proofs.Common.{◌≡◌, ℕ, ◌<◌, List, ◌∷◌, length, set, zero, suc, refl, ap, sym, ◌∙◌, arith, Option, Some, None, Err}
use Rattle.std.specs.List.{slice_get}
use Rattle.std.proofs.lemmas.Option.{slice_get_within}
use Rattle.circ_term.specs.Tree.{Tree, Trees, Var, App, none, more, list_of, trees_of, args_of, replaced, with_arg, walk}
use Rattle.circ_term.proofs.Trees.{trees_of-list_of}
use Rattle.circ_term.specs.Limits.{Limit, or_else, first_limit, first_limits, IsWithinLimits, BuildsSome}
use Rattle.circ_term.proofs.Paths.{walk_none}
use Rattle.circ_term.proofs.Limits.{first_limit_none, or_else_parts}
use Rattle.circ_term.specs.Nodes.{HasKept, tree_of, tree_of_node}
use Rattle.circ_term.specs.declared.fault.TermFault.{TermFault}
use Rattle.circ_term.specs.declared.fault.TermFault.TheVariants.{TooBig, TooDeep, Memory}
use Rattle.circ_term.specs.declared.node.Shape.{Shape}
use Rattle.circ_term.specs.declared.node.Shape.TheVariants.{Variable, Application}

pub walk_down : (t a : Tree) (path : List ℕ) (i : ℕ) (rest : List ℕ) (o : Option Tree)
    → path ≡ i ∷ rest → Some a ≡ slice_get (args_of t) i → walk (Some t) path ≡ o → walk (Some a) rest ≡ o
walk_down t a path i rest o e g w = ap (λ x. walk x rest) g ∙ sym (ap (walk (Some t)) e) ∙ w

pub walk_off : (t : Tree) (path : List ℕ) (i : ℕ) (rest : List ℕ) (o : Option Tree)
    → path ≡ i ∷ rest → None ≡ slice_get (args_of t) i → walk (Some t) path ≡ o → None ≡ o
walk_off t path i rest o e g w = sym (walk_none rest) ∙ ap (λ x. walk x rest) g ∙ sym (ap (walk (Some t)) e) ∙ w

or_else_nothing : (a : Option Limit) → or_else a None ≡ a
or_else_nothing (Some l) = refl
or_else_nothing None = refl

-- where no argument passes a limit, the first to pass one is the argument that is put in
first_limits-set : (ts : Trees) (i : ℕ) (u : Tree) → i < length (list_of ts) → first_limits ts ≡ None
    → first_limits (trees_of (set (list_of ts) i u)) ≡ first_limit u
first_limits-set none i u h w = absurd (omega arith)
first_limits-set (more t ts) zero u h w = rw (trees_of-list_of ts, (or_else_parts (first_limit t) _ w).1) (or_else_nothing (first_limit u))
first_limits-set (more t ts) (suc i) u h w =
    let parts = or_else_parts (first_limit t) _ w in
    rw parts.0 (first_limits-set ts i u (omega arith) parts.1)

-- a fault within the argument is the fault of the whole
fault_up : (e : TermFault) (t : Tree) (i : ℕ) (o : Option Tree) → i < length (args_of t) → IsWithinLimits t
    → BuildsSome (Err e) o → BuildsSome (Err e) (with_arg t i o)
fault_up e (Var n s) i o h w b = absurd (omega arith)
fault_up e (App f s ts) i None h w b = b
fault_up Memory (App f s ts) i (Some u) h w b = tt
fault_up (TooBig n) (App f s ts) i (Some u) h w b = rw (first_limits-set ts i u h (or_else_parts (first_limits ts) _ w).0 ∙ b) refl
fault_up (TooDeep n) (App f s ts) i (Some u) h w b = rw (first_limits-set ts i u h (or_else_parts (first_limits ts) _ w).0 ∙ b) refl

pub fault_at : (e : TermFault) (t : Tree) (path : List ℕ) (i : ℕ) (rest : List ℕ) (u a : Tree)
    → path ≡ i ∷ rest → Some a ≡ slice_get (args_of t) i → IsWithinLimits t
    → BuildsSome (Err e) (replaced a rest u) → BuildsSome (Err e) (replaced t path u)
fault_at e t path i rest u a p g w b =
    rw (p, ← g) (fault_up e t i (replaced a rest u) (slice_get_within (args_of t) i a (sym g)) w b)

pub kept_within : (s : Shape) → HasKept s → IsWithinLimits (tree_of s)
kept_within (Variable n k) h = refl
kept_within (Application rc) h = first_limit_none (tree_of_node rc.value) (omega (arith, h.size, h.small)) (omega (arith, h.depth, h.shallow))
