-- What contracts see of entries and layers, and the first term of several that is past a limit.
use Rattle.std.specs.Prelude.{◌≡◌, ℕ, List, [], ◌∷◌, map, reverse, unwrap_or, Option, Some, None, Result, Ok, Err}
use Rattle.std.specs.declared.rc.Rc.{Rc}
use Rattle.circ_term.specs.Tree.{Tree, trees_of, args_of, sort_of, operator_number}
use Rattle.circ_term.specs.Limits.{Limit, first_limit, or_else, Names}
use Rattle.circ_term.specs.declared.fault.TermFault.{TermFault}
use Rattle.circ_theory.specs.Theory.{Theory}
use Rattle.circ_entry.specs.Entries.{Numbered, derivative_at}
use Rattle.circ_expansion.specs.Expand.{Layer, At_place, By_entry}
use Rattle.circ_uses.specs.Valuations.{valued_by}
use Rattle.circ_uses.specs.declared.uses.Held.{Held}
use Rattle.circ_uses.specs.declared.uses.Layer.{Layer as Kept}
use Rattle.circ_uses.specs.declared.uses.Layer.TheVariants as layer

abbrev pub held_by : Theory → Held → Numbered
held_by th h = record { number = h.number; entry = record { derivative = derivative_at th h.number; parameters = valued_by h.params.value } }

-- the first entry is the last that is kept
abbrev pub entries_of : {A : Type 0} → Theory → List (Rc Held A) → List Numbered
entries_of th hs = map (λ h. held_by th h.value) (reverse hs)

abbrev pub layer_by : Theory → Kept → Layer
layer_by th (layer.Place term arg) = At_place (unwrap_or (operator_number term) 0) (sort_of term) arg (trees_of (args_of term))
layer_by th (layer.Entry held) = By_entry (held_by th held.value)

-- likewise
abbrev pub layers_of : {A : Type 0} → Theory → List (Rc Kept A) → List Layer
layers_of th ls = map (λ l. layer_by th l.value) (reverse ls)

-- the limit that the first of the terms passes that passes one
abbrev pub first_of : List Tree → Option Limit
first_of [] = None
first_of (t ∷ ts) = or_else (first_limit t) (first_of ts)

-- what a call answers that builds these terms, of which this is the last
abbrev pub BuildsLast : Result Tree TermFault → List Tree → Tree → Type 0
BuildsLast (Ok t) us u = (t ≡ u) × (first_of us ≡ None)
BuildsLast (Err e) us u = Names e (first_of us)
