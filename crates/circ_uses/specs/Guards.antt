-- What contracts see of the case by which an occurrence is guarded.
use Rattle.std.specs.Prelude.{ℕ, List, Bool, true, false, not, take, if◌then◌else◌, Option, Some, None}
use Rattle.std.specs.Option.{option_map_or}
use Rattle.circ_term.specs.Tree.{Tree, sort_of}
use Rattle.circ_theory.specs.Theory.{Theory, Derivative}
use Rattle.circ_theory.specs.Observing.{is_hidden}
use Rattle.circ_special.specs.declared.place.Place.{Place}
use Rattle.circ_expansion.specs.Expand.{above_hole, is_special_path, Case, Visible_case, Place_case, Hidden_case, No_case}
use Rattle.circ_uses.specs.declared.guards.Guard.{Guard}
use Rattle.circ_uses.specs.declared.guards.Guard.TheVariants as guard

-- at this path
abbrev pub plain_guard : List ℕ → Guard → Case
plain_guard p (guard.Visible number above) = Visible_case number (take above p)
plain_guard p guard.Place = Place_case
plain_guard p (guard.Hidden number above) = Hidden_case number (take above p)
plain_guard p guard.Nothing = No_case

-- the path above an instance of the derivative, which is visible
abbrev pub visible_above : Theory → Derivative → Tree → List ℕ → Option (List ℕ)
visible_above th d t p = if is_hidden th (sort_of d.body) then None else above_hole d t p

-- .. which is hidden, where that path is special
abbrev pub hidden_above : Theory → List Place → Derivative → Tree → List ℕ → Option (List ℕ)
hidden_above th G d t p =
    if is_hidden th (sort_of d.body) then option_map_or (λ q. if is_special_path G t q then Some q else None) (above_hole d t p) None else None

abbrev pub is_as : Bool → Bool → Bool
is_as true b = b
is_as false b = not b
