-- What contracts see of lists of which several uses share the first items.
use Rattle.std.specs.Prelude.{◌≡◌, List, [], ◌∷◌, ◌++◌, map, take, Option, Some, None}
use Rattle.std.specs.declared.rc.Rc.{Rc}
use Rattle.std.proofs.Common.{Global}
use Rattle.circ_uses.specs.declared.fronts.Front.{Front}
use Rattle.circ_uses.specs.declared.fronts.Cut.{Cut}

abbrev pub front : {T : Type 0} → Front T → List (Rc T Global)
front f = take f.count f.items.value.items

-- what is shared
abbrev pub shared_in : {T : Type 0} → List (Rc T Global) → List T
shared_in xs = map (λ x. x.value) xs

-- the last item, and those before it
abbrev pub IsCut : {T : Type 0} → List (Rc T Global) → Option (Cut T) → Type 0
IsCut xs None = xs ≡ []
IsCut xs (Some c) = shared_in xs ≡ shared_in (front c.rest) ++ c.last.value ∷ []
