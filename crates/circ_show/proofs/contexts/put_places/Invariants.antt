use Rattle.std.proofs.Common.{◌≡◌, ◌++◌, drop}
use Rattle.circ_show.specs.PlacesText.{place_lines}
use Rattle.circ_show.proofs.contexts.put_places.Given as goal

abbrev pub invariant-loop-place : goal.invariant-loop-place
invariant-loop-place l =
    l.out.items ++ place_lines l.theory.signature (drop l.place-index l.places) ≡ l.fn.out.items ++ place_lines l.theory.signature l.places
