-- A turn with hypotheses as rules.
use Rattle.std.proofs.Common.{◌≡◌, true, List, ap}
use Rattle.circ_theory.specs.Theory.{Theory}
use Rattle.circ_special.specs.declared.place.Place.{Place}
use Rattle.circ_attempt.specs.Search.{Conduct, Going, turn_rewriting}

pub with_rules : (th : Theory) (G : List Place) (l : Conduct) (x : Going) → l.rewrite ≡ true
    → turn_rewriting th G l x ≡ turn_rewriting th G (record { manner = l.manner; rewrite = true }) x
with_rules th G l x on = ap (λ b. turn_rewriting th G (record { manner = l.manner; rewrite = b }) x) on
