-- The automaton that the fields hold.
use Rattle.std.specs.Prelude.{ℕ, Bool, map}
use Rattle.std.specs.Global.{Vec}
use Rattle.circ_auto.specs.declared.automaton.Automaton.TheInside.{Inside}
use Rattle.circ_auto.specs.Machine.{Machine}

abbrev pub parts_of : Vec (Vec ℕ) → ℕ → Vec Bool → Vec ℕ → Machine
parts_of letters start accepting targets =
    record { letters = map (λ v. v.items) letters.items; start = start; accepting = accepting.items; targets = targets.items }

abbrev pub machine_of : Inside → Machine
machine_of a = parts_of a.letters a.start a.accepting a.targets
