-- What is handed out.
use Rattle.std.proofs.Common.{◌≡◌, ◌++◌, ℕ, List, [], length, refl, ap, sym, subst}
use lib.Seq.{take-nil}
use Rattle.circ_page.specs.Page.{HandsOut, ComesOfPage}

pub handed_moved : {bytes other room filled : List ℕ} {n : ℕ} → bytes ≡ other → HandsOut bytes room filled n → HandsOut other room filled n
handed_moved {bytes} {other} {room} {filled} {n} e = subst (λ b. HandsOut b room filled n) e

pub nothing_handed : (room : List ℕ) → HandsOut [] room room 0
nothing_handed room = record { counted = refl; moved = ap (λ l. l ++ room) (sym (take-nil (length room))) }

pub number_moved : {words theory goals proof text stored : List ℕ} {n m : ℕ} → n ≡ m → ComesOfPage words theory goals proof n text stored
    → ComesOfPage words theory goals proof m text stored
number_moved {words} {theory} {goals} {proof} {text} {stored} e = subst (λ k. ComesOfPage words theory goals proof k text stored) e
