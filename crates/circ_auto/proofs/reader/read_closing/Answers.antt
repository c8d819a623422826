use Rattle.std.proofs.Common.{◌≡◌, List, Bool, false, replicate, length, map, sym, subst, arith}
use Rattle.std.proofs.lemmas.List.{length-map}
use Rattle.circ_auto.specs.Machine.{IsMachine}
use Rattle.circ_auto.specs.Parts.{marked, rows_part}
use Rattle.circ_auto.specs.Gives.{opening_of}
use Rattle.circ_auto.proofs.Texts.{closing_within}
use Rattle.circ_auto.proofs.reader.read_closing.Goals as goal

pub of-requires : goal.of-requires
of-requires c =
    let o = opening_of c.args.opening in
    let marks : c.in_ok-accepting.accepting.items ≡ marked (replicate c.args.opening.states false) c.in-Some.accepted.items = rw c.as_slice.ensures.value at c.in_ok-accepting.ensures in
    let P : List Bool → Type 0 = λ bs. IsMachine (record { letters = o.letters; start = o.start; accepting = bs; targets = c.in-Ok.targets.0.items }) in
    let ls = c.args.opening.letters in
    let same : length (map (λ w. w.items) ls.items) ≡ length ls.items = length-map ls.items (λ w. w.items) in
    let count : c.len.result ≡ length (map (λ w. w.items) ls.items) = omega (arith, c.len.ensures, ls.ok.0, same) in
    subst P (sym marks)
    (closing_within o c.in-Some.accepted.items c.in-Some.ahead c.in-Ok.targets.0.items c.in-Ok.targets.1 c.requires
    (sym (rw c.in-Some.is at c.in_ok-accepted.ensures)) (rw count at c.in-Ok.ensures))
