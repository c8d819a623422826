-- Terms of which some go again.
use Rattle.std.proofs.Common.{◌≡◌, ℕ, ◌≤◌, List, length, take, ap, subst, ◌∙◌, arith}
use Rattle.std.proofs.Math.Seq.{take-append_seam}
use Rattle.circ_term.specs.Growing.{Grows}
use Rattle.circ_term.specs.Tree.{Tree}
use Rattle.circ_nodes.proofs.Numbers.{grows_length}

-- what grew is as before once it is cut back
take_grown : (old new : List Tree) → Grows old new → take (length old) new ≡ old
take_grown old new g = ap (take (length old)) g.1 ∙ take-append_seam old g.0

pub within_grown : (old new : List Tree) (count : ℕ) → count ≡ length old → Grows old new → count ≤ length new
within_grown old new count e g = let l = grows_length old new g in omega (arith, e, l)

pub lighter_grows : (old new last : List Tree) (count : ℕ) → count ≡ length old → Grows old new → Grows (take count new) last → Grows old last
lighter_grows old new last count e g h =
    let P : List Tree → Type 0 = λ ts. Grows ts last in subst P (ap (λ n. take n new) e ∙ take_grown old new g) h
