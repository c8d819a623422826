-- A part of a text.
use Rattle.std.proofs.Common.{◌≡◌, ◌≢◌, ◌-◌, ℕ, List, [], ◌++◌, length, take, drop, sym, ap, arith}
use Rattle.std.proofs.lemmas.List.{take-append-drop, length-drop}
use Rattle.circ_outer.specs.Sink.{AppendsPrefix}

pub prefix_front : (old new text : List ℕ) → AppendsPrefix old new text
    → (part : List ℕ) × ((rest : List ℕ) × ((rest ≢ []) × ((text ≡ part ++ rest) × (new ≡ old ++ part))))
prefix_front old new text a =
    let some : drop a.count text ≢ [] = λ e.
    let none : length (drop a.count text) ≡ 0 = ap length e in
    let left : length (drop a.count text) ≡ length text - a.count = length-drop a.count text in
    absurd (omega (arith, none, left, a.within)) in
    (take a.count text, (drop a.count text, (some, (sym (take-append-drop a.count text), a.text))))
