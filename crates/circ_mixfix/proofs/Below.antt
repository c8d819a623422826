-- No hole of an operator takes more than every precedence.
use Rattle.std.proofs.Common.{◌≡◌, ◌≤◌, ◌<◌, ◌++◌, ℕ, List, [], ◌∷◌, Bool, true, false, refl, arith}
use Rattle.std.specs.List.{list_any}
use Rattle.circ_form.specs.declared.forms.Piece.{Piece}
use Rattle.circ_form.specs.declared.forms.Piece.TheVariants as piece
use Rattle.circ_theory.specs.declared.parts.Side.{Side}
use Rattle.circ_theory.specs.declared.parts.Side.TheVariants.{Neither, Left, Right}
use Rattle.circ_theory.specs.Signature.{Operator}
use Rattle.circ_form.specs.Form.{is_hole_piece}
use Rattle.circ_mixfix.specs.Symbols.{Symbol, every, below_first, below_last, below_inner, inner_symbols, form_symbols, more_arguments, arguments, symbols_of, precedence_of}
use Rattle.circ_mixfix.specs.Coding.{AreBelow}

below_append : (ps qs : List Symbol) → AreBelow ps → AreBelow qs → AreBelow (ps ++ qs)
below_append [] qs a b = b
below_append (p ∷ ps) qs a b = (a.0, below_append ps qs a.1 b)

first_below : (p : ℕ) (side : Side) → p < every → below_first p side ≤ every
first_below p Neither h = omega arith
first_below p Left h = omega arith
first_below p Right h = omega arith

last_below : (p : ℕ) (side : Side) → p < every → below_last p side ≤ every
last_below p Neither h = omega arith
last_below p Left h = omega arith
last_below p Right h = omega arith

inner_below : (p : ℕ) (side : Side) (ps : List Piece) → p < every → below_inner p side ps ≤ every
inner_below p side [] h = omega arith
inner_below p side (q ∷ []) h = last_below p side h
inner_below p side (q ∷ r ∷ ps) h = omega arith

inner_symbols_below : (p : ℕ) (side : Side) (ps : List Piece) (ss : List ℕ) → p < every → AreBelow (inner_symbols p side ps ss)
inner_symbols_below p side [] ss h = tt
inner_symbols_below p side (piece.Word w ∷ ps) ss h = (tt, inner_symbols_below p side ps ss h)
inner_symbols_below p side (piece.Hole ∷ ps) [] h = tt
inner_symbols_below p side (piece.Hole ∷ ps) (s ∷ ss) h = (inner_below p side (piece.Hole ∷ ps) h, inner_symbols_below p side ps ss h)

form_below : (p : ℕ) (side : Side) (ps : List Piece) (ss : List ℕ) → p < every → AreBelow (form_symbols p side ps ss)
form_below p side [] ss h = tt
form_below p side (piece.Word w ∷ ps) ss h = inner_symbols_below p side (piece.Word w ∷ ps) ss h
form_below p side (piece.Hole ∷ ps) [] h = tt
form_below p side (piece.Hole ∷ ps) (s ∷ ss) h = (first_below p side h, inner_symbols_below p side ps ss h)

more_below : (ss : List ℕ) → AreBelow (more_arguments ss)
more_below [] = (tt, tt)
more_below (s ∷ ss) = (tt, (omega arith, more_below ss))

arguments_below : (ss : List ℕ) → AreBelow (arguments ss)
arguments_below [] = tt
arguments_below (s ∷ ss) = (tt, (omega arith, more_below ss))

pub symbols_below : (o : Operator) → precedence_of o < every → AreBelow (symbols_of o)
symbols_below o h = go (list_any is_hole_piece o.form) refl
  where
    go : (b : Bool) → list_any is_hole_piece o.form ≡ b → AreBelow (symbols_of o)
    go true e = rw e (form_below o.prec o.side o.form o.args (rw e at h))
    go false e = rw e (below_append (inner_symbols 0 o.side o.form []) (arguments o.args) (inner_symbols_below 0 o.side o.form [] (omega arith)) (arguments_below o.args))
