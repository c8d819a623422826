-- The last piece of a form.
use Rattle.std.proofs.Common.{◌≡◌, ◌≤◌, ◌-◌, suc, List, [], ◌∷◌, length, get_or, ap, ◌∙◌, arith}
use Rattle.circ_form.specs.declared.forms.Piece.{Piece}
use Rattle.circ_form.specs.Form.{is_hole_piece}
use Rattle.circ_statement.specs.Attributes.{ends_with_hole}

pub last_piece : (ps : List Piece) (p : Piece) → 1 ≤ length ps → p ≡ get_or ps (length ps - 1) p → is_hole_piece p ≡ ends_with_hole ps
last_piece [] p l e = absurd (omega arith)
last_piece (q ∷ []) p l e = ap is_hole_piece e
last_piece (q ∷ (r ∷ ps)) p l e =
    let n : suc (suc (length ps)) - 1 ≡ suc (suc (length ps) - 1) = omega arith in
    last_piece (r ∷ ps) p (omega arith) (e ∙ ap (λ k. get_or (q ∷ (r ∷ ps)) k p) n)
