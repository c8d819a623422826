-- Operators and their keys.
use Rattle.std.proofs.Common.{◌≡◌, ◌&&◌, nat_eq, List, [], ◌∷◌, map, refl, ap, sym, ◌∙◌}
use Rattle.std.specs.Bool.{Decides}
use Rattle.std.specs.List.{AllByRecursion, position}
use Rattle.std.specs.Cmp.Lexicographic.{pointwise, pointwise_decides, bytes_decides}
use Rattle.std.proofs.lemmas.Bool.Decides.{same_from_decides}
use Rattle.circ_form.specs.declared.forms.Piece.{Piece}
use Rattle.circ_form.specs.declared.forms.Piece.TheVariants.{Hole, Word}
use Rattle.circ_theory.specs.declared.parts.OpDecl.{OpDecl}
use Rattle.circ_theory.specs.declared.theories.OpKey.{OpKey}
use Rattle.circ_form.specs.Form.{pieces_of, text_of}
use Rattle.circ_theory.specs.Signature.{Operator}
use Rattle.circ_form.specs.Form.{is_same_piece}
use Rattle.circ_theory.specs.Operators.{operator_of, is_same_operator}
use Rattle.circ_theory.specs.Inside.{IsKeyOf, IsEntry}
use Rattle.circ_theory.proofs.Lists.{position-map, position-same}

piece_decides : (p q : Piece) → Decides (is_same_piece p q) (p ≡ q)
piece_decides Hole Hole = (λ _. refl, λ _. refl)
piece_decides Hole (Word w) = (λ e. absurd (cc), λ e. absurd (cc))
piece_decides (Word v) Hole = (λ e. absurd (cc), λ e. absurd (cc))
piece_decides (Word v) (Word w) = (λ e. ap Word ((bytes_decides v w).0 e), λ e. (bytes_decides v w).1 (cc))

-- forms that give themselves back by their texts are the same where the texts are
same_form : (ps qs : List Piece) → pieces_of (text_of ps) ≡ ps → pieces_of (text_of qs) ≡ qs
    → pointwise nat_eq (text_of ps) (text_of qs) ≡ pointwise is_same_piece ps qs
same_form ps qs p q =
    same_from_decides (pointwise nat_eq (text_of ps) (text_of qs)) (pointwise is_same_piece ps qs)
    (λ e. sym p ∙ ap pieces_of ((bytes_decides (text_of ps) (text_of qs)).0 e) ∙ q, λ e. (bytes_decides (text_of ps) (text_of qs)).1 (ap text_of e))
    (pointwise_decides piece_decides ps qs)

pub same_key : (k j : OpKey) (o p : Operator) → IsKeyOf k o → IsKeyOf j p
    → (pointwise nat_eq k.form.items j.form.items && pointwise nat_eq k.args.items j.args.items) ≡ is_same_operator o p
same_key k j o p a b = rw (a.form, b.form, a.args, b.args) (ap (λ x. x && pointwise nat_eq o.args p.args) (same_form o.form p.form a.is_form.cut b.is_form.cut))

entries_same : (k : OpKey) (o : Operator) → IsKeyOf k o → (es : List (OpKey × OpDecl)) → AllByRecursion IsEntry es
    → AllByRecursion (λ e. (pointwise nat_eq k.form.items e.0.form.items && pointwise nat_eq k.args.items e.0.args.items) ≡ is_same_operator o (operator_of e.1)) es
entries_same k o a [] h = tt
entries_same k o a (e ∷ es) h = (same_key k e.0 o (operator_of e.1) a h.0, entries_same k o a es h.1)

-- the place of a key is the number of its operator
pub key_position : (k : OpKey) (o : Operator) (es : List (OpKey × OpDecl)) → IsKeyOf k o → AllByRecursion IsEntry es
    → position (λ j. pointwise nat_eq k.form.items j.form.items && pointwise nat_eq k.args.items j.args.items) (map (λ e. e.0) es)
    ≡ position (is_same_operator o) (map (λ e. operator_of e.1) es)
key_position k o es a h =
    position-map (λ j. pointwise nat_eq k.form.items j.form.items && pointwise nat_eq k.args.items j.args.items) (λ e. e.0) es
    ∙ position-same (λ e. pointwise nat_eq k.form.items e.0.form.items && pointwise nat_eq k.args.items e.0.args.items) (λ e. is_same_operator o (operator_of e.1)) es (entries_same k o a es h)
    ∙ sym (position-map (is_same_operator o) (λ e. operator_of e.1) es)
