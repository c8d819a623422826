-- What becomes of the values.
use Rattle.std.proofs.Common.{◌≡◌, ℕ, true, false, List, [], ◌∷◌, refl, ap, sym, ◌∙◌, subst}
use Rattle.circ_term.specs.Tree.{Tree}
use Rattle.circ_theory.specs.declared.way.Way.{Way}
use Rattle.circ_expansion.specs.Pieces.{Piece, Pieces, Parts, Cases_piece, no_piece, more_pieces, more_parts, pieces_joined, turned}
use Rattle.circ_expansion.specs.Expand.{Spending, Yields, Stopped, by_way, Expander, Background}
use Rattle.circ_expansion.specs.Machine.{Value, In_row, In_parts, put_behind, put_between, add_part, end_split, last_row}
use Rattle.circ_written.specs.Nodes.{ends_in_row, ends_in_parts}
use Rattle.circ_written.specs.Values.{and_link}

pub link_added : (vs us ws : List Value) (x : Pieces) (p : Piece) → vs ≡ In_row x ∷ us → ws ≡ In_row (pieces_joined x (more_pieces p no_piece)) ∷ us
    → ws ≡ and_link p vs
link_added vs us ws x p e f = f ∙ sym (ap (and_link p) e)

pub is_row_there : (vs us : List Value) (x : Pieces) → vs ≡ In_row x ∷ us → true ≡ ends_in_row vs
is_row_there vs us x e = sym (ap ends_in_row e)

module _ (run : Expander) (f : Background) (n : ℕ) where
  pub behind_put : (w : Way) (vs us ts ws : List Value) (x y : Pieces) → vs ≡ In_row y ∷ us → us ≡ In_row x ∷ ts
      → ws ≡ In_row (pieces_joined x (by_way w y)) ∷ ts → put_behind run f w vs n ≡ Yields ws n
  behind_put w vs us ts ws x y e g h =
      ap (λ q. put_behind run f w q n) (e ∙ ap (λ q. In_row y ∷ q) g) ∙ ap (λ q. Yields q n) (sym h)

  pub none_behind : (w : Way) (vs : List Value) → ends_in_row vs ≡ false → put_behind run f w vs n ≡ Stopped
  none_behind w [] e = refl
  none_behind w (In_row x ∷ vs) e = absurd (cc)
  none_behind w (In_parts ps ∷ vs) e = refl

  pub one_behind : (w : Way) (vs us : List Value) (y : Pieces) → vs ≡ In_row y ∷ us → ends_in_row us ≡ false → put_behind run f w vs n ≡ Stopped
  one_behind w vs us y e g = ap (λ q. put_behind run f w q n) e ∙ alone us g
    where
      alone : (us : List Value) → ends_in_row us ≡ false → put_behind run f w (In_row y ∷ us) n ≡ Stopped
      alone [] g = refl
      alone (In_row x ∷ us) g = absurd (cc)
      alone (In_parts ps ∷ us) g = refl

  pub between_put : (vs us ts qs ws : List Value) (x y z : Pieces) → vs ≡ In_row z ∷ us → us ≡ In_row y ∷ ts → ts ≡ In_row x ∷ qs
      → ws ≡ In_row (pieces_joined x (pieces_joined z (turned y))) ∷ qs → put_between run f vs n ≡ Yields ws n
  between_put vs us ts qs ws x y z e g h i =
      ap (λ q. put_between run f q n) (e ∙ ap (λ q. In_row z ∷ q) (g ∙ ap (λ q. In_row y ∷ q) h)) ∙ ap (λ q. Yields q n) (sym i)

  pub none_between : (vs : List Value) → ends_in_row vs ≡ false → put_between run f vs n ≡ Stopped
  none_between [] e = refl
  none_between (In_row x ∷ vs) e = absurd (cc)
  none_between (In_parts ps ∷ vs) e = refl

  pub one_between : (vs us : List Value) (z : Pieces) → vs ≡ In_row z ∷ us → ends_in_row us ≡ false → put_between run f vs n ≡ Stopped
  one_between vs us z e g = ap (λ q. put_between run f q n) e ∙ alone us g
    where
      alone : (us : List Value) → ends_in_row us ≡ false → put_between run f (In_row z ∷ us) n ≡ Stopped
      alone [] g = refl
      alone (In_row x ∷ us) g = absurd (cc)
      alone (In_parts ps ∷ us) g = refl

  pub two_between : (vs us ts : List Value) (y z : Pieces) → vs ≡ In_row z ∷ us → us ≡ In_row y ∷ ts → ends_in_row ts ≡ false
      → put_between run f vs n ≡ Stopped
  two_between vs us ts y z e g h = ap (λ q. put_between run f q n) (e ∙ ap (λ q. In_row z ∷ q) g) ∙ both ts h
    where
      both : (ts : List Value) → ends_in_row ts ≡ false → put_between run f (In_row z ∷ In_row y ∷ ts) n ≡ Stopped
      both [] h = refl
      both (In_row x ∷ ts) h = absurd (cc)
      both (In_parts ps ∷ ts) h = refl

  pub part_added : (vs us ts ws : List Value) (x : Pieces) (ps : Parts) → vs ≡ In_parts ps ∷ us → us ≡ In_row x ∷ ts
      → ws ≡ In_parts (more_parts x ps) ∷ ts → add_part run f vs n ≡ Yields ws n
  part_added vs us ts ws x ps e g h =
      ap (λ q. add_part run f q n) (e ∙ ap (λ q. In_parts ps ∷ q) g) ∙ ap (λ q. Yields q n) (sym h)

  pub no_parts_added : (vs : List Value) → ends_in_parts vs ≡ false → add_part run f vs n ≡ Stopped
  no_parts_added [] e = refl
  no_parts_added (In_row x ∷ vs) e = refl
  no_parts_added (In_parts ps ∷ vs) e = absurd (cc)

  pub no_row_added : (vs us : List Value) (ps : Parts) → vs ≡ In_parts ps ∷ us → ends_in_row us ≡ false → add_part run f vs n ≡ Stopped
  no_row_added vs us ps e g = ap (λ q. add_part run f q n) e ∙ alone us g
    where
      alone : (us : List Value) → ends_in_row us ≡ false → add_part run f (In_parts ps ∷ us) n ≡ Stopped
      alone [] g = refl
      alone (In_row x ∷ us) g = absurd (cc)
      alone (In_parts qs ∷ us) g = refl

  pub split_ended : (u : Tree) (vs us ws : List Value) (ps : Parts) → vs ≡ In_parts ps ∷ us
      → ws ≡ In_row (more_pieces (Cases_piece u ps) no_piece) ∷ us → end_split run f u vs n ≡ Yields ws n
  split_ended u vs us ws ps e h = ap (λ q. end_split run f u q n) e ∙ ap (λ q. Yields q n) (sym h)

  pub no_split_ended : (u : Tree) (vs : List Value) → ends_in_parts vs ≡ false → end_split run f u vs n ≡ Stopped
  no_split_ended u [] e = refl
  no_split_ended u (In_row x ∷ vs) e = refl
  no_split_ended u (In_parts ps ∷ vs) e = absurd (cc)

pub not_last : (vs : List Value) → ends_in_row vs ≡ false → (n : ℕ) → last_row vs n ≡ Stopped
not_last [] e n = refl
not_last (In_row x ∷ vs) e n = absurd (cc)
not_last (In_parts ps ∷ vs) e n = refl
