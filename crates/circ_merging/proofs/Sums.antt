-- Sums of canonical terms.
use Rattle.std.proofs.Common.{◌≡◌, ℕ, ◌==◌, ◌&&◌, Bool, true, cond, List, [], ◌∷◌, ◌++◌, None}
use Rattle.std.proofs.Common.{is_none, refl, sym, ap, subst, ◌∙◌, inl, inr}
use Rattle.std.proofs.lemmas.Bool.{cases_Bool, and_parts}
use Rattle.circ_term.specs.Tree.{Tree, App, none, more}
use Rattle.circ_term.specs.Order.{is_same, comes_before}
use Rattle.circ_theory.specs.Signature.{Operator}
use Rattle.circ_theory.specs.Theory.{twice}
use Rattle.circ_theory.specs.Operators.{has_mark}
use Rattle.circ_aci.specs.Content.{settled, leaves}
use Rattle.circ_aci.specs.Canonical.{join, canonical}
use Rattle.circ_aci.specs.Operands.{operands}
use Rattle.circ_aci.specs.Row.{may_follow, first_in, is_row}
use Rattle.circ_aci.proofs.Again.{content_many}
use Rattle.circ_aci.proofs.Finding.{leaves_leaf}
use Rattle.circ_aci.proofs.Rows.{InRow, in_row, rows_settled, is_none_so}
use Rattle.circ_merging.specs.Put.{put_by, put_in, put_row, merged}
use Rattle.circ_merging.proofs.Putting.{one_more}
use Rattle.circ_merging.proofs.Own.{row_own}
use Rattle.circ_merging.proofs.Merging.{merge_settles, one_at_the_end}

-- what a canonical term joins, in a row
pub own_row : (o : Operator) (f : ℕ) (t : Tree) → has_mark o ≡ true → o.assoc ≡ true → canonical o f t ≡ t → InRow o f t
own_row o f t m c e = in_row o f t ((row_own o f t m c).1 e)

own_settled : (o : Operator) (f : ℕ) (t : Tree) → InRow o f t → settled o (leaves f t) ≡ leaves f t
own_settled o f t r = ap (settled o) r.starts ∙ rows_settled o (first_in f t) r.rest r.rows ∙ sym r.starts

pub sums : (o : Operator) (f k : ℕ) (a b : Tree) → has_mark o ≡ true → o.assoc ≡ true → canonical o f a ≡ a → canonical o f b ≡ b
    → canonical o f (twice f k a b) ≡ join f o.result (merged o (leaves f a) (leaves f b))
sums o f k a b m c p q =
    let r = own_row o f a m c p in
    let s = own_row o f b m c q in
    let both : settled o (leaves f a ++ leaves f b) ≡ merged o (leaves f a) (leaves f b) =
    ap (λ xs. settled o (xs ++ leaves f b)) r.starts
    ∙ ap (λ ys. settled o ((first_in f a ∷ r.rest) ++ ys)) s.starts
    ∙ merge_settles o (first_in f a ∷ r.rest) (first_in f b) s.rest r.rows s.rows
    ∙ ap (λ xs. merged o xs (first_in f b ∷ s.rest)) (sym r.starts)
    ∙ ap (merged o (leaves f a)) (sym s.starts) in
    ap (join f o.result) (content_many o f k a b m c ∙ both)

-- ---- one more summand, put into the term

abbrev PutsOne : (o : Operator) (f : ℕ) (a t : Tree) → Tree → Type 0
PutsOne o f a t u = join f o.result (put_in o a (t ∷ [])) ≡ u

put_one : (o : Operator) (f : ℕ) (a t : Tree)
    → join f o.result (put_in o a (t ∷ []))
    ≡ cond (o.comm && comes_before t a) (twice f o.result t a) (cond (o.idem && is_same t a) t (twice f o.result a t))
put_one o f a t = elim (cases_Bool (o.comm && comes_before t a)) [
  | inl before ↦ rw before refl
  | inr after ↦ elim (cases_Bool (o.idem && is_same t a)) [
    | inl same ↦ rw (after, same) refl
    | inr other ↦ rw (after, other) refl
  ]
]

-- at least one entry
put_some : (c i : Bool) (a y : Tree) (ys : List Tree) → (z : Tree) × (zs : List Tree) × (put_by c i a (y ∷ ys) ≡ z ∷ zs)
put_some c i a y ys = elim (cases_Bool (c && comes_before y a)) [
  | inl before ↦ (y, put_by c i a ys, rw before refl)
  | inr after ↦ elim (cases_Bool (i && is_same y a)) [
    | inl same ↦ (y, ys, rw (after, same) refl)
    | inr other ↦ (a, y ∷ ys, rw (after, other) refl)
  ]
]

pub put_joined : (o : Operator) (f : ℕ) (a t : Tree) → is_row o f t ≡ true → join f o.result (put_in o a (leaves f t)) ≡ put_row o f a t
put_joined o f a (App g s (more x (more y none))) e = elim (cases_Bool (f == g)) [
  | inl q ↦ on_two q (rw q at e) (λ h. put_joined o f a y h)
  | inr n ↦ rw n (put_one o f a (App g s (more x (more y none))))
]
  where
    t : Tree
    t = App g s (more x (more y none))

    on_two : (f == g) ≡ true → ((s == o.result) && (is_none (operands f x) && (may_follow o x (first_in f y) && is_row o f y))) ≡ true
        → (is_row o f y ≡ true → join f o.result (put_in o a (leaves f y)) ≡ put_row o f a y)
        → join f o.result (put_in o a (leaves f t)) ≡ put_row o f a t
    on_two q e ih =
        let h = and_parts (s == o.result) (is_none (operands f x) && (may_follow o x (first_in f y) && is_row o f y)) e in
        let i = and_parts (is_none (operands f x)) (may_follow o x (first_in f y) && is_row o f y) h.1 in
        let j = and_parts (may_follow o x (first_in f y)) (is_row o f y) i.1 in
        let below = in_row o f y j.1 in
        let here = in_row o f t (rw q e) in
        let row : leaves f t ≡ x ∷ leaves f y = rw q (ap (λ xs. xs ++ leaves f y) (leaves_leaf f x (is_none_so (operands f x) i.0))) in
        let whole : join f o.result (leaves f t) ≡ t = ap (join f o.result) here.starts ∙ here.joined in
        let some = put_some o.comm o.idem a (first_in f y) below.rest in
        ap (λ xs. join f o.result (put_in o a xs)) row
        ∙ elim (cases_Bool (o.comm && comes_before x a)) [
          | inl before ↦ rw (q, before)
              (let Q : List Tree → Type 0 = λ zs. join f o.result (x ∷ zs) ≡ twice f o.result x (join f o.result zs) in
              subst Q (sym some.2 ∙ ap (put_in o a) (sym below.starts)) refl ∙ ap (twice f o.result x) (ih j.1))
          | inr after ↦ elim (cases_Bool (o.idem && is_same x a)) [
            | inl same ↦ rw (q, after, same) (ap (join f o.result) (sym row) ∙ whole)
            | inr other ↦ rw (q, after, other) (ap (twice f o.result a) (ap (join f o.result) (sym row) ∙ whole))
          ]
        ]
put_joined o f a t e = put_one o f a t

pub one_summand : (o : Operator) (f k : ℕ) (a b : Tree) → has_mark o ≡ true → o.assoc ≡ true → operands f a ≡ None → canonical o f b ≡ b
    → canonical o f (twice f k a b) ≡ put_row o f a b
one_summand o f k a b m c n e =
    ap (join f o.result)
    (content_many o f k a b m c
    ∙ ap (λ xs. settled o (xs ++ leaves f b)) (leaves_leaf f a n)
    ∙ one_more o a (leaves f b)
    ∙ ap (put_in o a) (own_settled o f b (own_row o f b m c e)))
    ∙ put_joined o f a b ((row_own o f b m c).1 e)

pub one_summand_at_the_end : (o : Operator) (f k : ℕ) (a b : Tree) → has_mark o ≡ true → o.assoc ≡ true → o.comm ≡ true
    → canonical o f a ≡ a → operands f b ≡ None → canonical o f (twice f k a b) ≡ put_row o f b a
one_summand_at_the_end o f k a b m c d e n =
    ap (join f o.result)
    (content_many o f k a b m c
    ∙ ap (λ xs. settled o (leaves f a ++ xs)) (leaves_leaf f b n)
    ∙ one_at_the_end o b (leaves f a) d
    ∙ ap (put_in o b) (own_settled o f a (own_row o f a m c e)))
    ∙ put_joined o f b a ((row_own o f a m c).1 e)
