-- No rule is taken whose new term is the old one.
use Rattle.std.proofs.Common.{◌≡◌, ℕ, nat_lt, Bool, true, false, ◌==◌, ◌&&◌, ◌||◌, if◌then◌else◌, refl, ap, sym, subst, ◌∙◌, arith}
use Rattle.std.specs.Prelude.{not}
use Rattle.circ_term.specs.Tree.{Tree, Trees, Var, App, none, more, sizes_of}
use Rattle.circ_term.specs.Order.{is_same}
use Rattle.circ_term.proofs.Order.{same_itself}
use Rattle.circ_attempt.specs.Below.{is_below, are_below}
use Rattle.circ_attempt.specs.Rules.{HypothesisRule, may_take}

not_less : (n : ℕ) → nat_lt n n ≡ false
not_less n = grind arith

both_no : (a b c : Bool) → a ≡ false → c ≡ false → (a || (b && c)) ≡ false
both_no true b c e h = absurd (cc)
both_no false true c e h = h
both_no false false c e h = refl

mutual
  not_below : (t : Tree) → is_below t t ≡ false
  not_below (Var n s) = both_no (nat_lt n n) (n == n) (nat_lt s s) (not_less n) (not_less s)
  not_below (App f s ts) =
      both_no (nat_lt (sizes_of ts) (sizes_of ts)) (sizes_of ts == sizes_of ts) (nat_lt f f || ((f == f) && are_below ts ts)) (not_less (sizes_of ts))
      (both_no (nat_lt f f) (f == f) (are_below ts ts) (not_less f) (none_below ts))

  none_below : (ts : Trees) → are_below ts ts ≡ false
  none_below none = refl
  none_below (more t ts) = go (is_same t t) (not_below t) (none_below ts)
    where
      go : (b : Bool) → is_below t t ≡ false → are_below ts ts ≡ false → (if b then are_below ts ts else is_below t t) ≡ false
      go true x y = y
      go false x y = x

pub takes_another : (r : HypothesisRule) (new old : Tree) → may_take r new old ≡ true → new ≡ old → ⊥
takes_another r new old e same = go r.ordered (subst (λ t. (if r.ordered then is_below t old else not (is_same t old)) ≡ true) same e)
  where
    go : (b : Bool) → (if b then is_below old old else not (is_same old old)) ≡ true → ⊥
    go true x = absurd (let z = not_below old in cc)
    go false x = absurd (let z : is_same old old ≡ true = same_itself old in let y : not true ≡ true = ap not (sym z) ∙ x in cc)
