-- When a term is its own canonical form.
use Rattle.std.proofs.Common.{◌≡◌, ◌↔◌, ℕ, ◌<◌, ◌==◌, ◌&&◌, not, Bool, true, false, cond, List, [], ◌∷◌, Option, Some, None, Result, Ok, Err, IfOk, unwrap_or, refl, ap, sym, subst, ◌∙◌, arith, inl, inr}
use Rattle.std.specs.List.{slice_get, dedup}
use Rattle.std.specs.Option.{option_map}
use Rattle.std.proofs.lemmas.Bool.{cases_Bool}
use Rattle.circ_term.specs.Tree.{Tree, App, none, more, sort_of, depth_of, args_of}
use Rattle.circ_term.specs.Order.{is_same, comes_before}
use Rattle.circ_theory.specs.Signature.{Signature, Operator}
use Rattle.circ_theory.specs.Theory.{twice}
use Rattle.circ_theory.specs.Operators.{has_mark}
use Rattle.circ_aci.specs.Content.{settled}
use Rattle.circ_aci.specs.Canonical.{join, canonical, canonical_under}
use Rattle.circ_aci.specs.Operands.{operands, marked_operands}
use Rattle.circ_aci.proofs.Deriving.{other_way}
use Rattle.circ_aci.proofs.Again.{content_two}
use Rattle.circ_aci.proofs.Finding.{marked_on, content_of_one}
use Rattle.circ_aci.proofs.Rows.{two_told}
use Rattle.circ_merging.proofs.Own.{own_with_assoc, canonical_alone}
use Rattle.circ_forms.specs.Named.{AreOwn}
use Rattle.circ_forms.specs.Ways.{MayJoinBy, MayJoin, IsWay}
use Rattle.circ_forms.specs.declared.deciding.Way.{Way}
use Rattle.circ_forms.specs.declared.deciding.Way.TheVariants.{Same, Two, Merged, Joined}

-- ---- the operands

-- f stands on a and b at the top of t, and has a mark
pub record IsMarkedOn (o : Operator) (f : ℕ) (t a b : Tree) : Type 0 where
  pub mark : has_mark o ≡ true
  pub sort : ℕ
  pub is : t ≡ twice f sort a b
  pub first_less : depth_of a < depth_of t
  pub second_less : depth_of b < depth_of t

pub is_marked_on : (o : Operator) (f : ℕ) (t a b : Tree) → marked_operands o f t ≡ Some (a, b) → IsMarkedOn o f t a b
is_marked_on o f t a b e =
    let h = marked_on o f t a b (sym e) in
    let d = ap depth_of h.1.is in
    record { mark = h.0; sort = h.1.sort; is = h.1.is; first_less = omega (arith, d); second_less = omega (arith, d) }

-- an operator that has no operands with a mark
pub alone : (o : Operator) (f : ℕ) (t : Tree) → marked_operands o f t ≡ None → canonical o f t ≡ t
alone o f t e = elim (cases_Bool (has_mark o)) [
  | inl m ↦ canonical_alone o f t (rw m at e)
  | inr n ↦ unmarked t n
]
  where
    unmarked : (t : Tree) → has_mark o ≡ false → canonical o f t ≡ t
    unmarked (App g s (more a (more b none))) n = elim (cases_Bool (f == g)) [
      | inl q ↦ rw (q, n) refl
      | inr q ↦ rw q refl
    ]
    unmarked t n = refl

-- ---- the tests

pub joins_told : (o : Operator) (f : ℕ) (t a b : Tree) → marked_operands o f t ≡ Some (a, b)
    → ((sort_of t ≡ o.result) × MayJoin o f a b) ↔ (canonical o f t ≡ t)
joins_told o f t a b e =
    let h = is_marked_on o f t a b e in
    let P : Tree → Type 0 = λ u. ((sort_of u ≡ o.result) × MayJoin o f a b) ↔ (canonical o f u ≡ u) in
    subst P (sym h.is) (by o.assoc refl h.sort h.mark)
  where
    by : (c : Bool) → o.assoc ≡ c → (k : ℕ) → has_mark o ≡ true
        → ((k ≡ o.result) × MayJoin o f a b) ↔ (canonical o f (twice f k a b) ≡ twice f k a b)
    by true c k m =
        let Q : Bool → Type 0 = λ d. ((k ≡ o.result) × MayJoinBy d o f a b) ↔ (canonical o f (twice f k a b) ≡ twice f k a b) in
        let told = own_with_assoc o f k a b m c in
        let all : Q true = ((λ h. told.0 (h.0, h.1.0, h.1.1, h.1.2)), (λ h. let x = told.1 h in (x.0, (x.1, x.2, x.3)))) in
        subst Q (sym c) all
    by false c k m =
        let Q : Bool → Type 0 = λ d. ((k ≡ o.result) × MayJoinBy d o f a b) ↔ (canonical o f (twice f k a b) ≡ twice f k a b) in
        subst Q (sym c) (two_told o f k a b m c)

-- ---- under each operator

canonical_found : (sig : Signature) (f : ℕ) (o : Operator) (t : Tree) → slice_get sig.ops f ≡ Some o → canonical_under sig f t ≡ canonical o f t
canonical_found sig f o t e = ap (λ p. unwrap_or (option_map (λ q. canonical q f t) p) t) e

pub under_found : (sig : Signature) (f : ℕ) (o : Operator) (t : Tree) → slice_get sig.ops f ≡ Some o → canonical_under sig f t ≡ t → canonical o f t ≡ t
under_found sig f o t e h = sym (canonical_found sig f o t e) ∙ h

pub found_under : (sig : Signature) (f : ℕ) (o : Operator) (t : Tree) → slice_get sig.ops f ≡ Some o → canonical_under sig f t ≡ canonical o f t
found_under = canonical_found

pub under_alone : (sig : Signature) (g : ℕ) (t : Tree) → operands g t ≡ None → canonical_under sig g t ≡ t
under_alone sig g t e = by (slice_get sig.ops g)
  where
    by : (p : Option Operator) → unwrap_or (option_map (λ o. canonical o g t) p) t ≡ t
    by None = refl
    by (Some o) = canonical_alone o g t e

-- the second operand of a term whose arguments are their own canonical forms
pub second_own : (sig : Signature) (f : ℕ) (o : Operator) (t a b : Tree) → slice_get sig.ops f ≡ Some o → AreOwn sig f (args_of t) → marked_operands o f t ≡ Some (a, b)
    → canonical o f b ≡ b
second_own sig f o t a b e own m =
    let s = is_marked_on o f t a b m in
    let args : args_of t ≡ a ∷ b ∷ [] = ap args_of s.is in
    let both : AreOwn sig f (a ∷ b ∷ []) = subst (AreOwn sig f) args own in
    under_found sig f o b e both.1.0

-- ---- the ways

counted : (i s : Bool) → (i && s) ≡ ((i && true) && s)
counted true s = refl
counted false s = refl

pub way_repeated : (o : Operator) (f : ℕ) (t a b : Tree) (r : Bool) → marked_operands o f t ≡ Some (a, b) → o.assoc ≡ false
    → r ≡ (o.idem && is_same a b) → r ≡ true → canonical o f t ≡ canonical o f a
way_repeated o f t a b r e c is h =
    let Q : Bool → Type 0 = λ d. (o.idem && is_same a b) ≡ (o.idem && not d && is_same a b) in
    let same : (o.idem && is_same a b) ≡ (o.idem && not o.assoc && is_same a b) = subst Q (sym c) (counted o.idem (is_same a b)) in
    sym (ap (join f o.result) (content_of_one o f t a b (sym e) r (is ∙ same) h))

-- what two terms that count both settle to
pub two_settle : (o : Operator) (a b : Tree) → (o.idem && is_same a b) ≡ false
    → settled o (a ∷ b ∷ []) ≡ cond (o.comm && comes_before b a) (b ∷ a ∷ []) (a ∷ b ∷ [])
two_settle o a b n = by o.comm o.idem n (comes_before b a) refl
  where
    settle : Bool → Bool → Bool → List Tree
    settle c i r =
        let us = cond c (cond r (b ∷ a ∷ []) (a ∷ b ∷ [])) (a ∷ b ∷ []) in
        cond i (dedup is_same us) us

    by : (c i : Bool) → (i && is_same a b) ≡ false → (r : Bool) → comes_before b a ≡ r
        → settle c i r ≡ cond (c && r) (b ∷ a ∷ []) (a ∷ b ∷ [])
    by true true n true e = rw n refl
    by true true n false e = rw (other_way a b n) refl
    by true false n r e = refl
    by false true n r e = rw (other_way a b n) refl
    by false false n r e = refl

if_apart : (i s : Bool) → (i && s) ≡ false → i ≡ true → s ≡ false
if_apart true s n e = n
if_apart false s n e = absurd (cc)

pub way_two : (o : Operator) (f : ℕ) (t a b : Tree) → marked_operands o f t ≡ Some (a, b) → o.assoc ≡ false → (o.idem && is_same a b) ≡ false
    → canonical o f t ≡ join f o.result (cond (o.comm && comes_before b a) (b ∷ a ∷ []) (a ∷ b ∷ []))
way_two o f t a b e c n =
    let h = is_marked_on o f t a b e in
    ap (canonical o f) h.is
    ∙ ap (join f o.result) (content_two o f h.sort a b h.mark c (if_apart o.idem (is_same a b) n) ∙ two_settle o a b n)

pub way_before : (o : Operator) (f : ℕ) (t a b : Tree) (r : Bool) → marked_operands o f t ≡ Some (a, b) → o.assoc ≡ false → (o.idem && is_same a b) ≡ false
    → r ≡ (o.comm && comes_before b a) → r ≡ true → canonical o f t ≡ twice f o.result b a
way_before o f t a b r e c n is h = way_two o f t a b e c n ∙ ap (λ d. join f o.result (cond d (b ∷ a ∷ []) (a ∷ b ∷ []))) (sym is ∙ h)

pub way_behind : (o : Operator) (f : ℕ) (t a b : Tree) (r : Bool) → marked_operands o f t ≡ Some (a, b) → o.assoc ≡ false → (o.idem && is_same a b) ≡ false
    → r ≡ (o.comm && comes_before b a) → r ≡ false → canonical o f t ≡ twice f o.result a b
way_behind o f t a b r e c n is h = way_two o f t a b e c n ∙ ap (λ d. join f o.result (cond d (b ∷ a ∷ []) (a ∷ b ∷ []))) (sym is ∙ h)

-- a way to a canonical form is a way to it from each term that has it
pub way_moves : (nodes : List Tree) (o : Operator) (f : ℕ) (t u : Tree) → canonical o f t ≡ canonical o f u → (w : Way) → IsWay nodes o f u w → IsWay nodes o f t w
way_moves nodes o f t u e (Same n) h = (h.0, e ∙ h.1)
way_moves nodes o f t u e (Two a b) h = (h.0, h.1, e ∙ h.2)
way_moves nodes o f t u e (Merged a b) h = (h.0, h.1, h.2, h.3, h.4, h.5, e ∙ h.6)
way_moves nodes o f t u e (Joined a b) h = (h.0, h.1, h.2, h.3, e ∙ h.4)

pub if_moves : {E : Type 0} (nodes : List Tree) (o : Operator) (f : ℕ) (t u : Tree) → canonical o f t ≡ canonical o f u → (r : Result Way E)
    → IfOk r (IsWay nodes o f u) → IfOk r (IsWay nodes o f t)
if_moves nodes o f t u e (Ok w) h = way_moves nodes o f t u e w h
if_moves nodes o f t u e (Err x) h = tt
