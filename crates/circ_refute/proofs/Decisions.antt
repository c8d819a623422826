-- What is found of goals in order.
use Rattle.std.proofs.Common.{◌≡◌, ℕ, ◌+◌, ◌-◌, ◌≤◌, ◌<◌, zero, suc, length, map, drop, get_or, List, [], ◌∷◌, ◌++◌, Vec, Global, Result, Ok, Err, refl, ap, sym, ◌∙◌, subst, arith}
use Rattle.std.specs.Prelude.{IfOk}
use Rattle.std.specs.List.{slice_get, AllByRecursion}
use Rattle.circ_term.proofs.Within.{drop_read}
use Rattle.circ_theory.specs.Theory.{Theory}
use Rattle.circ_theory.specs.WellFormed.{IsWellFormed}
use Rattle.circ_theory.specs.Goal.{Goal}
use Rattle.circ_plain_search.specs.PlainSearch.{IsSearchable}
use Rattle.circ_plain_search.proofs.Led.{all_append}
use Rattle.circ_refute.specs.PlainRefutation.{Refuted, Told_apart, Alike, Spent, Past_limit, Conclusion, conclude, Decision, decide, unless_alike, refutation, refutations, goals_in}
use Rattle.circ_refute.specs.Difference.{IsRight, IsRightOf, IsRightDecision}
use Rattle.circ_refute.specs.Plain.{plain_refuted, plain_decision}
use Rattle.circ_refute.specs.declared.refuted.Decision.{Decision as TheDecision}
use Rattle.circ_refute.specs.declared.refuted.Refuted.{Refuted as TheRefuted}
use Rattle.circ_refute.specs.declared.refuted.Refuted.TheVariants as refuted
use Rattle.circ_refute.proofs.Differences.{refutation_right}

-- ---- the goals that decide

-- it is the first
right_here : (th : Theory) (i : ℕ) (g : Goal) (gs : List Goal) (r : Refuted) → IsRight th g r → IsRightOf th i (g ∷ gs) i r
right_here th i g gs (Told_apart ws l m) h = let z : 0 ≡ i - i = omega arith in (g, ap (slice_get (g ∷ gs)) (sym z), h, omega arith)
right_here th i g gs Alike h = tt
right_here th i g gs Spent h = tt
right_here th i g gs (Past_limit x) h = tt

-- it is one of the others
right_later : (th : Theory) (i n : ℕ) (g : Goal) (gs : List Goal) (r : Refuted) → i + 1 ≤ n → IsRightOf th (i + 1) gs n r → IsRightOf th i (g ∷ gs) n r
right_later th i n g gs (Told_apart ws l m) h x =
    let z : n - i ≡ suc (n - (i + 1)) = omega (arith, h) in (x.0, ap (slice_get (g ∷ gs)) z ∙ x.1, x.2, omega (arith, h))
right_later th i n g gs Alike h x = tt
right_later th i n g gs Spent h x = tt
right_later th i n g gs (Past_limit limit) h x = tt

-- the numbers go up
number_up : (th : Theory) (i d n : ℕ) (gs : List Goal) → i ≤ (refutations th i d n gs).goal
number_up th i d n [] = omega arith
number_up th i d n (g ∷ gs) =
    go (refutation th d n g).refuted (number_up th (i + 1) (refutation th d n g).derives (refutation th d n g).rewrites gs)
  where
    go : (r : Refuted) → i + 1 ≤ (refutations th (i + 1) (refutation th d n g).derives (refutation th d n g).rewrites gs).goal
        → i ≤ (unless_alike r (decide i (refutation th d n g)) (refutations th (i + 1) (refutation th d n g).derives (refutation th d n g).rewrites gs)).goal
    go (Told_apart ws l m) h = omega arith
    go Alike h = omega (arith, h)
    go Spent h = omega arith
    go (Past_limit x) h = omega arith

module _ (th : Theory) (ok : IsWellFormed th) where
  refutations_right : (gs : List Goal) → AllByRecursion (IsSearchable th) gs → (i d n : ℕ)
      → IsRightOf th i gs (refutations th i d n gs).goal (refutations th i d n gs).conclusion.refuted
  refutations_right [] a i d n = tt
  refutations_right (g ∷ gs) a i d n = go c.refuted refl (refutations_right gs a.1 (i + 1) c.derives c.rewrites)
    where
      c : Conclusion
      c = refutation th d n g

      next : Decision
      next = refutations th (i + 1) c.derives c.rewrites gs

      this : (r : Refuted) → c.refuted ≡ r → IsRightOf th i (g ∷ gs) i c.refuted
      this r e = right_here th i g gs c.refuted (refutation_right th ok g a.0 d n)

      go : (r : Refuted) → c.refuted ≡ r → IsRightOf th (i + 1) gs next.goal next.conclusion.refuted
          → IsRightOf th i (g ∷ gs) (unless_alike r (decide i c) next).goal (unless_alike r (decide i c) next).conclusion.refuted
      go Alike e h = right_later th i next.goal g gs next.conclusion.refuted (number_up th (i + 1) c.derives c.rewrites gs) h
      go (Told_apart ws l m) e h = this (Told_apart ws l m) e
      go Spent e h = this Spent e
      go (Past_limit x) e h = this (Past_limit x) e

  pub decision_right : (gs : List Goal) → AllByRecursion (IsSearchable th) gs → (d n : ℕ) → IsRightDecision th gs (refutations th 1 d n gs)
  decision_right gs a d n = refutations_right gs a 1 d n

-- the goals of blocks have what each goal of each block has
pub all_in_blocks : (P : Goal → Type 0) (bs : List (List Goal)) → AllByRecursion (λ b. AllByRecursion P b) bs → AllByRecursion P (goals_in bs)
all_in_blocks P [] a = tt
all_in_blocks P (b ∷ bs) a = all_append P b (goals_in bs) a.0 (all_in_blocks P bs a.1)

-- ---- one goal, one block more

-- the goal decides
pub decides : (th : Theory) (i d n : ℕ) (g : Goal) (gs : List Goal) (c : Conclusion) → refutation th d n g ≡ c
    → refutations th i d n (g ∷ gs) ≡ unless_alike c.refuted (decide i c) (refutations th (i + 1) c.derives c.rewrites gs)
decides th i d n g gs c e =
    ap (λ x. unless_alike x.refuted (decide i x) (refutations th (i + 1) x.derives x.rewrites gs)) e

-- goals after others
pub refutations_append : (th : Theory) (i d n : ℕ) (gs hs : List Goal) (x : Decision) → refutations th i d n gs ≡ x
    → refutations th i d n (gs ++ hs) ≡ unless_alike x.conclusion.refuted x (refutations th x.goal x.conclusion.derives x.conclusion.rewrites hs)
refutations_append th i d n [] hs x e =
    ap (λ y. unless_alike y.conclusion.refuted y (refutations th y.goal y.conclusion.derives y.conclusion.rewrites hs)) e
refutations_append th i d n (g ∷ gs) hs x e =
    go c.refuted refl (refutations_append th (i + 1) c.derives c.rewrites gs hs next refl)
    ∙ ap (λ y. unless_alike y.conclusion.refuted y (refutations th y.goal y.conclusion.derives y.conclusion.rewrites hs)) e
  where
    c : Conclusion
    c = refutation th d n g

    next : Decision
    next = refutations th (i + 1) c.derives c.rewrites gs

    all : Decision
    all = refutations th (i + 1) c.derives c.rewrites (gs ++ hs)

    after : Decision → Decision
    after y = unless_alike y.conclusion.refuted y (refutations th y.goal y.conclusion.derives y.conclusion.rewrites hs)

    go : (r : Refuted) → c.refuted ≡ r → all ≡ after next → unless_alike r (decide i c) all ≡ after (unless_alike r (decide i c) next)
    go Alike e h = h
    go (Told_apart ws l m) e h = rw e refl
    go Spent e h = rw e refl
    go (Past_limit y) e h = rw e refl

-- one block more
pub block_next : (th : Theory) (i d n : ℕ) (bs : List (Vec Goal Global)) (j : ℕ) (b : Vec Goal Global) → j < length bs → b ≡ get_or bs j b
    → (x : Decision) → refutations th i d n b.items ≡ x
    → refutations th i d n (goals_in (map (λ b. b.items) (drop j bs)))
    ≡ unless_alike x.conclusion.refuted x (refutations th x.goal x.conclusion.derives x.conclusion.rewrites (goals_in (map (λ b. b.items) (drop (j + 1) bs))))
block_next th i d n bs j b h e x r =
    ap (λ cs. refutations th i d n (goals_in (map (λ b. b.items) cs))) (drop_read bs j b h e)
    ∙ refutations_append th i d n b.items (goals_in (map (λ b. b.items) (drop (j + 1) bs))) x r

-- one that is not alike decides
pub not_alike : (r : TheRefuted) → (r ≡ refuted.Alike → ⊥) → (this next : Decision) → unless_alike (plain_refuted r) this next ≡ this
not_alike (refuted.Differs entries left right) h this next = refl
not_alike refuted.Alike h this next = absurd (h refl)
not_alike refuted.Spent h this next = refl
not_alike (refuted.TooBig nodes) h this next = refl
not_alike (refuted.TooDeep depth) h this next = refl

pub all_of_block : (P : Goal → Type 0) (bs : List (Vec Goal Global)) (j : ℕ) (b : Vec Goal Global)
    → AllByRecursion (λ b. AllByRecursion P b) (map (λ b. b.items) bs) → j < length bs → b ≡ get_or bs j b → AllByRecursion P b.items
all_of_block P [] j b a h e = absurd (omega (arith, h))
all_of_block P (c ∷ bs) zero b a h e = let Q : Vec Goal Global → Type 0 = λ v. AllByRecursion P v.items in subst Q (sym e) a.0
all_of_block P (c ∷ bs) (suc j) b a h e = all_of_block P bs j b a.1 (omega (arith, h)) e

-- ---- what the code finds is right

pub right_found : {E : Type 0} (th : Theory) (g : Goal) (c : Conclusion) (n d : ℕ) (r : Result TheRefuted E) → IsRight th g c.refuted
    → IfOk r (λ x. c ≡ conclude (plain_refuted x) n d) → IfOk r (λ x. IsRight th g (plain_refuted x))
right_found th g c n d (Ok x) h e = let P : Conclusion → Type 0 = λ y. IsRight th g y.refuted in subst P e h
right_found th g c n d (Err x) h e = tt

pub right_decided : {E : Type 0} (th : Theory) (gs : List Goal) (c : Decision) (n d : ℕ) (r : Result TheDecision E) → IsRightDecision th gs c
    → IfOk r (λ x. c ≡ plain_decision x n d) → IfOk r (λ x. IsRightDecision th gs (plain_decision x n d))
right_decided th gs c n d (Ok x) h e = let P : Decision → Type 0 = λ y. IsRightDecision th gs y in subst P e h
right_decided th gs c n d (Err x) h e = tt
