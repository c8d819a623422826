-- Breadth first gives a shortest word.
use Rattle.std.specs.Prelude.{◌≡◌, ℕ, ◌<◌, ◌≤◌, ◌+◌, zero, suc, List, [], ◌∷◌, Bool, true, false, ◌⊎◌, length, Some}
use Rattle.std.specs.List.{slice_get}
use Rattle.std.proofs.Common.{ap, sym, subst, ◌∙◌, arith, inl, inr}
use Rattle.circ_auto.specs.declared.visits.Visit.{Visit}
use Rattle.circ_auto.specs.Graph.{Graph, point_after, IsWord, LeadsToGoal}
use Rattle.circ_auto.specs.Search.{IsAt, Reached, Searched}

-- a visit whose steps are still to be done, with a depth below d
pub record Later (visits : List Visit) (head d : ℕ) : Type 0 where
  pub place : ℕ
  pub visit : Visit
  pub there : IsAt visits place visit
  pub later : head ≤ place
  pub depth : visit.depth < d

compare : (m n : ℕ) → (m < n) ⊎ (n ≤ m)
compare m zero = inr (omega arith)
compare zero (suc n) = inl (omega arith)
compare (suc m) (suc n) = up (compare m n)
  where
    up : ((m < n) ⊎ (n ≤ m)) → (suc m < suc n) ⊎ (suc n ≤ suc m)
    up (inl a) = inl (omega arith)
    up (inr a) = inr (omega arith)

-- A word from a visit leads to a visit that is near enough, or on its way it passes one whose steps are still to be done.
pub follows : (g : Graph) (visits : List Visit) (seen : List Bool) (head : ℕ) → Searched g visits seen head 0
    → (v : List ℕ) → IsWord g.letters v → (p d : ℕ) → Reached visits p d → Reached visits (point_after g p v) (d + length v) ⊎ Later visits head (d + length v)
follows g visits seen head ok [] w p d r = inl (record { place = r.place; visit = r.visit; there = r.there; point = r.point; depth = omega (arith, r.depth) })
follows g visits seen head ok (x ∷ v) w p d r = go (compare r.place head) (λ q e. follows g visits seen head ok v w.1 q (d + 1) e)
  where
    on : (q : ℕ) → (Reached visits (point_after g q v) (d + 1 + length v) ⊎ Later visits head (d + 1 + length v)) → Reached visits (point_after g q v) (d + length (x ∷ v)) ⊎ Later visits head (d + length (x ∷ v))
    on q (inl a) = inl (record { place = a.place; visit = a.visit; there = a.there; point = a.point; depth = omega (arith, a.depth) })
    on q (inr a) = inr (record { place = a.place; visit = a.visit; there = a.there; later = a.later; depth = omega (arith, a.depth) })

    go : ((r.place < head) ⊎ (head ≤ r.place))
        → ((q : ℕ) → Reached visits q (d + 1) → Reached visits (point_after g q v) (d + 1 + length v) ⊎ Later visits head (d + 1 + length v))
        → Reached visits (point_after g (g.step p x) v) (d + length (x ∷ v)) ⊎ Later visits head (d + length (x ∷ v))
    go (inl before) ih =
        let next = ok.closed r.place x r.visit r.there (inl before) w.0 in
        let step : g.step r.visit.point x ≡ g.step p x = ap (λ q. g.step q x) r.point in
        on (g.step p x) (ih (g.step p x) (record { place = next.place; visit = next.visit; there = next.there; point = next.point ∙ step; depth = omega (arith, next.depth, r.depth) }))
    go (inr after) ih = inr (record { place = r.place; visit = r.visit; there = r.there; later = after; depth = omega (arith, r.depth) })

no_goal : (g : Graph) (visits : List Visit) (seen : List Bool) (head done : ℕ) → Searched g visits seen head done → (p d : ℕ) → Reached visits p d → g.goal p ≡ true → ⊥
no_goal g visits seen head done ok p d r e =
    let not : g.goal p ≡ false = subst (λ q. g.goal q ≡ false) r.point (ok.none r.place r.visit r.there) in
    let clash : ◌≡◌ {A = Bool} true false = sym e ∙ not in
    absurd (cc)

-- Where a step from the visit at the head leads to a goal, no word is shorter than the way over that visit.
pub shortest : (g : Graph) (visits : List Visit) (seen : List Bool) (head : ℕ) (h : Visit) → Searched g visits seen head 0 → IsAt visits head h
    → (w : List ℕ) → LeadsToGoal g w → h.depth + 1 ≤ length w
shortest g visits seen head h ok at w l = go (follows g visits seen head ok w l.word g.start 0 ok.started)
  where
    go : (Reached visits (point_after g g.start w) (0 + length w) ⊎ Later visits head (0 + length w)) → h.depth + 1 ≤ length w
    go (inl r) = absurd (no_goal g visits seen head 0 ok (point_after g g.start w) (0 + length w) r l.goal)
    go (inr r) = omega (arith, r.depth, ok.sorted head r.place h r.visit at r.there r.later)

pub inside_list : {X : Type 0} (xs : List X) (i : ℕ) (x : X) → slice_get xs i ≡ Some x → i < length xs
inside_list [] i x e = absurd (cc)
inside_list (y ∷ xs) zero x e = omega arith
inside_list (y ∷ xs) (suc i) x e = omega (arith, inside_list xs i x e)

-- Where all visits are done, no word leads to a goal.
pub nowhere : (g : Graph) (visits : List Visit) (seen : List Bool) (head : ℕ) → Searched g visits seen head 0 → length visits ≤ head → (w : List ℕ) → LeadsToGoal g w → ⊥
nowhere g visits seen head ok all w l = go (follows g visits seen head ok w l.word g.start 0 ok.started)
  where
    go : (Reached visits (point_after g g.start w) (0 + length w) ⊎ Later visits head (0 + length w)) → ⊥
    go (inl r) = no_goal g visits seen head 0 ok (point_after g g.start w) (0 + length w) r l.goal
    go (inr r) = absurd (omega (arith, inside_list visits r.place r.visit r.there, r.later))
