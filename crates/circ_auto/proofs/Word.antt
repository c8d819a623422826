-- The word that leads to a visit, read backwards from it.
use Rattle.std.specs.Prelude.{◌≡◌, ℕ, ◌+◌, List, ◌∷◌, Bool, true, length, Some}
use Rattle.std.proofs.Common.{ap, sym, subst, ◌∙◌, arith}
use Rattle.circ_auto.specs.declared.visits.Visit.{Visit}
use Rattle.circ_auto.specs.Graph.{Graph, point_after, IsWord, LeadsToGoal, FindsGoal}
use Rattle.circ_auto.specs.Search.{IsAt, IsStartVisit, IsNextVisit, Searched}
use Rattle.circ_auto.proofs.Shortest.{shortest}

-- From the visit in this place the word w leads to the point q. The visit's depth and the word have this length together.
pub record Rest (g : Graph) (visits : List Visit) (i : ℕ) (w : List ℕ) (q d : ℕ) : Type 0 where
  pub visit : Visit
  pub there : IsAt visits i visit
  pub word : IsWord g.letters w
  pub point : point_after g visit.point w ≡ q
  pub depth : visit.depth + length w ≡ d

-- one visit back
pub back : (g : Graph) (visits : List Visit) (i q d : ℕ) (w : List ℕ) (r : Rest g visits i w q d) → IsNextVisit g visits i r.visit → Rest g visits r.visit.parent (r.visit.letter ∷ w) q d
back g visits i q d w r f = record {
  visit = f.parent;
  there = f.there;
  word = (f.letter, r.word);
  point = ap (λ p. point_after g p w) (sym f.point) ∙ r.point;
  depth = omega (arith, r.depth, f.depth);
}

-- at the first visit the word is whole
pub whole : (g : Graph) (visits : List Visit) (i q d : ℕ) (w : List ℕ) (r : Rest g visits i w q d) → IsStartVisit g i r.visit → g.goal q ≡ true → LeadsToGoal g w × (length w ≡ d)
whole g visits i q d w r f e =
    (record { word = r.word; goal = subst (λ p. g.goal p ≡ true) (sym (ap (λ p. point_after g p w) (sym f.point) ∙ r.point)) e }, omega (arith, r.depth, f.depth))

-- a word of that length is an answer
pub found : (g : Graph) (visits : List Visit) (seen : List Bool) (head : ℕ) (h : Visit) (w : List ℕ) → Searched g visits seen head 0 → IsAt visits head h
    → LeadsToGoal g w → length w ≡ h.depth + 1 → FindsGoal g (Some w)
found g visits seen head h w ok at leads e = (leads, λ v l. omega (arith, e, shortest g visits seen head h ok at v l))
