-- How the search of two automata ends.
use Rattle.std.specs.Prelude.{◌≡◌, ℕ, ◌<◌, ◌+◌, zero, suc, List, [], ◌∷◌, Bool, true, false, ◌⊎◌, length, replicate, Option, Some, None, refl, slice_set}
use Rattle.std.specs.List.{slice_get}
use Rattle.std.proofs.Common.{ap, sym, subst, ◌∙◌, arith, inl, inr}
use Rattle.std.proofs.lemmas.Option.{same_Some}
use Rattle.circ_auto.specs.declared.visits.Visit.{Visit}
use Rattle.circ_auto.specs.Graph.{Graph, point_after, IsClosedGraph, FindsGoal}
use Rattle.circ_auto.specs.Search.{IsAt, IsStartVisit, IsNextVisit, Searched, unseen}
use Rattle.circ_auto.proofs.Keeping.{begun, forgotten, get_set, length_set, unseen_set}
use Rattle.circ_auto.proofs.Word.{Rest, back, whole, found}
use Rattle.circ_auto.specs.Knows.{EndsIn}

-- a goal that a step from the head leads to
pub ends_from : (g : Graph) (visits : List Visit) (seen : List Bool) (head letter : ℕ) (n : Visit) → Searched g visits seen head letter → EndsIn g visits head letter n
    → Searched g visits seen n.parent 0 × EndsIn g visits n.parent n.letter n
ends_from g visits seen head letter n ok e =
    let P : ℕ → Type 0 = λ h. Searched g visits seen h 0 × EndsIn g visits h letter n in
    let Q : ℕ → Type 0 = λ l. Searched g visits seen n.parent 0 × EndsIn g visits n.parent l n in
    subst Q (sym e.letter_is) (subst P (sym e.parent) (forgotten g visits seen head letter ok, e))

-- the way back from a goal begins
pub first_back : (g : Graph) (visits : List Visit) (n : Visit) → EndsIn g visits n.parent n.letter n → Rest g visits n.parent (n.letter ∷ []) n.point n.depth
first_back g visits n e = record {
  visit = e.before;
  there = e.there;
  word = (e.letter_in, tt);
  point = sym e.point;
  depth = omega (arith, e.depth);
}

-- from a visit that is not the first, one more letter
pub one_back : (g : Graph) (visits : List Visit) (seen : List Bool) (head i q d : ℕ) (w : List ℕ) (m : Visit) → Searched g visits seen head 0 → Rest g visits i w q d → IsAt visits i m → 0 < i
    → Rest g visits m.parent (m.letter ∷ w) q d × (m.parent < i)
one_back g visits seen head i q d w m ok r at some = go (ok.rooted i m at)
  where
    same : r.visit ≡ m
    same = same_Some r.visit m (sym r.there ∙ at)

    here : Rest g visits i w q d
    here = record { visit = m; there = at; word = r.word; point = subst (λ (k : Visit). point_after g k.point w ≡ q) same r.point; depth = subst (λ (k : Visit). k.depth + length w ≡ d) same r.depth }

    go : (IsStartVisit g i m ⊎ IsNextVisit g visits i m) → Rest g visits m.parent (m.letter ∷ w) q d × (m.parent < i)
    go (inl f) = absurd (omega (arith, f.place, some))
    go (inr f) = (back g visits i q d w here f, f.earlier)

-- at the first visit
pub all_back : (g : Graph) (visits : List Visit) (seen : List Bool) (n : Visit) (w : List ℕ) → Searched g visits seen n.parent 0 → EndsIn g visits n.parent n.letter n
    → Rest g visits 0 w n.point n.depth → FindsGoal g (Some w)
all_back g visits seen n w ok e r = go (ok.rooted 0 r.visit r.there)
  where
    go : (IsStartVisit g 0 r.visit ⊎ IsNextVisit g visits 0 r.visit) → FindsGoal g (Some w)
    go (inl f) = let z = whole g visits 0 n.point n.depth w r f e.goal in found g visits seen n.parent e.before w ok e.there z.0 (z.1 ∙ e.depth)
    go (inr f) = absurd (omega (arith, f.earlier))

pub none_seen : (n p : ℕ) → slice_get (replicate n false) p ≡ Some true → ⊥
none_seen zero p e = let z : ◌≡◌ {A = Option Bool} None (Some true) = e in absurd (cc)
none_seen (suc n) zero e = let z : ◌≡◌ {A = Option Bool} (Some false) (Some true) = e in absurd (cc)
none_seen (suc n) (suc p) e = none_seen n p e

pub all_unseen : (n : ℕ) → unseen (replicate n false) ≡ n
all_unseen zero = refl
all_unseen (suc n) = omega (arith, all_unseen n)

pub get_unseen : (n p : ℕ) → p < n → slice_get (replicate n false) p ≡ Some false
get_unseen zero p l = absurd (omega (arith, l))
get_unseen (suc n) zero l = refl
get_unseen (suc n) (suc p) l = get_unseen n p (omega (arith, l))

pub length_unseen : (n : ℕ) → length (replicate n false) ≡ n
length_unseen zero = refl
length_unseen (suc n) = ap suc (length_unseen n)

-- the search begins
pub begun_at : (g : Graph) (n : Visit) → IsClosedGraph g → n.point ≡ g.start → n.depth ≡ 0 → g.goal g.start ≡ false
    → Searched g (n ∷ []) (slice_set (replicate g.points false) g.start true) 0 0
begun_at g n good point depth goal =
    let seen : List Bool = replicate g.points false in
    begun g (slice_set seen g.start true) n good
    (length_set seen g.start ∙ length_unseen g.points)
    (unseen_set seen g.start (get_unseen g.points g.start good.start) ∙ all_unseen g.points)
    (λ p e. only p (get_set seen g.start p e)) point depth goal
  where
    only : (p : ℕ) → ((p ≡ g.start) ⊎ (slice_get (replicate g.points false) p ≡ Some true)) → p ≡ g.start
    only p (inl e) = e
    only p (inr e) = absurd (none_seen g.points p e)

pub begun_with : (g : Graph) (visits : List Visit) (seen : List Bool) (k start : ℕ) (n : Visit) → IsClosedGraph g → visits ≡ n ∷ [] → seen ≡ replicate k false → k ≡ g.points → start ≡ g.start
    → n.point ≡ start → n.depth ≡ 0 → g.goal start ≡ false → Searched g visits (slice_set seen start true) 0 0
begun_with g visits seen k start n good one none all at point depth goal =
    let P : ℕ → Type 0 = λ s. Searched g (n ∷ []) (slice_set (replicate g.points false) s true) 0 0 in
    rw (one, none, all) (subst P (sym at) (begun_at g n good (point ∙ at) depth (ap g.goal (sym at) ∙ goal)))
