-- What is found in two lists, one behind the other.
use Rattle.std.proofs.Common.{◌≡◌, ℕ, ◌+◌, ◌-◌, ◌*◌, ◌<◌, ◌≤◌, zero, suc, List, [], ◌∷◌, ◌++◌, length, map, take, Option, Some, None, Result, Ok, Err, IfOk, refl, ap, sym, subst, ◌∙◌, length-append, ◌⊎◌, inl, inr, ⊎_elim, arith}
use Rattle.std.specs.List.{slice_get}
use Rattle.std.proofs.lemmas.List.{length-map, length-take}
use Rattle.std.proofs.lemmas.Option.{slice_get_within}
use Rattle.circ_term.specs.Tree.{Tree}
use Rattle.circ_term.specs.Subst.{Bound}
use Rattle.circ_theory.specs.Goal.{Goal}
use Rattle.circ_index.specs.Finding.{PairMatches, NoneMatches, FindsLeast, FindsFirstPair, both_ways}
use Rattle.circ_join.specs.Hypotheses.{both_sides}

order : (a b : ℕ) → (a < b) ⊎ (b ≤ a)
order a zero = inr (omega arith)
order zero (suc b) = inl (omega arith)
order (suc a) (suc b) = up (order a b)
  where
    up : ((a < b) ⊎ (b ≤ a)) → (suc a < suc b) ⊎ (suc b ≤ suc a)
    up (inl h) = inl (omega (arith, h))
    up (inr h) = inr (omega (arith, h))

-- what stands at a place of both lists
in_front : {X : Type 0} (xs ys : List X) (n : ℕ) → n < length xs → slice_get (xs ++ ys) n ≡ slice_get xs n
in_front [] ys n h = absurd (omega (arith, h))
in_front (x ∷ xs) ys zero h = refl
in_front (x ∷ xs) ys (suc n) h = in_front xs ys n (omega (arith, h))

behind : {X : Type 0} (xs ys : List X) (n m : ℕ) → n ≡ length xs + m → slice_get (xs ++ ys) n ≡ slice_get ys m
behind [] ys n m e = let z : n ≡ m = omega (arith, e) in ap (slice_get ys) z
behind (x ∷ xs) ys zero m e = absurd (omega (arith, e))
behind (x ∷ xs) ys (suc n) m e = behind xs ys n m (omega (arith, e))

module _ {X : Type 0} (A : X → Option (List Bound) → Type 0) where
  -- where none matches before a place, what is found from there on
  none_then : (xs : List X) (from mid to : ℕ) → NoneMatches A xs from mid → NoneMatches A xs mid to → NoneMatches A xs from to
  none_then xs from mid to f g = λ n x low below at. ⊎_elim (λ h. f n x low h at) (λ h. g n x h below at) (order n mid)

  pub later_found : (xs : List X) (from mid : ℕ) (r : Option (ℕ × List Bound)) → from ≤ mid → NoneMatches A xs from mid → FindsLeast A xs mid r → FindsLeast A xs from r
  later_found xs from mid None h f g = none_then xs from mid (length xs) f g
  later_found xs from mid (Some p) h f g = (omega (arith, h, g.0), g.1, none_then xs from mid p.0 f g.2)

  pub none_in_front : (xs ys : List X) (from to : ℕ) → to ≤ length xs → NoneMatches A xs from to → NoneMatches A (xs ++ ys) from to
  none_in_front xs ys from to h f = λ n x low below at. f n x low below (sym (in_front xs ys n (omega (arith, below, h))) ∙ at)

  none_behind : (xs ys : List X) (from to p q : ℕ) → p ≡ length xs + from → q ≡ length xs + to → NoneMatches A ys from to → NoneMatches A (xs ++ ys) p q
  none_behind xs ys from to p q e d f = λ n x low below at.
      let is : n ≡ length xs + (n - length xs) = omega (arith, e, low) in
      f (n - length xs) x (omega (arith, e, low)) (omega (arith, d, below, is)) (sym (behind xs ys n (n - length xs) is) ∙ at)

  found_in_front : (xs ys : List X) (from p : ℕ) (σ : List Bound) → FindsLeast A xs from (Some (p, σ)) → FindsLeast A (xs ++ ys) from (Some (p, σ))
  found_in_front xs ys from p σ f =
      let h = slice_get_within xs p f.1.0 f.1.1 in
      (f.0, (f.1.0, in_front xs ys p h ∙ f.1.1, f.1.2), none_in_front xs ys from p (omega (arith, h)) f.2)

  found_behind : (xs ys : List X) (from p m n : ℕ) (σ : List Bound) → m ≡ length xs + from → n ≡ length xs + p
      → FindsLeast A ys from (Some (p, σ)) → FindsLeast A (xs ++ ys) m (Some (n, σ))
  found_behind xs ys from p m n σ e d f =
      (omega (arith, e, d, f.0), (f.1.0, behind xs ys n p d ∙ f.1.1, f.1.2), none_behind xs ys from p m n e d f.2)

  not_found_behind : (xs ys : List X) (from m : ℕ) → m ≡ length xs + from → FindsLeast A ys from None → FindsLeast A (xs ++ ys) m None
  not_found_behind xs ys from m e f = none_behind xs ys from (length ys) m (length (xs ++ ys)) e (length-append xs ys) f

-- ---- the same for pairs, each both ways

both_ways_both : (ps qs : List (Tree × Tree)) → both_ways (ps ++ qs) ≡ both_ways ps ++ both_ways qs
both_ways_both [] qs = refl
both_ways_both (p ∷ ps) qs = ap (λ xs. p ∷ (p.1, p.0) ∷ xs) (both_ways_both ps qs)

length-places : (ps : List (Tree × Tree)) → length (both_ways ps) ≡ 2 * length ps
length-places [] = refl
length-places (p ∷ ps) = omega (arith, length-places ps)

-- a place that is found is one of a pair
pub place_there : (ps : List (Tree × Tree)) (a b : Tree) (from p : ℕ) (σ : List Bound) → FindsFirstPair ps from a b (Some (p, σ)) → p < 2 * length ps
place_there ps a b from p σ f = omega (arith, slice_get_within (both_ways ps) p f.1.0 f.1.1, length-places ps)

module _ (ps qs : List (Tree × Tree)) (a b : Tree) where
  pub pair_in_front : (from p : ℕ) (σ : List Bound) → FindsFirstPair ps from a b (Some (p, σ)) → FindsFirstPair (ps ++ qs) from a b (Some (p, σ))
  pair_in_front from p σ f = rw (both_ways_both ps qs) (found_in_front (PairMatches a b) (both_ways ps) (both_ways qs) from p σ f)

  pub pair_behind : (from p m n : ℕ) (σ : List Bound) → m ≡ 2 * length ps + from → n ≡ 2 * length ps + p
      → FindsFirstPair qs from a b (Some (p, σ)) → FindsFirstPair (ps ++ qs) m a b (Some (n, σ))
  pair_behind from p m n σ e d f =
      let l = length-places ps in
      rw (both_ways_both ps qs) (found_behind (PairMatches a b) (both_ways ps) (both_ways qs) from p m n σ (omega (arith, e, l)) (omega (arith, d, l)) f)

  pub no_pair_behind : (from m : ℕ) → m ≡ 2 * length ps + from → FindsFirstPair qs from a b None → FindsFirstPair (ps ++ qs) m a b None
  no_pair_behind from m e f =
      rw (both_ways_both ps qs) (not_found_behind (PairMatches a b) (both_ways ps) (both_ways qs) from m (omega (arith, e, length-places ps)) f)

  -- where no pair of the first list is found, what is found behind it
  pub pair_later : (from m : ℕ) (r : Option (ℕ × List Bound)) → m ≡ 2 * length ps → from ≤ m → FindsFirstPair ps from a b None
      → FindsFirstPair (ps ++ qs) m a b r → FindsFirstPair (ps ++ qs) from a b r
  pair_later from m r e h none f =
      let same : m ≡ length (both_ways ps) = omega (arith, e, length-places ps) in
      let front = subst (λ k. NoneMatches (PairMatches a b) (both_ways ps) from k) (sym same) none in
      let before : NoneMatches (PairMatches a b) (both_ways (ps ++ qs)) from m =
      rw (both_ways_both ps qs) (none_in_front (PairMatches a b) (both_ways ps) (both_ways qs) from m (omega (arith, same)) front) in
      later_found (PairMatches a b) (both_ways (ps ++ qs)) from m r h before f

  pub pair_later_ok : {E : Type 0} (from m : ℕ) (r : Result (Option (ℕ × List Bound)) E) → m ≡ 2 * length ps → from ≤ m → FindsFirstPair ps from a b None
      → IfOk r (FindsFirstPair (ps ++ qs) m a b) → IfOk r (FindsFirstPair (ps ++ qs) from a b)
  pair_later_ok from m (Ok o) e h none f = pair_later from m o e h none f
  pair_later_ok from m (Err x) e h none f = tt

-- how many goals of earlier blocks there are
pub earlier_count : (goals : List Goal) (ps qs : List (Tree × Tree)) → ps ++ qs ≡ map both_sides goals → length (take (length ps) goals) ≡ length ps
earlier_count goals ps qs e =
    omega (arith, length-take (length ps) goals, ap length e, length-append ps qs, length-map goals both_sides)
