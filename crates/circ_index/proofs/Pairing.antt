-- Pairs both ways: which pair stands at a place.
use Rattle.std.proofs.Common.{◌≡◌, ℕ, ◌+◌, ◌*◌, ◌/◌, ◌%◌, ◌≤◌, ◌<◌, zero, suc, List, [], ◌∷◌, ◌++◌, map, length, Some, refl, ap, sym, ◌∙◌, arith}
use Rattle.std.specs.List.{slice_get}
use Rattle.std.proofs.lemmas.List.{map-append}
use Rattle.std.proofs.lemmas.Option.{same_Some}
use Rattle.circ_term.specs.Tree.{Tree}
use Rattle.circ_index.specs.Finding.{both_ways}
use Rattle.circ_index.specs.Keys.{pair_key}

pub length-both_ways : (ps : List (Tree × Tree)) → length (both_ways ps) ≡ 2 * length ps
length-both_ways [] = refl
length-both_ways (p ∷ ps) = omega (arith, length-both_ways ps)

-- a place is there exactly if its pair is
pub place_within : (ps : List (Tree × Tree)) (count place : ℕ) → count ≡ length ps → place / 2 < count → place < length (both_ways ps)
place_within ps count place all h = omega (arith, length-both_ways ps)

pub place_past : (ps : List (Tree × Tree)) (count place : ℕ) → count ≡ length ps → count ≤ place / 2 → length (both_ways ps) ≤ place
place_past ps count place all h = omega (arith, length-both_ways ps)

pub both_ways-append : (ps : List (Tree × Tree)) (p : Tree × Tree) → both_ways (ps ++ p ∷ []) ≡ both_ways ps ++ p ∷ (p.1, p.0) ∷ []
both_ways-append [] p = refl
both_ways-append (q ∷ ps) p = ap (λ qs. q ∷ (q.1, q.0) ∷ qs) (both_ways-append ps p)

-- an even place has the pair as it stands, an odd one has it turned
at_even : (ps : List (Tree × Tree)) (n : ℕ) (p : Tree × Tree) → slice_get ps n ≡ Some p → slice_get (both_ways ps) (n + n) ≡ Some p
at_even [] n p g = absurd (cc)
at_even (q ∷ ps) zero p g = g
at_even (q ∷ ps) (suc n) p g = let z : suc n + suc n ≡ suc (suc (n + n)) = omega arith in ap (slice_get (both_ways (q ∷ ps))) z ∙ at_even ps n p g

at_odd : (ps : List (Tree × Tree)) (n : ℕ) (p : Tree × Tree) → slice_get ps n ≡ Some p → slice_get (both_ways ps) (suc (n + n)) ≡ Some (p.1, p.0)
at_odd [] n p g = absurd (cc)
at_odd (q ∷ ps) zero p g = ap (λ o. Some (o.1, o.0)) (same_Some q p g)
at_odd (q ∷ ps) (suc n) p g = let z : suc (suc n + suc n) ≡ suc (suc (suc (n + n))) = omega arith in ap (slice_get (both_ways (q ∷ ps))) z ∙ at_odd ps n p g

pub pair_there : (ps : List (Tree × Tree)) (place : ℕ) (p : Tree × Tree) → slice_get ps (place / 2) ≡ Some p → place % 2 ≡ 0 → slice_get (both_ways ps) place ≡ Some p
pair_there ps place p g even = let z : place ≡ place / 2 + place / 2 = omega arith in ap (slice_get (both_ways ps)) z ∙ at_even ps (place / 2) p g

pub pair_turned : (ps : List (Tree × Tree)) (place : ℕ) (p : Tree × Tree) → slice_get ps (place / 2) ≡ Some p → (place % 2 ≡ 0 → ⊥) → slice_get (both_ways ps) place ≡ Some (p.1, p.0)
pair_turned ps place p g odd = let z : place ≡ suc (place / 2 + place / 2) = omega (arith, odd) in ap (slice_get (both_ways ps)) z ∙ at_odd ps (place / 2) p g

pub pairs_more : (ps : List (Tree × Tree)) (old new : List ℕ) (k l : ℕ) (p : Tree × Tree) → old ≡ map pair_key (both_ways ps) → k ≡ pair_key p → l ≡ pair_key (p.1, p.0)
    → new ≡ old ++ k ∷ l ∷ [] → new ≡ map pair_key (both_ways (ps ++ p ∷ []))
pairs_more ps old new k l p kept first second added =
    added ∙ ap (λ ks. ks ++ k ∷ l ∷ []) kept ∙ ap (λ n. map pair_key (both_ways ps) ++ n ∷ l ∷ []) first ∙ ap (λ n. map pair_key (both_ways ps) ++ pair_key p ∷ n ∷ []) second
    ∙ sym (map-append pair_key (both_ways ps) (p ∷ (p.1, p.0) ∷ [])) ∙ ap (map pair_key) (sym (both_ways-append ps p))

-- there is a pair at each place
pub pair_at : (ps : List (Tree × Tree)) (n : ℕ) → n < length ps → (p : Tree × Tree) × (slice_get ps n ≡ Some p)
pair_at [] n h = absurd (omega arith)
pair_at (p ∷ ps) zero h = (p, refl)
pair_at (p ∷ ps) (suc n) h = pair_at ps n (omega arith)
