-- The term of an expression of 1,000 bytes is within the limits.
use Rattle.std.specs.Prelude.{◌≡◌, ℕ, ◌<◌, ◌≤◌, ◌+◌, ◌*◌, zero, suc, List, [], ◌∷◌, ◌++◌, length, replicate, refl}
use Rattle.std.proofs.Common.{arith, length-append}
use Rattle.circ_term.specs.Tree.{size_of, depth_of}
use Rattle.circ_term.specs.Limits.{IsWithinLimits}
use Rattle.circ_term.proofs.Limits.{first_limit_none}
use Rattle.circ_regex.specs.Matches.{Expression, any_number}
use Rattle.circ_regex.specs.Grammar.{Rank, starred, SpellsExpression, one_product, more_products, one_factor, more_factors}
use Rattle.circ_regex.specs.Grammar.{with_stars, by_a, by_b, by_zero, by_one, grouped, IsTextOfRegex}
use Rattle.circ_regex.specs.Member.{expression_term}

-- the term has at most twice as many nodes as there are bytes, less one, and is no deeper than there are bytes
record Fits (e : Expression) (n : ℕ) : Type 0 where
  size : size_of (expression_term e) + 1 ≤ 2 * n
  depth : depth_of (expression_term e) ≤ n
  some : 0 < n

length_stars : (n : ℕ) → length {A = ℕ} (replicate n 42) ≡ n
length_stars zero = refl
length_stars (suc n) = omega (arith, length_stars n)

stars_fit : (k n : ℕ) (e : Expression) → Fits e n → Fits (starred k e) (n + k)
stars_fit zero n e f = record { size = omega (arith, f.size); depth = omega (arith, f.depth); some = omega (arith, f.some) }
stars_fit (suc k) n e f =
    let g = stars_fit k (n + 1) (any_number e) (record { size = omega (arith, f.size); depth = omega (arith, f.depth); some = omega arith }) in
    record { size = omega (arith, g.size); depth = omega (arith, g.depth); some = omega (arith, f.some) }

spelled_fits : {l : Rank} {s : List ℕ} {e : Expression} → SpellsExpression l s e → Fits e (length s)
spelled_fits (one_product d) = spelled_fits d
spelled_fits (more_products {s = s} {t = t} d f) =
    let x = spelled_fits d in let y = spelled_fits f in
    let whole = length-append s (43 ∷ t) in
    record { size = omega (arith, x.size, y.size, whole); depth = omega (arith, x.depth, y.depth, whole); some = omega (arith, whole) }
spelled_fits (one_factor d) = spelled_fits d
spelled_fits (more_factors {s = s} {t = t} d f) =
    let x = spelled_fits d in let y = spelled_fits f in
    let whole = length-append s t in
    record { size = omega (arith, x.size, y.size, whole); depth = omega (arith, x.depth, y.depth, x.some, y.some, whole); some = omega (arith, x.some, whole) }
spelled_fits (with_stars {s = s} {e = e} n d) =
    let g = stars_fit n (length s) e (spelled_fits d) in
    let whole : length (s ++ replicate n 42) ≡ length s + n = omega (arith, length-append s (replicate n 42), length_stars n) in
    rw whole g
spelled_fits by_a = record { size = omega arith; depth = omega arith; some = omega arith }
spelled_fits by_b = record { size = omega arith; depth = omega arith; some = omega arith }
spelled_fits by_zero = record { size = omega arith; depth = omega arith; some = omega arith }
spelled_fits by_one = record { size = omega arith; depth = omega arith; some = omega arith }
spelled_fits (grouped {s = s} d) =
    let x = spelled_fits d in
    let whole = length-append s (41 ∷ []) in
    record { size = omega (arith, x.size, whole); depth = omega (arith, x.depth, whole); some = omega arith }

pub text_within : (bytes : List ℕ) (e : Expression) → IsTextOfRegex bytes e → IsWithinLimits (expression_term e)
text_within bytes e h =
    let f = spelled_fits h.1 in first_limit_none (expression_term e) (omega (arith, f.size, h.0)) (omega (arith, f.depth, h.0))
