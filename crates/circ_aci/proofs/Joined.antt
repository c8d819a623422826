-- Joining terms from the right, one at a time.
use Rattle.std.proofs.Common.{◌≡◌, ℕ, List, [], ◌∷◌, ◌++◌, Some, None, refl, ap}
use Rattle.circ_term.specs.Tree.{Tree, trees_of}
use Rattle.circ_term.specs.Limits.{Limit, first_limit, first_limits, Names}
use Rattle.circ_term.specs.declared.fault.TermFault.{TermFault}
use Rattle.circ_term.specs.declared.fault.TermFault.TheVariants.{TooBig, TooDeep, Memory}
use Rattle.circ_term.proofs.Limits.{or_else_parts}
use Rattle.circ_theory.specs.Theory.{twice}
use Rattle.circ_aci.specs.Canonical.{join}

-- the terms before r, each joined to what follows
abbrev pub folded : (f k : ℕ) → List Tree → Tree → Tree
folded f k [] r = r
folded f k (x ∷ xs) r = twice f k x (folded f k xs r)

pub folded-push : (f k : ℕ) (xs : List Tree) (x r : Tree) → folded f k (xs ++ x ∷ []) r ≡ folded f k xs (twice f k x r)
folded-push f k [] x r = refl
folded-push f k (y ∷ ys) x r = ap (twice f k y) (folded-push f k ys x r)

pub folded-join : (f k : ℕ) (xs : List Tree) (r : Tree) → folded f k xs r ≡ join f k (xs ++ r ∷ [])
folded-join f k [] r = refl
folded-join f k (x ∷ []) r = refl
folded-join f k (x ∷ y ∷ ys) r = ap (twice f k x) (folded-join f k (y ∷ ys) r)

-- a limit that is passed within is the first that is passed
folded_limit : (f k : ℕ) (xs : List Tree) (r : Tree) (l : Limit)
    → first_limits (trees_of xs) ≡ None → first_limit r ≡ Some l → first_limit (folded f k xs r) ≡ Some l
folded_limit f k [] r l a e = e
folded_limit f k (x ∷ xs) r l a e =
    let parts = or_else_parts (first_limit x) (first_limits (trees_of xs)) a in
    rw (parts.0, folded_limit f k xs r l parts.1 e) refl

pub folded_fault : (f k : ℕ) (xs : List Tree) (r : Tree) (e : TermFault)
    → first_limits (trees_of xs) ≡ None → Names e (first_limit r) → Names e (first_limit (folded f k xs r))
folded_fault f k xs r (TooBig n) a h = folded_limit f k xs r _ a h
folded_fault f k xs r (TooDeep n) a h = folded_limit f k xs r _ a h
folded_fault f k xs r Memory a h = tt

-- the terms before the last are within the limits where all are
pub limits-push : (xs : List Tree) (x : Tree) → first_limits (trees_of (xs ++ x ∷ [])) ≡ None → first_limits (trees_of xs) ≡ None
limits-push [] x a = refl
limits-push (y ∷ ys) x a =
    let parts = or_else_parts (first_limit y) (first_limits (trees_of (ys ++ x ∷ []))) a in
    rw (parts.0, limits-push ys x parts.1) refl
