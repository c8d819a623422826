-- The paths of a variable in arguments, one argument after another.
use Rattle.std.proofs.Common.{length, length-append, take, drop, ◌-◌, ◌≡◌, ℕ, ◌+◌, zero, suc, List, [], ◌∷◌, ◌++◌, map, refl, ap, sym, ◌∙◌, arith, append_assoc}
use Rattle.std.proofs.lemmas.List.{map-append}
use Rattle.circ_term.specs.Tree.{Tree, Trees, more}
use Rattle.circ_expansion.specs.Expand.{paths_of, paths_in, next_arg}
use Rattle.circ_uses.specs.Paths.{behind, paths_from}

map_map : {X Y Z : Type 0} (f : Y → Z) (g : X → Y) (h : X → Z) → ((x : X) → f (g x) ≡ h x) → (xs : List X) → map f (map g xs) ≡ map h xs
map_map f g h e [] = refl
map_map f g h e (x ∷ xs) = ap (λ z. z ∷ map f (map g xs)) (e x) ∙ ap (λ zs. h x ∷ zs) (map_map f g h e xs)

behind_next : (k : ℕ) (p : List ℕ) → behind k (next_arg p) ≡ behind (k + 1) p
behind_next k [] = refl
behind_next k (i ∷ p) = (let z : k + suc i ≡ k + 1 + i = omega arith in ap (λ j. j ∷ p) z)

behind_none : (p : List ℕ) → behind 0 p ≡ p
behind_none [] = refl
behind_none (i ∷ p) = (let z : 0 + i ≡ i = omega arith in ap (λ j. j ∷ p) z)

pub same_map : {X : Type 0} (f : X → X) → ((x : X) → f x ≡ x) → (xs : List X) → map f xs ≡ xs
same_map f e [] = refl
same_map f e (x ∷ xs) = ap (λ z. z ∷ map f xs) (e x) ∙ ap (λ zs. x ∷ zs) (same_map f e xs)

pub from_first : (n s : ℕ) (ts : Trees) → paths_from 0 n s ts ≡ paths_in n s ts
from_first n s ts = same_map (behind 0) behind_none (paths_in n s ts)

-- those in the first, and those in the others
pub from_next : (here : List ℕ) (k n s : ℕ) (t : Tree) (ts : Trees) → map (λ p. here ++ p) (paths_from k n s (more t ts))
    ≡ map (λ p. (here ++ k ∷ []) ++ p) (paths_of n s t) ++ map (λ p. here ++ p) (paths_from (k + 1) n s ts)
from_next here k n s t ts =
    ap (map (λ p. here ++ p)) (map-append (behind k) (map (λ p. zero ∷ p) (paths_of n s t)) (map next_arg (paths_in n s ts)))
    ∙ map-append (λ p. here ++ p) (map (behind k) (map (λ p. zero ∷ p) (paths_of n s t))) (map (behind k) (map next_arg (paths_in n s ts)))
    ∙ ap (λ xs. xs ++ map (λ p. here ++ p) (map (behind k) (map next_arg (paths_in n s ts)))) first
    ∙ ap (λ xs. map (λ p. (here ++ k ∷ []) ++ p) (paths_of n s t) ++ map (λ p. here ++ p) xs)
    (map_map (behind k) next_arg (behind (k + 1)) (behind_next k) (paths_in n s ts))
  where
    one : (p : List ℕ) → here ++ behind k (zero ∷ p) ≡ (here ++ k ∷ []) ++ p
    one p = (let z : k + 0 ≡ k = omega arith in ap (λ j. here ++ j ∷ p) z) ∙ sym (append_assoc here (k ∷ []) p)

    first : map (λ p. here ++ p) (map (behind k) (map (λ p. zero ∷ p) (paths_of n s t))) ≡ map (λ p. (here ++ k ∷ []) ++ p) (paths_of n s t)
    first =
        ap (map (λ p. here ++ p)) (map_map (behind k) (λ p. zero ∷ p) (λ p. behind k (zero ∷ p)) (λ p. refl) (paths_of n s t))
        ∙ map_map (λ p. here ++ p) (λ p. behind k (zero ∷ p)) (λ p. (here ++ k ∷ []) ++ p) one (paths_of n s t)

pub drop_none : {X : Type 0} (xs : List X) → drop 0 xs ≡ xs
drop_none [] = refl
drop_none (x ∷ xs) = refl

take_front : {X : Type 0} (xs : List X) (x : X) (k : ℕ) → k ≡ length xs → take k (xs ++ x ∷ []) ≡ xs
take_front [] x zero e = refl
take_front [] x (suc k) e = absurd (omega (arith, e))
take_front (y ∷ xs) x zero e = absurd (omega (arith, e))
take_front (y ∷ xs) x (suc k) e = ap (λ ys. y ∷ ys) (take_front xs x k (omega (arith, e)))

-- the last is taken off again
pub taken_off : {X : Type 0} (xs ys zs : List X) (x : X) → zs ≡ xs ++ x ∷ [] → ys ≡ take (length zs - 1) zs → ys ≡ xs
taken_off xs ys zs x e f =
    f ∙ ap (λ us. take (length us - 1) us) e ∙ take_front xs x (length (xs ++ x ∷ []) - 1) (omega (arith, length-append xs (x ∷ [])))
