-- The tests on terms.
use Rattle.std.proofs.Common.{◌≡◌, ◌<◌, ◌+◌, ℕ, length, Bool, true, false, ◌==◌, ◌||◌, List, [], ◌∷◌, map, drop, slice_index_or, refl, ap}
use Rattle.std.specs.List.{list_any}
use Rattle.circ_term.specs.Tree.{Tree, App, trees_of}
use Rattle.circ_term.proofs.Within.{drop_read}
use Rattle.circ_theory.specs.Theory.{Theory, Pair}
use Rattle.circ_refute.specs.PlainRefutation.{are_two_cases}
use Rattle.circ_refute.specs.Plain.{pair_of}
use Rattle.circ_refute.specs.declared.descendant.Descendant.{Descendant}

-- a term with arguments is no constant
pub first_args : (th : Theory) (a s : ℕ) (xs : List Tree) (t : Tree) → (length xs == 0) ≡ false → are_two_cases th (App a s (trees_of xs)) t ≡ false
first_args th a s [] t e = absurd (cc)
first_args th a s (x ∷ xs) t e = refl

pub second_args : (th : Theory) (a s b r : ℕ) (xs ys : List Tree) → (length xs == 0) ≡ true → (length ys == 0) ≡ false
    → are_two_cases th (App a s (trees_of xs)) (App b r (trees_of ys)) ≡ false
second_args th a s b r (x ∷ xs) ys e f = refl
second_args th a s b r [] [] e f = absurd (cc)
second_args th a s b r [] (y ∷ ys) e f = refl

-- one pair more is looked at
pub pair_next : (p : Pair → Bool) (xs : List Descendant) (i : ℕ) (x : Descendant) → i < length xs → x ≡ slice_index_or xs i x
    → list_any p (map pair_of (drop i xs)) ≡ (p (pair_of x) || list_any p (map pair_of (drop (i + 1) xs)))
pair_next p xs i x h e = ap (λ ys. list_any p (map pair_of ys)) (drop_read xs i x h e)
