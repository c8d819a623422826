-- Lists of terms, as the loops over arguments read them.
use Rattle.std.proofs.Common.{◌≡◌, ℕ, ◌+◌, ◌≤◌, ◌<◌, List, [], ◌∷◌, zero, suc, length, drop, min, get_or, refl, ap, sym, ◌∙◌, arith}
use Rattle.std.proofs.lemmas.Bool.Decides.{nat_tests}
use Rattle.std.proofs.lemmas.List.{drop_more}
use Rattle.std.specs.Ordering.{nat_cmp}
use Rattle.circ_term.specs.Tree.{Tree, depth_of, depths_of, list_of, trees_of}
use Rattle.circ_term.proofs.Trees.{list_of-trees_of, trees_of-list_of}
use Rattle.circ_term.specs.Order.{trees_cmp}
use Rattle.circ_term.proofs.Paths.{walk_none}

pub ruleset rows = (list_of-trees_of, trees_of-list_of, walk_none)

-- reading a list from the front, one item at a time
pub drop_read : {X : Type 0} (xs : List X) (i : ℕ) (x : X) → i < length xs → x ≡ get_or xs i x → drop i xs ≡ x ∷ drop (i + 1) xs
drop_read xs i x within read = drop_more xs i x within ∙ ap (λ y. y ∷ drop (i + 1) xs) (sym read)

-- no argument is deeper than the deepest
pub depth_at : (ts : List Tree) (i : ℕ) (t : Tree) → i < length ts → t ≡ get_or ts i t → depth_of t ≤ depths_of (trees_of ts)
depth_at [] i t h e = absurd (omega arith)
depth_at (x ∷ ts) zero t h e = omega (arith, ap depth_of e)
depth_at (x ∷ ts) (suc i) t h e = omega (arith, depth_at ts i t (omega arith) e)

pub trees_of_same : (xs ys : List Tree) → trees_of xs ≡ trees_of ys → xs ≡ ys
trees_of_same xs ys e = sym (list_of-trees_of xs) ∙ ap list_of e ∙ list_of-trees_of ys

next_cmp : (n m : ℕ) → nat_cmp n m ≡ nat_cmp (suc n) (suc m)
next_cmp n m = grind (arith, nat_tests)

-- behind the shorter of two lists the lengths decide
pub cmp_rest : (xs ys : List Tree) (i : ℕ) → i ≤ length xs → i ≤ length ys → min (length xs) (length ys) ≤ i
    → nat_cmp (length xs) (length ys) ≡ trees_cmp (trees_of (drop i xs)) (trees_of (drop i ys))
cmp_rest [] [] zero a b h = refl
cmp_rest [] (y ∷ ys) zero a b h = grind (arith, nat_tests)
cmp_rest (x ∷ xs) [] zero a b h = grind (arith, nat_tests)
cmp_rest (x ∷ xs) (y ∷ ys) zero a b h = absurd (omega arith)
cmp_rest [] ys (suc i) a b h = absurd (omega arith)
cmp_rest (x ∷ xs) [] (suc i) a b h = absurd (omega arith)
cmp_rest (x ∷ xs) (y ∷ ys) (suc i) a b h = sym (next_cmp (length xs) (length ys)) ∙ cmp_rest xs ys i (omega arith) (omega arith) (omega arith)
