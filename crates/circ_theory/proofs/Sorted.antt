-- Lists of terms and their sorts.
use Rattle.std.proofs.Common.{◌≡◌, ℕ, true, ◌==◌, nat_eq, List, [], ◌∷◌, map, length, refl, arith}
use Rattle.std.specs.List.{AllByRecursion}
use Rattle.std.specs.Cmp.Lexicographic.{pointwise}
use Rattle.std.proofs.lemmas.Bool.{eqb-true, and_parts}
use Rattle.circ_term.specs.Tree.{Tree, sort_of, trees_of}
use Rattle.circ_theory.specs.Signature.{Signature, IsWellSorted, HaveSorts}

pub have_sorts_of : (sig : Signature) (ts : List Tree) (ss : List ℕ) → pointwise nat_eq (map sort_of ts) ss ≡ true
    → AllByRecursion (IsWellSorted sig) ts → HaveSorts sig (trees_of ts) ss
have_sorts_of sig [] [] e a = tt
have_sorts_of sig [] (s ∷ ss) e a = absurd (cc)
have_sorts_of sig (t ∷ ts) [] e a = absurd (cc)
have_sorts_of sig (t ∷ ts) (s ∷ ss) e a =
    let parts = and_parts (sort_of t == s) (pointwise nat_eq (map sort_of ts) ss) e in
    (eqb-true (sort_of t) s parts.0, a.0, have_sorts_of sig ts ss parts.1 a.1)

pub have_sorts_length : (sig : Signature) (ts : List Tree) (ss : List ℕ) → HaveSorts sig (trees_of ts) ss → length ts ≡ length ss
have_sorts_length sig [] [] h = refl
have_sorts_length sig [] (s ∷ ss) h = absurd h
have_sorts_length sig (t ∷ ts) [] h = absurd h
have_sorts_length sig (t ∷ ts) (s ∷ ss) h = let e = have_sorts_length sig ts ss h.2 in omega arith
