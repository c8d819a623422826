-- What is due, and how large and deep a term is, where another is put in the place of a subterm.
use Rattle.std.proofs.Common.{◌≡◌, ℕ, ◌+◌, ◌≤◌, max, zero, suc, List, [], ◌∷◌, ◌++◌, length, Option, Some, refl, ap, sym, ◌∙◌, arith}
use Rattle.std.specs.List.{slice_get}
use Rattle.std.proofs.lemmas.Option.{same_Some}
use Rattle.circ_term.specs.Tree.{Tree, Trees, Var, App, none, more, list_of, put_at, replaced, size_of, sizes_of, depth_of, depths_of}
use Rattle.circ_term.proofs.Trees.{trees_of-list_of}
use Rattle.circ_term.proofs.Paths.{replaced_below}
use Rattle.circ_rewrite.specs.Replacement.{Replacement, placed}
use Rattle.circ_rewrite.specs.Norm.{first_due}
use Rattle.circ_rewrite.specs.Standing.{Stands}
use Rattle.circ_rewrite.proofs.Standings.{dues_at, stands_at, stands_put}

sizes_put : (ts : Trees) (i : ℕ) (a b : Tree) → slice_get (list_of ts) i ≡ Some a → sizes_of (put_at ts i b) + size_of a ≡ sizes_of ts + size_of b
sizes_put none i a b g = absurd (cc)
sizes_put (more t ts) zero a b g = omega (arith, ap size_of (same_Some t a g), ap sizes_of (trees_of-list_of ts))
sizes_put (more t ts) (suc i) a b g = omega (arith, sizes_put ts i a b g)

depths_put : (ts : Trees) (i : ℕ) (b : Tree) → depths_of (put_at ts i b) ≤ max (depths_of ts) (depth_of b)
depths_put none i b = omega arith
depths_put (more t ts) zero b = omega (arith, ap depths_of (trees_of-list_of ts))
depths_put (more t ts) (suc i) b = omega (arith, depths_put ts i b)

depth_in : (ts : Trees) (i : ℕ) (a : Tree) → slice_get (list_of ts) i ≡ Some a → depth_of a ≤ depths_of ts
depth_in none i a g = absurd (cc)
depth_in (more t ts) zero a g = omega (arith, ap depth_of (same_Some t a g))
depth_in (more t ts) (suc i) a g = omega (arith, depth_in ts i a g)

-- what is put at a place is as deep below it
depth_put_in : (ts : Trees) (i : ℕ) (a b : Tree) → slice_get (list_of ts) i ≡ Some a → depth_of b ≤ depths_of (put_at ts i b)
depth_put_in none i a b g = absurd (cc)
depth_put_in (more t ts) zero a b g = omega arith
depth_put_in (more t ts) (suc i) a b g = omega (arith, depth_put_in ts i a b g)

-- the size of an application with another argument i, and the size and the depth of an argument
pub size_arg : (f s i : ℕ) (ts : Trees) (a b : Tree) → slice_get (list_of ts) i ≡ Some a → size_of (App f s (put_at ts i b)) + size_of a ≡ size_of (App f s ts) + size_of b
size_arg f s i ts a b g = omega (arith, sizes_put ts i a b g)

pub arg_smaller : (f s i : ℕ) (ts : Trees) (a : Tree) → slice_get (list_of ts) i ≡ Some a → size_of a + 1 ≤ size_of (App f s ts)
arg_smaller f s i ts a g = omega (arith, size_in ts i a g)
  where
    size_in : (ts : Trees) (i : ℕ) (a : Tree) → slice_get (list_of ts) i ≡ Some a → size_of a ≤ sizes_of ts
    size_in none i a g = absurd (cc)
    size_in (more t ts) zero a g = omega (arith, ap size_of (same_Some t a g))
    size_in (more t ts) (suc i) a g = omega (arith, size_in ts i a g)

pub arg_less_deep : (f s i : ℕ) (ts : Trees) (a : Tree) → slice_get (list_of ts) i ≡ Some a → depth_of a + 1 ≤ depth_of (App f s ts)
arg_less_deep f s i ts a g = omega (arith, depth_in ts i a g)

module _ (due : Tree → Option Replacement) where
  -- what is due first in a term that stands is due first
  pub due_first_below : (p : List ℕ) (w t : Tree) (q : List ℕ) (d : Replacement) → Stands due w p t → first_due due t ≡ Some (placed q d) → first_due due w ≡ Some (placed (p ++ q) d)
  due_first_below [] w t q d s e = ap (first_due due) s ∙ e
  due_first_below (i ∷ p) (Var n k) t q d s e = absurd s
  due_first_below (i ∷ p) (App f k ts) t q d s e =
      let z : 0 + i ≡ i = omega arith in
      rw (dues_at due 0 i ts s.0 (placed (p ++ q) d) s.2 s.1 (due_first_below p s.0 t q d s.3 e)) (ap (λ j. Some (placed (j ∷ p ++ q) d)) z)

  pub stands_below : (p : List ℕ) (w t : Tree) (q : List ℕ) (x u : Tree) → Stands due w p t → replaced t q x ≡ Some u → replaced w (p ++ q) x ≡ replaced w p u
  stands_below p w t q x u s r = replaced_below p q w t x u (stands_at due p w t s) r

  pub size_put : (p : List ℕ) (w t u v : Tree) → Stands due w p t → replaced w p u ≡ Some v → size_of v + size_of t ≡ size_of w + size_of u
  size_put [] w t u v s r = omega (arith, ap size_of (same_Some u v r), ap size_of s)
  size_put (i ∷ p) (Var n k) t u v s r = absurd s
  size_put (i ∷ p) (App f k ts) t u v s r =
      let deeper = stands_put due p s.0 t u s.3 in
      let whole : Tree = App f k (put_at ts i deeper.0) in
      let is : whole ≡ v = same_Some whole v (sym (rw (s.1, deeper.1) refl) ∙ r) in
      omega (arith, ap size_of is, sizes_put ts i s.0 deeper.0 s.1, size_put p s.0 t u deeper.0 s.3 deeper.1)

  pub depth_put : (p : List ℕ) (w t u v : Tree) → Stands due w p t → replaced w p u ≡ Some v → depth_of v ≤ max (depth_of w) (length p + depth_of u)
  depth_put [] w t u v s r = omega (arith, ap depth_of (same_Some u v r))
  depth_put (i ∷ p) (Var n k) t u v s r = absurd s
  depth_put (i ∷ p) (App f k ts) t u v s r =
      let deeper = stands_put due p s.0 t u s.3 in
      let whole : Tree = App f k (put_at ts i deeper.0) in
      let is : whole ≡ v = same_Some whole v (sym (rw (s.1, deeper.1) refl) ∙ r) in
      omega (arith, ap depth_of is, depths_put ts i deeper.0, depth_put p s.0 t u deeper.0 s.3 deeper.1, depth_in ts i s.0 s.1)

  pub depth_under : (p : List ℕ) (w t x y : Tree) → Stands due w p t → replaced w p x ≡ Some y → length p + depth_of x ≤ depth_of y
  depth_under [] w t x y s r = omega (arith, ap depth_of (same_Some x y r))
  depth_under (i ∷ p) (Var n k) t x y s r = absurd s
  depth_under (i ∷ p) (App f k ts) t x y s r =
      let deeper = stands_put due p s.0 t x s.3 in
      let whole : Tree = App f k (put_at ts i deeper.0) in
      let is : whole ≡ y = same_Some whole y (sym (rw (s.1, deeper.1) refl) ∙ r) in
      omega (arith, ap depth_of is, depth_put_in ts i s.0 deeper.0 s.1, depth_under p s.0 t x deeper.0 s.3 deeper.1)
