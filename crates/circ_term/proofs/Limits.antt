-- Terms within the limits, their parts, and what is put into them.
use Rattle.std.proofs.Common.{◌≡◌, ℕ, ◌+◌, ◌≤◌, List, [], ◌∷◌, zero, suc, refl, sym, subst, arith, Option, Some, None}
use Rattle.std.specs.Prelude.{slice_set}
use Rattle.std.specs.List.{slice_get}
use Rattle.std.proofs.lemmas.Option.{same_Some}
use Rattle.std.proofs.lemmas.Grind.{common_steps}
use Rattle.circ_term.specs.Tree.{Tree, Trees, Var, App, none, more, size_of, sizes_of, depth_of, depths_of, list_of, trees_of, args_of, at, replaced}
use Rattle.circ_term.specs.Limits.{node_limit, depth_limit, Limit, limit_at, or_else, first_limit, first_limits, IsWithinLimits}
use Rattle.circ_term.proofs.Paths.{walk_none}

pub or_else_none : (a b : Option Limit) → a ≡ None → b ≡ None → or_else a b ≡ None
or_else_none a b p q = rw (p, q) refl

pub or_else_parts : (a b : Option Limit) → or_else a b ≡ None → (a ≡ None) × (b ≡ None)
or_else_parts (Some l) b e = cc
or_else_parts None b e = (refl, e)

pub limit_at_none : (m d : ℕ) → m ≤ node_limit → d ≤ depth_limit → limit_at m d ≡ None
limit_at_none m d small shallow = grind (arith, common_steps)

-- a term that is small and shallow enough has no node that passes a limit
mutual
  pub first_limit_none : (t : Tree) → size_of t ≤ node_limit → depth_of t ≤ depth_limit → IsWithinLimits t
  first_limit_none (Var n s) small shallow = refl
  first_limit_none (App f s ts) small shallow =
      or_else_none _ _
      (first_limits_none ts (omega arith) (omega arith))
      (limit_at_none (sizes_of ts + 1) (depths_of ts + 1) (omega arith) (omega arith))

  pub first_limits_none : (ts : Trees) → sizes_of ts ≤ node_limit → depths_of ts ≤ depth_limit → first_limits ts ≡ None
  first_limits_none none small shallow = refl
  first_limits_none (more t ts) small shallow =
      or_else_none _ _ (first_limit_none t (omega arith) (omega arith)) (first_limits_none ts (omega arith) (omega arith))

limit_at_within : (m d : ℕ) → limit_at m d ≡ None → (m ≤ node_limit) × (d ≤ depth_limit)
limit_at_within m d e = grind (arith, common_steps)

-- and a term within the limits is small and shallow
pub within_limits : (t : Tree) → IsWithinLimits t → (size_of t ≤ node_limit) × (depth_of t ≤ depth_limit)
within_limits (Var n s) w = (omega arith, omega arith)
within_limits (App f s ts) w = limit_at_within (sizes_of ts + 1) (depths_of ts + 1) (or_else_parts (first_limits ts) _ w).1

item_within : (ts : Trees) (i : ℕ) (a : Tree) → slice_get (list_of ts) i ≡ Some a → first_limits ts ≡ None → IsWithinLimits a
item_within none i a g w = absurd (cc)
item_within (more t ts) zero a g w = let P : Tree → Type 0 = λ x. IsWithinLimits x in subst P (same_Some t a g) (or_else_parts _ _ w).0
item_within (more t ts) (suc i) a g w = item_within ts i a g (or_else_parts (first_limit t) _ w).1

-- an argument of a term within the limits is within them
pub arg_within : (t : Tree) (i : ℕ) (a : Tree) → slice_get (args_of t) i ≡ Some a → IsWithinLimits t → IsWithinLimits a
arg_within (Var n s) i a g w = absurd (cc)
arg_within (App f s ts) i a g w = item_within ts i a g (or_else_parts (first_limits ts) _ w).0

-- a subterm of a term within the limits is within them
pub at_within : (p : List ℕ) (t a : Tree) → at t p ≡ Some a → IsWithinLimits t → IsWithinLimits a
at_within [] t a e w = let P : Tree → Type 0 = λ x. IsWithinLimits x in subst P (same_Some t a e) w
at_within (i ∷ p) t a e w = down (λ x. at_within p x a) (slice_get (args_of t) i) refl
  where
    down : ((x : Tree) → at x p ≡ Some a → IsWithinLimits x → IsWithinLimits a) → (o : Option Tree) → slice_get (args_of t) i ≡ o → IsWithinLimits a
    down ih None g = absurd (let off = walk_none p in let z = rw g at e in cc)
    down ih (Some x) g = ih x (rw g at e) (arg_within t i x g w)

item_set_within : (ts : Trees) (i : ℕ) (a y : Tree) → slice_get (list_of ts) i ≡ Some a → first_limits (trees_of (slice_set (list_of ts) i y)) ≡ None
    → IsWithinLimits y
item_set_within none i a y g w = absurd (cc)
item_set_within (more t ts) zero a y g w = (or_else_parts (first_limit y) _ w).0
item_set_within (more t ts) (suc i) a y g w = item_set_within ts i a y g (or_else_parts (first_limit t) _ w).1

-- what is put into a term within the limits is within them
pub replaced_within : (p : List ℕ) (t b u : Tree) → replaced t p b ≡ Some u → IsWithinLimits u → IsWithinLimits b
replaced_within [] t b u r w = let P : Tree → Type 0 = λ x. IsWithinLimits x in subst P (sym (same_Some b u r)) w
replaced_within (i ∷ p) (Var n s) b u r w = absurd (cc)
replaced_within (i ∷ p) (App f s ts) b u r w = down (λ x y. replaced_within p x b y) (slice_get (list_of ts) i) refl
  where
    there : ((x y : Tree) → replaced x p b ≡ Some y → IsWithinLimits y → IsWithinLimits b)
        → (x : Tree) → slice_get (list_of ts) i ≡ Some x → (o : Option Tree) → replaced x p b ≡ o → IsWithinLimits b
    there ih x g None m = absurd (let z = rw (g, m) at r in cc)
    there ih x g (Some y) m =
        let whole : Tree = App f s (trees_of (slice_set (list_of ts) i y)) in
        let P : Tree → Type 0 = λ v. IsWithinLimits v in
        let within : IsWithinLimits whole = subst P (sym (same_Some whole u (rw (g, m) at r))) w in
        ih x y m (item_set_within ts i x y g (or_else_parts (first_limits (trees_of (slice_set (list_of ts) i y))) _ within).0)

    down : ((x y : Tree) → replaced x p b ≡ Some y → IsWithinLimits y → IsWithinLimits b) → (o : Option Tree) → slice_get (list_of ts) i ≡ o → IsWithinLimits b
    down ih None g = absurd (let z = rw g at r in cc)
    down ih (Some x) g = there ih x g (replaced x p b) refl
