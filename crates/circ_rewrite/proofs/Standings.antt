-- What is due, and what is put, where the work stands.
use Rattle.std.proofs.Common.{◌≡◌, ℕ, ◌+◌, ◌-◌, ◌<◌, zero, suc, List, [], ◌∷◌, ◌++◌, length, Option, Some, None, refl, ap, sym, subst, ◌∙◌, arith}
use Rattle.std.specs.Prelude.{slice_set}
use Rattle.std.specs.List.{slice_get}
use Rattle.std.proofs.lemmas.Option.{same_Some}
use Rattle.circ_term.specs.Tree.{Tree, Trees, Var, App, none, more, list_of, trees_of, at, walk, replaced}
use Rattle.circ_term.proofs.Trees.{list_of-trees_of}
use Rattle.circ_term.specs.Limits.{Limit, or_else, first_limit, first_limits, IsWithinLimits}
use Rattle.circ_term.proofs.Paths.{replaced_self}
use Rattle.circ_term.proofs.Limits.{or_else_parts, arg_within}
use Rattle.circ_rewrite.specs.Replacement.{Replacement, Placed, Traced, placed, below, traced}
use Rattle.circ_rewrite.specs.Norm.{Normal_form, Budget_spent, Limit_passed, first_due, first_dues, run}
use Rattle.circ_rewrite.specs.Standing.{IsSettled, AreSettled, Stands}

module _ (due : Tree → Option Replacement) where
  pub all_settled : (j : ℕ) (ts : Trees) → AreSettled due (length (list_of ts)) ts → first_dues due j ts ≡ None
  all_settled j none h = refl
  all_settled j (more t ts) h = rw h.0 (all_settled (j + 1) ts h.1)

  -- the first argument in which something is due
  pub dues_at : (j i : ℕ) (ts : Trees) (a : Tree) (q : Placed) → AreSettled due i ts → slice_get (list_of ts) i ≡ Some a → first_due due a ≡ Some q
      → first_dues due j ts ≡ Some (below (j + i) q)
  dues_at j i none a q h g d = absurd (cc)
  dues_at j zero (more t ts) a q h g d =
      let e : first_due due t ≡ Some q = ap (first_due due) (same_Some t a g) ∙ d in
      let z : j ≡ j + 0 = omega arith in
      rw e (ap (λ i. Some (below i q)) z)
  dues_at j (suc i) (more t ts) a q h g d =
      let z : j + 1 + i ≡ j + suc i = omega arith in
      rw h.0 (dues_at (j + 1) i ts a q h.1 g d ∙ ap (λ i. Some (below i q)) z)

pub stands_at : (due : Tree → Option Replacement) (p : List ℕ) (w t : Tree) → Stands due w p t → at w p ≡ Some t
stands_at due [] w t s = ap Some s
stands_at due (i ∷ p) (Var n k) t s = absurd s
stands_at due (i ∷ p) (App f k ts) t s = ap (λ o. walk o p) s.1 ∙ stands_at due p s.0 t s.3

-- an argument that is put in
get_set : (xs : List Tree) (i : ℕ) (a b : Tree) → slice_get xs i ≡ Some a → slice_get (slice_set xs i b) i ≡ Some b
get_set [] i a b g = absurd (cc)
get_set (x ∷ xs) zero a b g = refl
get_set (x ∷ xs) (suc i) a b g = get_set xs i a b g

pub get_set_list : (ts : Trees) (i : ℕ) (a b : Tree) → slice_get (list_of ts) i ≡ Some a → slice_get (list_of (trees_of (slice_set (list_of ts) i b))) i ≡ Some b
get_set_list ts i a b g = ap (λ xs. slice_get xs i) (list_of-trees_of (slice_set (list_of ts) i b)) ∙ get_set (list_of ts) i a b g

module _ (due : Tree → Option Replacement) where
  pub settled_set : (i : ℕ) (ts : Trees) (b : Tree) → AreSettled due i ts → AreSettled due i (trees_of (slice_set (list_of ts) i b))
  settled_set zero ts b h = tt
  settled_set (suc i) none b h = absurd h
  settled_set (suc i) (more t ts) b h = (h.0, settled_set i ts b h.1)

  settled_more : (i : ℕ) (ts : Trees) (b : Tree) → AreSettled due i ts → slice_get (list_of ts) i ≡ Some b → IsSettled due b → AreSettled due (suc i) ts
  settled_more i none b h g e = absurd (cc)
  settled_more zero (more t ts) b h g e = (ap (first_due due) (same_Some t b g) ∙ e, tt)
  settled_more (suc i) (more t ts) b h g e = (h.0, settled_more i ts b h.1 g e)

  pub settled_next : (i : ℕ) (ts : Trees) (b : Tree) → AreSettled due i ts → slice_get (list_of ts) i ≡ Some b → IsSettled due b → AreSettled due (i + 1) ts
  settled_next i ts b h g e =
      let z : suc i ≡ i + 1 = omega arith in
      subst (λ n. AreSettled due n ts) z (settled_more i ts b h g e)

  -- another term is put where t stands: it stands there
  pub stands_put : (p : List ℕ) (w t u : Tree) → Stands due w p t → (v : Tree) × (replaced w p u ≡ Some v) × Stands due v p u
  stands_put [] w t u s = (u, refl, refl)
  stands_put (i ∷ p) (Var n k) t u s = absurd s
  stands_put (i ∷ p) (App f k ts) t u s =
      let deeper = stands_put p s.0 t u s.3 in (
        App f k (trees_of (slice_set (list_of ts) i deeper.0)),
        rw (s.1, deeper.1) refl,
        (deeper.0, get_set_list ts i s.0 deeper.0 s.1, settled_set i ts deeper.0 s.2, deeper.2),
      )

  -- what is put into the argument is put into the term
  pub replaced_down : (p : List ℕ) (w : Tree) (f k i : ℕ) (ts : Trees) (a b : Tree) → Stands due w p (App f k ts) → slice_get (list_of ts) i ≡ Some a
      → replaced w (p ++ i ∷ []) b ≡ replaced w p (App f k (trees_of (slice_set (list_of ts) i b)))
  replaced_down [] w f k i ts a b s g = rw (s, g) refl
  replaced_down (j ∷ p) (Var n l) f k i ts a b s g = absurd s
  replaced_down (j ∷ p) (App e l us) f k i ts a b s g = rw (s.1, replaced_down p s.0 f k i ts a b s.3 g) refl

  -- what is settled everywhere but at the root, where nothing is due, is settled
  pub settled_term : (f k : ℕ) (ts : Trees) → AreSettled due (length (list_of ts)) ts → due (App f k ts) ≡ None → IsSettled due (App f k ts)
  settled_term f k ts h d = rw (all_settled due 0 ts h, d) refl

  pub due_term : (f k : ℕ) (ts : Trees) (d : Replacement) → AreSettled due (length (list_of ts)) ts → due (App f k ts) ≡ Some d → first_due due (App f k ts) ≡ Some (placed [] d)
  due_term f k ts d h e = rw (all_settled due 0 ts h, e) refl

pub stands_self : (due : Tree → Option Replacement) (p : List ℕ) (w t : Tree) → Stands due w p t → replaced w p t ≡ Some w
stands_self due p w t s = replaced_self p w t (stands_at due p w t s)

-- ---- runs

module _ (due : Tree → Option Replacement) where
  pub run_done : (k : ℕ) (t : Tree) (ts : List Traced) → first_due due t ≡ None → run due k t ts ≡ Normal_form t ts k
  run_done zero t ts e = rw e refl
  run_done (suc k) t ts e = rw e refl

  pub run_out : (k : ℕ) (t : Tree) (ts : List Traced) (q : Placed) → k ≡ 0 → first_due due t ≡ Some q → run due k t ts ≡ Budget_spent
  run_out zero t ts q z e = rw e refl
  run_out (suc k) t ts q z e = absurd (omega arith)

  pub run_made : (k : ℕ) (t u : Tree) (ts : List Traced) (p : List ℕ) (d : Replacement) → 0 < k → first_due due t ≡ Some (placed p d) → replaced t p d.new ≡ Some u
      → IsWithinLimits u → run due k t ts ≡ run due (k - 1) u (ts ++ traced (placed p d) ∷ [])
  run_made zero t u ts p d h e r w = absurd (omega arith)
  run_made (suc k) t u ts p d h e r w =
      let z : k ≡ suc k - 1 = omega arith in
      rw (e, r, w) (ap (λ n. run due n u (ts ++ traced (placed p d) ∷ [])) z)

  pub run_past : (k : ℕ) (t u : Tree) (ts : List Traced) (p : List ℕ) (d : Replacement) (l : Limit) → 0 < k → first_due due t ≡ Some (placed p d) → replaced t p d.new ≡ Some u
      → first_limit u ≡ Some l → run due k t ts ≡ Limit_passed l k
  run_past zero t u ts p d l h e r w = absurd (omega arith)
  run_past (suc k) t u ts p d l h e r w = rw (e, r, w) refl

-- a term past a limit that is put into a term within them: the first limit that is passed is its own
or_else_nothing : (a : Option Limit) → or_else a None ≡ a
or_else_nothing (Some l) = refl
or_else_nothing None = refl

limits_set : (ts : Trees) (i : ℕ) (a u : Tree) (l : Limit) → slice_get (list_of ts) i ≡ Some a → first_limits ts ≡ None → first_limit u ≡ Some l
    → first_limits (trees_of (slice_set (list_of ts) i u)) ≡ Some l
limits_set none i a u l g w h = absurd (cc)
limits_set (more t ts) zero a u l g w h = rw h refl
limits_set (more t ts) (suc i) a u l g w h =
    let parts = or_else_parts (first_limit t) _ w in
    rw parts.0 (limits_set ts i a u l g parts.1 h)

pub replaced_past : (due : Tree → Option Replacement) (p : List ℕ) (w t u v : Tree) (l : Limit) → Stands due w p t → IsWithinLimits w → replaced w p u ≡ Some v
    → first_limit u ≡ Some l → first_limit v ≡ Some l
replaced_past due [] w t u v l s h r e = ap first_limit (sym (same_Some u v r)) ∙ e
replaced_past due (i ∷ p) (Var n k) t u v l s h r e = absurd s
replaced_past due (i ∷ p) (App f k ts) t u v l s h r e =
    let deeper = stands_put due p s.0 t u s.3 in
    let whole : Tree = App f k (trees_of (slice_set (list_of ts) i deeper.0)) in
    let is : whole ≡ v = same_Some whole v (sym (rw (s.1, deeper.1) refl) ∙ r) in
    let within = or_else_parts (first_limits ts) _ h in
    let ih = replaced_past due p s.0 t u deeper.0 l s.3 (arg_within (App f k ts) i s.0 s.1 h) deeper.1 e in
    ap first_limit (sym is) ∙ rw (limits_set ts i s.0 deeper.0 l s.1 within.0 ih) refl
