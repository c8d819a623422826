-- What an operator stands on, by number.
use Rattle.std.proofs.Common.{◌≡◌, ◌↔◌, ◌⊎◌, ℕ, ◌<◌, ◌==◌, Bool, true, false, List, [], ◌∷◌, length, get_or, Some, None, IsTrue, refl, ap, sym, subst, ◌∙◌, arith, inl, inr}
use Rattle.std.proofs.lemmas.Bool.{cases_Bool, eq-eqb, eqb-true}
use Rattle.circ_term.specs.Tree.{Tree, Trees, Var, App, none, more}
use Rattle.circ_term.specs.Order.{is_same}
use Rattle.circ_aci.specs.Operands.{operands}
use Rattle.circ_aci.specs.Row.{first_in}
use Rattle.circ_aci.proofs.Finding.{told_same, stands_on}
use Rattle.circ_nodes.specs.Named.{IsNamed, AreNamed, IsOnce, tree_at}
use Rattle.circ_nodes.proofs.Numbers.{named_below}
use Rattle.circ_forms.specs.Named.{AreOperands}
use Rattle.circ_nodes.proofs.Located.{tree_named, named_tree}

pub no_operands : (f n s : ℕ) (t : Tree) → t ≡ Var n s → operands f t ≡ None
no_operands f n s t e = rw e refl

other_top : (f g s : ℕ) (ts : Trees) → (f == g) ≡ false → operands f (App g s ts) ≡ None
other_top f g s none e = refl
other_top f g s (more a none) e = refl
other_top f g s (more a (more b none)) e = rw e refl
other_top f g s (more a (more b (more d ts))) e = refl

pub other_operator : (f g s : ℕ) (t : Tree) (ts : Trees) → t ≡ App g s ts → (g ≡ f → ⊥) → operands f t ≡ None
other_operator f g s t ts e n = ap (operands f) e ∙ other_top f g s ts (apart (cases_Bool (f == g)))
  where
    apart : (((f == g) ≡ true) ⊎ ((f == g) ≡ false)) → (f == g) ≡ false
    apart (inl q) = absurd (n (sym (eqb-true f g q)))
    apart (inr q) = q

pub not_two : (nodes : List Tree) (f g s : ℕ) (ns : List ℕ) (t : Tree) → ((ts : Trees) × (t ≡ App g s ts) × AreNamed nodes ns ts)
    → (length ns ≡ 2 → ⊥) → operands f t ≡ None
not_two nodes f g s ns t h n = ap (operands f) h.1 ∙ by ns h.0 h.2 n
  where
    by : (ns : List ℕ) (ts : Trees) → AreNamed nodes ns ts → (length ns ≡ 2 → ⊥) → operands f (App g s ts) ≡ None
    by ns none a n = refl
    by ns (more x none) a n = refl
    by [] (more x (more y none)) a n = absurd a
    by (i ∷ []) (more x (more y none)) a n = absurd a.1
    by (i ∷ j ∷ []) (more x (more y none)) a n = absurd (n refl)
    by (i ∷ j ∷ k ∷ ns) (more x (more y none)) a n = absurd a.1.1
    by ns (more x (more y (more z ts))) a n = refl

pub both_there : (nodes : List Tree) (f g s : ℕ) (ns : List ℕ) (t : Tree) → ((ts : Trees) × (t ≡ App g s ts) × AreNamed nodes ns ts)
    → g ≡ f → length ns ≡ 2 → AreOperands nodes (operands f t) (Some (get_or ns 0 0, get_or ns 1 0))
both_there nodes f g s ns t h same two =
    let x = by ns h.0 h.2 two in
    (x.0, x.1, ap (operands f) (h.1 ∙ ap (λ m. App m s h.0) same) ∙ x.2)
  where
    by : (ns : List ℕ) (ts : Trees) → AreNamed nodes ns ts → length ns ≡ 2
        → (get_or ns 0 0 < length nodes) × (get_or ns 1 0 < length nodes) × (operands f (App f s ts) ≡ Some (tree_at nodes (get_or ns 0 0), tree_at nodes (get_or ns 1 0)))
    by [] ts a e = absurd (omega (arith, e))
    by (i ∷ []) ts a e = absurd (omega (arith, e))
    by (i ∷ j ∷ k ∷ ns) ts a e = absurd (omega (arith, e))
    by (i ∷ j ∷ []) none a e = absurd a
    by (i ∷ j ∷ []) (more x none) a e = absurd a.1
    by (i ∷ j ∷ []) (more x (more y none)) a e = (
      named_below nodes i x a.0,
      named_below nodes j y a.1.0,
      rw (eq-eqb f f refl, named_tree nodes i x a.0, named_tree nodes j y a.1.0) refl,
    )
    by (i ∷ j ∷ []) (more x (more y (more z ts))) a e = absurd a.1.1

pub first_of_two : (f : ℕ) (t a b : Tree) → operands f t ≡ Some (a, b) → a ≡ first_in f t
first_of_two f t a b e =
    let s = stands_on f t a b (sym e) in
    sym (ap (first_in f) s.is ∙ rw (eq-eqb f f refl) refl)

-- ---- equal numbers

pub numbers_told : (nodes : List Tree) (n m : ℕ) (r : Bool) → IsOnce nodes → n < length nodes → m < length nodes → (IsTrue r ↔ (n ≡ m))
    → r ≡ is_same (tree_at nodes n) (tree_at nodes m)
numbers_told nodes n m r once h k told = told_same (tree_at nodes n) (tree_at nodes m) r (
  (λ t. ap (tree_at nodes) (told.0 t)),
  (λ e. let P : Tree → Type 0 = IsNamed nodes m in told.1 (once n m (tree_at nodes n) (tree_named nodes n h) (subst P (sym e) (tree_named nodes m k)))),
)
