-- Variables that stand for themselves, one term after the other.
use Rattle.std.proofs.Common.{◌≡◌, ℕ, Bool, true, false, ◌||◌, if◌then◌else◌, List, Option, Some, None, refl, ap, ◌∙◌}
use Rattle.std.specs.Option.{option_or}
use Rattle.circ_term.specs.Tree.{Tree, Var}
use Rattle.circ_term.specs.Subst.{Bound, found}
use Rattle.circ_join.specs.Binding.{BindsRest}

both : (o : Option Tree) (a b : Bool) (t : Tree)
    → option_or (option_or o (if a then Some t else None)) (if b then Some t else None) ≡ option_or o (if a || b then Some t else None)
both (Some u) a b t = refl
both None true b t = refl
both None false b t = refl

-- one after the other
pub rest_then : (v w : (number sort : ℕ) → Bool) (σ τ υ : List Bound) → BindsRest v σ τ → BindsRest w τ υ → BindsRest (λ n s. v n s || w n s) σ υ
rest_then v w σ τ υ f g n s = g n s ∙ ap (λ o. option_or o (if w n s then Some (Var n s) else None)) (f n s) ∙ both (found σ n s) (v n s) (w n s) (Var n s)
