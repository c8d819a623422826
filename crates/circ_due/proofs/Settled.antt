-- Terms in which nothing is due are their own canonical forms.
use Rattle.std.proofs.Common.{◌≡◌, ℕ, ◌==◌, Bool, true, false, if◌then◌else◌, List, [], length, Option, Some, None, refl, ap, ◌∙◌, inl, inr}
use Rattle.std.specs.Option.{option_or, option_map}
use Rattle.std.proofs.lemmas.Bool.{cases_Bool, eqb-true}
use Rattle.circ_term.specs.Tree.{Tree, Trees, Var, App, none, more, list_of, args_of}
use Rattle.circ_term.specs.Order.{is_same}
use Rattle.circ_term.proofs.Order.{same_here}
use Rattle.circ_theory.specs.Signature.{Signature}
use Rattle.circ_theory.specs.Theory.{Pair}
use Rattle.circ_aci.specs.Canonical.{canonical_under}
use Rattle.circ_aci.specs.Operands.{operands}
use Rattle.circ_rewrite.specs.Replacement.{Replacement, By_content, placed}
use Rattle.circ_rewrite.specs.Due.{assumed, content_due, ruled, due_under}
use Rattle.circ_rewrite.specs.Norm.{first_dues}
use Rattle.circ_rewrite.specs.Standing.{IsSettled, AreSettled, HasSettledBelow}
use Rattle.circ_rewrite.specs.declared.parts.Rule.{Rule}
use Rattle.circ_forms.specs.Named.{AreOwn}
use Rattle.circ_forms.proofs.Ways.{under_alone}

second_none : {X : Type 0} (o p : Option X) → option_or o p ≡ None → p ≡ None
second_none None p e = e
second_none (Some x) p e = absurd (cc)

first_none : {X : Type 0} (o p : Option X) → option_or o p ≡ None → o ≡ None
first_none None p e = refl
first_none (Some x) p e = absurd (cc)

map_none : {X Y : Type 0} (f : X → Y) (o : Option X) → option_map f o ≡ None → o ≡ None
map_none f None e = refl
map_none f (Some x) e = absurd (cc)

root_none : (due : Tree → Option Replacement) (t : Tree) → IsSettled due t → due t ≡ None
root_none due (Var n s) h = map_none (placed []) (due (Var n s)) h
root_none due (App f s ts) h = map_none (placed []) (due (App f s ts)) (second_none (first_dues due 0 ts) (option_map (placed []) (due (App f s ts))) h)

if_none : {X : Type 0} (b : Bool) (x : X) → (if b then None else Some x) ≡ None → b ≡ true
if_none true x e = refl
if_none false x e = absurd (cc)

content_own : (sig : Signature) (g s : ℕ) (ts : Trees) → content_due sig (App g s ts) ≡ None → canonical_under sig g (App g s ts) ≡ App g s ts
content_own sig g s ts e =
    let form = canonical_under sig g (App g s ts) in
    same_here form (App g s ts) (if_none (is_same form (App g s ts)) (record { reason = By_content g form; new = form }) e)

other_root : (f g s : ℕ) (ts : Trees) → (f == g) ≡ false → operands f (App g s ts) ≡ None
other_root f g s none h = refl
other_root f g s (more a none) h = refl
other_root f g s (more a (more b none)) h = rw h refl
other_root f g s (more a (more b (more c ts))) h = refl

none_own : (sig : Signature) (rs : List Rule) (A : List Pair) (f : ℕ) (t : Tree) → due_under sig rs A t ≡ None → canonical_under sig f t ≡ t
none_own sig rs A f (Var n s) e = under_alone sig f (Var n s) refl
none_own sig rs A f (App g s ts) e = elim (cases_Bool (f == g)) [
  | inl q ↦
      ap (λ n. canonical_under sig n (App g s ts)) (eqb-true f g q)
      ∙ content_own sig g s ts (first_none (content_due sig (App g s ts)) (ruled rs (App g s ts)) (second_none (assumed 0 A (App g s ts)) _ e))
  | inr q ↦ under_alone sig f (App g s ts) (other_root f g s ts q)
]

pub settled_own : (sig : Signature) (rs : List Rule) (A : List Pair) (f : ℕ) (t : Tree) → HasSettledBelow (due_under sig rs A) t → AreOwn sig f (args_of t)
settled_own sig rs A f (Var n s) h = tt
settled_own sig rs A f (App g s ts) h = go ts h
  where
    go : (us : Trees) → AreSettled (due_under sig rs A) (length (list_of us)) us → AreOwn sig f (list_of us)
    go none k = tt
    go (more u us) k = (none_own sig rs A f u (root_none (due_under sig rs A) u k.0), go us k.1)
