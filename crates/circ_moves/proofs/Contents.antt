-- Contents of commutative operators are sorted; and what the operator is that joins.
use Rattle.std.proofs.Common.{◌≡◌, ℕ, ◌==◌, ◌&&◌, not, if◌then◌else◌, Bool, true, false, List, [], ◌∷◌, ◌++◌, Option, Some, None, refl}
use Rattle.std.specs.List.{dedup, slice_get}
use Rattle.std.specs.Option.{option_map, unwrap_or}
use Rattle.circ_term.specs.Tree.{Tree, Var, App, none, more}
use Rattle.circ_term.specs.Order.{is_same}
use Rattle.circ_theory.specs.Signature.{Signature, Operator}
use Rattle.circ_theory.specs.Operators.{has_mark}
use Rattle.circ_aci.specs.Content.{settled, leaves, content, content_under}
use Rattle.circ_aci.proofs.Rows.{settled_rows}
use Rattle.circ_aci.proofs.Settled.{Rises}

settled_rises : (o : Operator) → o.comm ≡ true → (xs : List Tree) → Rises (settled o xs)
settled_rises o e [] = go o.comm o.idem
  where
    go : (c i : Bool) → Rises (if i then dedup is_same (if c then [] else []) else (if c then [] else []))
    go true true = tt
    go true false = tt
    go false true = tt
    go false false = tt
settled_rises o e (x ∷ xs) = (settled_rows o x xs).0 e

content_rises : (o : Operator) → o.comm ≡ true → (f : ℕ) (t : Tree) → Rises (content o f t)
content_rises o e f (Var n s) = tt
content_rises o e f (App g s none) = tt
content_rises o e f (App g s (more a none)) = tt
content_rises o e f (App g s (more a (more b (more c ts)))) = tt
content_rises o e f (App g s (more a (more b none))) =
    go (not ((f == g) && has_mark o)) (o.idem && not o.assoc && is_same a b) (if o.assoc then leaves f a ++ leaves f b else a ∷ b ∷ []) (content_rises o e f a)
  where
    go : (u v : Bool) (xs : List Tree) → Rises (content o f a)
        → Rises (if u then App g s (more a (more b none)) ∷ [] else if v then content o f a else settled o xs)
    go true v xs r = tt
    go false true xs r = r
    go false false xs r = settled_rises o e xs

-- the content under an operator that is commutative, if it exists
pub content_under_rises : (sig : Signature) (f : ℕ) → ((o : Operator) → slice_get sig.ops f ≡ Some o → o.comm ≡ true) → (t : Tree) → Rises (content_under sig f t)
content_under_rises sig f comm t = go (slice_get sig.ops f) comm
  where
    go : (x : Option Operator) → ((o : Operator) → x ≡ Some o → o.comm ≡ true) → Rises (unwrap_or (option_map (λ o. content o f t) x) (t ∷ []))
    go None c = tt
    go (Some o) c = content_rises o (c o refl) f t
