-- What a term holds under an operator: its content, and when one term may be put for another by it.
use Rattle.std.specs.Prelude.{◌≡◌, ℕ, not, ◌==◌, ◌&&◌, if◌then◌else◌, List, [], ◌∷◌, ◌++◌, Some}
use Rattle.std.specs.List.{slice_get, dedup}
use Rattle.std.specs.Option.{option_map, unwrap_or}
use Rattle.circ_term.specs.Tree.{Tree, App, none, more, sort_of}
use Rattle.circ_term.specs.Order.{is_same, comes_before}
use Rattle.circ_theory.specs.Signature.{Signature, Operator}
use Rattle.circ_theory.specs.Operators.{has_mark}

-- a list of terms sorted by their order
abbrev pub put_term : Tree → List Tree → List Tree
put_term x [] = x ∷ []
put_term x (y ∷ ys) = if comes_before y x then y ∷ put_term x ys else x ∷ y ∷ ys

abbrev pub sorted_terms : List Tree → List Tree
sorted_terms [] = []
sorted_terms (x ∷ xs) = put_term x (sorted_terms xs)

-- the entries sorted where the operator is commutative, and without those that are the same as the one before where it is idempotent
abbrev pub settled : Operator → List Tree → List Tree
settled o ts =
    let us : List Tree = if o.comm then sorted_terms ts else ts in
    if o.idem then dedup is_same us else us

-- the terms, from the left, that applications of f join in a term
abbrev pub leaves : (f : ℕ) → Tree → List Tree
leaves f (App g s (more a (more b none))) = if f == g then leaves f a ++ leaves f b else App g s (more a (more b none)) ∷ []
leaves f t = t ∷ []

-- The content of a term under the operator o, which has the number f. Where o has no mark, or does not stand on two arguments at the
-- term's top, it is the term alone. Where o is idempotent and not associative, and both arguments are the same, it is the content of
-- one. Else it is the two arguments, or, where o is associative, the leaves below them, settled.
abbrev pub content : (o : Operator) (f : ℕ) → Tree → List Tree
content o f (App g s (more a (more b none))) =
    if not ((f == g) && has_mark o) then App g s (more a (more b none)) ∷ []
    else if o.idem && not o.assoc && is_same a b then content o f a
    else settled o (if o.assoc then leaves f a ++ leaves f b else a ∷ b ∷ [])
content o f t = t ∷ []

-- the content under the operator number f of a signature; an operator that does not exist joins nothing
abbrev pub content_under : Signature → (f : ℕ) → Tree → List Tree
content_under sig f t = unwrap_or (option_map (λ o. content o f t) (slice_get sig.ops f)) (t ∷ [])

-- The operator exists, and both terms have one sort and the same content under it.
pub record HasContentOf (sig : Signature) (op : ℕ) (old new : Tree) : Type 0 where
  pub operator : Operator
  pub there : slice_get sig.ops op ≡ Some operator
  pub same_sort : sort_of new ≡ sort_of old
  pub same_content : content operator op old ≡ content operator op new
