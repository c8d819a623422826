-- The canonical form of a term under an operator, and what it keeps.
use Rattle.std.specs.Prelude.{◌≡◌, ℕ, List, [], ◌∷◌}
use Rattle.std.specs.List.{slice_get}
use Rattle.std.specs.Option.{option_map, unwrap_or}
use Rattle.circ_term.specs.Tree.{Tree, Var, sort_of}
use Rattle.circ_theory.specs.Signature.{Signature, Operator, IsWellSorted}
use Rattle.circ_theory.specs.Theory.{Theory, Pair, twice}
use Rattle.circ_theory.specs.Derivable.{Derivable}
use Rattle.circ_aci.specs.Content.{content}

-- the operator number f of result sort k on the terms, grouped to the right; a content has at least one
abbrev pub join : (f k : ℕ) → List Tree → Tree
join f k [] = Var 0 k
join f k (x ∷ []) = x
join f k (x ∷ y ∷ ys) = twice f k x (join f k (y ∷ ys))

-- the operator on the term's content; where the content is the term alone, the term
abbrev pub canonical : (o : Operator) (f : ℕ) → Tree → Tree
canonical o f t = join f o.result (content o f t)

-- the canonical form under the operator number f of a signature; an operator that does not exist joins nothing
abbrev pub canonical_under : Signature → (f : ℕ) → Tree → Tree
canonical_under sig f t = unwrap_or (option_map (λ o. canonical o f t) (slice_get sig.ops f)) t

-- The canonical form u of a term t: it has t's content, is its own canonical form, is well-sorted and of t's sort, and is derivable.
pub record IsCanonicalFormOf (th : Theory) (o : Operator) (f : ℕ) (t u : Tree) : Type 0 where
  pub same_content : content o f u ≡ content o f t
  pub its_own : canonical o f u ≡ u
  pub well_sorted : IsWellSorted th.signature u
  pub same_sort : sort_of u ≡ sort_of t
  pub derivable : (H : List Pair) → Derivable th H t u
