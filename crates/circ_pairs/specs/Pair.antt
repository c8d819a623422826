-- Pairs of terms, as conditions and premises are.
use Rattle.std.specs.Prelude.{ℕ, List, Bool, ◌==◌, refl}
use Rattle.std.specs.List.{Contains, list_any}
use Rattle.std.specs.Coded.{Coded, code_by, coded×, coded_list}
use Rattle.circ_term.specs.Tree.{Tree, sort_of}
use Rattle.circ_term.specs.Code.{tree_code}
use Rattle.circ_term.specs.Substitution.{Substitution, instance}

pub record Pair : Type 0 where
  pub left : Tree
  pub right : Tree

abbrev pub pair_with : Tree → Tree → Pair
pair_with s t = record { left = s; right = t }

-- each pair of H is one of K
abbrev pub Within : List Pair → List Pair → Type 0
Within H K = (p : Pair) → Contains H p → Contains K p

-- both sides under a substitution
abbrev pub instance_pair : Substitution → Pair → Pair
instance_pair σ p = pair_with (instance σ p.left) (instance σ p.right)

-- whether one of the conditions is of this sort
abbrev pub has_condition_of : ℕ → List Pair → Bool
has_condition_of s E = list_any (λ p. s == sort_of p.left) E

-- how a proof tells pairs and lists of them apart
abbrev pub pair_code : Coded Pair
pair_code = code_by (Tree × Tree) (coded× tree_code tree_code) (λ p. (p.left, p.right)) (λ x. pair_with x.0 x.1) (λ p. refl)

abbrev pub pairs_code : Coded (List Pair)
pairs_code = coded_list pair_code
