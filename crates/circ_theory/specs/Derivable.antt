-- Equational derivations (equational entailment, with a rule for case lists that is this project's own).
use Rattle.std.specs.Prelude.{◌≡◌, ℕ, List, ◌∷◌}
use Rattle.std.specs.List.{Contains}
use Rattle.circ_term.specs.Tree.{Tree, Trees, App, none, more, sort_of}
use Rattle.circ_term.specs.Substitution.{Substitution, instance}
use Rattle.circ_theory.specs.Signature.{IsWellSorted, IsSubstitution}
use Rattle.circ_pairs.specs.declared.goals.Goal.{Goal}
use Rattle.circ_pairs.specs.Pair.{Pair}
use Rattle.circ_theory.specs.Theory.{Theory, CaseList, IsEquation, IsWellSortedPair}

-- the term u is the constant c of the case list
abbrev pub is_case : Tree → CaseList → ℕ → Pair
is_case u l c = record { left = u; right = App c l.sort none }

-- The second term follows from the first by the equations of the theory and the pairs H, whose variables are held fixed.
mutual
  pub data Derivable (th : Theory) : List Pair → Tree → Tree → Type 0 where
    by_same : {H : List Pair} (t : Tree) → IsWellSorted th.signature t → Derivable th H t t
    by_symmetry : {H : List Pair} {s t : Tree} → Derivable th H t s → Derivable th H s t
    by_chain : {H : List Pair} {s t : Tree} (m : Tree) → Derivable th H s m → Derivable th H m t → Derivable th H s t
    by_operator : {H : List Pair} {ss ts : Trees} (f k : ℕ) → IsWellSorted th.signature (App f k ss) → IsWellSorted th.signature (App f k ts)
        → DerivableAll th H ss ts → Derivable th H (App f k ss) (App f k ts)
    by_equation : {H : List Pair} (e : Goal) (σ : Substitution) → IsEquation th e → IsSubstitution th.signature σ
        → ((p : Pair) → Contains e.conds p → Derivable th H (instance σ p.left) (instance σ p.right))
        → Derivable th H (instance σ e.left) (instance σ e.right)
    by_premise : {H : List Pair} (p : Pair) → Contains H p → IsWellSortedPair th.signature p → Derivable th H p.left p.right
    by_cases : {H : List Pair} {s t : Tree} (u : Tree) (l : CaseList) → Contains th.cases l → IsWellSorted th.signature u → sort_of u ≡ l.sort
        → ((c : ℕ) → Contains l.constants c → Derivable th (is_case u l c ∷ H) s t) → Derivable th H s t

  pub data DerivableAll (th : Theory) : List Pair → Trees → Trees → Type 0 where
    no_args : {H : List Pair} → DerivableAll th H none none
    more_args : {H : List Pair} {s t : Tree} {ss ts : Trees} → Derivable th H s t → DerivableAll th H ss ts → DerivableAll th H (more s ss) (more t ts)

-- each well-sorted pair of H follows from K
abbrev pub Gives : Theory → List Pair → List Pair → Type 0
Gives th H K = (p : Pair) → Contains H p → IsWellSortedPair th.signature p → Derivable th K p.left p.right
