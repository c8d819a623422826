-- A goal with its variables numbered anew is well-sorted.
use Rattle.std.proofs.Common.{◌≡◌, ℕ, ◌+◌, List, [], ◌∷◌, Bool, true, false, if◌then◌else◌, refl}
use Rattle.circ_term.specs.Tree.{Var, sort_of}
use Rattle.circ_pairs.specs.declared.goals.Goal.{Goal}
use Rattle.circ_pairs.specs.Goal.{sides}
use Rattle.circ_pairs.specs.Variables.{Variable, is_variable, variables_of}
use Rattle.circ_pairs.specs.Renumbering.{renumbering, renumbered}
use Rattle.circ_theory.specs.Signature.{Signature, IsWellSorted, IsSubstitution}
use Rattle.circ_theory.specs.Theory.{IsWellSortedPair}
use Rattle.circ_theory.proofs.Instances.{pair_instance}
pub use Rattle.circ_pairs.proofs.Renumbering.{sorts_in, Placed, seen_number, new_number, all_seen_more, renumbered_in_order}

pub renumbering_sorted : (sig : Signature) (k : ℕ) (vs : List Variable) → IsSubstitution sig (renumbering k vs)
renumbering_sorted sig k [] n s l = (refl, l)
renumbering_sorted sig k (v ∷ vs) n s l = go (renumbering_sorted sig (k + 1) vs n s l) (is_variable (record { number = n; sort = s }) v)
  where
    go : (sort_of (renumbering (k + 1) vs n s) ≡ s) × IsWellSorted sig (renumbering (k + 1) vs n s) → (b : Bool)
        → (sort_of (if b then Var k s else renumbering (k + 1) vs n s) ≡ s) × IsWellSorted sig (if b then Var k s else renumbering (k + 1) vs n s)
    go rest true = (refl, l)
    go rest false = rest

pub renumbered_sorted : (sig : Signature) (g : Goal) → IsWellSortedPair sig (sides g) → IsWellSortedPair sig (sides (renumbered g))
renumbered_sorted sig g h = pair_instance sig (renumbering 0 (variables_of g)) (sides g) (renumbering_sorted sig 0 (variables_of g)) h
