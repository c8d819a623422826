use Rattle.std.proofs.Common.{◌≡◌, ◌↔◌, ◌||◌, ◌+◌, ◌*◌, ℕ, drop, is_some}
use Rattle.circ_term.specs.Tree.{trees_of, depth_of, depths_of}
use Rattle.circ_term.specs.Substitution.{Substitution, KeepsSorts}
use Rattle.circ_term.specs.Subst.{found}
use Rattle.circ_match.specs.Matcher.{have_variable}
use Rattle.circ_match.specs.Extending.{MakeAll, Agrees}
use Rattle.circ_match.proofs.matching.+extend.Given as goal

abbrev pub decreases-extend : goal.decreases-extend
decreases-extend l = 2 * depth_of l.pattern.now

abbrev pub decreases-extend_all : goal.decreases-extend_all
decreases-extend_all l = 2 * depths_of (trees_of l.patterns.now) + 1

abbrev pub invariant-extend_all-loop-i : goal.invariant-extend_all-loop-i
invariant-extend_all-loop-i l = record {
  makes : (τ : Substitution) → KeepsSorts τ
      → ((Agrees τ l.subst × MakeAll (trees_of (drop l.i l.patterns)) (trees_of (drop l.i l.terms)) τ)
      ↔ (Agrees τ l.initial.subst × MakeAll (trees_of l.patterns) (trees_of l.terms) τ));
  binds : (n s : ℕ) → (is_some (found l.subst n s) || have_variable (trees_of (drop l.i l.patterns)) n s)
      ≡ (is_some (found l.initial.subst n s) || have_variable (trees_of l.patterns) n s);
}
