use Rattle.std.proofs.Common.{◌≡◌, ◌+◌, ◌*◌, ℕ, drop}
use Rattle.std.specs.Option.{option_or}
use Rattle.circ_term.specs.Tree.{trees_of, depth_of, depths_of}
use Rattle.circ_term.specs.Subst.{found}
use Rattle.circ_rewrite.specs.Matching.{images}
use Rattle.circ_uses.specs.Valuations.{bounds_in}
use Rattle.circ_uses.proofs.patterns.+match_into.Given as goal

abbrev pub decreases-match_into : goal.decreases-match_into
decreases-match_into l = 2 * depth_of l.pattern.now

abbrev pub decreases-match_all : goal.decreases-match_all
decreases-match_all l = 2 * depths_of (trees_of l.patterns.now) + 1

abbrev pub invariant-match_all-loop-i : goal.invariant-match_all-loop-i
invariant-match_all-loop-i l = (n s : ℕ)
    → option_or (found (bounds_in l.values) n s) (images (trees_of (drop l.i l.patterns)) (trees_of (drop l.i l.terms)) n s)
    ≡ option_or (found (bounds_in l.initial.values) n s) (images (trees_of l.patterns) (trees_of l.terms) n s)
